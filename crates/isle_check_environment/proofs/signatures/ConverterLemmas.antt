-- The terms of converters, from the last one on.
use Rattle.std.proofs.Common.{◌≡◌, ◌<◌, ◌≤◌, ◌-◌, ◌+◌, ℕ, List, ◌∷◌, cond, ◌&&◌, Some, Global, drop, get_or, length, map, option_map, string_bytes, sym, ap, ◌∙◌, arith}
use Rattle.std.specs.Borrow.{Bor}
use Rattle.std.specs.List.{find}
use Rattle.std.specs.Str.{bytes_eq}
use Rattle.std.specs.declared.string.String.{String}
use Rattle.std.proofs.lemmas.List.{at_drop_more}
use Rattle.isle_ast.specs.Tree.{Conversion}
use Rattle.isle_check_environment.specs.ByText.{ByText}
use Rattle.isle_check_environment.specs.signatures.ByTexts.{get_by_texts}
use Rattle.isle_check_environment.specs.signatures.Environment.{converting}
use Rattle.isle_check_environment.specs.signatures.Views.{Converts}
use Rattle.isle_check_environment.proofs.signatures.EntryLemmas.{map-cond}

-- one element before the last ones
pub one-before : {X V Y : Type 0} (view : X → V) (f : List V → Y) (xs : List X) (i : ℕ) (x : X) → 0 < i → i ≤ length xs → x ≡ get_or xs (i - 1) x →
    f (view x ∷ map view (drop i xs)) ≡ f (map view (drop (i - 1) xs))
one-before view f xs i x some within is =
    let inside : i - 1 < length xs = omega (arith, some, within) in
    let after : i - 1 + 1 ≡ i = omega (arith, some) in
    ap (λ j. f (view x ∷ map view (drop j xs))) (sym after)
    ∙ ap (λ y. f (view y ∷ map view (drop (i - 1 + 1) xs))) is
    ∙ sym (at_drop_more (λ ys. f (map view ys)) xs (i - 1) x inside)

-- a map that has the term of one more converter before the others
pub Converts-put : (old new : ByText (ByText (Bor (String Global)))) (inner outer : List ℕ) (term : Bor (String Global))
    (later : List Conversion) (c : Conversion) →
    inner ≡ c.inner_ty.text → outer ≡ c.outer_ty.text → string_bytes term.now ≡ c.term.text →
    ((one two : List ℕ) → get_by_texts new one two ≡ cond (bytes_eq inner one && bytes_eq outer two) (Some term) (get_by_texts old one two)) →
    Converts old later → Converts new (c ∷ later)
Converts-put old new inner outer term later c from to its updates converts one two =
    ap (option_map (λ t. string_bytes t.now)) (updates one two)
    ∙ map-cond (λ t. string_bytes t.now) (bytes_eq inner one && bytes_eq outer two) term (get_by_texts old one two)
    ∙ ap (λ x. cond (bytes_eq inner one && bytes_eq outer two) (Some (string_bytes term.now)) x) (converts one two)
    ∙ ap (λ t. cond (bytes_eq t one && bytes_eq outer two) (Some (string_bytes term.now)) (converting later one two)) from
    ∙ ap (λ t. cond (bytes_eq c.inner_ty.text one && bytes_eq t two) (Some (string_bytes term.now)) (converting later one two)) to
    ∙ ap (λ t. cond (bytes_eq c.inner_ty.text one && bytes_eq c.outer_ty.text two) (Some t) (converting later one two)) its
    ∙ sym (map-cond (λ d. d.term.text) (bytes_eq c.inner_ty.text one && bytes_eq c.outer_ty.text two) c
    (find (λ d. bytes_eq d.inner_ty.text one && bytes_eq d.outer_ty.text two) later))
