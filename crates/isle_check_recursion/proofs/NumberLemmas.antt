-- Declared terms, as they are numbered.
use Rattle.std.proofs.Common.{◌≡◌, ◌<◌, ◌≤◌, ℕ, zero, suc, ◌+◌, List, [], ◌∷◌, ◌++◌, Some, length, get_or, slice_get, option_map, option_to_list, take, ap, sym, ◌∙◌, arith}
use Rattle.std.proofs.lemmas.Option.{slice_get-map, slice_get_past}
use Rattle.std.proofs.lemmas.List.{map-append, length-take-le, length-map, take_more}
use Rattle.std.specs.Borrow.{Bor}
use Rattle.isle_ast.specs.Tree.{Declaration}
use Rattle.isle_ast.specs.TreeView.{declaration_of}
use Rattle.isle_ast.specs.declared.ast.Decl.{Decl}
use Rattle.isle_check_environment.specs.Views.{decls_at}
use Rattle.isle_check_environment.specs.signatures.Entries.{entry}
use Rattle.isle_check_recursion.specs.Recursion.{name_of_number, numbered}

numbered-last : (n : ℕ) (ds : List Declaration) (d : Declaration) (m : ℕ) → m ≡ n + length ds → numbered n (ds ++ d ∷ []) ≡ numbered n ds ++ entry d.term.text m ∷ []
numbered-last n [] d m is = let e : n ≡ m = omega (arith, is) in ap (λ k. entry d.term.text k ∷ []) e
numbered-last n (e ∷ ds) d m is = ap (λ es. entry e.term.text n ∷ es) (numbered-last (n + 1) ds d m (omega (arith, is)))

-- one more declared term
pub numbered-more : (xs : List (Bor Decl)) (i : ℕ) (x : Bor Decl) → i < length xs → x ≡ get_or xs i x →
    numbered 0 (decls_at (take (i + 1) xs)) ≡ numbered 0 (decls_at (take i xs)) ++ entry (declaration_of x.now).term.text i ∷ []
numbered-more xs i x within is =
    let count : length (decls_at (take i xs)) ≡ i = length-map (take i xs) (λ d. declaration_of d.now) ∙ length-take-le i xs (omega (arith, within)) in
    ap (λ ys. numbered 0 (decls_at ys)) (take_more xs i x within ∙ ap (λ y. take i xs ++ y ∷ []) (sym is))
    ∙ ap (numbered 0) (map-append (λ d. declaration_of d.now) (take i xs) (x ∷ []))
    ∙ numbered-last 0 (decls_at (take i xs)) (declaration_of x.now) i (omega (arith, count))

at-within : {X : Type 0} (xs : List X) (i : ℕ) (x : X) → i < length xs → x ≡ get_or xs i x → slice_get xs i ≡ Some x
at-within [] i x within is = absurd (omega (arith, within))
at-within (y ∷ ys) zero x within is = ap (λ z. Some z) (sym is)
at-within (y ∷ ys) (suc i) x within is = at-within ys i x (omega (arith, within)) is

-- the name of a number, and of one that there isn't
pub name-within : (xs : List (Bor Decl)) (i : ℕ) (x : Bor Decl) → i < length xs → x ≡ get_or xs i x → name_of_number (decls_at xs) i ≡ (declaration_of x.now).term ∷ []
name-within xs i x within is =
    ap (λ o. option_to_list (option_map (λ d. d.term) o))
    (slice_get-map (λ d. declaration_of d.now) xs i ∙ ap (option_map (λ d. declaration_of d.now)) (at-within xs i x within is))

pub name-beyond : (xs : List (Bor Decl)) (i : ℕ) → length xs ≤ i → name_of_number (decls_at xs) i ≡ []
name-beyond xs i past =
    ap (λ o. option_to_list (option_map (λ d. d.term) o))
    (slice_get-map (λ d. declaration_of d.now) xs i ∙ ap (option_map (λ d. declaration_of d.now)) (slice_get_past xs i past))
