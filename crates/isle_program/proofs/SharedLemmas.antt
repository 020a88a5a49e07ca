-- Maps of declared terms, as they grow, and what is shared, one declaration on.
use Rattle.std.proofs.Common.{◌≡◌, ℕ, ◌+◌, ◌<◌, ◌≤◌, List, ◌∷◌, Bool, true, false, cond, Option, None, Some, length, get_or, drop, refl, sym, ap, ◌∙◌}
use Rattle.std.proofs.lemmas.List.{at_drop_more, drop_all}
use Rattle.std.proofs.lemmas.Map.Text.{hash_map_updates_str}
use Rattle.std.specs.Borrow.{Bor}
use Rattle.std.specs.HashMap.{HashMap, UpdatesBy}
use Rattle.std.specs.Option.{is_some, option_map, option_or}
use Rattle.std.specs.Str.{bytes_eq}
use Rattle.isle_ast.specs.TreeView.{declaration_of}
use Rattle.isle_ast.specs.declared.ast.Decl.{Decl}
use Rattle.isle_ast_names.specs.Tree.{Name}
use Rattle.isle_base_source.specs.Source.{Source}
use Rattle.isle_base_source.specs.declared.pos.Pos.{Pos}
use Rattle.isle_program.specs.SeveralPrograms.{declared, first_shared, place_of, shared_with}
use Rattle.isle_program.specs.SharedView.{Knows, shared_of, terms_at}
use Rattle.isle_program.specs.declared.several_programs.SharedTerm.{SharedTerm}

place-cond : (b : Bool) (term : Name) (rest : Option Name) → cond b (Some term.pos) (option_map (λ t. t.pos) rest) ≡ option_map (λ t. t.pos) (cond b (Some term) rest)
place-cond true term rest = refl
place-cond false term rest = refl

-- a map that has one more place knows one more term
pub Knows-put : {S : Type 0} (m n : HashMap (Bor (List ℕ)) Pos S) (key : Bor (List ℕ)) (term : Name) (terms : List Name) → key.now ≡ term.text →
    UpdatesBy (λ x y. bytes_eq x.now y.now) (λ k. bytes_eq key.now k.now) m n (Some term.pos) →
    Knows m terms → Knows n (term ∷ terms)
Knows-put m n key term terms is updates knows text =
    hash_map_updates_str key.now m n (Some term.pos) updates text
    ∙ ap (λ other. cond (bytes_eq key.now text) (Some term.pos) other) (knows text)
    ∙ ap (λ bs. cond (bytes_eq bs text) (Some term.pos) (place_of terms text)) is
    ∙ place-cond (bytes_eq term.text text) term _

or-some : {X Y : Type 0} (f : X → Y) (found : Option X) (rest : Option Y) → is_some found ≡ true → option_or (option_map f found) rest ≡ option_map f found
or-some f None rest is = cc
or-some f (Some x) rest is = refl

or-none : {X Y : Type 0} (f : X → Y) (found : Option X) (rest : Option Y) → is_some found ≡ false → option_or (option_map f found) rest ≡ rest
or-none f None rest is = refl
or-none f (Some x) rest is = cc

module _ (sources : List Source) (known : List Name) (decls : List (Bor Decl)) (i : ℕ) (x : Bor Decl) (found : Option SharedTerm)
    (within : i < length decls) (is : x ≡ get_or decls i x)
    (exact : option_map shared_of found ≡ shared_with sources (declared (declaration_of x.now)) (place_of known (declared (declaration_of x.now)).text)) where
  -- what this declaration shares, or else what those behind it do
  here : option_or (option_map shared_of found) (first_shared sources (declared (declaration_of x.now) ∷ known) (terms_at (drop (i + 1) decls)))
      ≡ first_shared sources known (terms_at (drop i decls))
  here =
      ap (λ first. option_or first (first_shared sources (declared (declaration_of x.now) ∷ known) (terms_at (drop (i + 1) decls)))) exact
      ∙ ap (λ y. first_shared sources known (declared (declaration_of y.now) ∷ terms_at (drop (i + 1) decls))) is
      ∙ sym (at_drop_more (λ ds. first_shared sources known (terms_at ds)) decls i x within)

  pub shared-found : is_some found ≡ true → option_map shared_of found ≡ first_shared sources known (terms_at (drop i decls))
  shared-found some = sym (or-some shared_of found _ some) ∙ here

  pub shared-later : is_some found ≡ false → first_shared sources (declared (declaration_of x.now) ∷ known) (terms_at (drop (i + 1) decls)) ≡ first_shared sources known (terms_at (drop i decls))
  shared-later none = sym (or-none shared_of found _ none) ∙ here

-- nothing is shared behind the last declaration
pub shared-end : (sources : List Source) (known : List Name) (decls : List (Bor Decl)) (i : ℕ) → length decls ≤ i → first_shared sources known (terms_at (drop i decls)) ≡ None
shared-end sources known decls i past = ap (λ ds. first_shared sources known (terms_at ds)) (drop_all i decls past)
