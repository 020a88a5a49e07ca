-- What a term expands to, by whether its symbol means a macro.
use Rattle.std.proofs.Common.{◌≡◌, ◌==◌, ◌↔◌, ℕ, zero, suc, List, [], ◌∷◌, length, map, Bool, true, false, Option, None, Some, option_map, option_and_then, if◌then◌else◌, refl, ap, sym, subst, ◌∙◌, bytes_eq, eqb-true, eq-eqb}
use Rattle.isle_base_source.specs.declared.pos.Pos.{Pos}
use Rattle.isle_ast_names.specs.Tree.{Name}
use Rattle.isle_ast_rules.specs.Tree.{PatternNode, PatternList, term_pattern}
use Rattle.isle_ast_rules.specs.Templates.{plug}
use Rattle.isle_ast.specs.Tree.{Definition}
use Rattle.isle_expand_core.specs.Macros.{MacroNode, macros_in, meant}
use Rattle.isle_expand_core.specs.Expansion.{Expands, expand, expand_list, expand_use, expanded_by, filled, known, list_list}
use Rattle.isle_expand_core.specs.Cases.{TermExpands, UseExpands}
use Rattle.isle_expand_core.proofs.Options.{within_at}
use Rattle.isle_expand_core.proofs.Growth.{Begun, Grows, GrowsTo, deeper, deeper_comm, deeper_grows, expand_grows, expand_list_grows, macros_begun, meant_grows}
use Rattle.isle_expand_core.proofs.Free.{base_grows}

-- the value on the way of a step
pub then_some : {A B : Type 0} (f : A → Option B) (o : Option A) (y : B) → option_and_then f o ≡ Some y → (x : A) × (o ≡ Some x) × (f x ≡ Some y)
then_some f None y h = absurd (cc)
then_some f (Some x) y h = (x, refl, h)

pub if_some : {A : Type 0} (b : Bool) (o : Option A) (y : A) → (if b then o else None) ≡ Some y → (b ≡ true) × (o ≡ Some y)
if_some true o y h = (refl, h)
if_some false o y h = absurd (cc)

mapped_if : (b : Bool) (f : MacroNode → MacroNode) (m : MacroNode) (o : Option MacroNode) → (if b then Some (f m) else option_map f o) ≡ option_map f (if b then Some m else o)
mapped_if true f m o = refl
mapped_if false f m o = refl

-- what a symbol means at one depth more
pub meant_map : (text : List ℕ) (ks base : List MacroNode) → meant text (map (expanded_by ks) base) ≡ option_map (expanded_by ks) (meant text base)
meant_map text ks [] = refl
meant_map text ks (m ∷ base) =
    ap (λ rest. if bytes_eq m.term.text text then Some (expanded_by ks m) else rest) (meant_map text ks base)
    ∙ mapped_if (bytes_eq m.term.text text) (expanded_by ks) m (meant text base)

some_begun : (n m : MacroNode) → n.expansion ≡ None → Some n ≡ Some m → m.expansion ≡ None
some_begun n m b h = let same : n ≡ m = cc in subst (λ (k : MacroNode). k.expansion ≡ None) same b

begun_if : (b : Bool) (n m : MacroNode) (o : Option MacroNode) → n.expansion ≡ None → (if b then Some n else o) ≡ Some m → (o ≡ Some m → m.expansion ≡ None) → m.expansion ≡ None
begun_if true n m o b h k = some_begun n m b h
begun_if false n m o b h k = k h

pub meant_begun : (text : List ℕ) (base : List MacroNode) (m : MacroNode) → Begun base → meant text base ≡ Some m → m.expansion ≡ None
meant_begun text [] m b h = absurd (cc)
meant_begun text (n ∷ base) m b h = begun_if (bytes_eq n.term.text text) n m (meant text base) b.0 h (meant_begun text base m b.1)

module _ (ds : List Definition) (term : Name) (args : PatternList) (place : Pos) where
  -- a use at a depth
  use_at : (d : ℕ) (m : MacroNode) (q : PatternNode) → meant term.text (macros_in ds) ≡ Some m → expand (term_pattern term args place) (known d (macros_in ds)) ≡ Some q →
      UseExpands ds m args q
  use_at zero m q means h =
      let list = then_some (expand_use term place (meant term.text (macros_in ds))) (expand_list args (macros_in ds)) q h in
      let given : filled m (list_list list.0) ≡ Some q = sym (ap (λ o. expand_use term place o list.0) means) ∙ list.2 in
      let body = if_some (length (list_list list.0) == m.arity) (option_and_then (λ t. plug t (list_list list.0)) m.expansion) q given in
      let template = then_some (λ t. plug t (list_list list.0)) m.expansion q body.1 in
      let none : m.expansion ≡ None = meant_begun term.text (macros_in ds) m (macros_begun ds) means in
      let some : m.expansion ≡ Some template.0 = template.1 in
      absurd (cc)
  use_at (suc d) m q means h =
      let ks = known d (macros_in ds) in
      let list = then_some (expand_use term place (meant term.text (known (suc d) (macros_in ds)))) (expand_list args (known (suc d) (macros_in ds))) q h in
      let meaning : meant term.text (known (suc d) (macros_in ds)) ≡ Some (expanded_by ks m) = meant_map term.text ks (macros_in ds) ∙ ap (option_map (expanded_by ks)) means in
      let given : filled (expanded_by ks m) (list_list list.0) ≡ Some q = sym (ap (λ o. expand_use term place o list.0) meaning) ∙ list.2 in
      let body = if_some (length (list_list list.0) == m.arity) (option_and_then (λ t. plug t (list_list list.0)) (expand m.template ks)) q given in
      let template = then_some (λ t. plug t (list_list list.0)) (expand m.template ks) q body.1 in
      record {
        list = list.0;
        template = template.0;
        arguments = (suc d, list.1);
        count = eqb-true (length (list_list list.0)) m.arity body.0;
        body = (d, template.1);
        whole = template.2;
      }

  use_from : (m : MacroNode) (q : PatternNode) → meant term.text (macros_in ds) ≡ Some m → UseExpands ds m args q → Expands ds (term_pattern term args place) q
  use_from m q means u =
      let base = macros_in ds in
      let d = deeper u.arguments.0 u.body.0 in
      let ks = known d base in
      let template : expand m.template ks ≡ Some u.template =
      within_at (expand m.template (known u.body.0 base)) (expand m.template ks) u.template
      (expand_grows m.template (known u.body.0 base) ks (deeper_grows base u.arguments.0 u.body.0 (macros_begun ds))) u.body.1 in
      let first : Grows (known u.arguments.0 base) (known (suc (deeper u.body.0 u.arguments.0)) base) = deeper_grows base (suc u.body.0) u.arguments.0 (macros_begun ds) in
      let grows : Grows (known u.arguments.0 base) (known (suc d) base) = subst (λ n. Grows (known u.arguments.0 base) (known (suc n) base)) (deeper_comm u.body.0 u.arguments.0) first in
      let list : expand_list args (known (suc d) base) ≡ Some u.list =
      within_at (expand_list args (known u.arguments.0 base)) (expand_list args (known (suc d) base)) u.list
      (expand_list_grows args (known u.arguments.0 base) (known (suc d) base) grows) u.arguments.1 in
      let meaning : meant term.text (known (suc d) base) ≡ Some (expanded_by ks m) = meant_map term.text ks base ∙ ap (option_map (expanded_by ks)) means in (
        suc d,
        ap (option_and_then (expand_use term place (meant term.text (known (suc d) base)))) list
            ∙ ap (λ o. expand_use term place o u.list) meaning
            ∙ ap (λ b. if b then option_and_then (λ t. plug t (list_list u.list)) (expand m.template ks) else None) (eq-eqb (length (list_list u.list)) m.arity u.count)
            ∙ ap (option_and_then (λ t. plug t (list_list u.list))) template
            ∙ u.whole,
      )

  pub use_expands : (m : MacroNode) (q : PatternNode) → meant term.text (macros_in ds) ≡ Some m → Expands ds (term_pattern term args place) q ↔ UseExpands ds m args q
  use_expands m q means = ((λ h. use_at h.0 m q means h.1), use_from m q means)

  -- no meaning at any depth
  no_meaning : (o p : Option MacroNode) → GrowsTo o p → o ≡ None → p ≡ None
  no_meaning None None g h = refl
  no_meaning None (Some n) g h = absurd g
  no_meaning (Some m) p g h = absurd (cc)

  stays_none : (d : ℕ) → meant term.text (macros_in ds) ≡ None → meant term.text (known d (macros_in ds)) ≡ None
  stays_none d none =
      no_meaning (meant term.text (macros_in ds)) (meant term.text (known d (macros_in ds)))
      (meant_grows term.text (macros_in ds) (known d (macros_in ds)) (base_grows (macros_in ds) d (macros_begun ds))) none

  term_to : (q : PatternNode) → meant term.text (macros_in ds) ≡ None → Expands ds (term_pattern term args place) q → TermExpands ds term args place q
  term_to q none h =
      let ms = known h.0 (macros_in ds) in
      let list = then_some (expand_use term place (meant term.text ms)) (expand_list args ms) q h.1 in
      let whole : Some (term_pattern term list.0 place) ≡ Some q = sym (ap (λ o. expand_use term place o list.0) (stays_none h.0 none)) ∙ list.2 in
      record { list = list.0; arguments = (h.0, list.1); whole = cc }

  term_from : (q : PatternNode) → meant term.text (macros_in ds) ≡ None → TermExpands ds term args place q → Expands ds (term_pattern term args place) q
  term_from q none t =
      let ms = known t.arguments.0 (macros_in ds) in (
        t.arguments.0,
        ap (option_and_then (expand_use term place (meant term.text ms))) t.arguments.1
            ∙ ap (λ o. expand_use term place o t.list) (stays_none t.arguments.0 none) ∙ ap (λ p. Some p) (sym t.whole),
      )

  pub term_expands : (q : PatternNode) → meant term.text (macros_in ds) ≡ None → Expands ds (term_pattern term args place) q ↔ TermExpands ds term args place q
  term_expands q none = (term_to q none, term_from q none)
