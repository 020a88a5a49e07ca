-- Definitions that have an expansion have no misuse.
use Rattle.std.proofs.Common.{◌≡◌, ◌==◌, ◌&&◌, ℕ, ◌+◌, zero, suc, List, [], ◌∷◌, ◌++◌, length, map, Bool, true, false, Option, None, Some, option_map, option_and_then, slice_get, refl, ap, sym, subst, ◌∙◌, eqb-true, arith}
use Rattle.std.specs.List.{AllByRecursion, flat_map, list_all}
use Rattle.isle_base_source.specs.declared.pos.Pos.{Pos}
use Rattle.isle_ast_names.specs.Tree.{Name}
use Rattle.isle_ast_rules.specs.Tree.{PatternNode, var_pattern, bind_pattern, bool_pattern, int_pattern, constant_pattern, term_pattern, wildcard_pattern, and_pattern, macro_arg_pattern, PatternList, no_pattern, more_pattern, Condition, RuleDefinition}
use Rattle.isle_ast_rules.specs.Templates.{plug}
use Rattle.isle_ast.specs.Tree.{Definition, rule, extractor}
use Rattle.isle_expand_core.specs.Macros.{MacroNode, macros_in, meant, place_of, template_of}
use Rattle.isle_expand_core.specs.Expansion.{expand, expand_list, expand_use, expanded_by, known, list_list}
use Rattle.isle_expand_core.specs.Definitions.{AreExpanded, both, expand_condition, expand_conditions, expand_definition, expand_definitions, expand_root, expand_rule, with_patterns}
use Rattle.isle_expand_core.specs.Mentions.{use_mention, TermUse, mentions, uses, list_uses, root_uses, rule_uses}
use Rattle.isle_expand_core.specs.Misuses.{HaveNoMisuse, IsFine, IsFineUse, IsFirstMisuse, MisuseNode, ends, fits}
use Rattle.isle_expand_core.proofs.Growth.{Begun, macros_begun}
use Rattle.isle_expand_core.proofs.Cases.{if_some, meant_begun, meant_map, then_some}
use Rattle.isle_expand_core.proofs.Bounds.{join_some, map_some}
use Rattle.isle_expand_core.proofs.Total.{ready_parts}
use Rattle.isle_expand_core.proofs.Searching.{fine_or_wrong}

pub all_both : {A : Type 0} (P : A → Type 0) (xs ys : List A) → AllByRecursion P xs → AllByRecursion P ys → AllByRecursion P (xs ++ ys)
all_both P [] ys h k = k
all_both P (x ∷ xs) ys h k = (h.0, all_both P xs ys h.1 k)

-- the macro that is meant, if any, has so many parameters and an expansion
abbrev IsMade : Option MacroNode → ℕ → Type 0
IsMade None given = Unit {0}
IsMade (Some m) given = (given ≡ m.arity) × (t : PatternNode) × (m.expansion ≡ Some t)

abbrev AreMade : List MacroNode → List TermUse → Type 0
AreMade ms us = AllByRecursion (λ u. IsMade (meant u.term.text ms) u.given) us

use_of_made : (term : Name) (place : Pos) (o : Option MacroNode) (made : PatternList) (n : ℕ) (q : PatternNode) → length (list_list made) ≡ n → expand_use term place o made ≡ Some q → IsMade o n
use_of_made term place None made n q count h = tt
use_of_made term place (Some m) made n q count h =
    let parts = if_some (length (list_list made) == m.arity) (option_and_then (λ t. plug t (list_list made)) m.expansion) q h in
    let template = then_some (λ t. plug t (list_list made)) m.expansion q parts.1 in
    (sym count ∙ eqb-true (length (list_list made)) m.arity parts.0, template.0, template.1)

mutual
  uses_made : (ms : List MacroNode) (p q : PatternNode) → expand p ms ≡ Some q → AreMade ms (uses p)
  uses_made ms (var_pattern var place) q h = tt
  uses_made ms (bind_pattern var subpat place) q h =
      let sub = map_some (λ p. bind_pattern var p place) (expand subpat ms) q h in uses_made ms subpat sub.0 sub.1
  uses_made ms (bool_pattern val place) q h = tt
  uses_made ms (int_pattern val place) q h = tt
  uses_made ms (constant_pattern val place) q h = tt
  uses_made ms (term_pattern term args place) q h =
      let list = then_some (expand_use term place (meant term.text ms)) (expand_list args ms) q h in
      let rest = list_uses_made ms args list.0 list.1 in
      (use_of_made term place (meant term.text ms) list.0 (length (list_list args)) q rest.0 list.2, rest.1)
  uses_made ms (wildcard_pattern place) q h = tt
  uses_made ms (and_pattern subpats place) q h =
      let list = map_some (λ ps. and_pattern ps place) (expand_list subpats ms) q h in (list_uses_made ms subpats list.0 list.1).1
  uses_made ms (macro_arg_pattern index place) q h = tt

  list_uses_made : (ms : List MacroNode) (ps r : PatternList) → expand_list ps ms ≡ Some r → (length (list_list r) ≡ length (list_list ps)) × AreMade ms (list_uses ps)
  list_uses_made ms no_pattern r h = let same : no_pattern ≡ r = cc in (ap (λ ps. length (list_list ps)) (sym same), tt)
  list_uses_made ms (more_pattern p ps) r h =
      let parts = join_some (expand p ms) (expand_list ps ms) r h in
      let rest = list_uses_made ms ps parts.1 parts.3 in (
        ap (λ qs. length (list_list qs)) (sym parts.4) ∙ ap suc rest.0,
        all_both (λ u. IsMade (meant u.term.text ms) u.given) (uses p) (list_uses ps) (uses_made ms p parts.0 parts.2) rest.1,
      )

both_some : {A : Type 0} (o os : Option (List A)) (zs : List A) → both o os ≡ Some zs → (xs : List A) × (ys : List A) × (o ≡ Some xs) × (os ≡ Some ys)
both_some None os zs h = absurd (cc)
both_some (Some xs) None zs h = absurd (cc)
both_some (Some xs) (Some ys) zs h = (xs, ys, refl, refl)

rest_some : {A : Type 0} (o os : Option (List A)) (zs : List A) → both o os ≡ Some zs → (ys : List A) × (os ≡ Some ys)
rest_some o os zs h = let parts = both_some o os zs h in (parts.1, parts.3)

-- what has an expansion at a depth comes to an end
module _ (base : List MacroNode) (begun : Begun base) where
  none_begun : (u : TermUse) (o : Option MacroNode) → meant u.term.text base ≡ o → IsMade (meant u.term.text base) u.given → fits (meant u.term.text base) (λ p. false) ≡ true
  none_begun u None is h = ap (λ o. fits o (λ p. false)) is
  none_begun u (Some m) is h =
      let made : IsMade (Some m) u.given = subst (λ o. IsMade o u.given) is h in
      let none : m.expansion ≡ None = meant_begun u.term.text base m begun is in
      let some : m.expansion ≡ Some made.1 = made.2 in
      absurd (cc)

  fits_known : (d : ℕ) (u : TermUse) (o : Option MacroNode) → meant u.term.text base ≡ o → IsMade (meant u.term.text (known (suc d) base)) u.given →
      ((p q : PatternNode) → expand p (known d base) ≡ Some q → ends (suc d) base p ≡ true) → fits (meant u.term.text base) (ends (suc d) base) ≡ true
  fits_known d u None is h k = ap (λ o. fits o (ends (suc d) base)) is
  fits_known d u (Some m) is h k =
      let meaning : meant u.term.text (known (suc d) base) ≡ Some (expanded_by (known d base) m) =
      meant_map u.term.text (known d base) base ∙ ap (option_map (expanded_by (known d base))) is in
      let made : IsMade (Some (expanded_by (known d base) m)) u.given = subst (λ o. IsMade o u.given) meaning h in
      ap (λ o. fits o (ends (suc d) base)) is ∙ k m.template made.1 made.2

  all_by : {A : Type 0} (P : A → Type 0) (test : A → Bool) (xs : List A) → ((x : A) → P x → test x ≡ true) → AllByRecursion P xs → list_all test xs ≡ true
  all_by P test [] k h = refl
  all_by P test (x ∷ xs) k h = ap (λ b. b && list_all test xs) (k x h.0) ∙ all_by P test xs k h.1

  pub known_ends : (d : ℕ) (p q : PatternNode) → expand p (known d base) ≡ Some q → ends (suc d) base p ≡ true
  known_ends zero p q h =
      all_by (λ u. IsMade (meant u.term.text base) u.given) (λ u. fits (meant u.term.text base) (ends 0 base)) (uses p)
      (λ u made. none_begun u (meant u.term.text base) refl made) (uses_made base p q h)
  known_ends (suc d) p q h =
      all_by (λ u. IsMade (meant u.term.text (known (suc d) base)) u.given) (λ u. fits (meant u.term.text base) (ends (suc d) base)) (uses p)
      (λ u made. fits_known d u (meant u.term.text base) refl made (known_ends d)) (uses_made (known (suc d) base) p q h)

  -- so nothing is wrong with what it uses
  fine_known : (d : ℕ) (u : TermUse) (o : Option MacroNode) → meant u.term.text base ≡ o → IsMade (meant u.term.text (known d base)) u.given → IsFineUse base (meant u.term.text base) u.given
  fine_known d u None is h = subst (λ o. IsFineUse base o u.given) (sym is) tt
  fine_known zero u (Some m) is h =
      let made : IsMade (Some m) u.given = subst (λ o. IsMade o u.given) is h in
      let none : m.expansion ≡ None = meant_begun u.term.text base m begun is in
      let some : m.expansion ≡ Some made.1 = made.2 in
      absurd (cc)
  fine_known (suc d) u (Some m) is h =
      let meaning : meant u.term.text (known (suc d) base) ≡ Some (expanded_by (known d base) m) =
      meant_map u.term.text (known d base) base ∙ ap (option_map (expanded_by (known d base))) is in
      let made : IsMade (Some (expanded_by (known d base) m)) u.given = subst (λ o. IsMade o u.given) meaning h in
      subst (λ o. IsFineUse base o u.given) (sym is) (made.0, (suc d, known_ends d m.template made.1 made.2))

  abbrev AreFine : List TermUse → Type 0
  AreFine us = AllByRecursion (IsFine base) (map use_mention us)

  fine_uses : (d : ℕ) (us : List TermUse) → AreMade (known d base) us → AreFine us
  fine_uses d [] h = tt
  fine_uses d (u ∷ us) h = (fine_known d u (meant u.term.text base) refl h.0, fine_uses d us h.1)

  conditions_made : (ms : List MacroNode) (cs made : List Condition) → expand_conditions cs ms ≡ Some made → AreMade ms (flat_map (λ c. uses c.pattern) cs)
  conditions_made ms [] made h = tt
  conditions_made ms (c ∷ cs) made h =
      let parts = both_some (expand_condition c ms) (expand_conditions cs ms) made h in
      let one = map_some (λ p. record { pattern = p; expr = c.expr; pos = c.pos } ∷ []) (expand c.pattern ms) parts.0 parts.2 in
      all_both (λ u. IsMade (meant u.term.text ms) u.given) (uses c.pattern) (flat_map (λ e. uses e.pattern) cs) (uses_made ms c.pattern one.0 one.1) (conditions_made ms cs parts.1 parts.3)

  root_made : (ms : List MacroNode) (p q : PatternNode) → expand_root p ms ≡ Some q → AreMade ms (root_uses p)
  root_made ms (term_pattern term args place) q h =
      let list = map_some (λ made. term_pattern term made place) (expand_list args ms) q h in (list_uses_made ms args list.0 list.1).1
  root_made ms _ q h = tt

  rule_made : (ms : List MacroNode) (r s : RuleDefinition) → expand_rule r ms ≡ Some s → AreMade ms (rule_uses r)
  rule_made ms r s h =
      let root = then_some (λ p. option_map (with_patterns r p) (expand_conditions r.iflets ms)) (expand_root r.pattern ms) s h in
      let conditions = map_some (with_patterns r root.0) (expand_conditions r.iflets ms) s root.2 in
      all_both (λ u. IsMade (meant u.term.text ms) u.given) (root_uses r.pattern) (flat_map (λ c. uses c.pattern) r.iflets)
      (root_made ms r.pattern root.0 root.1) (conditions_made ms r.iflets conditions.0 conditions.1)

  -- the extractors from a place on are given once
  abbrev OnceFrom : ℕ → List MacroNode → Type 0
  OnceFrom place ms = (i : ℕ) (m : MacroNode) → slice_get ms i ≡ Some m → place_of m.term.text base ≡ Some (place + i)

  once_behind : (place : ℕ) (m : MacroNode) (ms : List MacroNode) → OnceFrom place (m ∷ ms) → OnceFrom ((place + 1)) ms
  once_behind place m ms once i n there =
      once (suc i) n there ∙ ap (λ k. Some k) (let same : place + suc i ≡ (place + 1) + i = omega arith in same)

  once_here : (place : ℕ) (m : MacroNode) (ms : List MacroNode) → OnceFrom place (m ∷ ms) → place_of m.term.text base ≡ Some place
  once_here place m ms once = once 0 m refl ∙ ap (λ k. Some k) (let same : place + 0 ≡ place = omega arith in same)

  all_fine : (all : List Definition) (d place : ℕ) (ds es : List Definition) → OnceFrom place (macros_in ds) → expand_definitions all ds (known d base) ≡ Some es →
      AllByRecursion (IsFine base) (mentions place ds)
  all_fine all d place [] es once h = tt
  all_fine all d place (rule r ∷ ds) es once h =
      let parts = both_some (expand_definition all (rule r) (known d base)) (expand_definitions all ds (known d base)) es h in
      let one = map_some (λ s. rule s ∷ []) (expand_rule r (known d base)) parts.0 parts.2 in
      all_both (IsFine base) (map use_mention (rule_uses r)) (mentions place ds) (fine_uses d (rule_uses r) (rule_made (known d base) r one.0 one.1))
      (all_fine all d place ds parts.1 once parts.3)
  all_fine all d place (extractor e ∷ ds) es once h =
      let parts = both_some (expand_definition all (extractor e) (known d base)) (expand_definitions all ds (known d base)) es h in
      let one = map_some (λ _. []) (expand (template_of e) (known d base)) parts.0 parts.2 in
      let m : MacroNode = record { term = e.term; arity = length e.args; template = template_of e; expansion = None } in (
        once_here place m (macros_in ds) once,
        all_both (IsFine base) (map use_mention (uses (template_of e))) (mentions ((place + 1)) ds)
            (fine_uses d (uses (template_of e)) (uses_made (known d base) (template_of e) one.0 one.1))
            (all_fine all d ((place + 1)) ds parts.1 (once_behind place m (macros_in ds) once) parts.3),
      )
  all_fine all d place (x ∷ ds) es once h =
      let rest = rest_some (expand_definition all x (known d base)) (expand_definitions all ds (known d base)) es h in all_fine all d place ds rest.0 once rest.1

-- definitions that have an expansion have no misuse
pub expanded_fine : (ds es : List Definition) → AreExpanded ds es → HaveNoMisuse ds
expanded_fine ds es a =
    all_fine (macros_in ds) (macros_begun ds) ds a.depth 0 ds es
    (λ i m there. a.once i m there ∙ ap (λ k. Some k) (let same : i ≡ 0 + i = omega arith in same)) a.made

-- so those with a misuse have none
pub misused_lacks : (ds : List Definition) (n : MisuseNode) → IsFirstMisuse ds n → (es : List Definition) → AreExpanded ds es → ⊥
misused_lacks ds n f es a =
    let fine = subst (AllByRecursion (IsFine (macros_in ds))) f.is (expanded_fine ds es a) in
    let parts = ready_parts (IsFine (macros_in ds)) f.before (f.mention ∷ f.behind) fine in
    fine_or_wrong (macros_in ds) f.mention n parts.1.0 f.wrong
