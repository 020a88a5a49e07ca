-- A pattern of whose uses nothing is wrong, and whose macros have an expansion, has an expansion.
use Rattle.std.proofs.Common.{◌≡◌, ℕ, suc, List, [], ◌∷◌, ◌++◌, length, Option, None, Some, option_map, option_and_then, if◌then◌else◌, refl, ap, sym, subst, ◌∙◌, eq-eqb}
use Rattle.std.specs.List.{AllByRecursion, flat_map}
use Rattle.isle_base_source.specs.declared.pos.Pos.{Pos}
use Rattle.isle_ast_names.specs.Tree.{Name}
use Rattle.isle_ast_rules.specs.Tree.{PatternNode, var_pattern, bind_pattern, bool_pattern, int_pattern, constant_pattern, term_pattern, wildcard_pattern, and_pattern, macro_arg_pattern, PatternList, no_pattern, more_pattern, Condition, RuleDefinition}
use Rattle.isle_ast_rules.specs.Templates.{join, plug}
use Rattle.isle_ast.specs.Tree.{Definition, rule, extractor, decl}
use Rattle.isle_expand_core.specs.Macros.{MacroNode, meant, template_of}
use Rattle.isle_expand_core.specs.Expansion.{expand, expand_list, expand_use, list_list}
use Rattle.isle_expand_core.specs.Definitions.{both, expand_condition, expand_conditions, expand_definition, expand_definitions, expand_root, expand_rule, is_only_extracted, with_patterns}
use Rattle.isle_expand_core.specs.Mentions.{TermUse, uses, list_uses, root_uses, rule_uses}
use Rattle.isle_expand_core.proofs.Bounds.{IsBounded, IsListBounded, bounded_list, bounded_more, bounded_parts, plug_bounded, plugged}

-- the macro that is meant, if any, has so many parameters and an expansion with arguments for them alone
pub record IsExpanded (m : MacroNode) : Type 0 where
  pub expansion : PatternNode
  pub is : m.expansion ≡ Some expansion
  pub bounded : IsBounded m.arity expansion

abbrev pub IsReady : Option MacroNode → ℕ → Type 0
IsReady None given = Unit {0}
IsReady (Some m) given = (given ≡ m.arity) × IsExpanded m

abbrev pub AreReady : List MacroNode → List TermUse → Type 0
AreReady ms us = AllByRecursion (λ u. IsReady (meant u.term.text ms) u.given) us

pub ready_parts : {A : Type 0} (P : A → Type 0) (xs ys : List A) → AllByRecursion P (xs ++ ys) → AllByRecursion P xs × AllByRecursion P ys
ready_parts P [] ys h = (tt, h)
ready_parts P (x ∷ xs) ys h = let rest = ready_parts P xs ys h.1 in ((h.0, rest.0), rest.1)

-- an expansion with no greater indices
pub record Expansion (bound : ℕ) (p : PatternNode) (o : Option PatternNode) : Type 0 where
  pub made : PatternNode
  pub is : o ≡ Some made
  pub bounded : IsBounded bound p → IsBounded bound made

pub record ListExpansion (bound : ℕ) (ps : PatternList) (o : Option PatternList) : Type 0 where
  pub made : PatternList
  pub is : o ≡ Some made
  pub bounded : IsListBounded bound ps → IsListBounded bound made
  pub count : length (list_list made) ≡ length (list_list ps)

use_made : (bound : ℕ) (term : Name) (place : Pos) (args made : PatternList) (o : Option MacroNode) → (IsListBounded bound args → IsListBounded bound made) → length (list_list made) ≡ length (list_list args) →
    IsReady o (length (list_list args)) → Expansion bound (term_pattern term args place) (expand_use term place o made)
use_made bound term place args made None k count h = record { made = term_pattern term made place; is = refl; bounded = k }
use_made bound term place args made (Some m) k count h =
    let right : length (list_list made) ≡ m.arity = count ∙ h.0 in
    let whole = plugged h.1.expansion (list_list made) (subst (λ n. IsBounded n h.1.expansion) (sym right) h.1.bounded) in
    record {
      made = whole.0;
      is = ap (λ b. if b then option_and_then (λ t. plug t (list_list made)) m.expansion else None) (eq-eqb (length (list_list made)) m.arity right)
          ∙ ap (option_and_then (λ t. plug t (list_list made))) h.1.is ∙ whole.1;
      bounded = λ b. plug_bounded bound h.1.expansion (list_list made) whole.0 (bounded_list bound made (k b)) whole.1;
    }

mutual
  pub expansion_of : (bound : ℕ) (ms : List MacroNode) (p : PatternNode) → AreReady ms (uses p) → Expansion bound p (expand p ms)
  expansion_of bound ms (var_pattern var place) h = record { made = var_pattern var place; is = refl; bounded = λ b. b }
  expansion_of bound ms (bind_pattern var subpat place) h =
      let sub = expansion_of bound ms subpat h in
      record { made = bind_pattern var sub.made place; is = ap (option_map (λ p. bind_pattern var p place)) sub.is; bounded = sub.bounded }
  expansion_of bound ms (bool_pattern val place) h = record { made = bool_pattern val place; is = refl; bounded = λ b. b }
  expansion_of bound ms (int_pattern val place) h = record { made = int_pattern val place; is = refl; bounded = λ b. b }
  expansion_of bound ms (constant_pattern val place) h = record { made = constant_pattern val place; is = refl; bounded = λ b. b }
  expansion_of bound ms (term_pattern term args place) h =
      let list = list_expansion_of bound ms args h.1 in
      let whole = use_made bound term place args list.made (meant term.text ms) list.bounded list.count h.0 in
      record { made = whole.made; is = ap (option_and_then (expand_use term place (meant term.text ms))) list.is ∙ whole.is; bounded = whole.bounded }
  expansion_of bound ms (wildcard_pattern place) h = record { made = wildcard_pattern place; is = refl; bounded = λ b. b }
  expansion_of bound ms (and_pattern subpats place) h =
      let list = list_expansion_of bound ms subpats h in
      record { made = and_pattern list.made place; is = ap (option_map (λ ps. and_pattern ps place)) list.is; bounded = list.bounded }
  expansion_of bound ms (macro_arg_pattern index place) h = record { made = macro_arg_pattern index place; is = refl; bounded = λ b. b }

  pub list_expansion_of : (bound : ℕ) (ms : List MacroNode) (ps : PatternList) → AreReady ms (list_uses ps) → ListExpansion bound ps (expand_list ps ms)
  list_expansion_of bound ms no_pattern h = record { made = no_pattern; is = refl; bounded = λ b. b; count = refl }
  list_expansion_of bound ms (more_pattern p ps) h =
      let parts = ready_parts (λ u. IsReady (meant u.term.text ms) u.given) (uses p) (list_uses ps) h in
      let one = expansion_of bound ms p parts.0 in
      let rest = list_expansion_of bound ms ps parts.1 in
      record {
        made = more_pattern one.made rest.made;
        is = λ i. join (one.is i) (rest.is i);
        bounded = λ b. let bs = bounded_parts bound p ps b in bounded_more bound one.made rest.made (one.bounded bs.0) (rest.bounded bs.1);
        count = ap suc rest.count;
      }

-- so it is for rules and definitions
abbrev pub There : {A : Type 0} → Option A → Type 0
There {A} o = (x : A) × (o ≡ Some x)

both_there : {A : Type 0} (o os : Option (List A)) → There o → There os → There (both o os)
both_there o os h k = (h.0 ++ k.0, λ i. both (h.1 i) (k.1 i))

-- the uses in a definition
abbrev pub definition_uses : Definition → List TermUse
definition_uses (rule r) = rule_uses r
definition_uses (extractor e) = uses (template_of e)
definition_uses _ = []

module _ (ms : List MacroNode) where
  conditions_there : (cs : List Condition) → AreReady ms (flat_map (λ c. uses c.pattern) cs) → There (expand_conditions cs ms)
  conditions_there [] h = ([], refl)
  conditions_there (c ∷ cs) h =
      let parts = ready_parts (λ u. IsReady (meant u.term.text ms) u.given) (uses c.pattern) (flat_map (λ d. uses d.pattern) cs) h in
      let one = expansion_of 0 ms c.pattern parts.0 in
      both_there (expand_condition c ms) (expand_conditions cs ms)
      (record { pattern = one.made; expr = c.expr; pos = c.pos } ∷ [], ap (option_map (λ p. record { pattern = p; expr = c.expr; pos = c.pos } ∷ [])) one.is)
      (conditions_there cs parts.1)

  root_there : (p : PatternNode) → AreReady ms (root_uses p) → There (expand_root p ms)
  root_there (term_pattern term args place) h =
      let list = list_expansion_of 0 ms args h in (term_pattern term list.made place, ap (option_map (λ made. term_pattern term made place)) list.is)
  root_there (var_pattern var place) h = (var_pattern var place, refl)
  root_there (bind_pattern var subpat place) h = (bind_pattern var subpat place, refl)
  root_there (bool_pattern val place) h = (bool_pattern val place, refl)
  root_there (int_pattern val place) h = (int_pattern val place, refl)
  root_there (constant_pattern val place) h = (constant_pattern val place, refl)
  root_there (wildcard_pattern place) h = (wildcard_pattern place, refl)
  root_there (and_pattern subpats place) h = (and_pattern subpats place, refl)
  root_there (macro_arg_pattern index place) h = (macro_arg_pattern index place, refl)

  rule_there : (r : RuleDefinition) → AreReady ms (rule_uses r) → There (expand_rule r ms)
  rule_there r h =
      let parts = ready_parts (λ u. IsReady (meant u.term.text ms) u.given) (root_uses r.pattern) (flat_map (λ c. uses c.pattern) r.iflets) h in
      let root = root_there r.pattern parts.0 in
      let conditions = conditions_there r.iflets parts.1 in (
        with_patterns r root.0 conditions.0,
        ap (option_and_then (λ p. option_map (with_patterns r p) (expand_conditions r.iflets ms))) root.1
            ∙ ap (option_map (with_patterns r root.0)) conditions.1,
      )

  definition_there : (all : List Definition) (d : Definition) → AreReady ms (definition_uses d) → There (expand_definition all d ms)
  definition_there all (rule r) h = let made = rule_there r h in (rule made.0 ∷ [], ap (option_map (λ s. rule s ∷ [])) made.1)
  definition_there all (extractor e) h = let made = expansion_of 0 ms (template_of e) h in ([], ap (option_map (λ _. [])) made.is)
  definition_there all (decl d) h = (if is_only_extracted all ms d then [] else decl d ∷ [], refl)
  definition_there all d h = (d ∷ [], refl)

  pub definitions_there : (all ds : List Definition) → AllByRecursion (λ d. AreReady ms (definition_uses d)) ds → There (expand_definitions all ds ms)
  definitions_there all [] h = ([], refl)
  definitions_there all (d ∷ ds) h = both_there (expand_definition all d ms) (expand_definitions all ds ms) (definition_there all d h.0) (definitions_there all ds h.1)
