-- The typed rules of rules: each comes from a rule at its position. And the rule that is too deep.
use Rattle.std.proofs.Common.{◌≡◌, ℕ, List, [], ◌∷◌, ◌++◌, Option, None, Some, IfSome, option_map, Result, Ok, Err, Contains, refl, ap, sym, ◌∙◌, subst}
use Rattle.std.proofs.lemmas.List.Elements.{Contains-append_cases}
use Rattle.isle_base_source.specs.declared.pos.Pos.{Pos}
use Rattle.isle_ast_rules.specs.Tree.{PatternList, PatternNode, RuleDefinition, and_pattern, bind_pattern, bool_pattern, constant_pattern, int_pattern, macro_arg_pattern, term_pattern, var_pattern, wildcard_pattern}
use Rattle.isle_ast.specs.Tree.{Definition}
use Rattle.isle_check_environment.specs.Parts.{rules_in}
use Rattle.isle_check_environment.specs.signatures.Environment.{EnvironmentNode}
use Rattle.isle_check_environment.specs.signatures.Signatures.{TermNode}
use Rattle.isle_check_typing.specs.Faults.{FaultNode}
use Rattle.isle_check_typing.specs.Progress.{ProgressNode}
use Rattle.isle_check_typing.specs.Typed.{TypedNode}
use Rattle.isle_check_typing.specs.Typings.{Typing, Typings, and_then, with_typed}
use Rattle.isle_check_typing.specs.expressions.ExpressionTypes.{expression_at}
use Rattle.isle_check_typing.specs.expressions.TypedExpressions.{TypedExpressionNode}
use Rattle.isle_check_rules.specs.RuleFaults.{rule_faults, with_faults}
use Rattle.isle_check_rules.specs.RuleTypes.{RuleTyping, RulesTyping, behind, condition_flags, of_sides, right_by, root_by, rule_by, rule_flags, type_conditions, type_rule, type_rules, type_sides, with_typing}
use Rattle.isle_check_rules.specs.TypedRules.{TypedCondition, TypedRuleNode}
use Rattle.isle_check_laws.proofs.Lists.{either, here, later, no_element, only}

-- what comes of any two steps has this, if what comes of the second one has
behind_any : {X Y : Type 0} (Q : Y → Type 0) (o : Option X) (f : X → Option Y) → ((x : X) → IfSome (f x) Q) → IfSome (and_then o f) Q
behind_any Q None f h = tt
behind_any Q (Some x) f h = h x

mapped_any : {X Y : Type 0} (Q : Y → Type 0) (o : Option X) (f : X → Y) → ((x : X) → Q (f x)) → IfSome (option_map f o) Q
mapped_any Q None f h = tt
mapped_any Q (Some x) f h = h x

mapped_some : {X Y : Type 0} (P : X → Type 0) (Q : Y → Type 0) (o : Option X) (f : X → Y) → IfSome o P → ((x : X) → P x → Q (f x)) → IfSome (option_map f o) Q
mapped_some P Q None f h g = tt
mapped_some P Q (Some x) f h g = g x h

-- if there is a typed rule, it is at this position
abbrev IsAt : Pos → Option TypedRuleNode → Type 0
IsAt place o = IfSome o (λ typed. typed.pos ≡ place)

abbrev AreSidesAt : Pos → Typing TypedRuleNode → Type 0
AreSidesAt place made = IsAt place made.typed

abbrev IsRuleAt : Pos → RuleTyping → Type 0
IsRuleAt place made = IsAt place made.typed

right_at : (t : TermNode) (term : List ℕ) (args : List TypedNode) (iflets : List TypedCondition) (r : RuleDefinition) (o : Option TypedExpressionNode) (s : ProgressNode) →
    AreSidesAt r.pos (right_by t term args iflets r o s)
right_at t term args iflets r None s = tt
right_at t term args iflets r (Some e) s = refl

module _ (depth : ℕ) (env : EnvironmentNode) where
  sides_at : (t : TermNode) (term : List ℕ) (args : PatternList) (r : RuleDefinition) (s : ProgressNode) →
      IfSome (type_sides depth env t term args r s) (AreSidesAt r.pos)
  sides_at t term args r s =
      behind_any (AreSidesAt r.pos) _ _
      (λ (a : Typings TypedNode). behind_any (AreSidesAt r.pos) (type_conditions depth env (condition_flags t) r.iflets [] a.after) _
      (λ (c : Typings TypedCondition). mapped_any (AreSidesAt r.pos) (expression_at depth env (rule_flags t) r.expr (Some t.ret) c.after) _
      (λ (e : Typing TypedExpressionNode). right_at t term a.typed c.typed r e.typed e.after)))

  rule_at : (o : Option TermNode) (term : List ℕ) (args : PatternList) (r : RuleDefinition) → IfSome (rule_by depth env o term args r) (IsRuleAt r.pos)
  rule_at None term args r = tt
  rule_at (Some t) term args r =
      mapped_some (AreSidesAt r.pos) (IsRuleAt r.pos) (type_sides depth env t term args r _) of_sides (sides_at t term args r _) (λ made h. h)

  root_at : (p : PatternNode) (r : RuleDefinition) → IfSome (root_by depth env p r) (IsRuleAt r.pos)
  root_at (term_pattern name args place) r = rule_at (env.terms name.text) name.text args r
  root_at (var_pattern _ _) r = tt
  root_at (bind_pattern _ _ _) r = tt
  root_at (bool_pattern _ _) r = tt
  root_at (int_pattern _ _) r = tt
  root_at (constant_pattern _ _) r = tt
  root_at (wildcard_pattern _) r = tt
  root_at (and_pattern _ _) r = tt
  root_at (macro_arg_pattern _ _) r = tt

  -- each of these typed rules is at the position of one of those rules
  abbrev pub AreAt : List RuleDefinition → List TypedRuleNode → Type 0
  AreAt rs typed = (t : TypedRuleNode) → Contains typed t → (r : RuleDefinition) × Contains rs r × (t.pos ≡ r.pos)

  more_at : (all : List RuleDefinition) (r : RuleDefinition) → Contains all r → (before : List TypedRuleNode) (o : Option TypedRuleNode) → AreAt all before → IsAt r.pos o →
      AreAt all (with_typed before o)
  more_at all r in_all before None are is t in_t = are t in_t
  more_at all r in_all before (Some typed) are is t in_t =
      either (are t) (λ new. (r, in_all, ap (λ (x : TypedRuleNode). x.pos) (sym (only typed t new)) ∙ is))
      (Contains-append_cases before (typed ∷ []) t in_t)

  same_made : (x y : RulesTyping) → ◌≡◌ {A = Result RulesTyping Pos} (Ok x) (Ok y) → x ≡ y
  same_made x y e = cc

  same_place : (x y : Pos) → ◌≡◌ {A = Result RulesTyping Pos} (Err x) (Err y) → x ≡ y
  same_place x y e = cc

  follows : (place : Pos) (f : RuleTyping → Result RulesTyping Pos) (made : RulesTyping) (P : Type 0) (o : Option RuleTyping) → IfSome o (IsRuleAt place) →
      ((typing : RuleTyping) → IsRuleAt place typing → f typing ≡ Ok made → P) → behind place o f ≡ Ok made → P
  follows place f made P None is next h = cc
  follows place f made P (Some typing) is next h = next typing is h

  rules_at : (all rs : List RuleDefinition) → ((r : RuleDefinition) → Contains rs r → Contains all r) → (before made : RulesTyping) → AreAt all before.typed →
      type_rules depth env rs before ≡ Ok made → AreAt all made.typed
  rules_at all [] inside before made are h = subst (λ (m : RulesTyping). AreAt all m.typed) (same_made before made h) are
  rules_at all (r ∷ rs) inside before made are h =
      follows r.pos (λ typing. type_rules depth env rs (with_typing before typing)) made (AreAt all made.typed) (type_rule depth env r) (root_at r.pattern r)
      (λ typing is next. rules_at all rs (λ q in_rs. inside q (later r rs q in_rs)) (with_typing before typing) made
      (more_at all r (inside r (here r rs)) before.typed typing.typed are is) next)
      h

  -- a rule at this position has no typing
  abbrev pub IsDeepAt : List RuleDefinition → Pos → Type 0
  IsDeepAt rs place = (r : RuleDefinition) × Contains rs r × (type_rule depth env r ≡ None) × (r.pos ≡ place)

  stops : (r : RuleDefinition) (rs : List RuleDefinition) (f : RuleTyping → Result RulesTyping Pos) (place : Pos) (o : Option RuleTyping) → type_rule depth env r ≡ o →
      ((typing : RuleTyping) → f typing ≡ Err place → IsDeepAt (r ∷ rs) place) → behind r.pos o f ≡ Err place → IsDeepAt (r ∷ rs) place
  stops r rs f place None is next h = (r, here r rs, is, same_place r.pos place h)
  stops r rs f place (Some typing) is next h = next typing h

  deep_at : (rs : List RuleDefinition) (before : RulesTyping) (place : Pos) → type_rules depth env rs before ≡ Err place → IsDeepAt rs place
  deep_at [] before place h = cc
  deep_at (r ∷ rs) before place h =
      stops r rs (λ typing. type_rules depth env rs (with_typing before typing)) place (type_rule depth env r) refl
      (λ typing next. let at = deep_at rs (with_typing before typing) place next in (at.0, later r rs at.0 at.1, at.2, at.3))
      h

  -- the same with the other errors of rules
  all_at : (rs : List RuleDefinition) (fs : List FaultNode) (made : RulesTyping) (o : Result RulesTyping Pos) →
      type_rules depth env rs (record { typed = []; faults = [] }) ≡ o → with_faults o fs ≡ Ok made → AreAt rs made.typed
  all_at rs fs made (Err place) is h = cc
  all_at rs fs made (Ok typed) is h =
      let whole : RulesTyping = record { typed = typed.typed; faults = typed.faults ++ fs } in
      subst (λ (m : RulesTyping). AreAt rs m.typed) (same_made whole made h)
      (rules_at rs rs (λ r in_rs. in_rs) (record { typed = []; faults = [] }) typed (λ t none. absurd (no_element t none)) is)

  any_deep : (rs : List RuleDefinition) (fs : List FaultNode) (place : Pos) (o : Result RulesTyping Pos) →
      type_rules depth env rs (record { typed = []; faults = [] }) ≡ o → with_faults o fs ≡ Err place → IsDeepAt rs place
  any_deep rs fs place (Ok typed) is h = cc
  any_deep rs fs place (Err first) is h =
      subst (IsDeepAt rs) (same_place first place h) (deep_at rs (record { typed = []; faults = [] }) first is)

pub typed_rules_at : (depth : ℕ) (env : EnvironmentNode) (ds : List Definition) (made : RulesTyping) → rule_faults depth env ds ≡ Ok made →
    AreAt depth env (rules_in ds) made.typed
typed_rules_at depth env ds made h = all_at depth env (rules_in ds) _ made (type_rules depth env (rules_in ds) (record { typed = []; faults = [] })) refl h

pub deep_rule_at : (depth : ℕ) (env : EnvironmentNode) (ds : List Definition) (place : Pos) → rule_faults depth env ds ≡ Err place →
    IsDeepAt depth env (rules_in ds) place
deep_rule_at depth env ds place h = any_deep depth env (rules_in ds) _ place (type_rules depth env (rules_in ds) (record { typed = []; faults = [] })) refl h
