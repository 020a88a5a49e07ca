-- Typing of rules, and the rules of their types.
use Rattle.std.proofs.Common.{◌≡◌, ◌≢◌, ◌↔◌, inl, inr, ℕ, ◌+◌, ◌⊎◌, [], Option, None, Some, refl, ap, sym, ◌∙◌, subst, le_refl, arith}
use Rattle.std.proofs.lemmas.Option.{none-some, same_Some}
use Rattle.isle_ast_rules.specs.Tree.{RuleDefinition}
use Rattle.isle_check_environment.specs.signatures.Environment.{EnvironmentNode}
use Rattle.isle_check_rules.specs.RuleTypes.{RuleTyping, type_rule}
use Rattle.isle_check_rules.specs.TypedRules.{TypedRuleNode}
use Rattle.isle_check_laws.specs.IsTypedRule.{IsTypedRule}
use Rattle.isle_check_laws.specs.Untold.{IsRuleTypedAs, faultless, root_term}
use Rattle.isle_check_laws.proofs.RuleCompleteness.{complete}
use Rattle.isle_check_laws.proofs.RuleSoundness.{sound}

module _ (env : EnvironmentNode) (r : RuleDefinition) where
  by_choice : (typed : TypedRuleNode) (n : Type 0) → (n × (◌≡◌ {A = Option TypedRuleNode} (Some typed) None)) ⊎ ((x : TypedRuleNode) × ((Some typed ≡ Some x) × IsTypedRule env r x)) → IsTypedRule env r typed
  by_choice typed n (inl lacks) = absurd (none-some typed (sym lacks.1))
  by_choice typed n (inr has) = subst (λ x. IsTypedRule env r x) (sym (same_Some typed has.0 has.1.0)) has.1.1

  typed_so : (typed : TypedRuleNode) → IsRuleTypedAs env r typed → IsTypedRule env r typed
  typed_so typed h = by_choice typed (root_term env r.pattern ≡ None) (sound env h.0 r (faultless typed) h.1 refl)

  types_so : (typed : TypedRuleNode) → IsTypedRule env r typed → IsRuleTypedAs env r typed
  types_so typed h = let c = complete env r typed h in (c.depth, c.at c.depth (le_refl c.depth))

  by_root : (made : RuleTyping) → root_term env r.pattern ≢ None →
      ((root_term env r.pattern ≡ None) × (made.typed ≡ None)) ⊎ ((x : TypedRuleNode) × ((made.typed ≡ Some x) × IsTypedRule env r x)) →
      (x : TypedRuleNode) × ((made.typed ≡ Some x) × IsTypedRule env r x)
  by_root made root (inl lacks) = absurd (root lacks.0)
  by_root made root (inr has) = has

pub rules_typed : (env : EnvironmentNode) (r : RuleDefinition) (typed : TypedRuleNode) → IsRuleTypedAs env r typed ↔ IsTypedRule env r typed
rules_typed env r typed = (typed_so env r typed, types_so env r typed)

pub known_typed : (env : EnvironmentNode) (depth : ℕ) (r : RuleDefinition) (made : RuleTyping) → type_rule depth env r ≡ Some made → made.faults ≡ [] →
    root_term env r.pattern ≢ None → (x : TypedRuleNode) × ((made.typed ≡ Some x) × IsTypedRule env r x)
known_typed env depth r made is none root = by_root env r made root (sound env depth r made is none)

pub one_typing : (env : EnvironmentNode) (r : RuleDefinition) (typed other : TypedRuleNode) → IsTypedRule env r typed → IsTypedRule env r other → typed ≡ other
one_typing env r typed other one two =
    let a = complete env r typed one in
    let b = complete env r other two in
    let same : faultless typed ≡ faultless other =
    same_Some (faultless typed) (faultless other) (sym (a.at (a.depth + b.depth) (omega arith)) ∙ b.at (a.depth + b.depth) (omega arith)) in
    same_Some typed other (ap (λ (x : RuleTyping). x.typed) same)
