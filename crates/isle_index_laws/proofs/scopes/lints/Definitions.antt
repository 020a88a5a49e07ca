-- Definitions that are rules, and the others.
use Rattle.std.proofs.Common.{◌≡◌, ◌⊎◌, inl, inr, List, [], None, refl}
use Rattle.isle_ast_names.specs.Tree.{Name}
use Rattle.isle_ast_rules.specs.Tree.{RuleDefinition}
use Rattle.isle_ast.specs.Tree.{Definition, type_def, rule, extractor, decl, attr, spec, spec_macro, model, state, form, instantiation, external, converter}
use Rattle.isle_lint_core.specs.Findings.{of_rule}
use Rattle.isle_lint_core.specs.RuleNames.{rule_name}

-- no lint of rules finds a name in the definition, and it has no name of a rule
pub record IsOther (d : Definition) : Type 0 where
  pub found : (f : RuleDefinition → List Name) → of_rule f d ≡ []
  pub unnamed : rule_name d ≡ None

pub rule_or_other : (d : Definition) → ((r : RuleDefinition) × (d ≡ rule r)) ⊎ IsOther d
rule_or_other (rule r) = inl (r, refl)
rule_or_other (type_def t) = inr (record { found = λ f. refl; unnamed = refl })
rule_or_other (extractor e) = inr (record { found = λ f. refl; unnamed = refl })
rule_or_other (decl d) = inr (record { found = λ f. refl; unnamed = refl })
rule_or_other (attr a) = inr (record { found = λ f. refl; unnamed = refl })
rule_or_other (spec s) = inr (record { found = λ f. refl; unnamed = refl })
rule_or_other (spec_macro m) = inr (record { found = λ f. refl; unnamed = refl })
rule_or_other (model m) = inr (record { found = λ f. refl; unnamed = refl })
rule_or_other (state s) = inr (record { found = λ f. refl; unnamed = refl })
rule_or_other (form g) = inr (record { found = λ f. refl; unnamed = refl })
rule_or_other (instantiation t) = inr (record { found = λ f. refl; unnamed = refl })
rule_or_other (external e) = inr (record { found = λ f. refl; unnamed = refl })
rule_or_other (converter c) = inr (record { found = λ f. refl; unnamed = refl })
