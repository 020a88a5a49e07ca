-- What each lint finds in definitions.
use Rattle.std.specs.Prelude.{List, [], true, false}
use Rattle.std.specs.List.{flat_map}
use Rattle.isle_ast_names.specs.Tree.{Name}
use Rattle.isle_ast_rules.specs.Tree.{RuleDefinition}
use Rattle.isle_ast.specs.Tree.{Definition, rule}
use Rattle.isle_lint_core.specs.declared.lint.Lint.{Lint}
use Rattle.isle_lint_core.specs.declared.lint.Lint.TheVariants as lints
use Rattle.isle_lint_core.specs.declared.rules.Asked.{Asked}
use Rattle.isle_lint_core.specs.declared.rules.Asked.TheVariants as asked
use Rattle.isle_lint_core.specs.Finding.{Found, all_found}
use Rattle.isle_lint_core.specs.RuleNames.{rule_names}
use Rattle.isle_lint_core.specs.Names.{repeated}
use Rattle.isle_lint_core.specs.Shadowed.{shadowed_variables}
use Rattle.isle_lint_core.specs.Unused.{rule_idle, unused_lets}

-- the names that a rule has by `f`; other definitions have none
abbrev pub of_rule : (RuleDefinition → List Name) → Definition → List Name
of_rule f (rule r) = f r
of_rule f _ = []

abbrev pub of_rules : (RuleDefinition → List Name) → List Definition → List Name
of_rules f ds = flat_map (of_rule f) ds

-- the variables of a rule that are asked for
abbrev pub asked_of : Asked → RuleDefinition → List Name
asked_of asked.UnusedLets r = unused_lets r
asked_of asked.UnusedBindings r = rule_idle (record { alone = false; bindings = true }) r
asked_of asked.UnusedPatternVariables r = rule_idle (record { alone = true; bindings = false }) r
asked_of asked.ShadowedVariables r = shadowed_variables r

-- the names that a lint finds
abbrev pub names_found : Lint → List Definition → List Name
names_found lints.UnusedLet ds = of_rules unused_lets ds
names_found lints.DuplicateRuleName ds = repeated [] (rule_names ds)
names_found lints.UnusedBinding ds = of_rules (rule_idle (record { alone = false; bindings = true })) ds
names_found lints.UnusedPatternVariable ds = of_rules (rule_idle (record { alone = true; bindings = false })) ds
names_found lints.ShadowedVariable ds = of_rules shadowed_variables ds

-- the findings of these lints
abbrev pub findings_in : List Lint → List Definition → List Found
findings_in ls ds = flat_map (λ l. all_found l (names_found l ds)) ls
