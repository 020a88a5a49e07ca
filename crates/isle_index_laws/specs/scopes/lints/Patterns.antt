-- The variables of a rule's patterns that are written once and never read.
use Rattle.std.specs.Prelude.{◌≡◌, ℕ, List, ◌++◌, None, Contains, count_by}
use Rattle.std.specs.List.{flat_map}
use Rattle.std.specs.Str.{bytes_eq}
use Rattle.isle_ast_names.specs.Tree.{Name}
use Rattle.isle_ast_rules.specs.Tree.{Expression, RuleDefinition}
use Rattle.isle_index_laws.specs.scopes.Reads.{Reads, meant, rule_variables}
use Rattle.isle_lint_core.specs.Variables.{variables}
use Rattle.isle_lint_core.specs.declared.patterns.Wanted.{Wanted}
use Rattle.isle_index_laws.specs.scopes.lints.Rules.{HasExpression}

-- the wanted variables of a rule's patterns
abbrev pub wanted_variables : Wanted → RuleDefinition → List Name
wanted_variables w r = variables w r.pattern ++ flat_map (λ c. variables w c.pattern) r.iflets

-- how often a text is the variable of a pattern in the rule
abbrev pub occurrences : RuleDefinition → (text : List ℕ) → ℕ
occurrences r text = count_by (λ n. bytes_eq n.text text) (rule_variables r)

-- an expression that has this variable of a pattern in scope reads it: no `let` in between binds another one of its text
abbrev pub IsReadInRule : RuleDefinition → (var : Name) → Type 0
IsReadInRule r var =
    (x : Expression) × (scope : List Name) × HasExpression r x scope × Contains scope var
    × (read : Name) × (inner : List Name) × Reads scope x read (inner ++ scope) × (read.text ≡ var.text) × (meant inner var.text ≡ None)

-- the variable is wanted, occurs once in the patterns of the rule, and nothing reads it
abbrev pub IsIdle : Wanted → RuleDefinition → (var : Name) → Type 0
IsIdle w r var = Contains (wanted_variables w r) var × (occurrences r var.text ≡ 1) × (IsReadInRule r var → ⊥)
