-- Variables that no rule of a program reads.
use Rattle.std.specs.Prelude.{◌≡◌, List, true, Some, Contains}
use Rattle.isle_ast_names.specs.Tree.{Name}
use Rattle.isle_ast_rules.specs.Tree.{Expression}
use Rattle.isle_ast.specs.Tree.{Definition}
use Rattle.isle_resolve.specs.Events.{events}
use Rattle.isle_index.specs.Renamed.{are_apart, places_of}
use Rattle.isle_resolve.specs.Scopes.{seen}
use Rattle.isle_index_laws.specs.scopes.Reads.{IsReadAs}
use Rattle.isle_lint_core.specs.declared.patterns.Wanted.{Wanted}
use Rattle.isle_index_laws.specs.scopes.lints.Finds.{OfRule}
use Rattle.isle_index_laws.specs.scopes.lints.Lets.{RuleBinds}
use Rattle.isle_index_laws.specs.scopes.lints.Patterns.{occurrences, wanted_variables}

-- no two names of the program share a position
abbrev pub HasNamesApart : List Definition → Type 0
HasNamesApart ds = are_apart (places_of (seen (events ds))) ≡ true

-- no rule reads a variable that means this one
abbrev pub IsUnread : List Definition → (var : Name) → Type 0
IsUnread ds var = (read : Name) → IsReadAs ds read (Some var) → ⊥

-- a `let` in a rule binds the variable
abbrev pub IsOfLet : List Definition → (var : Name) → Type 0
IsOfLet ds var = OfRule ds (λ r. (around : List Name) × (behind : Expression) × RuleBinds r var around behind)

-- the variable is a wanted one of a rule, and occurs once in its patterns
abbrev pub IsWrittenOnce : Wanted → List Definition → (var : Name) → Type 0
IsWrittenOnce w ds var = OfRule ds (λ r. Contains (wanted_variables w r) var × (occurrences r var.text ≡ 1))
