-- What each lint finds in definitions.
use Rattle.std.specs.Prelude.{◌≡◌, List, ◌∷◌, ◌++◌, Some, Contains, true, false}
use Rattle.isle_ast_names.specs.Tree.{Name}
use Rattle.isle_ast_rules.specs.Tree.{RuleDefinition}
use Rattle.isle_ast.specs.Tree.{Definition, rule}
use Rattle.isle_lint_core.specs.Finding.{Found}
use Rattle.isle_lint_core.specs.Names.{is_private}
use Rattle.isle_lint_core.specs.declared.lint.Lint.{Lint}
use Rattle.isle_lint_core.specs.declared.lint.Lint.TheVariants as lints
use Rattle.isle_index_laws.specs.scopes.lints.Lets.{IsShadowing, IsUnusedLet}
use Rattle.isle_index_laws.specs.scopes.lints.Patterns.{IsIdle}

-- one of the rules has this
abbrev pub OfRule : List Definition → (RuleDefinition → Type 0) → Type 0
OfRule ds P = (r : RuleDefinition) × Contains ds (rule r) × P r

-- a rule has this name, and a rule before it has one of the same text
abbrev pub IsRepeated : List Definition → (name : Name) → Type 0
IsRepeated ds name =
    (before : List Definition) × (r : RuleDefinition) × (behind : List Definition) × (ds ≡ before ++ rule r ∷ behind) × (r.name ≡ Some name)
    × (earlier : RuleDefinition) × (first : Name) × Contains before (rule earlier) × (earlier.name ≡ Some first) × (first.text ≡ name.text)

-- the lint looks for this name
abbrev pub IsSought : Lint → List Definition → (name : Name) → Type 0
IsSought lints.UnusedLet ds name = OfRule ds (λ r. IsUnusedLet r name)
IsSought lints.DuplicateRuleName ds name = IsRepeated ds name
IsSought lints.UnusedBinding ds name = OfRule ds (λ r. IsIdle (record { alone = false; bindings = true }) r name)
IsSought lints.UnusedPatternVariable ds name = OfRule ds (λ r. IsIdle (record { alone = true; bindings = false }) r name)
IsSought lints.ShadowedVariable ds name = OfRule ds (λ r. IsShadowing r name)

-- the name of a finding, with its position
abbrev pub name_found : Found → Name
name_found f = record { text = f.name; pos = f.pos }

-- the finding is at a name that its lint looks for, and that does not begin with `_`
abbrev pub IsFinding : List Definition → Found → Type 0
IsFinding ds f = (is_private f.name ≡ false) × IsSought f.lint ds (name_found f)
