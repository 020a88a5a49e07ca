-- The lints: their names, defaults and messages.
use Rattle.std.specs.Prelude.{ℕ, List, [], ◌∷◌, Bool, true, false, codes}
use Rattle.isle_lint_core.specs.declared.lint.Lint.{Lint}
use Rattle.isle_lint_core.specs.declared.lint.Lint.TheVariants as lints

abbrev pub all_lints : List Lint
all_lints = lints.UnusedLet ∷ lints.DuplicateRuleName ∷ lints.UnusedBinding ∷ lints.UnusedPatternVariable ∷ lints.ShadowedVariable ∷ []

-- the place of a lint among the lints
abbrev pub lint_number : Lint → ℕ
lint_number lints.UnusedLet = 0
lint_number lints.DuplicateRuleName = 1
lint_number lints.UnusedBinding = 2
lint_number lints.UnusedPatternVariable = 3
lint_number lints.ShadowedVariable = 4

abbrev pub name : Lint → List ℕ
name lints.UnusedLet = codes "unused-let"
name lints.DuplicateRuleName = codes "duplicate-rule-name"
name lints.UnusedBinding = codes "unused-binding"
name lints.UnusedPatternVariable = codes "unused-pattern-variable"
name lints.ShadowedVariable = codes "shadowed-variable"

-- whether a lint is on by default
abbrev pub is_default : Lint → Bool
is_default lints.UnusedLet = true
is_default lints.DuplicateRuleName = true
is_default lints.UnusedBinding = false
is_default lints.UnusedPatternVariable = false
is_default lints.ShadowedVariable = false

-- the message of a finding, which the name follows
abbrev pub message : Lint → List ℕ
message lints.UnusedLet = codes "unused variable"
message lints.DuplicateRuleName = codes "duplicate rule name"
message lints.UnusedBinding = codes "unused binding"
message lints.UnusedPatternVariable = codes "unused pattern variable"
message lints.ShadowedVariable = codes "shadowed variable"
