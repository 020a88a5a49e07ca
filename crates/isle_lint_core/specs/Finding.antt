-- A finding as a pure value: a lint, a name and its position.
use Rattle.std.specs.Prelude.{ℕ, List, ◌++◌, map, filter, not, codes}
use Rattle.std.specs.Cmp.Lexicographic.{slice_cmp}
use Rattle.std.specs.Ordering.{nat_cmp, on, then_cmp}
use Rattle.std.specs.declared.cmp.Ordering.{Ordering}
use Rattle.isle_base_source.specs.PositionOrder.{position_cmp}
use Rattle.isle_base_source.specs.declared.pos.Pos.{Pos}
use Rattle.isle_ast_names.specs.Tree.{Name}
use Rattle.isle_lint_core.specs.Lint.{lint_number, message}
use Rattle.isle_lint_core.specs.Names.{is_private}
use Rattle.isle_lint_core.specs.declared.lint.Lint.{Lint}
use Rattle.isle_lint_core.specs.declared.finding.Finding.{Finding}

pub record Found : Type 0 where
  pub pos : Pos
  pub lint : Lint
  pub name : List ℕ

-- the finding of the code
abbrev pub finding_of : Finding → Found
finding_of f = record { pos = f.pos; lint = f.lint; name = f.name.now }

-- the message of a finding, with its name
abbrev pub message_of : Found → List ℕ
message_of f = message f.lint ++ codes " '" ++ f.name ++ codes "'"

-- the finding of a lint at a name
abbrev pub found : Lint → Name → Found
found lint n = record { pos = n.pos; lint = lint; name = n.text }

-- the findings of a lint. A name that begins with `_` is never reported
abbrev pub all_found : Lint → List Name → List Found
all_found lint names = map (found lint) (filter (λ n. not (is_private n.text)) names)

-- the order of findings: by position, then by lint, then by name
abbrev pub finding_cmp : Found → Found → Ordering
finding_cmp =
    then_cmp (on (λ f. f.pos) position_cmp)
    (then_cmp (on (λ f. lint_number f.lint) nat_cmp) (on (λ f. f.name) (slice_cmp nat_cmp)))
