use Rattle.std.proofs.Common.{◌≡◌, ◌++◌, drop, filter, map}
use Rattle.isle_program.specs.Allowances.{one_allows}
use Rattle.isle_program.proofs.allowances.allowed_by.Given as goal

abbrev pub invariant-loop-lint : goal.invariant-loop-lint
invariant-loop-lint l =
    l.allowed.items ++ filter (one_allows (map (λ comment. comment.now) l.comments)) (drop l.lint-index l.lints)
    ≡ filter (one_allows (map (λ comment. comment.now) l.comments)) l.lints
