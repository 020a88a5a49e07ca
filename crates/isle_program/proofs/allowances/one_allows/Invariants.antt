use Rattle.std.proofs.Common.{◌≡◌, drop, map}
use Rattle.isle_program.specs.Allowances.{one_allows}
use Rattle.isle_program.proofs.allowances.one_allows.Given as goal

abbrev pub invariant-loop-comment : goal.invariant-loop-comment
invariant-loop-comment l =
    one_allows (map (λ comment. comment.now) (drop l.comment-index l.comments)) l.lint ≡ one_allows (map (λ comment. comment.now) l.comments) l.lint
