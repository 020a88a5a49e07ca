use Rattle.std.proofs.Common.{[]}
use Rattle.std.proofs.lemmas.List.{append-nil}
use Rattle.isle_program.specs.Allowances.{token}
use Rattle.isle_program.proofs.allowances.comments_behind.Goals as goal

pub returns : goal.returns
returns c = rw (append-nil _) at (c.loop-end.invariant.so_far [] (token (rw c.in_default.is at c.passed.ensures)))
