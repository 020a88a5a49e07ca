use Rattle.std.proofs.Common.{arith, sym}
use Rattle.isle_program.proofs.CommentLemmas.{pass_blank, pass_line, pass_opened}
use Rattle.isle_program.proofs.allowances.passed.Goals as goal

pub returns-then-is_blank : goal.returns-then-is_blank
returns-then-is_blank c = pass_blank c.args.text.now c.args.at (omega arith) (sym c.if-is_blank.ensures)

pub returns-then-text-at-eq59 : goal.returns-then-text-at-eq59
returns-then-text-at-eq59 c = pass_line c.args.text.now c.args.at c.line_comment_end.result (omega arith) c.if-text-at-eq59.true c.line_comment_end.ensures

pub returns-then-opens_at : goal.returns-then-opens_at
returns-then-opens_at c = pass_opened c.args.text.now c.args.at c.block_comment_end.result (omega arith) (sym c.if-opens_at.ensures) c.block_comment_end.ensures
