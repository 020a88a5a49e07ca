use Rattle.std.proofs.Common.{◌+◌, arith}
use Rattle.isle_lsp_text.proofs.Above.{at_start, below, not_blank, other_end, step}
use Rattle.isle_lsp_text.proofs.comments.start_of_comments.Goals as goal

pub loop-i-init : goal.loop-i-init
loop-i-init c = record { within = omega arith; so_far = at_start c.args.before.now }

pub loop-i-preserved : goal.loop-i-preserved
loop-i-preserved c = rw (c.line_after-line.ensures, c.start_after-start.ensures) record {
  within = below c.loop-i.line c.loop-i.start _ (c.loop-i.i + 1) (omega arith);
  so_far = step c.loop-i.line c.args.before.now c.loop-i.start c.loop-i.i c.loop-i-test.true c.loop-i.invariant.so_far;
}

pub returns-in-Comment : goal.returns-in-Comment
returns-in-Comment c = record {
  start = other_end c.loop-i.line c.args.before.now c.loop-i.start c.loop-i.i c.loop-i-test.false (not_blank c.loop-i.line c.in-Comment.is) c.loop-i.invariant.so_far;
  within = omega arith;
}
