use Rattle.std.proofs.Common.{arith}
use Rattle.isle_lsp_text.proofs.Covered.{covers_all}
use Rattle.isle_lsp_text.proofs.comments.cover_block_comments.Goals as goal

pub returns : goal.returns
returns c = covers_all c.args.text.now _ c.loop-covered.covered.items c.loop-covered.invariant.so_far (omega (arith, c.loop-covered-test.false, c.len.ensures))
