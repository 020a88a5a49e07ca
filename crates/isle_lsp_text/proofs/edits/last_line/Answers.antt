use Rattle.isle_lsp_text.proofs.Parts.{behind_next}
use Rattle.isle_lsp_text.proofs.edits.last_line.Goals as goal

pub loop-at-preserved : goal.loop-at-preserved
loop-at-preserved c = behind_next c.args.text.now c.args.start c.args.end c.loop-at.at c.requires.within c.loop-at.invariant c.loop-at-test.true c.if-text-at-ne10.true
