use Rattle.isle_lsp.proofs.Talks.{HaveWritten}
use Rattle.isle_lsp.proofs.conversation.write_frames.Given as goal

abbrev pub invariant-loop-text : goal.invariant-loop-text
invariant-loop-text g l = HaveWritten l.texts l.text-index (g.W.Write.contents l.initial.output) (g.W.Write.contents l.output)
