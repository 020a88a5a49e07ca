use Rattle.std.proofs.Common.{◌≡◌, false, Some}
use Rattle.isle_lsp.specs.Conversations.{World, has_exited}
use Rattle.isle_lsp.specs.Serving.{held_of}
use Rattle.isle_lsp.proofs.Talks.{Runs}
use Rattle.isle_lsp.proofs.conversation.main_loop.Given as goal

abbrev pub invariant-loop : goal.invariant-loop
invariant-loop g l = record {
  goes_on : has_exited l.server.state ≡ false;
  runs : (world : World) → g.I.Read.remaining l.initial.input ≡ Some world.bytes → g.D.Disk.moments l.initial.disk ≡ Some world.moments → Runs world (held_of l.server) (g.I.Read.remaining l.input) (g.D.Disk.moments l.disk) (g.W.Write.contents l.initial.output) (g.W.Write.contents l.output);
}
