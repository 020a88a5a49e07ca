use Rattle.std.proofs.Common.{arith}
use Rattle.isle_lsp_features.proofs.Renewing.{set-parts}
use Rattle.isle_lsp_features.proofs.known.put.Goals as goal

pub returns-then-place-len : goal.returns-then-place-len
returns-then-place-len c = set-parts c.args.texts.now.items c.args.place c.args.known (omega (arith, c.if-place-len.true, c.len.ensures))
