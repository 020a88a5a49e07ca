use Rattle.std.proofs.Common.{rules}
use Rattle.isle_lsp_text.proofs.Places.{start_place}
use Rattle.isle_lsp_calls.proofs.rulers.marks.Goals as goal

pub loop-number-init : goal.loop-number-init
loop-number-init c = record { marks = search rules; near = start_place c.args.encoding c.args.text.now }
