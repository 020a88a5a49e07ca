use Rattle.std.proofs.Common.{arith}
use Rattle.std.proofs.lemmas.Grind.{common_steps}
use Rattle.isle_lsp_text.proofs.Places.{start_place}
use Rattle.isle_lsp_features.proofs.renaming.ranges_in.Goals as goal

pub loop-pos-init : goal.loop-pos-init
loop-pos-init c = record { so_far = c.new-ranges.ensures.items; near = start_place c.args.source.encoding c.args.source.text.now }

pub loop-pos-preserved : goal.loop-pos-preserved
loop-pos-preserved c = record { so_far = grind (arith, common_steps); near = c.range_in.ensures.near }
