use Rattle.std.proofs.Common.{arith, refl}
use Rattle.std.proofs.lemmas.Grind.{common_steps}
use Rattle.isle_lsp_text.proofs.Places.{start_place}
use Rattle.isle_lsp_features.proofs.symbols.add_matching.Goals as goal

pub loop-symbol-init : goal.loop-symbol-init
loop-symbol-init c = record { so_far = refl; near = start_place _ _ }

pub loop-symbol-preserved : goal.loop-symbol-preserved
loop-symbol-preserved c = record { so_far = grind (arith, common_steps); near = c.matching_symbol.ensures.near }
