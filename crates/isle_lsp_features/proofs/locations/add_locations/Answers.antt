use Rattle.std.proofs.Common.{arith, refl}
use Rattle.std.proofs.lemmas.Grind.{common_steps}
use Rattle.isle_lsp_text.proofs.Places.{start_place}
use Rattle.isle_lsp_features.proofs.locations.add_locations.Goals as goal

pub loop-occurrence-init : goal.loop-occurrence-init
loop-occurrence-init c = record { so_far = refl; near = start_place _ _ }

pub loop-occurrence-preserved : goal.loop-occurrence-preserved
loop-occurrence-preserved c = record { so_far = grind (arith, common_steps); near = c.location_in.ensures.near }
