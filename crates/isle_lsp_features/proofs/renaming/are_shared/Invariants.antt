use Rattle.std.proofs.Common.{◌≡◌, drop, map}
use Rattle.isle_lsp_features.specs.Programs.{text_of}
use Rattle.isle_lsp_features.specs.Renamed.{are_shared}
use Rattle.isle_lsp_features.proofs.renaming.are_shared.Given as goal

abbrev pub invariant-loop-pos : goal.invariant-loop-pos
invariant-loop-pos l =
    are_shared (map text_of l.program) (drop l.pos-index l.places) ≡ are_shared (map text_of l.program) l.places
