use Rattle.std.proofs.Common.{◌≡◌, drop, map}
use Rattle.isle_index.specs.Renaming.{part_view}
use Rattle.isle_resolve.specs.Names.{named_of}
use Rattle.isle_lsp_features.specs.Programs.{text_of}
use Rattle.isle_lsp_features.specs.Renamed.{are_glued}
use Rattle.isle_lsp_features.proofs.renaming.are_glued.Given as goal

abbrev pub invariant-loop-pos : goal.invariant-loop-pos
invariant-loop-pos l =
    are_glued (map text_of l.program) (named_of l.name) (part_view l.part) (drop l.pos-index l.places) ≡ are_glued (map text_of l.program) (named_of l.name) (part_view l.part) l.places
