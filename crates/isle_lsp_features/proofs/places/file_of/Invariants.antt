use Rattle.std.proofs.Common.{◌≡◌, drop, map}
use Rattle.isle_lsp_features.specs.Programs.{text_of}
use Rattle.isle_lsp_features.specs.Places.{file_from}
use Rattle.isle_lsp_features.proofs.places.file_of.Given as goal

abbrev pub invariant-loop-number : goal.invariant-loop-number
invariant-loop-number l =
    file_from l.number l.name (map text_of (drop l.number l.program)) ≡ file_from 0 l.name (map text_of l.program)
