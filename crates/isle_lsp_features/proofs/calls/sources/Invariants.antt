use Rattle.std.proofs.Common.{◌≡◌, map, take}
use Rattle.isle_lsp_calls.specs.Sources.{source_of}
use Rattle.isle_lsp_features.specs.Called.{source_in}
use Rattle.isle_lsp_features.specs.Programs.{text_of}
use Rattle.isle_lsp_features.proofs.calls.sources.Given as goal

abbrev pub invariant-loop-text : goal.invariant-loop-text
invariant-loop-text l = map source_of l.sources.items ≡ map source_in (map text_of (take l.text-index l.program))
