use Rattle.std.proofs.Common.{List, ◌++◌, Option, drop, map, option_map}
use Rattle.isle_lsp_actions.specs.Extractors.{AreExtractors, Extractor, extractor_of}
use Rattle.isle_lsp_actions.proofs.extractors.extractors.Given as goal

abbrev pub invariant-loop-text : goal.invariant-loop-text
invariant-loop-text l =
    (rest : List (Option Extractor)) → AreExtractors (map (λ t. t.now) (drop l.text-index l.texts)) l.name rest
    → AreExtractors (map (λ t. t.now) l.texts) l.name (map (option_map extractor_of) l.found.items ++ rest)
