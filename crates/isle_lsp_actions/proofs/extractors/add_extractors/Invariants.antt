use Rattle.std.proofs.Common.{◌≡◌, ◌++◌, length, map, option_map}
use Rattle.isle_lsp_actions.specs.Extractors.{extractor_of, extractors_from}
use Rattle.isle_lsp_actions.specs.Tokens.{lexeme_of}
use Rattle.isle_lsp_actions.proofs.extractors.add_extractors.Given as goal

abbrev pub invariant-loop-rest : goal.invariant-loop-rest
invariant-loop-rest l =
    map (option_map extractor_of) l.found.items ++ extractors_from l.text l.name l.depth (map lexeme_of l.rest)
    ≡ map (option_map extractor_of) l.fn.found.items ++ extractors_from l.text l.name 0 (map lexeme_of l.tokens)

abbrev pub decreases-loop-rest : goal.decreases-loop-rest
decreases-loop-rest l = length l.rest
