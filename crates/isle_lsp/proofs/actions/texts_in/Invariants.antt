use Rattle.std.proofs.Common.{◌≡◌, map, take}
use Rattle.isle_lsp_features.specs.Programs.{bytes_of, text_of}
use Rattle.isle_lsp.proofs.actions.texts_in.Given as goal

abbrev pub invariant-loop-text : goal.invariant-loop-text
invariant-loop-text l = map (λ t. t.now) l.texts.items ≡ map bytes_of (map text_of (take l.text-index l.program))
