use Rattle.std.proofs.Common.{◌≡◌, map, take}
use Rattle.isle_lsp_features.specs.Programs.{text_of}
use Rattle.isle_lsp.specs.Serving.{texts_of}
use Rattle.isle_lsp.proofs.actions.texts_of.Given as goal

abbrev pub invariant-loop-program : goal.invariant-loop-program
invariant-loop-program l =
    map (λ p. map (λ t. t.now) p.items) l.texts.items ≡ texts_of (map (λ p. map text_of p.items) (take l.program-index l.programs))
