use Rattle.std.proofs.Common.{◌≡◌, ◌++◌, false, length, map}
use Rattle.isle_lsp_actions.specs.Templates.{pieces_from}
use Rattle.isle_lsp_actions.specs.Tokens.{lexeme_of}
use Rattle.isle_lsp_actions.proofs.templates.pieces.Given as goal

abbrev pub invariant-loop-rest : goal.invariant-loop-rest
invariant-loop-rest l =
    map (λ piece. piece.now) l.found.items
    ++ pieces_from l.template (map (λ p. p.now) l.parameters) (map (λ a. a.now) l.arguments) l.replaced l.is_head (map lexeme_of l.rest)
    ≡ pieces_from l.template (map (λ p. p.now) l.parameters) (map (λ a. a.now) l.arguments) 0 false (map lexeme_of l.tokens)

abbrev pub decreases-loop-rest : goal.decreases-loop-rest
decreases-loop-rest l = length l.rest
