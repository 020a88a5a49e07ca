use Rattle.std.proofs.Common.{◌≡◌, ◌++◌, drop, map, string_bytes, true}
use Rattle.isle_lsp_actions.specs.Templates.{joined}
use Rattle.isle_lsp_actions.proofs.templates.joined.Given as goal

abbrev pub invariant-loop-piece : goal.invariant-loop-piece
invariant-loop-piece l =
    string_bytes l.text ++ joined l.is_first (map (λ piece. piece.now) (drop l.piece-index l.pieces)) ≡ joined true (map (λ piece. piece.now) l.pieces)
