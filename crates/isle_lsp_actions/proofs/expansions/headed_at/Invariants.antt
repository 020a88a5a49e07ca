use Rattle.std.proofs.Common.{◌≡◌, [], length, map}
use Rattle.isle_lsp_actions.specs.Expansions.{headed_at}
use Rattle.isle_lsp_actions.specs.Tokens.{lexeme_of}
use Rattle.isle_lsp_actions.proofs.expansions.headed_at.Given as goal

abbrev pub invariant-loop-rest : goal.invariant-loop-rest
invariant-loop-rest l = headed_at l.place (map lexeme_of l.found) (map lexeme_of l.rest) ≡ headed_at l.place [] (map lexeme_of l.tokens)

abbrev pub decreases-loop-rest : goal.decreases-loop-rest
decreases-loop-rest l = length l.rest
