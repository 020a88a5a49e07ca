use Rattle.std.proofs.Common.{◌≡◌, length, map}
use Rattle.isle_lsp_actions.specs.Items.{items, items_from}
use Rattle.isle_lsp_actions.specs.Tokens.{lexeme_of}
use Rattle.isle_lsp_actions.proofs.items.items.Given as goal

abbrev pub invariant-loop-rest : goal.invariant-loop-rest
invariant-loop-rest l = items_from l.text l.parts.items l.unfinished l.depth (map lexeme_of l.rest) ≡ items l.text (map lexeme_of l.tokens)

abbrev pub decreases-loop-rest : goal.decreases-loop-rest
decreases-loop-rest l = length l.rest
