use Rattle.std.proofs.Common.{◌∙◌, ap}
use Rattle.isle_lsp_text.specs.Positions.{position_at}
use Rattle.isle_lsp_text.proofs.Places.{start_place, clamped}
use Rattle.isle_lsp_text.proofs.positions.place_at.Goals as goal

pub place_after-requires-else-nearby-end-clause-from :
    goal.place_after-requires-else-nearby-end-clause-from
place_after-requires-else-nearby-end-clause-from c = start_place _ _

pub returns-then-nearby-end-clause-position : goal.returns-then-nearby-end-clause-position
returns-then-nearby-end-clause-position c = c.place_after.ensures.position ∙ ap (λ n. position_at c.args.encoding n c.args.text.now) c.min-end.ensures ∙ clamped c.args.encoding c.args.text.now c.args.offset

pub returns-else-nearby-end-clause-position : goal.returns-else-nearby-end-clause-position
returns-else-nearby-end-clause-position c = c.place_after-else-nearby-end.ensures.position ∙ ap (λ n. position_at c.args.encoding n c.args.text.now) c.min-end.ensures ∙ clamped c.args.encoding c.args.text.now c.args.offset
