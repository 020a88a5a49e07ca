use Rattle.std.proofs.Common.{string_bytes}
use Rattle.isle_tidy_core.proofs.Laying.{all_laid, laid_further}
use Rattle.isle_tidy_core.proofs.tidying.laid_out.Goals as goal

pub loop-answer-smaller : goal.loop-answer-smaller
loop-answer-smaller c =
    laid_further c.loop-answer.tidying c.lay_next.new.self c.args.text.now (string_bytes c.loop-answer.answer) (string_bytes c.loop-answer.answer) (string_bytes c.lay_next.new.out)
    c.loop-answer.invariant (c.lay_next.ensures.more (cc)) (c.lay_next.ensures.moves (cc))

pub returns : goal.returns
returns c =
    all_laid c.loop-answer.tidying c.args.text.now (string_bytes c.loop-answer.answer) (string_bytes c.lay_next.new.out) c.loop-answer.invariant (c.lay_next.ensures.last (cc))
