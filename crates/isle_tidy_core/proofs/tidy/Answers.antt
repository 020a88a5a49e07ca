use Rattle.std.proofs.Common.{string_bytes}
use Rattle.isle_tidy_core.proofs.Streams.{all_put, moved_on, put_on}
use Rattle.isle_tidy_core.proofs.tidy.Goals as goal

pub loop-answer-smaller : goal.loop-answer-smaller
loop-answer-smaller c =
    moved_on c.loop-answer.tidying c.put_next.new.self c.args.text.now (string_bytes c.loop-answer.answer) (string_bytes c.loop-answer.answer) (string_bytes c.put_next.new.out)
    c.loop-answer.invariant (c.put_next.ensures.more (cc)) (c.put_next.ensures.moves (cc))

pub returns-clause-tidied : goal.returns-clause-tidied
returns-clause-tidied c =
    all_put c.loop-answer.tidying c.args.text.now (string_bytes c.loop-answer.answer) (string_bytes c.put_next.new.out) c.loop-answer.invariant (c.put_next.ensures.last (cc))

pub loop-answer-preserved : goal.loop-answer-preserved
loop-answer-preserved c =
    put_on c.loop-answer.tidying c.put_next.new.self c.args.text.now (string_bytes c.loop-answer.answer) (string_bytes c.put_next.new.out) c.loop-answer.invariant (c.put_next.ensures.more (cc))
