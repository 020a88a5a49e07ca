use Rattle.isle_encoding.proofs.Digits.{digit_put}
use Rattle.isle_encoding.proofs.numbers.put_number.Goals as goal

pub loop-rest-preserved : goal.loop-rest-preserved
loop-rest-preserved c = digit_put _ _ _ _ c.loop-rest-test.true c.in_ok-put_byte.ensures c.loop-rest.invariant
