use Rattle.std.proofs.Common.{sym, ◌∙◌, arith}
use Rattle.isle_tidy_core.proofs.EndPlaces.{after_both, after_one, both_utf8, one_utf8}
use Rattle.isle_tidy_core.proofs.ends.line_end_after.Goals as goal
use Rattle.isle_tidy_core.proofs.ends.line_end_after.Goals.{else-bytes-at-eq13-via-then-bytes-at-eq13+else-is_feed_at, else-bytes-at-eq13-via-else-bytes-at-eq13}

pub returns-then-is_feed_at-clause-ended : goal.returns-then-is_feed_at-clause-ended
returns-then-is_feed_at-clause-ended c = after_both c.args.bytes.now c.args.at c.requires.within c.if-bytes-at-eq13.true (sym c.is_feed_at.ensures ∙ c.if-is_feed_at.true)

pub returns-then-is_feed_at-clause-utf8 : goal.returns-then-is_feed_at-clause-utf8
returns-then-is_feed_at-clause-utf8 c = both_utf8 c.args.bytes.now c.args.at c.requires.within c.if-bytes-at-eq13.true (sym c.is_feed_at.ensures ∙ c.if-is_feed_at.true)

pub returns-else-bytes-at-eq13-clause-ended : goal.returns-else-bytes-at-eq13-clause-ended
returns-else-bytes-at-eq13-clause-ended c = after_one c.args.bytes.now c.args.at c.requires.within c.requires.ends
    (λ is. elim c.else-bytes-at-eq13.branch [
      | else-bytes-at-eq13-via-then-bytes-at-eq13+else-is_feed_at w ↦ sym w.is_feed_at.ensures ∙ w.if-is_feed_at.false
      | else-bytes-at-eq13-via-else-bytes-at-eq13 w ↦ absurd (omega (arith, is, w.if-bytes-at-eq13.false))
    ])

pub returns-else-bytes-at-eq13-clause-utf8 : goal.returns-else-bytes-at-eq13-clause-utf8
returns-else-bytes-at-eq13-clause-utf8 c = one_utf8 c.args.bytes.now c.args.at c.requires.within c.requires.ends
