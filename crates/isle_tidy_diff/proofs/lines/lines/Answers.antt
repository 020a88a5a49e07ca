use Rattle.std.proofs.Common.{refl}
use Rattle.isle_tidy_diff.specs.Edits.{texts_of}
use Rattle.isle_tidy_diff.proofs.LineLemmas.{read-none-left, read-on, read-pushed-last, read-pushed-line}
use Rattle.isle_tidy_diff.proofs.lines.lines.Goals as goal
use Rattle.isle_tidy_diff.proofs.lines.lines.Goals.{then-text-at-eq10+in_ok-push, else-text-at-eq10, then-begin-text+in_ok-push-2, else-begin-text}

pub loop-at-preserved : goal.loop-at-preserved
loop-at-preserved c =
    elim c.if-text-at-eq10.branch [
      | then-text-at-eq10+in_ok-push w ↦ (rw (w.made-is, w.begin-is) (read-pushed-line c.args.text.now c.loop-at.made.items w.push.new.self.items _ c.loop-at.begin c.loop-at.at c.loop-at-test.true w.if-text-at-eq10.true c.loop-at.invariant refl w.in_ok-push.ensures.items))
      | else-text-at-eq10 w ↦ (rw (w.made-is, w.begin-is) (read-on c.args.text.now (texts_of c.loop-at.made.items) c.loop-at.begin c.loop-at.at c.loop-at-test.true w.if-text-at-eq10.false c.loop-at.invariant))
    ]

pub returns : goal.returns
returns c =
    elim c.if-begin-text.branch [
      | then-begin-text+in_ok-push-2 w ↦ (rw w.made-is (read-pushed-last c.args.text.now c.loop-at.made.items w.push-then-begin-text.new.self.items _ c.loop-at.begin c.loop-at.at c.loop-at-test.false w.if-begin-text.true c.loop-at.invariant refl w.in_ok-push-2.ensures.items))
      | else-begin-text w ↦ (rw w.made-is (read-none-left c.args.text.now (texts_of c.loop-at.made.items) c.loop-at.begin c.loop-at.at c.loop-at-test.false w.if-begin-text.false c.loop-at.invariant))
    ]
