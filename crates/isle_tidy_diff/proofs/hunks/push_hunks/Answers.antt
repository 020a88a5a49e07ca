use Rattle.std.proofs.Common.{◌∙◌}
use Rattle.isle_tidy_diff.proofs.RowLemmas.{any_edit, edits-at, edits-past, edits-rest, next-few, rows-end, rows-on}
use Rattle.isle_tidy_diff.proofs.hunks.push_hunks.Goals as goal

pub loop-at-preserved : goal.loop-at-preserved
loop-at-preserved c =
    let here = edits-at c.args.edits.now c.loop-at.at any_edit c.loop-at-test.true in
    let slice = edits-rest c.args.edits.now c.loop-at.at ∙ here in
    let few = next-few c.loop-at.place c.next_place-place.result _ _ _ c.loop-at.at slice c.next_place-place.ensures c.loop-at.invariant.few_old c.loop-at.invariant.few_new in
    record {
      few_old = few.0;
      few_new = few.1;
      is = rows-on c.loop-at.place c.next_place-place.result c.loop-at.diff.items c.push_shown.new.diff.items _ _ _ _ _ slice here c.in_ok-push_shown.ensures c.next_place-place.ensures c.loop-at.invariant.is;
    }

pub returns : goal.returns
returns c =
    rows-end c.loop-at.place c.loop-at.diff.items _ _ (edits-past c.args.edits.now c.loop-at.at c.loop-at-test.false) c.loop-at.invariant.is
