use Rattle.isle_tidy_diff.specs.Edits.{edits_of, texts_of}
use Rattle.isle_tidy_diff.proofs.EditLemmas.{all-new, all-old, line-at, new-on, old-on, old-within}
use Rattle.isle_tidy_diff.proofs.edits.line_edits.Goals as goal

pub loop-line-preserved : goal.loop-line-preserved
loop-line-preserved c =
    let ensures = c.in_ok-paired.ensures in
    record {
      order = ensures.order;
      within = ensures.within;
      old = old-on _ _ _ (texts_of c.args.old.now) (texts_of c.args.new.now) c.loop-line.line-index _ _ ensures.told (old-within c.args.old.now c.loop-line.line-index c.loop-line-test.true)
          (line-at c.args.old.now c.loop-line.line-index _ c.loop-line-test.true) c.loop-line.invariant.old;
      new = new-on _ _ _ (texts_of c.args.new.now) _ _ ensures.told c.loop-line.invariant.new;
    }

pub returns-clause-old : goal.returns-clause-old
returns-clause-old c =
    all-old (edits_of c.loop-line.edits.items) _ c.args.old.now _ c.loop-line.line-index c.loop-line-test.false c.in_ok-push_added.ensures c.loop-line.invariant.old

pub returns-clause-new : goal.returns-clause-new
returns-clause-new c =
    all-new (edits_of c.loop-line.edits.items) _ c.args.new.now c.loop-line.paired.told c.in_ok-push_added.ensures c.loop-line.invariant.new
