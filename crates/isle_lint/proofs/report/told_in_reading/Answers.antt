use Rattle.isle_lint.proofs.ReportLemmas.{found-as}
use Rattle.isle_lint.proofs.report.told_in_reading.Goals as goal

pub returns : goal.returns
returns c = record {
  found = c.in_ok-found.found.items;
  exact = found-as c.args.lints.now _ _ _ c.deref.ensures.value c.in_ok-found.ensures.exact;
  in_order = c.in_ok-found.ensures.in_order;
  are = rw c.deref-2.ensures.value at c.in_ok-told.ensures;
}
