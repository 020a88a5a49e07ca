use Rattle.std.proofs.Common.{◌∙◌, ap, sym, subst}
use Rattle.isle_printer_layout.specs.Lengths.{record_of}
use Rattle.isle_printer_layout.specs.Pieces.{AllFit, IsRecordAround, length_so_far, read}
use Rattle.isle_printer_layout.proofs.PieceLemmas.{stands_first, list_counts, has_list_around, record_around}
use Rattle.isle_printer_layout.proofs.tape.Tape.open.Goals as goal

pub invariant_of-self-2 : goal.invariant_of-self-2
invariant_of-self-2 c =
    let turned = stands_first _ _ _ c.in_ok-push.ensures.items in
    let outer = subst (λ m. IsRecordAround c.args.outer m.1) (sym c.self.view_is) c.requires in
    let counted = c.sum-self-inside.ensures _ (c.both.ensures _ _ (record_around _ _ outer) c.self.invariant.1) in (
      subst AllFit (sym turned) ((c.self.invariant.1, has_list_around _ _ outer), c.self.invariant.0),
      counted ∙ ap record_of (list_counts _ _ ∙ ap (λ ps. length_so_far (read ps).0) (sym turned)),
    )
