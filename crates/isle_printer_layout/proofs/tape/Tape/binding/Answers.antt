use Rattle.std.proofs.Common.{◌∙◌, ap, sym, subst}
use Rattle.isle_printer_layout.specs.Lengths.{record_of}
use Rattle.isle_printer_layout.specs.Pieces.{AllFit, HasFirst, length_so_far, read}
use Rattle.isle_printer_layout.proofs.PieceLemmas.{stands_first, binding_counts}
use Rattle.isle_printer_layout.proofs.tape.Tape.binding.Goals as goal

pub invariant_of-self-2 : goal.invariant_of-self-2
invariant_of-self-2 c =
    let turned = stands_first _ _ _ c.in_ok-push.ensures.items in
    let full = subst (λ m. HasFirst m.0) (sym c.self.view_is) c.requires in
    let counted = c.sum-self-inside.ensures _ (c.sum-length.ensures _ c.self.invariant.1) in (
      subst AllFit (sym turned) (full, c.self.invariant.0),
      counted ∙ ap record_of (binding_counts _ _ full ∙ ap (λ ps. length_so_far (read ps).0) (sym turned)),
    )
