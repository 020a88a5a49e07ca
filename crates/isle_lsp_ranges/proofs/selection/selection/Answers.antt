use Rattle.std.proofs.Common.{◌≡◌, [], ◌∙◌, ap, arith, drop, length, sym}
use Rattle.std.proofs.lemmas.List.{drop_all}
use Rattle.isle_lsp_text.proofs.Places.{start_place}
use Rattle.isle_lsp_ranges.specs.Selections.{selection}
use Rattle.isle_lsp_ranges.proofs.selection.selection.Goals as goal

pub loop-left-init : goal.loop-left-init
loop-left-init c =
    let none : drop (length c.args.parts.now) c.args.parts.now ≡ [] = drop_all (length c.args.parts.now) c.args.parts.now (omega arith) in
    record {
      within = omega arith;
      value = c.in_ok-value.ensures ∙ ap (selection c.args.encoding c.args.text.now) (sym none);
      near = start_place c.args.encoding c.args.text.now;
    }
