use Rattle.std.proofs.Common.{sym, subst}
use Rattle.isle_lsp_text.specs.Positions.{IsWhole}
use Rattle.isle_lsp_text.proofs.Walks.{whole_law, whole_boundary}
use Rattle.isle_lsp_text.proofs.positions.offset_of.Goals as goal

pub returns : goal.returns
returns c =
    let e = rw c.as_bytes.ensures.value at c.find_offset.ensures in
    let w = subst (IsWhole c.args.text.now) (sym e) (whole_law c.args.encoding c.args.text.now _ _) in
    record { offset = e; whole = w; boundary = whole_boundary _ _ w }
