use Rattle.std.proofs.Common.{refl}
use Rattle.isle_lsp_text.proofs.Parts.{cut_differs, shorter_next}
use Rattle.isle_lsp_text.proofs.edits.cut.Goals as goal

pub returns-then-not-are_equal : goal.returns-then-not-are_equal
returns-then-not-are_equal c =
    let p = c.last_line-end.ensures in
    let q = c.last_line-to.ensures in
    cut_differs c.args.old.now c.args.new.now c.args.edit c.loop-cut.cut c.last_line-end.result c.last_line-to.result c.loop-cut.invariant c.requires.end.0 c.requires.to.0 p.before q.before p.line q.line p.last q.last (c.if-not-are_equal.ensures.other refl)

pub loop-cut-preserved : goal.loop-cut-preserved
loop-cut-preserved c =
    let p = c.last_line-end.ensures in
    let q = c.last_line-to.ensures in
    shorter_next c.args.old.now c.args.new.now c.args.edit c.loop-cut.cut c.last_line-end.result c.last_line-to.result c.loop-cut.invariant c.requires.end.0 c.requires.to.0 p.order p.before q.order q.before p.line q.line (c.if-not-are_equal.ensures.equal refl)
