use Rattle.std.proofs.Common.{◌≡◌, ℕ, ◌-◌, [], None, Some, arith, refl, string_bytes, subst, sym}
use Rattle.isle_lsp_features.specs.Pieces.{ArePieces}
use Rattle.isle_lsp_features.proofs.Growing.{all-added, none-added, none-left, one-added}
use Rattle.isle_lsp_features.proofs.pieces.add_text.Goals as goal

pub loop-left-init : goal.loop-left-init
loop-left-init c = rw (c.new-refusals.ensures.items, c.in_ok-piece.ensures.ok) (none-added c.args.file c.args.text.now c.args.index.now)

pub returns-in-None-clause-ok : goal.returns-in-None-clause-ok
returns-in-None-clause-ok c =
    let l = c.loop-left in
    let adds = rw c.as_str.ensures.value at (rw c.in-None.is at c.in_ok-rest.ensures.ok) in
    all-added c.args.file c.args.text.now (l.left - 1) None c.args.index.now c.add_piece.new.index c.add_piece.new.refusals.items (none-left c.args.file (l.left - 1))
    (one-added c.args.file c.args.text.now (string_bytes l.piece) (l.left - 1) l.left None c.args.index.now l.index c.add_piece.new.index l.refusals.items c.add_piece.new.refusals.items
    (omega (arith, c.loop-left-test.true)) l.invariant adds)

pub loop-left-preserved : goal.loop-left-preserved
loop-left-preserved c =
    let l = c.loop-left in
    let adds = rw c.as_str.ensures.value at (rw c.in-Some.is at c.in_ok-rest.ensures.ok) in
    one-added c.args.file c.args.text.now (string_bytes l.piece) (l.left - 1) l.left (Some (string_bytes c.in-Some.rest)) c.args.index.now l.index c.add_piece.new.index l.refusals.items
    c.add_piece.new.refusals.items (omega (arith, c.loop-left-test.true)) l.invariant adds

pub returns-clause-ok : goal.returns-clause-ok
returns-clause-ok c =
    let l = c.loop-left in
    let none : l.left ≡ 0 = omega (arith, c.loop-left-test.false) in
    let Pieces : ℕ → Type 0 = λ n. ArePieces c.args.file n (Some (string_bytes l.piece)) [] in
    all-added c.args.file c.args.text.now l.left (Some (string_bytes l.piece)) c.args.index.now l.index l.refusals.items (subst Pieces (sym none) refl) l.invariant
