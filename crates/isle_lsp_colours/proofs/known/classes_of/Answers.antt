use Rattle.std.proofs.Common.{◌≡◌, ℕ, ◌-◌, [], None, Some, arith, length, refl, string_bytes, subst, sym, ◌∙◌}
use Rattle.isle_lsp_features.proofs.Growing.{none-left}
use Rattle.isle_lsp_features.specs.Pieces.{ArePieces}
use Rattle.isle_lsp_colours.specs.Known.{AreClasses}
use Rattle.isle_lsp_colours.proofs.Pieces.{Added, all-added, none-added, none-yet, one-added, only-none, written}
use Rattle.isle_lsp_colours.proofs.known.classes_of.Goals as goal

pub loop-left-init : goal.loop-left-init
loop-left-init c = rw c.in_ok-piece.ensures.ok (none-added c.args.text.now c.in_ok-classes.classes.items)

pub returns-in-None : goal.returns-in-None
returns-in-None c =
    let l = c.loop-left in
    let text = c.args.text.now in
    let start = c.in_ok-classes.classes.items in
    let new = c.add_piece.new.classes in
    let bare = none-yet (length text) start (c.in_ok-classes.ensures.items_if_clones_equal (only-none _ (λ v h. h))) in
    let adds = rw c.deref_mut.ensures.value at (rw c.as_str.ensures.value at (rw c.in-None.is at c.in_ok-rest.ensures)) in
    subst (AreClasses text) (sym (written l.classes.len new l.classes.items (c.add_piece.auto.classes ∙ c.deref_mut.ensures.len)))
    (all-added text (l.left - 1) None start new bare (none-left 0 (l.left - 1))
    (one-added text (string_bytes l.piece) (l.left - 1) l.left None start l.classes.items new (omega (arith, c.loop-left-test.true)) l.invariant adds))

pub loop-left-preserved : goal.loop-left-preserved
loop-left-preserved c =
    let l = c.loop-left in
    let text = c.args.text.now in
    let start = c.in_ok-classes.classes.items in
    let new = c.add_piece.new.classes in
    let rest = Some (string_bytes c.in-Some.rest) in
    let adds = rw c.deref_mut.ensures.value at (rw c.as_str.ensures.value at (rw c.in-Some.is at c.in_ok-rest.ensures)) in
    subst (Added text (l.left - 1) rest start) (sym (written l.classes.len new l.classes.items (c.add_piece.auto.classes ∙ c.deref_mut.ensures.len)))
    (one-added text (string_bytes l.piece) (l.left - 1) l.left rest start l.classes.items new (omega (arith, c.loop-left-test.true)) l.invariant adds)

pub returns : goal.returns
returns c =
    let l = c.loop-left in
    let text = c.args.text.now in
    let start = c.in_ok-classes.classes.items in
    let bare = none-yet (length text) start (c.in_ok-classes.ensures.items_if_clones_equal (only-none _ (λ v h. h))) in
    let none : l.left ≡ 0 = omega (arith, c.loop-left-test.false) in
    let Pieces : ℕ → Type 0 = λ n. ArePieces 0 n (Some (string_bytes l.piece)) [] in
    all-added text l.left (Some (string_bytes l.piece)) start l.classes.items bare (subst Pieces (sym none) refl) l.invariant
