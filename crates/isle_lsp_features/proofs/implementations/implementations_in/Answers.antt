use Rattle.std.proofs.Common.{◌≡◌, ◌+◌, [], ap, arith, drop, drop_of_length-le, map, refl, subst, sym}
use Rattle.std.proofs.lemmas.List.{append-nil, drop_more}
use Rattle.isle_lsp_features.proofs.Marked.{next_implementations}
use Rattle.isle_lsp_features.specs.Implemented.{AreImplementationsFrom}
use Rattle.isle_lsp_features.specs.Programs.{text_of}
use Rattle.isle_lsp_features.proofs.implementations.implementations_in.Goals as goal
use Rattle.isle_lsp_protocol.specs.Items.{item_data}

pub loop-number-preserved : goal.loop-number-preserved
loop-number-preserved c =
    let program = c.args.program.now in
    let i = c.loop-number.number in
    let added = c.in_ok-add_implementations.ensures in
    next_implementations _ (map text_of (drop (i + 1) program)) _ _ i c.args.found.now _ _ added.0 (ap (map text_of) (drop_more program i _ c.loop-number-test.true)) added.1 added.2
    c.loop-number.invariant

pub returns : goal.returns
returns c =
    let program = c.args.program.now in
    let at = c.loop-number.number in
    let found = c.args.found.now in
    let none : drop at program ≡ [] = drop_of_length-le program (omega (arith, c.loop-number-test.false)) in
    let all = c.loop-number.invariant [] (subst (λ ps. AreImplementationsFrom at (map text_of ps) found []) (sym none) refl) in
    subst (AreImplementationsFrom 0 (map text_of program) found) (append-nil (map item_data c.loop-number.items.items)) all
