use Rattle.std.proofs.Common.{◌≡◌, ◌+◌, [], ap, arith, drop, drop_of_length-le, map, refl, subst, sym}
use Rattle.std.proofs.lemmas.List.{append-nil, drop_more}
use Rattle.serde_json.specs.View.{view}
use Rattle.isle_index.specs.Held.{all_in}
use Rattle.isle_lsp_calls.proofs.Following.{next_text}
use Rattle.isle_lsp_calls.specs.Incoming.{AreIncomingFrom}
use Rattle.isle_lsp_calls.specs.Sources.{source_of}
use Rattle.isle_lsp_calls.proofs.incoming.incoming_among.Goals as goal

pub loop-number-preserved : goal.loop-number-preserved
loop-number-preserved c =
    let program = c.args.program.now in
    let i = c.loop-number.number in
    let added = c.in_ok-add_incoming.ensures in
    next_text _ (map source_of (drop (i + 1) program)) _ _ i (all_in c.args.index.now) c.args.found.now _ _ added.0
    (ap (map source_of) (drop_more program i _ c.loop-number-test.true)) added.1 added.2 c.loop-number.invariant

pub returns : goal.returns
returns c =
    let program = c.args.program.now in
    let at = c.loop-number.number in
    let found = c.args.found.now in
    let all = all_in c.args.index.now in
    let none : drop at program ≡ [] = drop_of_length-le program (omega (arith, c.loop-number-test.false)) in
    let whole = c.loop-number.invariant [] (subst (λ ps. AreIncomingFrom at (map source_of ps) all found []) (sym none) refl) in
    subst (AreIncomingFrom 0 (map source_of program) all found) (append-nil (map view c.loop-number.calls.items)) whole
