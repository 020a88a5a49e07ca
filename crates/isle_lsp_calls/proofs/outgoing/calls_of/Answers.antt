use Rattle.std.proofs.Common.{◌≡◌, ◌+◌, [], ap, arith, drop, drop_of_length-le, map, option_map, option_to_list, refl, subst, sym}
use Rattle.std.proofs.lemmas.List.{append-nil, drop_more}
use Rattle.serde_json.specs.View.{view}
use Rattle.isle_index.specs.Held.{all_in}
use Rattle.isle_lsp_calls.proofs.Following.{next_word}
use Rattle.isle_lsp_calls.specs.Outgoing.{AreCallsOf}
use Rattle.isle_lsp_calls.specs.Outlines.{outlined}
use Rattle.isle_lsp_calls.proofs.outgoing.calls_of.Goals as goal

pub loop-word-preserved : goal.loop-word-preserved
loop-word-preserved c =
    let words = c.args.words.now in
    let i = c.loop-word.word-index in
    next_word c.args.ruler.now.encoding _ (map (λ word. word.now) (drop (i + 1) words)) (map (λ word. word.now) words) _ (map outlined c.args.outlines.now) c.args.number c.args.ruler.now.text.now
    c.args.callers.now (all_in c.args.index.now) (map view c.loop-word.calls.items) _ (option_to_list (option_map view c.in_ok-call.call))
    (ap (map (λ word. word.now)) (drop_more words i _ c.loop-word-test.true)) c.in_ok-call.ensures c.in_ok-add_some.ensures c.loop-word.invariant

pub returns : goal.returns
returns c =
    let words = c.args.words.now in
    let at = c.loop-word.word-index in
    let Calls = AreCallsOf c.args.ruler.now.encoding (map outlined c.args.outlines.now) c.args.number c.args.ruler.now.text.now c.args.callers.now (all_in c.args.index.now) in
    let none : drop at words ≡ [] = drop_of_length-le words (omega (arith, c.loop-word-test.false)) in
    let whole = c.loop-word.invariant [] (subst (λ ws. Calls (map (λ word. word.now) ws) []) (sym none) refl) in
    subst (Calls (map (λ word. word.now) words)) (append-nil (map view c.loop-word.calls.items)) whole
