use Rattle.std.proofs.Common.{◌≡◌, ◌∙◌, [], ap, arith, length, map, refl, subst}
use Rattle.std.proofs.lemmas.Grind.{common_steps}
use Rattle.serde_json.proofs.Views.{view-Array}
use Rattle.serde_json.specs.Data.{array}
use Rattle.serde_json.specs.View.{items_view}
use Rattle.isle_lsp_calls.proofs.Unread.{empty}
use Rattle.isle_lsp_text.specs.Calls.{AreWords}
use Rattle.isle_lsp_calls.proofs.outgoing.outgoing_of.Goals as goal

pub returns-then-is_empty : goal.returns-then-is_empty
returns-then-is_empty c =
    let callers = c.in_ok-callers.callers.items in
    let words = c.in_ok-words.words in
    let none : length words.items ≡ 0 = grind (arith, common_steps, c.is_empty.ensures, c.if-is_empty.true, words.ok.0) in
    let read = subst (λ cs. AreWords c.args.text.now cs (map (λ word. word.now) words.items)) c.deref.ensures.value c.in_ok-words.ensures in (
      callers,
      [],
      [],
      c.in_ok-callers.ensures,
      subst (AreWords c.args.text.now callers) (ap (map (λ word. word.now)) (empty words.items none)) read,
      refl,
      view-Array c.new.result ∙ ap (λ vs. array (items_view vs)) c.new.ensures.items,
    )
