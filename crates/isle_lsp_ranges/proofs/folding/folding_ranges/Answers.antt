use Rattle.std.proofs.Common.{◌≡◌, ◌∙◌, [], ap, append-nil, arith, drop, sym}
use Rattle.std.proofs.lemmas.Grind.{common_steps}
use Rattle.serde_json.proofs.Views.{view-Array}
use Rattle.serde_json.specs.Data.{array}
use Rattle.serde_json.specs.View.{items_of}
use Rattle.isle_lsp_ranges.specs.Foldings.{breaks, comments}
use Rattle.isle_lsp_ranges.proofs.Depths.{foldings_depth}
use Rattle.isle_lsp_ranges.proofs.LineBreaks.{folded}
use Rattle.isle_lsp_ranges.proofs.folding.folding_ranges.Goals as goal

pub returns-clause-folds : goal.returns-clause-folds
returns-clause-folds c =
    let over : drop c.loop-line.line c.in_ok-comments.comments.items ≡ [] = grind (arith, common_steps) in
    let all = rw over at c.loop-line.invariant in
    let is = c.in_ok-breaks.ensures ∙ ap breaks c.as_bytes-bytes.ensures.value in
    let are = c.in_ok-comments.ensures ∙ ap comments c.as_bytes-bytes.ensures.value in
    (c.in_ok-lists.lists.items, c.in_ok-lists.ensures, view-Array c.loop-line.folds ∙ ap (λ ds. array (items_of ds)) (sym (append-nil _) ∙ all ∙ folded c.args.text.now c.in_ok-breaks.breaks.items c.in_ok-lists.lists.items c.in_ok-comments.comments.items is are))

pub returns-clause-shallow : goal.returns-clause-shallow
returns-clause-shallow c = foldings_depth _ _ (returns-clause-folds c)
