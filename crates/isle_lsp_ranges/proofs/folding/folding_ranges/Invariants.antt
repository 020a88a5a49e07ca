use Rattle.std.proofs.Common.{◌≡◌, ◌++◌, drop, false, map}
use Rattle.serde_json.specs.View.{view}
use Rattle.isle_lsp_ranges.specs.Foldings.{folds_from, last_line, line_in}
use Rattle.isle_lsp_ranges.proofs.folding.folding_ranges.Given as goal

abbrev pub invariant-loop-line : goal.invariant-loop-line
invariant-loop-line l =
    map view l.folds.items ++ folds_from (λ line. last_line (line_in l.breaks.items) line l.lists.items) l.line l.is_after_comment (drop l.line l.comments.items)
    ≡ folds_from (λ line. last_line (line_in l.breaks.items) line l.lists.items) 0 false l.comments.items
