use Rattle.std.proofs.Common.{◌++◌, ◌∙◌, ap, append-nil, refl, sym}
use Rattle.isle_tidy_diff.proofs.RowLemmas.{edits-first, shown-none, written-first, written-inside}
use Rattle.isle_tidy_diff.proofs.hunks.push_shown.Goals as goal

pub returns-then-not-is_shown : goal.returns-then-not-is_shown
returns-then-not-is_shown c =
    sym (ap (λ r. c.args.diff.now.items ++ r) (shown-none c.args.place _ (sym c.is_shown.ensures ∙ c.if-not-is_shown.true)) ∙ append-nil c.args.diff.now.items)

pub returns-then-place : goal.returns-then-place
returns-then-place c =
    written-inside c.push_row.result c.args.place c.args.diff.now.items _ c.push_row.new.diff.items _ _ _ (edits-first c.args.rest.now _ c.requires.some) (sym c.is_shown.ensures ∙ c.if-not-is_shown.false)
    c.if-place.true refl c.push_row.ensures

pub returns : goal.returns
returns c =
    written-first c.push_row-2.result c.args.place c.args.diff.now.items _ c.push_row-2.new.diff.items _ _ _ (edits-first c.args.rest.now _ c.requires.some) (sym c.is_shown.ensures ∙ c.if-not-is_shown.false)
    c.if-place.false c.in_ok-push_header.ensures c.push_row-2.ensures
