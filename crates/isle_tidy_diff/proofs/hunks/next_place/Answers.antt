use Rattle.isle_tidy_diff.proofs.RowLemmas.{edits-first, next-is}
use Rattle.isle_tidy_diff.proofs.hunks.next_place.Goals as goal

pub returns : goal.returns
returns c =
    next-is c.args.place _ _ _ c.is_shown.result c.left_behind.result c.in_old.result c.in_new.result (edits-first c.args.rest.now _ c.requires.some) c.is_shown.ensures c.left_behind.ensures c.in_old.ensures c.in_new.ensures
