use Rattle.std.proofs.Common.{◌≤◌, ◌+◌, ◌∷◌, Some, None, drop, length, subst, sym, lit<, arith, IsUtf8}
use Rattle.isle_base.specs.Lexing.{unclosed}
use Rattle.isle_base.specs.Reads.{EndsComment}
use Rattle.isle_base.proofs.Places.{opens_here, opens_room, comment_further}
use Rattle.isle_tidy_core.specs.Finds.{Stands}
use Rattle.isle_tidy_layout.specs.Entries.{block_comment}
use Rattle.isle_tidy_core.proofs.Refusals.{faulty_spells_none}
use Rattle.isle_tidy_core.proofs.Standing.{block_comment_stands, tail_utf8}
use Rattle.isle_tidy_core.proofs.lexemes.block_comment_at.Goals as goal

pub block_comment_end-requires : goal.block_comment_end-requires
block_comment_end-requires c = subst (λ xs. c.args.start + 2 ≤ length xs) (sym c.as_bytes.ensures.value) (opens_room c.args.text.now c.args.start c.requires.begins)

pub part-requires-clause-order : goal.part-requires-clause-order
part-requires-clause-order c =
    let ends = subst (λ xs. EndsComment xs (c.args.start + 2) (Some c.in-Some.end)) c.as_bytes.ensures.value c.in-Some.ensures in
    let further = comment_further c.args.text.now (c.args.start + 2) c.in-Some.end ends.1 ends.0 in
    omega (arith, further)

pub part-requires-clause-first : goal.part-requires-clause-first
part-requires-clause-first c =
    let here = opens_here c.args.text.now c.args.start c.requires.begins in
    tail_utf8 59 (drop (c.args.start + 2) c.args.text.now) (lit< tt) (tail_utf8 40 (59 ∷ drop (c.args.start + 2) c.args.text.now) (lit< tt) (subst IsUtf8 here c.requires.first))

pub part-requires-clause-last : goal.part-requires-clause-last
part-requires-clause-last c =
    let ends = subst (λ xs. EndsComment xs (c.args.start + 2) (Some c.in-Some.end)) c.as_bytes.ensures.value c.in-Some.ensures in
    (block_comment_stands c.args.text.now c.args.start c.in-Some.end c.requires.begins ends.0 ends.1 c.requires.first).3

pub returns-in-Some : goal.returns-in-Some
returns-in-Some c =
    let ends = subst (λ xs. EndsComment xs (c.args.start + 2) (Some c.in-Some.end)) c.as_bytes.ensures.value c.in-Some.ensures in
    subst (λ xs. Stands c.args.text.now (block_comment xs) c.args.start c.in-Some.end) (sym c.part.ensures)
    (block_comment_stands c.args.text.now c.args.start c.in-Some.end c.requires.begins ends.0 ends.1 c.requires.first)

pub returns-in-None : goal.returns-in-None
returns-in-None c =
    let never = subst (λ xs. EndsComment xs (c.args.start + 2) None) c.as_bytes.ensures.value c.in-None.ensures in
    faulty_spells_none (drop c.args.start c.args.text.now) (unclosed (opens_here c.args.text.now c.args.start c.requires.begins) never)
