use Rattle.std.proofs.Common.{subst, sym, arith, Some, drop}
use Rattle.isle_base.specs.Lexing.{Faulty}
use Rattle.isle_base.specs.Reads.{EndsLiteral}
use Rattle.isle_tidy_core.specs.Finds.{Stands}
use Rattle.isle_tidy_layout.specs.Entries.{atom}
use Rattle.isle_tidy_core.proofs.Refusals.{faulty_spells_none}
use Rattle.isle_tidy_core.proofs.Standing.{integer_stands}
use Rattle.isle_tidy_core.proofs.lexemes.integer_at.Goals as goal

pub part-requires-clause-order : goal.part-requires-clause-order
part-requires-clause-order c =
    let ends = subst (λ xs. EndsLiteral xs c.args.start (Some c.in-Some.end)) c.as_bytes.ensures.value c.in-Some.ensures in
    let all = integer_stands c.args.text.now c.args.start c.in-Some.end ends.0.0 (omega (arith, c.requires.within)) ends.0.1 ends.1 c.requires.first in
    omega (arith, all.1)

pub part-requires-clause-last : goal.part-requires-clause-last
part-requires-clause-last c =
    let ends = subst (λ xs. EndsLiteral xs c.args.start (Some c.in-Some.end)) c.as_bytes.ensures.value c.in-Some.ensures in
    (integer_stands c.args.text.now c.args.start c.in-Some.end ends.0.0 (omega (arith, c.requires.within)) ends.0.1 ends.1 c.requires.first).3

pub returns-in-Some : goal.returns-in-Some
returns-in-Some c =
    let ends = subst (λ xs. EndsLiteral xs c.args.start (Some c.in-Some.end)) c.as_bytes.ensures.value c.in-Some.ensures in
    subst (λ xs. Stands c.args.text.now (atom xs) c.args.start c.in-Some.end) (sym c.part.ensures)
    (integer_stands c.args.text.now c.args.start c.in-Some.end ends.0.0 (omega (arith, c.requires.within)) ends.0.1 ends.1 c.requires.first)

pub returns-in-None : goal.returns-in-None
returns-in-None c =
    faulty_spells_none (drop c.args.start c.args.text.now) (subst (λ xs. Faulty (drop c.args.start xs)) c.as_bytes.ensures.value c.in-None.ensures)
