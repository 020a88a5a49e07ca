use Rattle.std.proofs.Common.{arith}
use Rattle.std.proofs.lemmas.Str.{IsCharBoundary-from_drop}
use Rattle.isle_tidy_core.proofs.lexemes.part.Goals as goal

pub range-requires-clause-start_boundary : goal.range-requires-clause-start_boundary
range-requires-clause-start_boundary c = λ _. IsCharBoundary-from_drop c.args.text.now c.args.from (omega (arith, c.requires.order, c.requires.within)) c.requires.first

pub range-requires-clause-end_boundary : goal.range-requires-clause-end_boundary
range-requires-clause-end_boundary c = IsCharBoundary-from_drop c.args.text.now c.args.to c.requires.within c.requires.last
