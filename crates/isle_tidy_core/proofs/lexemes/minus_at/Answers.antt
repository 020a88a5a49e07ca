use Rattle.isle_base.proofs.Minus.{minus_begins}
use Rattle.std.proofs.Common.{drop}
use Rattle.isle_tidy_core.proofs.lexemes.minus_at.Goals as goal

pub integer_at-requires-clause-begins : goal.integer_at-requires-clause-begins
integer_at-requires-clause-begins c = minus_begins (drop c.args.start c.args.text.now) c.requires.minus
