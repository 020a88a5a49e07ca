use Rattle.std.proofs.Common.{◌≡◌, true, drop, sym, subst}
use Rattle.isle_base.specs.Literals.{begins_literal}
use Rattle.isle_base.specs.Skips.{begins_with}
use Rattle.isle_base.proofs.Minus.{minus_begins}
use Rattle.isle_base.proofs.scanner.read.from_minus_at.Goals as goal

pub integer_at-requires-clause-begins : goal.integer_at-requires-clause-begins
integer_at-requires-clause-begins c =
    subst (λ xs. begins_with begins_literal (drop c.args.start xs) ≡ true) (sym c.as_bytes-else-is_lone_minus_at.ensures.value) (minus_begins (drop c.args.start c.args.src.now) c.requires.minus)
