use Rattle.std.proofs.Common.{◌≡◌, ◌≤◌, ◌+◌, ◌*◌, ◌^◌, get_or, subst, arith}
use Rattle.std.proofs.lemmas.Bool.{ne_eqb}
use Rattle.std.specs.Char.{digit_value}
use Rattle.isle_base.proofs.Numbers.{Reading, reading_digit, reading_over}
use Rattle.isle_base.proofs.scanner.literal.number_of.Goals as goal

pub returns-in_default-checked_mul : goal.returns-in_default-checked_mul
returns-in_default-checked_mul c =
    let over : 2 ^ 128 ≤ c.loop-byte.number * c.args.radix + digit_value (get_or c.args.run.now c.loop-byte.byte-index 0) = omega (arith, c.in_default-checked_mul.ensures) in
    reading_over c.args.radix c.args.run.now c.loop-byte.byte-index c.loop-byte.number c.loop-byte.is_empty c.loop-byte.invariant c.loop-byte-test.true (ne_eqb (get_or c.args.run.now c.loop-byte.byte-index 0) 95 c.if-byte-eq95.false) (omega arith) over

pub returns-in_default-checked_add : goal.returns-in_default-checked_add
returns-in_default-checked_add c =
    let over : 2 ^ 128 ≤ c.loop-byte.number * c.args.radix + digit_value (get_or c.args.run.now c.loop-byte.byte-index 0) =
    omega (arith, c.in_default-checked_add.ensures, c.in-Some-checked_mul.ensures.1, c.in-Some.ensures.value.1) in
    reading_over c.args.radix c.args.run.now c.loop-byte.byte-index c.loop-byte.number c.loop-byte.is_empty c.loop-byte.invariant c.loop-byte-test.true (ne_eqb (get_or c.args.run.now c.loop-byte.byte-index 0) 95 c.if-byte-eq95.false) (omega arith) over

pub loop-byte-preserved : goal.loop-byte-preserved
loop-byte-preserved c =
    let sum : c.loop-byte.number * c.args.radix + digit_value (get_or c.args.run.now c.loop-byte.byte-index 0) ≡ c.in-Some-checked_add.sum =
    omega (arith, c.in-Some-checked_add.ensures.1, c.in-Some-checked_mul.ensures.1, c.in-Some.ensures.value.1) in
    subst (λ n. Reading c.args.radix c.args.run.now (c.loop-byte.byte-index + 1) n _) sum
    (reading_digit c.args.radix c.args.run.now c.loop-byte.byte-index c.loop-byte.number c.loop-byte.is_empty c.loop-byte.invariant c.loop-byte-test.true (ne_eqb (get_or c.args.run.now c.loop-byte.byte-index 0) 95 c.if-byte-eq95.false) c.in-Some.ensures.value.0)
