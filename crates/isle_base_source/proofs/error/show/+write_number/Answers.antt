use Rattle.std.proofs.Common.{refl, sym}
use Rattle.std.proofs.Output.{has_written_styled_append as then_written, has_written_styled_of_eq}
use Rattle.std.proofs.lemmas.Fmt.{decimal_step, decimal_digit}
use Rattle.isle_base_source.proofs.error.show.+write_number.Goals as goal

pub returns-then-number-lt10 : goal.returns-then-number-lt10
returns-then-number-lt10 g t c = λ flush ok.
    has_written_styled_of_eq _ _ _ _ _ (sym (decimal_digit c.args.number c.if-number-lt10.true)) (c.write_digit.ensures flush ok)

pub returns : goal.returns
returns g t c = λ flush ok.
    let front = c.in_ok-write_number.ensures flush refl in
    let last = c.write_digit-2.ensures front.flush ok in
    has_written_styled_of_eq _ _ _ _ _ (sym (decimal_step c.args.number c.if-number-lt10.false c.ranges.number.fits)) (then_written _ _ _ _ _ _ front last)
