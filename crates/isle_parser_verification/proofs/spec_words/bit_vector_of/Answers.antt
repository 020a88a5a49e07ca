use Rattle.std.proofs.Common.{sym, ◌∙◌}
use Rattle.isle_parser_verification.proofs.Words.BitVectors.{not_parsed, parsed}
use Rattle.isle_parser_verification.proofs.spec_words.bit_vector_of.Goals as goal

pub returns-in_err-val : goal.returns-in_err-val
returns-in_err-val c =
    c.from_residual.ensures ∙ not_parsed c.from_str_radix.result c.args.radix c.args.bits c.args.digits.now c.from_str_radix.ensures.value (sym c.ok.ensures.value ∙ c.in_err-val.was)

pub returns : goal.returns
returns c =
    let width = c.in_ok-width.ensures in
    parsed c.from_str_radix.result c.args.radix c.args.bits c.in_ok-val.val c.in_ok-width.width c.args.digits.now c.from_str_radix.ensures.value (sym c.ok.ensures.value ∙ c.in_ok-val.was) width.0 (sym width.1)
