use Rattle.std.proofs.Common.{Some, None, ◌-◌, drop, take, ap, sym, ◌∙◌, rules}
use Rattle.std.proofs.lemmas.Int.{to_z-of_z}
use mir.Syntax.{w128}
use Rattle.isle_base.specs.Lexing.{literal}
use Rattle.isle_base.specs.Literals.{digits_of}
use Rattle.isle_base.proofs.Values.{literal_from, value_some, value_none}
use Rattle.isle_base.proofs.scanner.literal.literal_at.Goals as goal

pub returns-in-Err : goal.returns-in-Err
returns-in-Err c =
    literal (literal_from c.args.bytes.now c.args.from c.sign_end-unsigned.result c.digits_at-radix.result.1 c.literal_end-end.result c.digits_at-radix.result.0 c.minus_at-minus.result None c.requires.begins c.minus_at-minus.ensures c.sign_end-unsigned.ensures.start c.digits_at-radix.ensures.radix c.digits_at-radix.ensures.start c.literal_end-end.ensures.end
    (value_none c.minus_at-minus.result c.digits_at-radix.result.0 (digits_of (take (c.literal_end-end.result - c.digits_at-radix.result.1) (drop c.digits_at-radix.result.1 c.args.bytes.now))) c.in-Err.ensures))
    c.requires.whole

pub returns-in-Err-signed : goal.returns-in-Err-signed
returns-in-Err-signed c =
    literal (literal_from c.args.bytes.now c.args.from c.sign_end-unsigned.result c.digits_at-radix.result.1 c.literal_end-end.result c.digits_at-radix.result.0 c.minus_at-minus.result None c.requires.begins c.minus_at-minus.ensures c.sign_end-unsigned.ensures.start c.digits_at-radix.ensures.radix c.digits_at-radix.ensures.start c.literal_end-end.ensures.end
    (value_some c.minus_at-minus.result c.digits_at-radix.result.0 c.in-Ok.number (digits_of (take (c.literal_end-end.result - c.digits_at-radix.result.1) (drop c.digits_at-radix.result.1 c.args.bytes.now))) c.in-Ok.ensures.0 c.in-Ok.ensures.1 ∙ c.in-Err-signed.ensures))
    c.requires.whole

pub returns-in-Ok-signed : goal.returns-in-Ok-signed
returns-in-Ok-signed c = (
  literal_from c.args.bytes.now c.args.from c.sign_end-unsigned.result c.digits_at-radix.result.1 c.literal_end-end.result c.digits_at-radix.result.0 c.minus_at-minus.result (Some _) c.requires.begins c.minus_at-minus.ensures c.sign_end-unsigned.ensures.start c.digits_at-radix.ensures.radix c.digits_at-radix.ensures.start c.literal_end-end.ensures.end
      (value_some c.minus_at-minus.result c.digits_at-radix.result.0 c.in-Ok.number (digits_of (take (c.literal_end-end.result - c.digits_at-radix.result.1) (drop c.digits_at-radix.result.1 c.args.bytes.now))) c.in-Ok.ensures.0 c.in-Ok.ensures.1 ∙ c.in-Ok-signed.ensures ∙ ap Some (sym (to_z-of_z w128 c.in-Ok-signed.value (search rules)))),
  c.literal_end-end.ensures.within,
)
