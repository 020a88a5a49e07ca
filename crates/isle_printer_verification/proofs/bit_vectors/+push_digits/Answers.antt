use Rattle.std.proofs.Common.{◌≡◌, ◌∷◌, [], ◌≤◌, ◌<◌, ◌/◌, ◌%◌, ◌++◌, ap, sym, ◌∙◌, string_bytes, rules}
use Rattle.std.specs.Char.{digit_char}
use Rattle.isle_printer_verification.specs.SpecShapes.{radix_text}
use Rattle.isle_printer_verification.proofs.RadixTexts.{radix_text-one, radix_text-more, digit_behind}
use Rattle.isle_printer_verification.proofs.bit_vectors.+push_digits.Goals as goal
use Rattle.isle_printer_verification.proofs.bit_vectors.+push_digits.Goals.{then-val-base+in_ok-push_digits, else-val-base}

pub returns : goal.returns
returns t c =
    elim c.if-val-base.branch [
      | then-val-base+in_ok-push_digits w ↦
          let large : c.args.radix ≤ c.args.val = search rules in
          let before : string_bytes w.push_digits.new.out ≡ string_bytes c.args.out.now ++ radix_text c.args.radix (c.args.val / c.args.radix) = search rules in
          let written : string_bytes c.push_digit.new.out ≡ string_bytes w.push_digits.new.out ++ digit_char (c.args.val % c.args.radix) ∷ [] = search rules in
          written ∙ digit_behind _ _ _ _ before ∙ ap (λ text. string_bytes c.args.out.now ++ text) (sym (radix_text-more _ _ c.requires.low large))
      | else-val-base w ↦
          let small : c.args.val < c.args.radix = search rules in
          let written : string_bytes c.push_digit.new.out ≡ string_bytes c.args.out.now ++ digit_char (c.args.val % c.args.radix) ∷ [] = search rules in
          written ∙ ap (λ text. string_bytes c.args.out.now ++ text) (sym (radix_text-one _ _ c.requires.low small))
    ]
