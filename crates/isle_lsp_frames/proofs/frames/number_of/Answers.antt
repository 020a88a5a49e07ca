use Rattle.std.proofs.Common.{◌∙◌, refl}
use Rattle.isle_lsp_frames.proofs.Numbers.{no_digits, digits_utf8, number_parsed, digits_from_index}
use Rattle.isle_lsp_frames.proofs.frames.number_of.Goals as goal

pub returns-then-not-are_digits : goal.returns-then-not-are_digits
returns-then-not-are_digits c = no_digits _ (λ h. let t = c.if-not-are_digits.ensures.1 h in cc)

pub returns-in-Err : goal.returns-in-Err
returns-in-Err c = absurd (c.in-Err.ensures.cases.0 (digits_utf8 _ (c.if-not-are_digits.ensures.0 refl)))

pub returns-in-Ok : goal.returns-in-Ok
returns-in-Ok c =
    let same = c.in-Ok.ensures.cases.0 in
    let parsed = rw same at c.parse.ensures.value.0 in
    c.ok.ensures.value ∙ number_parsed _ _ parsed (digits_from_index _ (c.if-not-are_digits.ensures.0 refl))
