use Rattle.std.proofs.Common.{◌≡◌, [], ◌∷◌, ◌++◌, Some, true, SFits, w64, to_z-of_z, sym, subst, ap, ◌∙◌, arith}
use Rattle.std.specs.Float.{float_is_finite}
use Rattle.std.specs.Fmt.{signed_decimal}
use Rattle.std.proofs.lemmas.Result.{on_ok_weaker}
use Rattle.json.specs.Token.{number}
use Rattle.serde_json.proofs.Numbers.{number_of-plus}
use Rattle.serde_json.specs.Data.{float}
use Rattle.serde_json.specs.Find.{to_float}
use Rattle.serde_json.specs.View.{number_view}
use Rattle.isle_lsp_protocol.proofs.Ids.{adds_negative, adds_text_of, adds_unsigned, is_finite}
use Rattle.isle_lsp_protocol.proofs.replies.put_number.Goals as goal

pub returns-in-Some-default-clause-adds : goal.returns-in-Some-default-clause-adds
returns-in-Some-default-clause-adds c =
    on_ok_weaker c.u64.result (λ is. adds_unsigned (number_view c.args.number.now) c.in-Some-default.n _ _ (sym c.in-Some-default.ensures) (omega arith) is) c.u64.ensures.ok

pub returns-in-None-Some-clause-adds : goal.returns-in-None-Some-clause-adds
returns-in-None-Some-clause-adds c =
    let fits : SFits w64 c.in-None-Some.n = grind arith in
    on_ok_weaker c.i64.result (λ is. adds_negative c.args.number.now.n c.in-None-Some.n _ _ c.args.number.now.valid (sym c.in-None-Some.ensures) (sym c.in-None-Some.ensures') fits
    (is ∙ ap (λ z. c.args.out.now.tokens ++ number (signed_decimal z) ∷ []) (to_z-of_z fits)))
    c.i64.ensures.ok

pub returns-in-None-None-clause-adds : goal.returns-in-None-None-clause-adds
returns-in-None-None-clause-adds c =
    let found = is_finite c.args.number.now.n c.args.number.now.valid (sym c.in-None-None.ensures) (sym c.in-None-None.ensures') in
    let same : c.unwrap_or.result ≡ to_float (number_view c.args.number.now) = rw c.as_f64.ensures at c.unwrap_or.ensures in
    let finite = subst (λ x. float_is_finite x ≡ true) (sym same) found.1 in
    on_ok_weaker c.float_with_plus.result
    (λ w. adds_text_of (number_view c.args.number.now) w.0 _ _ w.1 (number_of-plus 16 4 w.0 c.unwrap_or.result w.2 w.3 finite ∙ ap (λ x. Some (float x)) same ∙ ap Some (sym found.0)))
    c.float_with_plus.ensures.layout
