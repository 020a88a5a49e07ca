use Rattle.std.proofs.Common.{◌≡◌, ℕ, ◌-◌, suc, List, Option, Some, true, string_bytes, ap, arith, rules, sym, ◌∙◌}
use Rattle.std.specs.Str.{bytes_eq}
use Rattle.isle_check_environment.specs.signatures.Views.{environment_of, term_of}
use Rattle.isle_check_typing.specs.Typings.{Typing}
use Rattle.isle_check_typing.specs.expressions.ExpressionTypes.{expression_at, own_by}
use Rattle.isle_check_typing.specs.expressions.TypedExpressions.{TypedExpressionNode}
use Rattle.isle_check_typing.proofs.expressions.Puts.{one, put-own}
use Rattle.isle_check_typing.proofs.expressions.parts.own_converter.Goals as goal

pub returns-clause-own : goal.returns-clause-own
returns-clause-own c = λ flags e place s.
    let env = environment_of c.args.env.now in
    let d = c.args.depth - 1 in
    let conv = string_bytes c.args.converter.now in
    let ty = c.args.ty.now in
    let node = term_of c.in-Some.term.now in
    let own : List ℕ → Option (Typing TypedExpressionNode) = λ name. own_by (expression_at d env flags) flags node name (one e) place s in
    let known : env.terms conv ≡ Some node = ap env.terms (sym c.as_str.ensures.value) ∙ sym c.in-Some.ensures.known in
    let same : bytes_eq node.ret ty ≡ true = (search rules) in
    let deeper : c.args.depth ≡ suc d = let positive = c.if-depth-eq0.false in omega arith in
    put-own env flags c.args.depth d deeper conv node e place ty s known same
    ∙ ap own (sym (c.in-Some.ensures.same ∙ c.as_str.ensures.value))
