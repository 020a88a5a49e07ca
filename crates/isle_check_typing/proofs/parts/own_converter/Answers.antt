use Rattle.std.proofs.Common.{◌≡◌, ℕ, ◌-◌, suc, List, Option, Some, true, string_bytes, ap, arith, rules, sym, ◌∙◌}
use Rattle.std.specs.Str.{bytes_eq}
use Rattle.isle_check_environment.specs.signatures.Views.{environment_of, term_of}
use Rattle.isle_check_typing.specs.PatternTypes.{own_by, type_at}
use Rattle.isle_check_typing.specs.Typed.{TypedNode}
use Rattle.isle_check_typing.specs.Typings.{Typing}
use Rattle.isle_check_typing.proofs.Puts.{one, put-own}
use Rattle.isle_check_typing.proofs.parts.own_converter.Goals as goal

pub returns-clause-own : goal.returns-clause-own
returns-clause-own c = λ p place s.
    let env = environment_of c.args.env.now in
    let d = c.args.depth - 1 in
    let conv = string_bytes c.args.converter.now in
    let ty = c.args.ty.now in
    let node = term_of c.in-Some.term.now in
    let own : List ℕ → Option (Typing TypedNode) = λ name. own_by (type_at d env) env node name (one p) place ty s in
    let known : env.terms conv ≡ Some node = ap env.terms (sym c.as_str.ensures.value) ∙ sym c.in-Some.ensures.known in
    let same : bytes_eq node.ret ty ≡ true = (search rules) in
    let deeper : c.args.depth ≡ suc d = let positive = c.if-depth-eq0.false in omega arith in
    put-own env c.args.depth d deeper conv node p place ty s known same
    ∙ ap own (sym (c.in-Some.ensures.same ∙ c.as_str.ensures.value))
