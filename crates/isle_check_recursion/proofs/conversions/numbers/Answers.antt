use Rattle.std.proofs.Common.{◌≡◌, ◌-◌, ◌+◌, drop, ap, ◌∙◌, arith}
use Rattle.isle_ast.specs.TreeView.{conversion_of}
use Rattle.isle_check_recursion.specs.Conversions.{number_from}
use Rattle.isle_check_environment.specs.Views.{converters_at}
use Rattle.isle_check_environment.proofs.signatures.ConverterLemmas.{one-before}
use Rattle.isle_check_recursion.proofs.conversions.numbers.Goals as goal

pub loop-number-preserved : goal.loop-number-preserved
loop-number-preserved c =
    let number = c.loop-number.number in
    let later = converters_at (drop number c.args.converters.now) in
    let back : number ≡ number - 1 + 1 = omega (arith, c.loop-number-test.true) in λ inner outer.
    c.in_ok-put_number.ensures later (λ from to. c.loop-number.invariant from to ∙ ap (λ n. number_from n later from to) back) inner outer
    ∙ one-before (λ e. conversion_of e.now) (λ cs. number_from (number - 1) cs inner outer) c.args.converters.now number c.index-converters-number.result
    c.loop-number-test.true c.loop-number.auto.number c.index-converters-number.is
