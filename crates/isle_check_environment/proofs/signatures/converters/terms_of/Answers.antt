use Rattle.std.proofs.Common.{drop, ◌∙◌}
use Rattle.isle_ast.specs.TreeView.{conversion_of}
use Rattle.isle_check_environment.specs.Views.{converters_at}
use Rattle.isle_check_environment.specs.signatures.Environment.{converting}
use Rattle.isle_check_environment.proofs.signatures.ConverterLemmas.{one-before}
use Rattle.isle_check_environment.proofs.signatures.converters.terms_of.Goals as goal

pub loop-at-preserved : goal.loop-at-preserved
loop-at-preserved c = λ inner outer.
    c.in_ok-put_converter.ensures (converters_at (drop c.loop-at.at c.args.converters.now)) c.loop-at.invariant inner outer
    ∙ one-before (λ e. conversion_of e.now) (λ cs. converting cs inner outer) c.args.converters.now c.loop-at.at c.index-converters-at.result
    c.loop-at-test.true c.loop-at.auto.at c.index-converters-at.is
