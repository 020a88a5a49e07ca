use Rattle.std.proofs.Common.{◌≡◌, [], ◌++◌, drop, refl, sym, ap, ◌∙◌}
use Rattle.std.proofs.lemmas.List.{drop_all}
use Rattle.isle_ast.specs.TreeView.{conversion_of}
use Rattle.isle_check_environment.specs.Types.{is_type_in}
use Rattle.isle_check_environment.specs.Views.{converters_at}
use Rattle.isle_check_declarations.specs.Views.{faults_of, term_in}
use Rattle.isle_check_declarations.specs.naming.Converters.{counted, wrong_converter, wrong_converters}
use Rattle.isle_check_declarations.proofs.naming.PairLemmas.{KnowsPairs-none}
use Rattle.isle_check_declarations.proofs.naming.StepLemmas.{added, nothing-left}
use Rattle.isle_check_declarations.proofs.naming.converters.wrong_converters.Goals as goal

pub loop-converter-init : goal.loop-converter-init
loop-converter-init c = (
  [],
  KnowsPairs-none c.new-pairs.result c.new-pairs.ensures.empty,
  ap (λ fs. faults_of fs ++ wrong_converters (is_type_in c.args.known.now) (term_in c.args.terms.now) [] (converters_at c.args.converters.now)) c.new-found.ensures.items,
)

pub loop-converter-preserved : goal.loop-converter-preserved
loop-converter-preserved c =
    let before = c.loop-converter.invariant in
    let known = is_type_in c.args.known.now in
    let terms = term_in c.args.terms.now in
    let x = conversion_of c.converter-item.result.now in
    let step = c.in_ok-add_wrong_converter.ensures before.0 before.1 in (
      before.0 ++ counted known terms x,
      step.0,
      added (λ e. conversion_of e.now) (wrong_converters known terms before.0) (wrong_converters known terms (before.0 ++ counted known terms x))
          (wrong_converter known terms before.0 x) (faults_of c.loop-converter.found.items) (faults_of c.add_wrong_converter.new.found.items) c.args.converters.now
          c.loop-converter.converter-index c.converter-item.result c.loop-converter-test.true c.converter-item.is (λ _. refl) step.1
          ∙ before.2,
    )

pub returns : goal.returns
returns c =
    let before = c.loop-converter.invariant in
    let none : drop c.loop-converter.converter-index c.args.converters.now ≡ [] = drop_all c.loop-converter.converter-index c.args.converters.now c.loop-converter-test.false in
    sym (nothing-left (faults_of c.loop-converter.found.items) (λ xs. wrong_converters (is_type_in c.args.known.now) (term_in c.args.terms.now) before.0 (converters_at xs))
    (drop c.loop-converter.converter-index c.args.converters.now) none refl)
    ∙ before.2
