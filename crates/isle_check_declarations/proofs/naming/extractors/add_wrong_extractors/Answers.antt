use Rattle.std.proofs.Common.{◌≡◌, [], List, drop, refl, sym, ap, ◌∙◌, subst}
use Rattle.std.proofs.lemmas.List.{drop_all}
use Rattle.isle_ast_names.specs.Tree.{Name}
use Rattle.isle_ast_rules.specs.TreeView.{extractor_of}
use Rattle.isle_check_environment.specs.Names.{Knows}
use Rattle.isle_check_environment.specs.Views.{extractors_at}
use Rattle.isle_check_declarations.specs.Views.{faults_of, term_in}
use Rattle.isle_check_declarations.specs.naming.Extractors.{template_names, with_template, wrong_extractor, wrong_extractors}
use Rattle.isle_check_declarations.proofs.naming.StepLemmas.{added, next, nothing-left}
use Rattle.isle_check_declarations.proofs.naming.extractors.add_wrong_extractors.Goals as goal

pub loop-extractor-init : goal.loop-extractor-init
loop-extractor-init c = λ earlier knows. (earlier, knows, refl, refl)

pub loop-extractor-preserved : goal.loop-extractor-preserved
loop-extractor-preserved c = λ earlier knows.
    let before = c.loop-extractor.invariant earlier knows in
    let terms = term_in c.args.terms.now in
    let x = extractor_of c.extractor-item.result.now in
    let later = with_template terms before.0 x in
    let step = c.in_ok-add_wrong_extractor.ensures before.0 before.1 in (
      later,
      step.0,
      sym (next (λ e. extractor_of e.now) (template_names terms before.0) c.args.extractors.now c.loop-extractor.extractor-index c.extractor-item.result
          c.loop-extractor-test.true c.extractor-item.is)
          ∙ before.2,
      added (λ e. extractor_of e.now) (wrong_extractors terms before.0) (wrong_extractors terms later) (wrong_extractor terms before.0 x)
          (faults_of c.loop-extractor.found.items) (faults_of c.add_wrong_extractor.new.found.items) c.args.extractors.now c.loop-extractor.extractor-index
          c.extractor-item.result c.loop-extractor-test.true c.extractor-item.is (λ _. refl) step.1
          ∙ before.3,
    )

pub returns : goal.returns
returns c = λ earlier knows.
    let before = c.loop-extractor.invariant earlier knows in
    let terms = term_in c.args.terms.now in
    let none : drop c.loop-extractor.extractor-index c.args.extractors.now ≡ [] = drop_all c.loop-extractor.extractor-index c.args.extractors.now c.loop-extractor-test.false in
    let Known : List Name → Type 0 = Knows c.loop-extractor.templates in (
      subst Known (sym (ap (λ xs. template_names terms before.0 (extractors_at xs)) none) ∙ before.2) before.1,
      sym (nothing-left (faults_of c.loop-extractor.found.items) (λ xs. wrong_extractors terms before.0 (extractors_at xs)) (drop c.loop-extractor.extractor-index c.args.extractors.now) none refl)
          ∙ before.3,
    )
