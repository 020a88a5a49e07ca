use Rattle.std.proofs.Common.{◌≡◌, [], ◌++◌, drop, refl, sym, ap, ◌∙◌}
use Rattle.std.proofs.lemmas.List.{drop_all}
use Rattle.isle_ast.specs.TreeView.{extern_of}
use Rattle.isle_check_environment.specs.Views.{externs_at}
use Rattle.isle_check_declarations.specs.Views.{faults_of}
use Rattle.isle_check_declarations.specs.naming.Externs.{with_extern_constructor, with_extern_extractor, wrong_extern, wrong_externs}
use Rattle.isle_check_declarations.specs.naming.Views.{known_of}
use Rattle.isle_check_declarations.proofs.naming.StepLemmas.{added, nothing-left}
use Rattle.isle_check_declarations.proofs.naming.externs.wrong_externs.Goals as goal

pub loop-item-init : goal.loop-item-init
loop-item-init c = (
  [],
  [],
  c.no_names-constructors.ensures,
  c.no_names-extractors.ensures,
  ap (λ fs. faults_of fs ++ wrong_externs (known_of c.args.known.now) [] [] (externs_at c.args.externs.now)) c.new-found.ensures.items,
)

pub loop-item-preserved : goal.loop-item-preserved
loop-item-preserved c =
    let before = c.loop-item.invariant in
    let known = known_of c.args.known.now in
    let x = extern_of c.item-item.result.now in
    let step = c.in_ok-add_wrong_extern.ensures before.0 before.1 before.2 before.3 in (
      with_extern_constructor known before.0 x,
      with_extern_extractor known before.1 x,
      step.0,
      step.1,
      added (λ e. extern_of e.now) (wrong_externs known before.0 before.1)
          (wrong_externs known (with_extern_constructor known before.0 x) (with_extern_extractor known before.1 x)) (wrong_extern known before.0 before.1 x)
          (faults_of c.loop-item.found.items) (faults_of c.add_wrong_extern.new.found.items) c.args.externs.now c.loop-item.item-index c.item-item.result
          c.loop-item-test.true c.item-item.is (λ _. refl) step.2
          ∙ before.4,
    )

pub returns : goal.returns
returns c =
    let before = c.loop-item.invariant in
    let none : drop c.loop-item.item-index c.args.externs.now ≡ [] = drop_all c.loop-item.item-index c.args.externs.now c.loop-item-test.false in
    sym (nothing-left (faults_of c.loop-item.found.items) (λ xs. wrong_externs (known_of c.args.known.now) before.0 before.1 (externs_at xs)) (drop c.loop-item.item-index c.args.externs.now) none refl)
    ∙ before.4
