use Rattle.std.proofs.Common.{◌≡◌, [], ◌∷◌, List, ◌++◌, drop, map, refl, sym, ap, ◌∙◌, subst}
use Rattle.std.proofs.lemmas.List.{drop_all}
use Rattle.isle_ast.specs.TreeView.{type_definition_of, variant_of}
use Rattle.isle_ast_names.specs.Tree.{Name}
use Rattle.isle_ast_names.specs.TreeView.{name_of}
use Rattle.isle_check_environment.specs.Names.{Knows, has}
use Rattle.isle_check_declarations.specs.TermFaults.{free_variants, taken_variant}
use Rattle.isle_check_declarations.specs.Views.{faults_of}
use Rattle.isle_check_declarations.proofs.Collecting.{faults-pushed}
use Rattle.isle_check_declarations.proofs.Declaring.{free-step, free-taken, nothing-more, taken-ends, taken-fault}
use Rattle.isle_check_declarations.proofs.terms.add_taken_variant.Goals as goal

pub loop-variant-init : goal.loop-variant-init
loop-variant-init c = λ earlier knows. (earlier, knows, refl, refl, refl)

pub loop-variant-preserved : goal.loop-variant-preserved
loop-variant-preserved c = λ earlier knows.
    let before = c.loop-variant.invariant earlier knows in
    let name : Name = name_of c.in_ok-name.name in
    let t = type_definition_of c.args.ty.now in
    let free = c.if-has.ensures.known before.0 before.1 ∙ ap (λ bs. has before.0 bs) c.as_str.ensures.value in (
      before.0 ++ name ∷ [],
      c.in_ok-add_text.ensures before.0 before.1,
      before.2,
      free-step t.name before.0 c.args.variants.now c.loop-variant.variant-index c.variant-item.result name c.loop-variant-test.true c.variant-item.is c.in_ok-name.ensures free
          ∙ before.3,
      free-taken t before.0 c.args.variants.now c.loop-variant.variant-index c.variant-item.result name c.loop-variant-test.true c.variant-item.is c.in_ok-name.ensures free
          ∙ before.4,
    )

pub returns-then-has : goal.returns-then-has
returns-then-has c = λ earlier knows.
    let before = c.loop-variant.invariant earlier knows in
    let name : Name = name_of c.in_ok-name.name in
    let t = type_definition_of c.args.ty.now in
    let taken = c.if-has.ensures.known before.0 before.1 ∙ ap (λ bs. has before.0 bs) c.as_str.ensures.value in
    let told = taken-fault t before.0 c.args.variants.now c.loop-variant.variant-index c.variant-item.result name c.loop-variant-test.true c.variant-item.is c.in_ok-name.ensures taken in
    let Known : List Name → Type 0 = Knows c.loop-variant.terms in (
      subst Known
          (taken-ends t.name before.0 c.args.variants.now c.loop-variant.variant-index c.variant-item.result name c.loop-variant-test.true c.variant-item.is c.in_ok-name.ensures taken
          ∙ before.3)
          before.1,
      faults-pushed c.loop-variant.found.items c.push.new.self.items _ _ c.in_ok-push.ensures.items (told ∙ before.4)
          ∙ ap (λ fs. faults_of fs ++ taken_variant t earlier (map variant_of c.args.variants.now)) before.2,
    )

pub returns : goal.returns
returns c = λ earlier knows.
    let before = c.loop-variant.invariant earlier knows in
    let t = type_definition_of c.args.ty.now in
    let none : drop c.loop-variant.variant-index c.args.variants.now ≡ [] = drop_all c.loop-variant.variant-index c.args.variants.now c.loop-variant-test.false in
    let Known : List Name → Type 0 = Knows c.loop-variant.terms in (
      subst Known
          (sym (nothing-more before.0 (λ vs. free_variants t.name before.0 (map variant_of vs)) (drop c.loop-variant.variant-index c.args.variants.now) none refl) ∙ before.3)
          before.1,
      sym (nothing-more (faults_of c.loop-variant.found.items) (λ vs. taken_variant t before.0 (map variant_of vs)) (drop c.loop-variant.variant-index c.args.variants.now) none refl)
          ∙ ap (λ fs. faults_of c.loop-variant.found.items ++ fs) before.4
          ∙ ap (λ fs. faults_of fs ++ taken_variant t earlier (map variant_of c.args.variants.now)) before.2,
    )
