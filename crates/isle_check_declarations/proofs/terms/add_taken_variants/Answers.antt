use Rattle.std.proofs.Common.{◌≡◌, [], List, ◌++◌, drop, map, refl, sym, ap, ◌∙◌, subst}
use Rattle.std.proofs.lemmas.List.{drop_all}
use Rattle.isle_ast.specs.TreeView.{type_definition_of, variant_of}
use Rattle.isle_ast_names.specs.Tree.{Name}
use Rattle.isle_check_environment.specs.Names.{Knows}
use Rattle.isle_check_environment.specs.Views.{types_at}
use Rattle.isle_check_declarations.specs.TermFaults.{free_variants, taken_variants, with_variants}
use Rattle.isle_check_declarations.specs.Views.{faults_of}
use Rattle.isle_check_declarations.proofs.Declaring.{nothing-more, taken_variants-step, with_variants-step}
use Rattle.isle_check_declarations.proofs.terms.add_taken_variants.Goals as goal

pub loop-ty-init : goal.loop-ty-init
loop-ty-init c = λ earlier knows. (earlier, knows, refl, refl)

pub loop-ty-preserved : goal.loop-ty-preserved
loop-ty-preserved c = λ earlier knows.
    let before = c.loop-ty.invariant earlier knows in
    let step = c.in_ok-add_taken_variant.ensures before.0 before.1 in (
      before.0 ++ free_variants (type_definition_of c.ty-item.result.now).name before.0 (map variant_of c.variants_of.result.now),
      step.0,
      with_variants-step before.0 c.args.types.now c.loop-ty.ty-index c.ty-item.result (map variant_of c.variants_of.result.now) c.loop-ty-test.true c.ty-item.is
          c.variants_of.ensures
          ∙ before.2,
      taken_variants-step before.0 (faults_of c.loop-ty.found.items) (faults_of c.add_taken_variant.new.found.items) c.args.types.now c.loop-ty.ty-index c.ty-item.result
          (map variant_of c.variants_of.result.now) c.loop-ty-test.true c.ty-item.is c.variants_of.ensures step.1
          ∙ before.3,
    )

pub returns : goal.returns
returns c = λ earlier knows.
    let before = c.loop-ty.invariant earlier knows in
    let none : drop c.loop-ty.ty-index c.args.types.now ≡ [] = drop_all c.loop-ty.ty-index c.args.types.now c.loop-ty-test.false in
    let Known : List Name → Type 0 = Knows c.loop-ty.terms in (
      subst Known (sym (ap (λ ts. with_variants before.0 (types_at ts)) none) ∙ before.2) before.1,
      sym (nothing-more (faults_of c.loop-ty.found.items) (λ ts. taken_variants before.0 (types_at ts)) (drop c.loop-ty.ty-index c.args.types.now) none refl)
          ∙ before.3,
    )
