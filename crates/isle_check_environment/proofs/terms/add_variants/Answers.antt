use Rattle.std.proofs.Common.{◌≡◌, [], ◌∷◌, List, ◌++◌, drop, map, refl, sym, ap, ◌∙◌, subst}
use Rattle.std.proofs.lemmas.List.{append-nil, drop_all}
use Rattle.isle_ast.specs.TreeView.{variant_of}
use Rattle.isle_ast_names.specs.Tree.{Name}
use Rattle.isle_ast_names.specs.TreeView.{name_of}
use Rattle.isle_check_environment.specs.Names.{Knows}
use Rattle.isle_check_environment.specs.Terms.{full_names}
use Rattle.isle_check_environment.proofs.VariantLemmas.{full_names-step}
use Rattle.isle_check_environment.proofs.terms.add_variants.Goals as goal

pub loop-variant-init : goal.loop-variant-init
loop-variant-init c = λ known knows. (known, knows, refl)

pub loop-variant-preserved : goal.loop-variant-preserved
loop-variant-preserved c = λ known knows.
    let before = c.loop-variant.invariant known knows in
    let name : Name = name_of c.in_ok-name.name in (
      before.0 ++ name ∷ [],
      c.in_ok-add_text.ensures before.0 before.1,
      full_names-step (name_of c.args.enum_name.now) before.0 c.args.variants.now c.loop-variant.variant-index c.variant-item.result name c.loop-variant-test.true
          c.variant-item.is c.in_ok-name.ensures
          ∙ before.2,
    )

pub returns : goal.returns
returns c = λ known knows.
    let before = c.loop-variant.invariant known knows in
    let enum : Name = name_of c.args.enum_name.now in
    let none : drop c.loop-variant.variant-index c.args.variants.now ≡ [] = drop_all c.loop-variant.variant-index c.args.variants.now c.loop-variant-test.false in
    let Known : List Name → Type 0 = Knows c.loop-variant.names in
    subst Known
    (sym (append-nil before.0) ∙ ap (λ vs. before.0 ++ full_names enum (map variant_of vs)) (sym none) ∙ before.2)
    before.1
