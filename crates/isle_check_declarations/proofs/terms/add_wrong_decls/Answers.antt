use Rattle.std.proofs.Common.{◌≡◌, [], List, ◌++◌, drop, refl, sym, ◌∙◌, subst}
use Rattle.std.proofs.lemmas.List.{drop_all}
use Rattle.isle_ast.specs.TreeView.{declaration_of}
use Rattle.isle_ast_names.specs.Tree.{Name}
use Rattle.isle_check_environment.specs.Names.{Knows}
use Rattle.isle_check_environment.specs.Types.{is_type_in}
use Rattle.isle_check_environment.specs.Views.{decls_at}
use Rattle.isle_check_declarations.specs.TermFaults.{counted, declared, wrong_decls}
use Rattle.isle_check_declarations.specs.Views.{faults_of}
use Rattle.isle_check_declarations.proofs.Declaring.{declared-step, nothing-more, wrong_decls-step}
use Rattle.isle_check_declarations.proofs.terms.add_wrong_decls.Goals as goal

pub loop-decl-init : goal.loop-decl-init
loop-decl-init c = λ earlier knows. (earlier, knows, refl, refl)

pub loop-decl-preserved : goal.loop-decl-preserved
loop-decl-preserved c = λ earlier knows.
    let before = c.loop-decl.invariant earlier knows in
    let step = c.in_ok-add_wrong_decl.ensures before.0 before.1 in (
      before.0 ++ counted (is_type_in c.args.known.now) (declaration_of c.decl-item.result.now),
      step.0,
      declared-step (is_type_in c.args.known.now) before.0 c.args.decls.now c.loop-decl.decl-index c.decl-item.result c.loop-decl-test.true c.decl-item.is
          ∙ before.2,
      wrong_decls-step (is_type_in c.args.known.now) before.0 (faults_of c.loop-decl.found.items) (faults_of c.add_wrong_decl.new.found.items) c.args.decls.now
          c.loop-decl.decl-index c.decl-item.result c.loop-decl-test.true c.decl-item.is step.1
          ∙ before.3,
    )

pub returns : goal.returns
returns c = λ earlier knows.
    let before = c.loop-decl.invariant earlier knows in
    let none : drop c.loop-decl.decl-index c.args.decls.now ≡ [] = drop_all c.loop-decl.decl-index c.args.decls.now c.loop-decl-test.false in
    let Known : List Name → Type 0 = Knows c.loop-decl.terms in (
      subst Known
          (sym (nothing-more before.0 (λ ds. declared (is_type_in c.args.known.now) (decls_at ds)) (drop c.loop-decl.decl-index c.args.decls.now) none refl) ∙ before.2)
          before.1,
      sym (nothing-more (faults_of c.loop-decl.found.items) (λ ds. wrong_decls (is_type_in c.args.known.now) before.0 (decls_at ds)) (drop c.loop-decl.decl-index c.args.decls.now) none refl)
          ∙ before.3,
    )
