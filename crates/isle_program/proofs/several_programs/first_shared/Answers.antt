use Rattle.std.proofs.Common.{◌∷◌, ap, map, sym, ◌∙◌}
use Rattle.isle_ast.specs.TreeView.{declaration_of}
use Rattle.isle_cli.specs.Sources.{source_of}
use Rattle.isle_program.specs.SeveralPrograms.{declared, shared_with}
use Rattle.isle_program.proofs.SharedLemmas.{shared-found, shared-later}
use Rattle.isle_program.proofs.several_programs.first_shared.Goals as goal

pub returns-then-is_some : goal.returns-then-is_some
returns-then-is_some c =
    let sources = map source_of c.args.sources.now in
    let before = c.loop-decl.invariant in
    let x = c.decl-item.result in
    let exact = c.shared_with-shared.ensures ∙ ap (shared_with sources (declared (declaration_of x.now))) (c.place_of.ensures before.0 before.1) in
    shared-found sources before.0 c.args.decls.now c.loop-decl.decl-index x c.shared_with-shared.result c.loop-decl-test.true c.decl-item.is exact
    (sym c.is_some.ensures ∙ c.if-is_some.true) ∙ before.2

pub loop-decl-preserved : goal.loop-decl-preserved
loop-decl-preserved c =
    let sources = map source_of c.args.sources.now in
    let before = c.loop-decl.invariant in
    let x = c.decl-item.result in
    let exact = c.shared_with-shared.ensures ∙ ap (shared_with sources (declared (declaration_of x.now))) (c.place_of.ensures before.0 before.1) in (
      declared (declaration_of x.now) ∷ before.0,
      c.in_ok-put.ensures before.0 before.1,
      shared-later sources before.0 c.args.decls.now c.loop-decl.decl-index x c.shared_with-shared.result c.loop-decl-test.true c.decl-item.is exact (sym c.is_some.ensures ∙ c.if-is_some.false)
          ∙ before.2,
    )
