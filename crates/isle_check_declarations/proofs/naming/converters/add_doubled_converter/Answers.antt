use Rattle.std.proofs.Common.{[], ◌∷◌, ◌++◌, cond, refl, sym, ap, ◌∙◌}
use Rattle.std.proofs.lemmas.List.{append-nil}
use Rattle.isle_ast.specs.TreeView.{conversion_of}
use Rattle.isle_check_declarations.specs.Faults.{converter_again, fault}
use Rattle.isle_check_declarations.specs.Views.{faults_of}
use Rattle.isle_check_declarations.proofs.Collecting.{faults-pushed}
use Rattle.isle_check_declarations.proofs.naming.converters.add_doubled_converter.Goals as goal

pub returns-in_ok-push : goal.returns-in_ok-push
returns-in_ok-push c = λ earlier knows.
    let told = c.in_ok-add_pair.ensures earlier knows in
    let x = conversion_of c.args.converter.now in (
      told.0,
      faults-pushed c.args.found.now.items c.push.new.self.items _ _ c.in_ok-push.ensures.items refl
          ∙ ap (λ b. faults_of c.args.found.now.items ++ cond b (fault (converter_again x.inner_ty x.outer_ty) x.pos ∷ []) []) (sym c.if-branch.true ∙ told.1),
    )

pub returns-else-branch : goal.returns-else-branch
returns-else-branch c = λ earlier knows.
    let told = c.in_ok-add_pair.ensures earlier knows in
    let x = conversion_of c.args.converter.now in (
      told.0,
      sym (append-nil (faults_of c.args.found.now.items))
          ∙ ap (λ b. faults_of c.args.found.now.items ++ cond b (fault (converter_again x.inner_ty x.outer_ty) x.pos ∷ []) []) (sym c.if-branch.false ∙ told.1),
    )
