use Rattle.std.proofs.Common.{◌≡◌, [], ap, ◌∙◌}
use Rattle.std.proofs.lemmas.Result.{IfOk-weaker}
use Rattle.isle_ast.specs.TreeView.{definitions_of}
use Rattle.isle_check_environment.specs.Views.{externs_at}
use Rattle.isle_check_declarations.specs.Views.{faults_of, term_in}
use Rattle.isle_check_declarations.specs.naming.Externs.{extern_faults_by, known_by, wrong_externs}
use Rattle.isle_check_declarations.proofs.naming.externs.extern_faults.Goals as goal

pub returns : goal.returns
returns c =
    let ds = definitions_of c.args.defs.now in
    let terms = term_in c.args.terms.now in
    IfOk-weaker c.wrong_externs.result _ (λ found. faults_of found.items ≡ extern_faults_by terms ds)
    (λ found told. told
    ∙ ap (λ k. wrong_externs k [] [] (externs_at c.deref.result.now)) c.in_ok-known.ensures
    ∙ ap (λ xs. wrong_externs (known_by terms ds) [] [] xs) (ap externs_at c.deref.ensures.value ∙ c.in_ok-externs.ensures))
    c.wrong_externs.ensures
