use Rattle.std.proofs.Common.{◌≡◌, ap, sym, ◌∙◌}
use Rattle.std.proofs.lemmas.Result.{IfOk-weaker}
use Rattle.isle_ast.specs.TreeView.{definitions_of}
use Rattle.isle_check_environment.specs.Parts.{type_names}
use Rattle.isle_check_environment.specs.Types.{is_type, is_type_in}
use Rattle.isle_check_environment.specs.Views.{decls_at, types_at}
use Rattle.isle_check_declarations.specs.TermFaults.{term_faults, term_faults_of}
use Rattle.isle_check_declarations.specs.Views.{faults_of}
use Rattle.isle_check_declarations.proofs.Collecting.{of-program}
use Rattle.isle_check_declarations.proofs.terms.term_faults.Goals as goal

pub returns : goal.returns
returns c =
    IfOk-weaker c.declare.result _ (λ found. faults_of found.items ≡ term_faults (definitions_of c.args.defs.now))
    (λ found told. (told c.no_names-terms.ensures).1
    ∙ of-program term_faults_of (is_type_in c.in_ok-known.known) (decls_at c.deref-3.result.now) (types_at c.deref-2.result.now) (definitions_of c.args.defs.now)
    (c.in_ok-known.ensures.types ∙ ap (λ us. is_type (type_names (types_at us))) (c.deref.ensures.value ∙ sym c.deref-2.ensures.value))
    (ap decls_at c.deref-3.ensures.value ∙ c.in_ok-decls.ensures)
    (ap types_at c.deref-2.ensures.value ∙ c.in_ok-types.ensures))
    c.declare.ensures
