use Rattle.std.proofs.Common.{[], ◌++◌, ap, ◌∙◌}
use Rattle.isle_ast.specs.TreeView.{definitions_of}
use Rattle.isle_check_environment.specs.Parts.{extractors_in}
use Rattle.isle_check_environment.specs.Views.{extractors_at}
use Rattle.isle_check_declarations.specs.Views.{faults_of, term_in}
use Rattle.isle_check_declarations.specs.naming.Extractors.{reached, wrong_extractors}
use Rattle.isle_check_declarations.proofs.naming.Collecting.{collected}
use Rattle.isle_check_declarations.proofs.naming.extractors.extractor_faults.Goals as goal

pub returns : goal.returns
returns c =
    let terms = term_in c.args.terms.now in
    collected (λ xs. wrong_extractors terms [] (reached terms xs)) c.new-found.result.items c.add_wrong_extractors.new.found.items
    (extractors_at c.deref.result.now) (extractors_in (definitions_of c.args.defs.now)) c.new-found.ensures.items
    ((c.in_ok-add_wrong_extractors.ensures [] c.no_names-templates.ensures).1
    ∙ ap (λ xs. faults_of c.new-found.result.items ++ wrong_extractors terms [] xs) (ap extractors_at c.deref-2.ensures.value ∙ c.in_ok-extractors.ensures))
    (ap extractors_at c.deref.ensures.value ∙ c.in_ok-given.ensures)
