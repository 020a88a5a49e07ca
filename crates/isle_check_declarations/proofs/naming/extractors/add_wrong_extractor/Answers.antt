use Rattle.std.proofs.Common.{List, subst, ap, ◌∙◌}
use Rattle.std.proofs.lemmas.Result.{IfOk-weaker}
use Rattle.isle_ast_names.specs.Tree.{Name}
use Rattle.isle_ast_rules.specs.TreeView.{extractor_of}
use Rattle.isle_check_environment.specs.Names.{Knows}
use Rattle.isle_check_declarations.specs.Terms.{is_unknown}
use Rattle.isle_check_declarations.specs.Views.{faults_of, term_in, term_of}
use Rattle.isle_check_declarations.proofs.naming.ExtractorLemmas.{known-faults, known-template}
use Rattle.isle_check_declarations.proofs.naming.extractors.add_wrong_extractor.Goals as goal

pub returns : goal.returns
returns c =
    let terms = term_in c.args.terms.now in
    let x = extractor_of c.args.extractor.now in
    let known = c.if-lacks.ensures ∙ ap (λ bs. is_unknown (terms bs)) c.as_str-term.ensures.value in
    let its = c.term.ensures ∙ ap terms c.as_str-term.ensures.value in
    let Known : List Name → Type 0 = Knows c.add_known_extractor.new.templates in
    IfOk-weaker c.add_known_extractor.result _ _
    (λ _ told earlier knows. (
      subst Known (known-template terms earlier x (term_of c.term.result) known its) (told earlier knows).0,
      known-faults terms earlier x (term_of c.term.result) (faults_of c.args.found.now.items) (faults_of c.add_unknown_terms.new.found.items)
          (faults_of c.add_known_extractor.new.found.items) known its c.in_ok-add_unknown_terms.ensures (told earlier knows).1,
    ))
    c.add_known_extractor.ensures
