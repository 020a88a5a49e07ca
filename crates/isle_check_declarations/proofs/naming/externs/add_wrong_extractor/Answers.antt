use Rattle.std.proofs.Common.{◌≡◌, ◌++◌, List, subst, ap, ◌∙◌}
use Rattle.std.specs.HashMap.{get_by_text}
use Rattle.std.proofs.lemmas.Result.{IfOk-weaker}
use Rattle.isle_ast.specs.TreeView.{declaration_of}
use Rattle.isle_ast_names.specs.Tree.{Name}
use Rattle.isle_ast_names.specs.TreeView.{name_of}
use Rattle.isle_check_environment.specs.Names.{Knows, place_of}
use Rattle.isle_check_declarations.specs.Terms.{TermNode, declared_term}
use Rattle.isle_check_declarations.specs.Views.{faults_of, term_in}
use Rattle.isle_check_declarations.specs.naming.Externs.{with_extractor_of, wrong_extractor_of}
use Rattle.isle_check_declarations.proofs.naming.ExternLemmas.{told-alike}
use Rattle.isle_check_declarations.proofs.naming.externs.add_wrong_extractor.Goals as goal

pub returns-in-Declared : goal.returns-in-Declared
returns-in-Declared c =
    let name = name_of c.args.term.now in
    let declared : TermNode = declared_term (declaration_of c.in-Declared.field-0.now) in
    let term : TermNode = term_in c.args.known.now.terms.now name.text in
    let its : declared ≡ term = c.in-Declared.ensures ∙ ap (λ bs. term_in c.args.known.now.terms.now bs) c.as_str.ensures.value in
    let internal = c.place_of-internal.ensures.looked_up ∙ ap (λ bs. get_by_text c.args.known.now.templates bs) c.as_str-in-Declared.ensures.value in
    let Known : List Name → Type 0 = Knows c.add_external.new.extractors in
    IfOk-weaker c.add_external.result _ _
    (λ _ told earlier knows.
    let external = c.place_of-external.ensures.known earlier knows ∙ ap (λ bs. place_of earlier bs) c.as_str-in-Declared-2.ensures.value in (
      subst Known (told-alike (λ t i e. with_extractor_of t i e earlier name c.args.pos) declared term _ _ _ _ its internal external) (told earlier knows).0,
      (told earlier knows).1
          ∙ ap (λ fs. faults_of c.args.found.now.items ++ fs)
          (told-alike (λ t i e. wrong_extractor_of t i e name c.args.pos) declared term _ _ _ _ its internal external),
    ))
    c.add_external.ensures
