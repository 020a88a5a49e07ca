use Rattle.std.proofs.Common.{ap, sym, ◌∙◌, is_some}
use Rattle.isle_ast.specs.TreeView.{definitions_of}
use Rattle.isle_check_environment.specs.Names.{has}
use Rattle.isle_check_environment.specs.Parts.{type_names}
use Rattle.isle_check_environment.specs.Types.{is_type, is_type_in}
use Rattle.isle_check_environment.specs.Views.{decls_at, types_at}
use Rattle.isle_check_declarations.specs.TermFaults.{term_names}
use Rattle.isle_check_declarations.specs.Terms.{counted_decls, decl_of, term_by, terms_of}
use Rattle.isle_check_declarations.proofs.Collecting.{of-program}
use Rattle.isle_check_declarations.proofs.lookup.TermLookup.new.Goals as goal

pub returns : goal.returns
returns c =
    let known = is_type_in c.in_ok-known.known in
    let ds = decls_at c.deref-3.result.now in
    let ts = types_at c.deref-2.result.now in
    let named = (c.in_ok-declare.ensures c.no_names-names.ensures).0 in
    (λ i text. term_by (c.in_ok-decls-2.ensures text i) (is_some (named text i)))
    ∙ ap (λ es text. term_by (decl_of (counted_decls known (decls_at es)) text) (has (term_names known ds ts) text)) (c.deref-4.ensures.value ∙ sym c.deref-3.ensures.value)
    ∙ of-program terms_of known ds ts (definitions_of c.args.defs.now)
    (c.in_ok-known.ensures.types ∙ ap (λ us. is_type (type_names (types_at us))) (c.deref.ensures.value ∙ sym c.deref-2.ensures.value))
    (ap decls_at c.deref-3.ensures.value ∙ c.in_ok-decls.ensures)
    (ap types_at c.deref-2.ensures.value ∙ c.in_ok-types.ensures)
