use Rattle.std.proofs.Common.{◌≡◌, [], ap, ◌∙◌}
use Rattle.std.proofs.lemmas.Result.{IfOk-weaker}
use Rattle.isle_ast.specs.TreeView.{definitions_of}
use Rattle.isle_check_environment.specs.Parts.{type_names, types_in}
use Rattle.isle_check_environment.specs.Types.{is_type}
use Rattle.isle_check_environment.specs.Views.{converters_at, types_at}
use Rattle.isle_check_declarations.specs.Views.{faults_of, term_in}
use Rattle.isle_check_declarations.specs.naming.Converters.{converter_faults_by, wrong_converters}
use Rattle.isle_check_declarations.proofs.naming.converters.converter_faults.Goals as goal

pub returns : goal.returns
returns c =
    let ds = definitions_of c.args.defs.now in
    let terms = term_in c.args.terms.now in
    let cs = converters_at c.deref-2.result.now in
    let types = is_type (type_names (types_in ds)) in
    IfOk-weaker c.wrong_converters.result _ (λ found. faults_of found.items ≡ converter_faults_by terms ds)
    (λ found told. told
    ∙ ap (λ k. wrong_converters k terms [] cs)
    (c.in_ok-known.ensures.types ∙ ap (λ ts. is_type (type_names ts)) (ap types_at c.deref.ensures.value ∙ c.in_ok-types.ensures))
    ∙ ap (λ xs. wrong_converters types terms [] xs) (ap converters_at c.deref-2.ensures.value ∙ c.in_ok-converters.ensures))
    c.wrong_converters.ensures
