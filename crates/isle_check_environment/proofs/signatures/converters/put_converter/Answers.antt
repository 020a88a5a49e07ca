use Rattle.std.proofs.Common.{string_bytes, refl}
use Rattle.std.proofs.lemmas.Result.{IfOk-weaker}
use Rattle.isle_ast.specs.TreeView.{conversion_of}
use Rattle.isle_check_environment.proofs.signatures.ConverterLemmas.{Converts-put}
use Rattle.isle_check_environment.proofs.signatures.converters.put_converter.Goals as goal

pub returns : goal.returns
returns c =
    IfOk-weaker c.put_value.result _ _
    (λ _ updates later converts.
    Converts-put c.args.terms.now c.put_value.new.values (string_bytes c.in_ok-inner.inner) (string_bytes c.in_ok-outer.outer) _ later
    (conversion_of c.args.converter.now) c.in_ok-inner.ensures.cases c.in_ok-outer.ensures.cases refl updates converts)
    c.put_value.ensures
