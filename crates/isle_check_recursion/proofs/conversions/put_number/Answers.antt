use Rattle.std.proofs.Common.{Some, cond, ◌&&◌, ◌+◌, string_bytes, ap, ◌∙◌}
use Rattle.std.specs.Str.{bytes_eq}
use Rattle.std.proofs.lemmas.Result.{IfOk-weaker}
use Rattle.isle_ast.specs.TreeView.{conversion_of}
use Rattle.isle_check_recursion.specs.Conversions.{number_from}
use Rattle.isle_check_recursion.proofs.conversions.put_number.Goals as goal

pub returns : goal.returns
returns c =
    let x = conversion_of c.args.converter.now in
    IfOk-weaker c.put_value.result _ _
    (λ _ updates later numbered inner outer.
    let more = number_from (c.args.number + 1) later inner outer in
    updates inner outer
    ∙ ap (λ n. cond (bytes_eq (string_bytes c.in_ok-inner.inner) inner && bytes_eq (string_bytes c.in_ok-outer.outer) outer) (Some c.args.number) n) (numbered inner outer)
    ∙ ap (λ t. cond (bytes_eq t inner && bytes_eq (string_bytes c.in_ok-outer.outer) outer) (Some c.args.number) more) c.in_ok-inner.ensures.cases
    ∙ ap (λ t. cond (bytes_eq x.inner_ty.text inner && bytes_eq t outer) (Some c.args.number) more) c.in_ok-outer.ensures.cases)
    c.put_value.ensures
