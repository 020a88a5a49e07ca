use Rattle.isle_ast.specs.Tree.{tuple_fields}
use Rattle.isle_ast_names.proofs.Copies.{copied_list}
use Rattle.isle_ast.specs.TreeView.{indexed_field_of}
use Rattle.isle_ast.proofs.ast.clone.TupleFieldsClone.clone.Goals as goal

pub returns : goal.returns
returns c = record {
  cases = λ i. tuple_fields
      (copied_list indexed_field_of c.args.self.now.fields.items c.in_ok-clone.field-0.items c.in_ok-clone.ensures.cases.0 i)
      c.args.self.now.pos;
}
