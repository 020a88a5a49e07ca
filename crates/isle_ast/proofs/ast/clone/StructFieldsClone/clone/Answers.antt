use Rattle.isle_ast.specs.Tree.{struct_fields}
use Rattle.isle_ast_names.proofs.Copies.{copied_list}
use Rattle.isle_ast.specs.TreeView.{named_field_of}
use Rattle.isle_ast.proofs.ast.clone.StructFieldsClone.clone.Goals as goal

pub returns : goal.returns
returns c = record {
  cases = λ i. struct_fields
      (copied_list named_field_of c.args.self.now.fields.items c.in_ok-clone.field-0.items c.in_ok-clone.ensures.cases.0 i)
      c.args.self.now.pos;
}
