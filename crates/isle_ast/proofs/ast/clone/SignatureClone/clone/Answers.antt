use Rattle.isle_ast_names.proofs.Copies.{copied_list}
use Rattle.isle_ast_verification.specs.TreeView.{type_model_of}
use Rattle.isle_ast.proofs.ast.clone.SignatureClone.clone.Goals as goal

pub returns : goal.returns
returns c = record {
  cases = λ i. record {
    args = copied_list type_model_of c.args.self.now.args.items c.in_ok-clone.field-0.items c.in_ok-clone.ensures.cases.0 i;
    ret = c.in_ok-clone-2.ensures.cases i;
    pos = c.args.self.now.pos;
  };
}
