use Rattle.isle_ast_names.proofs.Copies.{copied_name, copied_names}
use Rattle.isle_ast.specs.TreeView.{declaration_of}
use Rattle.isle_ast.proofs.ast.clone.DeclClone.clone.Goals as goal

pub returns : goal.returns
returns c = record {
  cases = λ i. record (declaration_of c.args.self.now) {
    term = copied_name c.args.self.now.term c.in_ok-clone.field-0 c.in_ok-clone.ensures.cases i;
    arg_tys = copied_names c.args.self.now.arg_tys.items c.in_ok-clone-2.field-0.items c.in_ok-clone-2.ensures.cases.0 i;
    ret_ty = copied_name c.args.self.now.ret_ty c.in_ok-clone-3.field-0 c.in_ok-clone-3.ensures.cases i;
  };
}
