use Rattle.isle_ast_names.proofs.Copies.{copied_list}
use Rattle.isle_ast.specs.TreeView.{kind_of}
use Rattle.isle_ast.proofs.ast.clone.AttrClone.clone.Goals as goal

pub returns : goal.returns
returns c = record {
  cases = λ i. record {
    target = c.in_ok-clone.ensures.cases i;
    kinds = copied_list kind_of c.args.self.now.kinds.items c.in_ok-clone-2.field-0.items c.in_ok-clone-2.ensures.cases.0 i;
    pos = c.args.self.now.pos;
  };
}
