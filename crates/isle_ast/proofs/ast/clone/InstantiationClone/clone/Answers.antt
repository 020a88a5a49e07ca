use Rattle.isle_ast_names.proofs.Copies.{copied_name, copied_names, copied_option, copied_list}
use Rattle.isle_ast.specs.TreeView.{signature_of}
use Rattle.isle_ast.proofs.ast.clone.InstantiationClone.clone.Goals as goal

pub returns : goal.returns
returns c = record {
  cases = λ i. record {
    term = copied_name c.args.self.now.term c.in_ok-clone.field-0 c.in_ok-clone.ensures.cases i;
    form = copied_option c.args.self.now.form c.in_ok-clone-2.field-0 c.in_ok-clone-2.ensures.cases i;
    signatures = copied_list signature_of c.args.self.now.signatures.items c.in_ok-clone-3.field-0.items c.in_ok-clone-3.ensures.cases.0 i;
    tags = copied_names c.args.self.now.tags.items c.in_ok-clone-4.field-0.items c.in_ok-clone-4.ensures.cases.0 i;
    pos = c.args.self.now.pos;
  };
}
