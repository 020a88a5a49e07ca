use Rattle.isle_ast_names.proofs.Copies.{copied_name, copied_names}
use Rattle.isle_ast_verification.proofs.clone.specs.SpecMacroClone.clone.Goals as goal

pub returns : goal.returns
returns c = record {
  cases = λ i. record {
    name = copied_name c.args.self.now.name c.in_ok-clone.field-0 c.in_ok-clone.ensures.cases i;
    params = copied_names c.args.self.now.params.items c.in_ok-clone-2.field-0.items c.in_ok-clone-2.ensures.cases.0 i;
    body = c.in_ok-clone-3.ensures.cases i;
    pos = c.args.self.now.pos;
  };
}
