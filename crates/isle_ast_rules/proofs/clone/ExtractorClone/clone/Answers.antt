use Rattle.isle_ast_names.proofs.Copies.{copied_name, copied_names}
use Rattle.isle_ast_rules.proofs.clone.ExtractorClone.clone.Goals as goal

pub returns : goal.returns
returns c = record {
  cases = λ i. record {
    term = copied_name c.args.self.now.term c.in_ok-clone.field-0 c.in_ok-clone.ensures.cases i;
    args = copied_names c.args.self.now.args.items c.in_ok-clone-2.field-0.items c.in_ok-clone-2.ensures.cases.0 i;
    template = c.in_ok-clone-3.ensures.cases i;
    pos = c.args.self.now.pos;
  };
}
