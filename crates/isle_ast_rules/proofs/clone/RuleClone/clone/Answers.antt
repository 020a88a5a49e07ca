use Rattle.isle_ast_names.proofs.Copies.{copied_option, copied_list}
use Rattle.isle_ast_rules.specs.TreeView.{condition_of}
use Rattle.isle_ast_rules.proofs.clone.RuleClone.clone.Goals as goal

pub returns : goal.returns
returns c = record {
  cases = λ i. record {
    pattern = c.in_ok-clone-3.ensures.cases i;
    iflets = copied_list condition_of c.args.self.now.iflets.items c.in_ok-clone-2.field-0.items c.in_ok-clone-2.ensures.cases.0 i;
    expr = c.in_ok-clone-4.ensures.cases i;
    pos = c.args.self.now.pos;
    prio = c.args.self.now.prio;
    name = copied_option c.args.self.now.name c.in_ok-clone.field-0 c.in_ok-clone.ensures.cases i;
  };
}
