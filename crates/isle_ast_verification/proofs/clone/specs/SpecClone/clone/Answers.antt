use Rattle.isle_ast_verification.specs.TreeView.{spec_of, modified_of}
use Rattle.isle_ast_names.proofs.Copies.{copied_name, copied_names, copied_list}
use Rattle.isle_ast_verification.proofs.clone.specs.SpecClone.clone.Goals as goal

pub returns : goal.returns
returns c = record {
  cases = λ i. record {
    term = copied_name c.args.self.now.term c.in_ok-clone.field-0 c.in_ok-clone.ensures.cases i;
    args = copied_names c.args.self.now.args.items c.in_ok-clone-2.field-0.items c.in_ok-clone-2.ensures.cases.0 i;
    provides = copied_list spec_of c.args.self.now.provides.items c.in_ok-clone-3.field-0.items c.in_ok-clone-3.ensures.cases.0 i;
    requires_ = copied_list spec_of c.args.self.now.requires_.items c.in_ok-clone-4.field-0.items c.in_ok-clone-4.ensures.cases.0 i;
    matches = copied_list spec_of c.args.self.now.matches.items c.in_ok-clone-5.field-0.items c.in_ok-clone-5.ensures.cases.0 i;
    modifies = copied_list modified_of c.args.self.now.modifies.items c.in_ok-clone-6.field-0.items c.in_ok-clone-6.ensures.cases.0 i;
    pos = c.args.self.now.pos;
  };
}
