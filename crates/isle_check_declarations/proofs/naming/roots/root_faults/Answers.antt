use Rattle.std.proofs.Common.{ap, ◌∙◌}
use Rattle.isle_ast.specs.TreeView.{definitions_of}
use Rattle.isle_check_environment.specs.Parts.{rules_in}
use Rattle.isle_check_environment.specs.Views.{rules_at}
use Rattle.isle_check_declarations.specs.Views.{term_in}
use Rattle.isle_check_declarations.specs.naming.Roots.{wrong_roots}
use Rattle.isle_check_declarations.proofs.naming.Collecting.{collected}
use Rattle.isle_check_declarations.proofs.naming.roots.root_faults.Goals as goal

pub returns : goal.returns
returns c =
    collected (wrong_roots (term_in c.args.terms.now)) c.new-found.result.items c.add_wrong_roots.new.found.items (rules_at c.deref.result.now)
    (rules_in (definitions_of c.args.defs.now)) c.new-found.ensures.items c.in_ok-add_wrong_roots.ensures
    (ap rules_at c.deref.ensures.value ∙ c.in_ok-rules.ensures)
