use Rattle.std.proofs.Common.{List, ◌++◌, take, subst}
use Rattle.std.specs.List.{flat_map}
use Rattle.isle_ast.specs.TreeView.{definitions_of}
use Rattle.isle_check_environment.specs.signatures.Entries.{Entry, Holds}
use Rattle.isle_check_environment.specs.signatures.Signatures.{TermNode, declared_entry}
use Rattle.isle_check_environment.specs.signatures.Views.{term_of}
use Rattle.isle_check_environment.proofs.signatures.Adding.{flat-step}
use Rattle.isle_check_environment.proofs.signatures.terms.add_declared.Goals as goal

pub loop-def-preserved : goal.loop-def-preserved
loop-def-preserved c = λ entries holds.
    let Held : List (Entry TermNode) → Type 0 = Holds term_of c.add_declaration.new.terms in
    subst Held
    (flat-step declared_entry entries c.args.defs.now c.loop-def.def-index c.def-item.result c.loop-def-test.true c.def-item.is)
    (c.in_ok-add_declaration.ensures (entries ++ flat_map declared_entry (definitions_of (take c.loop-def.def-index c.args.defs.now)))
    (c.loop-def.invariant entries holds))
