use Rattle.std.proofs.Common.{List, ◌++◌, map, take, subst}
use Rattle.isle_ast.specs.TreeView.{variant_of}
use Rattle.isle_ast_names.specs.TreeView.{name_of}
use Rattle.isle_check_environment.specs.signatures.Entries.{Entry, Holds}
use Rattle.isle_check_environment.specs.signatures.Signatures.{TermNode, variants_entries}
use Rattle.isle_check_environment.specs.signatures.Views.{term_of}
use Rattle.isle_check_environment.proofs.signatures.Adding.{variants-step}
use Rattle.isle_check_environment.proofs.signatures.terms.add_each_variant.Goals as goal

pub loop-variant-preserved : goal.loop-variant-preserved
loop-variant-preserved c = λ entries holds.
    let enum = name_of c.args.enum_name.now in
    let Held : List (Entry TermNode) → Type 0 = Holds term_of c.add_variant.new.terms in
    subst Held
    (variants-step enum entries c.args.variants.now c.loop-variant.variant-index c.variant-item.result c.loop-variant-test.true c.variant-item.is)
    (c.in_ok-add_variant.ensures (entries ++ variants_entries enum (map variant_of (take c.loop-variant.variant-index c.args.variants.now)))
    (c.loop-variant.invariant entries holds))
