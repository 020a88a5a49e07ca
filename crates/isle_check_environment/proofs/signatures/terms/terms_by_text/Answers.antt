use Rattle.std.proofs.Common.{[]}
use Rattle.std.specs.List.{flat_map}
use Rattle.isle_ast.specs.TreeView.{definitions_of}
use Rattle.isle_check_environment.specs.signatures.Signatures.{variant_entries}
use Rattle.isle_check_environment.proofs.signatures.terms.terms_by_text.Goals as goal

pub returns : goal.returns
returns c =
    c.in_ok-add_declared.ensures (flat_map variant_entries (definitions_of c.args.defs.now)) (c.in_ok-add_variants.ensures [] c.no_terms-terms.ensures)
