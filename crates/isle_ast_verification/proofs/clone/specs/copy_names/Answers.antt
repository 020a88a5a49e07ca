use Rattle.isle_ast_names.proofs.Copies.{copied_names}
use Rattle.isle_ast_verification.proofs.clone.specs.copy_names.Goals as goal

pub returns : goal.returns
returns c = copied_names c.args.names.now.items c.in_ok-copies.copies.items c.in_ok-copies.ensures.cases.0
