use Rattle.std.proofs.Common.{◌∙◌, rules, tests}
use Rattle.std.proofs.lemmas.Iterator.{YieldsList-from_slice}
use Rattle.std.proofs.lemmas.Iterator.Search.{all_from_yields_List}
use Rattle.isle_ast_verification.specs.TreeView.{modified_of}
use Rattle.isle_ast_verification.specs.WritableDeciders.{is_writable_modified}
use Rattle.isle_ast_names.proofs.Writable.Names.{all_meant}
use Rattle.isle_ast_verification.proofs.writability.specs.are_writable_modifies.Goals as goal

pub returns : goal.returns
returns c =
    all_from_yields_List (λ x. is_writable_modified (modified_of x)) _ _ _ c.all.ensures.ran (YieldsList-from_slice c.args.modifies.now cc) (λ x b q k. search (rules, tests))
    ∙ all_meant is_writable_modified modified_of c.args.modifies.now
