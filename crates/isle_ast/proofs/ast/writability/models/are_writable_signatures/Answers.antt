use Rattle.std.proofs.Common.{◌∙◌, rules, tests}
use Rattle.std.proofs.lemmas.Iterator.{YieldsList-from_slice}
use Rattle.std.proofs.lemmas.Iterator.Search.{all_from_yields_List}
use Rattle.isle_ast_names.proofs.Writable.Names.{all_meant}
use Rattle.isle_ast.specs.TreeView.{signature_of}
use Rattle.isle_ast.specs.WritableDeciders.{is_writable_signature}
use Rattle.isle_ast.proofs.ast.writability.models.are_writable_signatures.Goals as goal

pub returns : goal.returns
returns c =
    all_from_yields_List (λ x. is_writable_signature (signature_of x)) _ _ _ c.all.ensures.ran (YieldsList-from_slice c.args.signatures.now cc) (λ x b q k. search (rules, tests))
    ∙ all_meant is_writable_signature signature_of c.args.signatures.now
