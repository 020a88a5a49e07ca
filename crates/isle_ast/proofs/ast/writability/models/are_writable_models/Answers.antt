use Rattle.std.proofs.Common.{◌∙◌, rules, tests}
use Rattle.std.proofs.lemmas.Iterator.{YieldsList-from_slice}
use Rattle.std.proofs.lemmas.Iterator.Search.{all_from_yields_List}
use Rattle.isle_ast_verification.specs.WritableDeciders.{is_writable_model}
use Rattle.isle_ast_names.proofs.Writable.Names.{all_meant}
use Rattle.isle_ast_verification.specs.TreeView.{type_model_of}
use Rattle.isle_ast.proofs.ast.writability.models.are_writable_models.Goals as goal

pub returns : goal.returns
returns c =
    all_from_yields_List (λ x. is_writable_model (type_model_of x)) _ _ _ c.all.ensures.ran (YieldsList-from_slice c.args.models.now cc) (λ x b q k. search (rules, tests))
    ∙ all_meant is_writable_model type_model_of c.args.models.now
