use Rattle.std.proofs.Common.{◌∙◌, rules, tests}
use Rattle.std.proofs.lemmas.Iterator.{YieldsList-from_slice}
use Rattle.std.proofs.lemmas.Iterator.Search.{all_from_yields_List}
use Rattle.isle_ast_names.specs.TreeView.{name_of}
use Rattle.isle_ast_names.specs.WritableDeciders.{is_name}
use Rattle.isle_ast_names.proofs.Writable.Names.{all_meant}
use Rattle.isle_ast_names.proofs.writability.are_names.Goals as goal

pub returns : goal.returns
returns c =
    all_from_yields_List (λ x. is_name (name_of x)) _ _ _ c.all.ensures.ran (YieldsList-from_slice c.args.names.now cc) (λ x b q k. search (rules, tests))
    ∙ all_meant is_name name_of c.args.names.now
