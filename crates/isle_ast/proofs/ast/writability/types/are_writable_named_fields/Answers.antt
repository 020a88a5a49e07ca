use Rattle.std.proofs.Common.{◌∙◌, rules, tests}
use Rattle.std.proofs.lemmas.Iterator.{YieldsList-from_slice}
use Rattle.std.proofs.lemmas.Iterator.Search.{all_from_yields_List}
use Rattle.isle_ast_names.proofs.Writable.Names.{all_meant}
use Rattle.isle_ast.specs.TreeView.{named_field_of}
use Rattle.isle_ast.specs.WritableDeciders.{is_writable_named_field}
use Rattle.isle_ast.proofs.ast.writability.types.are_writable_named_fields.Goals as goal

pub returns : goal.returns
returns c =
    all_from_yields_List (λ x. is_writable_named_field (named_field_of x)) _ _ _ c.all.ensures.ran (YieldsList-from_slice c.args.fields.now cc) (λ x b q k. search (rules, tests))
    ∙ all_meant is_writable_named_field named_field_of c.args.fields.now
