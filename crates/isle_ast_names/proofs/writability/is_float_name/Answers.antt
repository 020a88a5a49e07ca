use Rattle.std.proofs.Common.{◌∙◌}
use Rattle.isle_ast_names.specs.WritableDeciders.{float_names}
use Rattle.isle_ast_names.proofs.Texts.{any_turned}
use Rattle.isle_ast_names.proofs.writability.is_float_name.Goals as goal

pub returns : goal.returns
returns c = c.contains.ensures.value ∙ any_turned c.args.name.now float_names
