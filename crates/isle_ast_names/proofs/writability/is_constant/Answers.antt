use Rattle.std.proofs.Common.{sym, ◌∙◌}
use Rattle.isle_ast_names.proofs.Writable.Names.{constant_is_identifier}
use Rattle.isle_ast_names.proofs.writability.is_constant.Goals as goal

pub returns : goal.returns
returns c = c.all_continue.ensures ∙ sym (constant_is_identifier c.args.text.now c.utf8.text)
