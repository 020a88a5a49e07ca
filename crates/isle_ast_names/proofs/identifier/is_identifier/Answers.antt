use Rattle.std.proofs.Common.{sym, ◌∙◌}
use Rattle.isle_ast_names.proofs.Identifiers.{ascii_identifier}
use Rattle.isle_ast_names.proofs.identifier.is_identifier.Goals as goal

pub returns-then-is_ascii_identifier : goal.returns-then-is_ascii_identifier
returns-then-is_ascii_identifier c =
    c.if-is_ascii_identifier.true ∙ sym (ascii_identifier c.args.text.now c.utf8.text (cc))
