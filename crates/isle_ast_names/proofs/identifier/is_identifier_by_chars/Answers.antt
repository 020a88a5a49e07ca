use Rattle.std.proofs.Common.{sym, ◌∙◌}
use Rattle.isle_ast_names.proofs.Identifiers.{identifier_none, identifier_begun, identifier_not_begun}
use Rattle.isle_ast_names.proofs.identifier.is_identifier_by_chars.Goals as goal

pub returns-then-begins_identifier : goal.returns-then-begins_identifier
returns-then-begins_identifier c =
    c.others_continue.ensures ∙ sym (identifier_begun c.args.text.now c.in-Some.first c.utf8.text (cc) (cc))

pub returns-else-begins_identifier : goal.returns-else-begins_identifier
returns-else-begins_identifier c =
    c.if-begins_identifier.false ∙ sym (identifier_not_begun c.args.text.now c.in-Some.first c.utf8.text (cc) (cc))

pub returns-in-None : goal.returns-in-None
returns-in-None c = sym (identifier_none c.args.text.now c.utf8.text (cc))
