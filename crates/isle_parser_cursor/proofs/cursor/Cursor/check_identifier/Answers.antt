use Rattle.isle_ast_names.specs.Identifier.{is_identifier}
use Rattle.isle_parser_cursor.specs.Outcomes.{source}
use Rattle.isle_parser_cursor.proofs.Ahead.{judged}
use Rattle.isle_parser_cursor.proofs.cursor.Cursor.check_identifier.Goals as goal

pub returns : goal.returns
returns c = judged (Unit {0}) (is_identifier c.args.text.now) (source c.args.self.now) c.args.place c.refuse.result c.if-is_identifier.ensures c.requires c.refuse.ensures
