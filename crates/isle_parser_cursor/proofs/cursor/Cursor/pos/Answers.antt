use Rattle.isle_parser_cursor.proofs.Ahead.{is_unknown, nowhere_left}
use Rattle.isle_parser_cursor.proofs.cursor.Cursor.pos.Goals as goal

pub returns-then-self : goal.returns-then-self
returns-then-self c = rw (nowhere_left c.args.self.now c.if-self.true) (is_unknown c.default.result c.default.ensures.0 c.default.ensures.1)
