use Rattle.isle_parser_cursor.specs.Outcomes.{source}
use Rattle.isle_parser_cursor.proofs.Ahead.{refusal_at}
use Rattle.isle_parser_cursor.proofs.cursor.Cursor.refuse_at.Goals as goal

pub returns : goal.returns
returns c = refusal_at (source c.args.self.now) c.args.place c.refuse.result c.requires c.refuse.ensures
