use Rattle.isle_parser_cursor.specs.Outcomes.{source}
use Rattle.isle_parser_cursor.proofs.Ahead.{refusal_at}
use Rattle.isle_parser_cursor.proofs.cursor.Cursor.unexpected.Goals as goal

pub returns : goal.returns
returns c = refusal_at (source c.args.self.now) c.place.result c.refuse.result c.place.ensures.place c.refuse.ensures
