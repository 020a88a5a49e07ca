use Rattle.std.proofs.Common.{refl}
use Rattle.isle_base.specs.Steps.{placed_ref}
use Rattle.isle_parser_cursor.specs.Outcomes.{source}
use Rattle.isle_parser_cursor.proofs.Ahead.{place_ahead}
use Rattle.isle_parser_cursor.proofs.cursor.Cursor.place.Goals as goal

pub returns-in-Some-clause-place : goal.returns-in-Some-clause-place
returns-in-Some-clause-place c = place_ahead c.args.self.now.scanner (source c.args.self.now) (placed_ref c.in-Some.field-0.now) c.in-Some.ensures.value c.peek.ensures.within refl refl
