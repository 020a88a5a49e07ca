use Rattle.std.proofs.Common.{refl}
use Rattle.isle_parser_cursor.specs.Outcomes.{left, source}
use Rattle.isle_parser_cursor.specs.Reading.{take}
use Rattle.isle_parser_cursor.proofs.Ahead.{left_spent, stopped}
use Rattle.isle_parser_cursor.proofs.cursor.Cursor.take.Goals as goal

pub returns-then-self-clause-reads : goal.returns-then-self-clause-reads
returns-then-self-clause-reads c =
    let old = c.args.self.now in
    record { same = refl; gives = stopped (take (left old)) (source old) c.unexpected.result (rw (left_spent old c.if-self.true) refl) c.unexpected.ensures }
