use Rattle.std.proofs.Common.{◌≡◌, map}
use Rattle.isle_parser_verification.specs.SpecWords.{in_table}
use Rattle.isle_parser_verification.proofs.Words.Tables.{from_row}
use Rattle.isle_parser_verification.proofs.operators.in_table.Given as goal

abbrev pub invariant-loop-name : goal.invariant-loop-name
invariant-loop-name l = from_row l.name-index l.rows l.text ≡ in_table (map (λ row. (row.0.now, row.1)) l.rows) l.text
