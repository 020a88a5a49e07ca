use Rattle.isle_base.specs.Place.{in_file}
use Rattle.isle_parser.specs.Parsed.{Parses}
use Rattle.isle_parser.proofs.Positions.Definitions.{known_found, positions_found}
use Rattle.isle_parser.proofs.Whole.{whole_found}
use Rattle.isle_parser.proofs.parser.parse.Goals as goal

pub returns-clause-positions : goal.returns-clause-positions
returns-clause-positions c =
    let parses : Parses (in_file c.args.lexer.file) c.args.lexer c.parse_all.result = rw (c.new-parser.ensures.lexer, c.new-parser.ensures.positions) at c.parse_all.ensures.parses in
    positions_found c.args.lexer c.parse_all.result parses

pub returns-clause-known : goal.returns-clause-known
returns-clause-known c =
    let parses : Parses (in_file c.args.lexer.file) c.args.lexer c.parse_all.result = rw (c.new-parser.ensures.lexer, c.new-parser.ensures.positions) at c.parse_all.ensures.parses in
    known_found c.args.lexer c.parse_all.result (rw c.new-parser.ensures.lexer at c.parse_all.ensures.rising) parses

pub returns-clause-no_macro_arg : goal.returns-clause-no_macro_arg
returns-clause-no_macro_arg c =
    let parses : Parses (in_file c.args.lexer.file) c.args.lexer c.parse_all.result = rw (c.new-parser.ensures.lexer, c.new-parser.ensures.positions) at c.parse_all.ensures.parses in
    whole_found (in_file c.args.lexer.file) c.args.lexer c.parse_all.result parses
