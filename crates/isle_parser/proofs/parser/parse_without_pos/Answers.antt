use Rattle.std.proofs.Common.{rules, tests}
use Rattle.isle_base.specs.Place.{nowhere}
use Rattle.isle_parser.specs.Parsed.{Parses}
use Rattle.isle_parser.proofs.Whole.{erased_found, erased_refused, whole_found}
use Rattle.isle_parser.proofs.parser.parse_without_pos.Goals as goal

pub returns-clause-erased : goal.returns-clause-erased
returns-clause-erased c =
    let parses : Parses nowhere c.args.lexer c.parse_all.result = rw (c.new_without_pos_tracking-parser.ensures.lexer, c.new_without_pos_tracking-parser.ensures.positions) at c.parse_all.ensures.parses in
    erased_found c.args.lexer c.parse_all.result parses

pub returns-clause-refused_by_parse : goal.returns-clause-refused_by_parse
returns-clause-refused_by_parse c =
    let parses : Parses nowhere c.args.lexer c.parse_all.result = rw (c.new_without_pos_tracking-parser.ensures.lexer, c.new_without_pos_tracking-parser.ensures.positions) at c.parse_all.ensures.parses in
    erased_refused c.args.lexer c.parse_all.result parses

pub returns-clause-no_macro_arg : goal.returns-clause-no_macro_arg
returns-clause-no_macro_arg c =
    let parses : Parses nowhere c.args.lexer c.parse_all.result = rw (c.new_without_pos_tracking-parser.ensures.lexer, c.new_without_pos_tracking-parser.ensures.positions) at c.parse_all.ensures.parses in
    whole_found nowhere c.args.lexer c.parse_all.result parses

pub returns-clause-spelt : goal.returns-clause-spelt
returns-clause-spelt c = search (tests, rules)

pub returns-clause-only : goal.returns-clause-only
returns-clause-only c = search (tests, rules)
