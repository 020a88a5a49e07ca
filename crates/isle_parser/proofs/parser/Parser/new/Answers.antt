use Rattle.std.proofs.Common.{rules, tests}
use Rattle.isle_parser.proofs.parser.Parser.new.Goals as goal

pub returns-clause-positions : goal.returns-clause-positions
returns-clause-positions c = search (tests, rules)
