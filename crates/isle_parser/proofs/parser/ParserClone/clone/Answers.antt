use Rattle.std.proofs.Common.{rules, tests}
use Rattle.isle_parser.proofs.parser.ParserClone.clone.Goals as goal

pub returns : goal.returns
returns c = search (tests, rules)
