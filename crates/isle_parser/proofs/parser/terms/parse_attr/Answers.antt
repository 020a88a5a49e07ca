use Rattle.std.proofs.Common.{rules, tests}
use Rattle.isle_parser.specs.TermReaders.{attribute}
use Rattle.isle_parser.proofs.parser.terms.parse_attr.Goals as goal

pub returns : goal.returns
unfolding attribute
returns c = record {
  same = search rules;
  gives = search (tests, rules);
}
