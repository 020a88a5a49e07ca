use Rattle.std.proofs.Common.{rules, tests}
use Rattle.isle_parser.specs.DefinitionReaders.{conversion}
use Rattle.isle_parser.proofs.parser.terms.parse_converter.Goals as goal

pub returns : goal.returns
unfolding conversion
returns c = record {
  same = search rules;
  gives = search (tests, rules);
}
