use Rattle.std.proofs.Common.{rules, tests}
use Rattle.isle_parser.specs.DefinitionReaders.{declaration}
use Rattle.isle_parser.proofs.parser.terms.parse_decl.Goals as goal

pub returns : goal.returns
unfolding declaration
returns c = record {
  same = search rules;
  gives = search (tests, rules);
}
