use Rattle.std.proofs.Common.{rules, tests}
use Rattle.isle_parser.specs.TermReaders.{extern_etor}
use Rattle.isle_parser.proofs.parser.terms.parse_extern_extractor.Goals as goal

pub returns-then-branch : goal.returns-then-branch
unfolding extern_etor
returns-then-branch c = record {
  same = search rules;
  gives = search (tests, rules);
}
