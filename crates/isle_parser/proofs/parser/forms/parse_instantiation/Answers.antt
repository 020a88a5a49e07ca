use Rattle.std.proofs.Common.{arith, rules, tests}
use Rattle.isle_parser.specs.FormReaders.{instantiation_of_term}
use Rattle.std.proofs.lemmas.Grind.{common_steps}
use Rattle.isle_parser.proofs.parser.forms.parse_instantiation.Goals as goal

pub returns-then-is_lparen : goal.returns-then-is_lparen
unfolding instantiation_of_term
returns-then-is_lparen c = record {
  same = search rules;
  gives = search (tests, rules);
}

pub returns : goal.returns
unfolding instantiation_of_term
returns c = record {
  same = search rules;
  gives = grind (arith, common_steps);
}
