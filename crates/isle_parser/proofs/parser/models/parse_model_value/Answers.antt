use Rattle.std.proofs.Common.{rules, tests}
use Rattle.isle_parser.specs.ModelReaders.{const_inside, model_content_inside}
use Rattle.isle_parser.proofs.parser.models.parse_model_value.Goals as goal

pub returns-then-branch : goal.returns-then-branch
unfolding model_content_inside const_inside
returns-then-branch c = record {
  same = search rules;
  gives = search (tests, rules);
}

pub returns-then-branch-2 : goal.returns-then-branch-2
unfolding model_content_inside const_inside
returns-then-branch-2 c = record {
  same = search rules;
  gives = search (tests, rules);
}
