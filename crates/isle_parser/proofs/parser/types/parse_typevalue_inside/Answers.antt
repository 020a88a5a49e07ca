use Rattle.std.proofs.Common.{rules, tests}
use Rattle.isle_parser.specs.TypeReaders.{content_inside, enum_content, struct_content}
use Rattle.isle_parser.proofs.parser.types.parse_typevalue_inside.Goals as goal

pub returns-then-branch : goal.returns-then-branch
unfolding content_inside enum_content struct_content
returns-then-branch c = record {
  same = search rules;
  gives = search (tests, rules);
}

pub returns-then-branch-2 : goal.returns-then-branch-2
unfolding content_inside enum_content struct_content
returns-then-branch-2 c = record {
  same = search rules;
  gives = search (tests, rules);
}

pub returns-then-branch-3 : goal.returns-then-branch-3
unfolding content_inside enum_content struct_content
returns-then-branch-3 c = record {
  same = search rules;
  gives = search (tests, rules);
}
