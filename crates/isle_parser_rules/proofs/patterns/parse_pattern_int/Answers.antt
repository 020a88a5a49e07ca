use mir.Syntax.{w128}
use Rattle.std.proofs.Common.{rules}
use Rattle.std.proofs.lemmas.Int.{to_z-of_z}
use Rattle.isle_parser_cursor.specs.Outcomes.{left}
use Rattle.isle_parser_rules.proofs.PatternParts.{int_taken}
use Rattle.isle_parser_rules.proofs.patterns.parse_pattern_int.Goals as goal

pub returns : goal.returns
returns c = record {
  same = search rules;
  gives = int_taken (left c.args.cursor.now) (left c.parse_int.new.self) c.in_ok-val.val _ c.args.pos (to_z-of_z w128 c.in_ok-val.val (search rules)) c.in_ok-val.ensures.gives;
}
