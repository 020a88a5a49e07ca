use Rattle.std.proofs.Common.{arith}
use Rattle.std.specs.Prelude.{codes}
use Rattle.isle_base.specs.Token.{lparen}
use Rattle.isle_parser_cursor.specs.Outcomes.{left}
use Rattle.isle_parser_cursor.specs.Reading.{is_lparen}
use Rattle.isle_parser_cursor.proofs.Lengths.{expect_shorter, flag_shorter}
use Rattle.isle_parser_verification.proofs.models.parse_model_front.Goals as goal

pub returns-then-branch-2-clause-shorter : goal.returns-then-branch-2-clause-shorter
returns-then-branch-2-clause-shorter c =
    omega (
      arith,
      expect_shorter is_lparen (left c.args.cursor.now) (left c.expect_lparen.new.self) lparen c.in_ok-expect_lparen.ensures.gives,
      flag_shorter (codes "bv")
          (left c.expect_lparen.new.self) (left c.eat_sym_str.new.self) c.in_ok-eat_sym_str.field-0 c.in_ok-eat_sym_str.ensures.gives,
      flag_shorter (codes "struct") (left c.eat_sym_str.new.self)
          (left c.eat_sym_str-2.new.self) c.in_ok-eat_sym_str-2.field-0 c.in_ok-eat_sym_str-2.ensures.gives,
    )
