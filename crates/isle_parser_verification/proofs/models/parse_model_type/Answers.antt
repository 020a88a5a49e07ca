use Rattle.std.proofs.Common.{rules}
use Rattle.isle_base.specs.Token.{rparen}
use Rattle.isle_parser_cursor.specs.Outcomes.{left}
use Rattle.isle_parser_verification.proofs.StructParts.{struct_read}
use Rattle.isle_parser_verification.proofs.models.parse_model_type.Goals as goal

pub returns-in_ok-expect_rparen-in-None : goal.returns-in_ok-expect_rparen-in-None
returns-in_ok-expect_rparen-in-None c = record {
  same = search rules;
  gives =
      let front = rw c.in-None.is at c.in_ok-ty.ensures.reads.gives in
      struct_read (left c.args.cursor.now) (left c.parse_model_front.new.cursor) (left c.parse_model_fields.new.cursor) (left c.expect_rparen.new.self) c.in_ok-fields-in-None.fields rparen
      front c.in_ok-fields-in-None.ensures.gives c.in_ok-expect_rparen-in-None.ensures.reads.gives;
}
