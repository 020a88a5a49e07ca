use Rattle.std.proofs.Common.{arith}
use Rattle.isle_base.specs.Token.{lparen, rparen}
use Rattle.isle_ast_names.specs.TreeView.{name_of}
use Rattle.isle_ast_verification.specs.TreeView.{type_model_of}
use Rattle.isle_parser_cursor.specs.Outcomes.{left}
use Rattle.isle_parser_cursor.specs.Reading.{is_lparen}
use Rattle.isle_parser_cursor.proofs.Lengths.{expect_shorter}
use Rattle.isle_parser_cursor.proofs.Names.{name_shrinks}
use Rattle.isle_parser_verification.specs.StructParts.{field_with}
use Rattle.isle_parser_verification.proofs.Reading.Models.{model_field_shrinks}
use Rattle.isle_parser_verification.proofs.StructParts.{field_open, field_whole}
use Rattle.isle_ast_verification.specs.declared.ModelType.TheVariants as models
use Rattle.isle_parser_verification.proofs.models.begin_model_field.Goals as goal

pub returns-in_ok-expect_rparen-in-Some-clause-gives : goal.returns-in_ok-expect_rparen-in-Some-clause-gives
returns-in_ok-expect_rparen-in-Some-clause-gives c =
    let front = rw c.in-Some.is at c.in_ok-ty.ensures.reads.gives in
    let whole = field_whole (left c.args.cursor.now) (left c.expect_lparen.new.self) (left c.parse_ident.new.self) (left c.parse_model_front.new.cursor) (left c.expect_rparen.new.self)
    lparen rparen (name_of c.in_ok-name.name) (type_model_of c.in-Some.ty) c.in_ok-expect_lparen.ensures.gives c.in_ok-name.ensures.gives front c.in_ok-expect_rparen-in-Some.ensures.reads.gives in (
      field_with c.in_ok-name.name c.in-Some.ty,
      c.in_ok-push_model_field-in-Some.ensures.items,
      whole,
      model_field_shrinks (left c.args.cursor.now) (left c.expect_rparen.new.self)
          (name_of c.in_ok-name.name, type_model_of c.in-Some.ty) whole,
    )

pub returns-in_ok-push_model_field-in-None-clause-gives : goal.returns-in_ok-push_model_field-in-None-clause-gives
returns-in_ok-push_model_field-in-None-clause-gives c =
    let front = rw c.in-None.is at c.in_ok-ty.ensures.reads.gives in
    let less = rw c.in-None.is at c.in_ok-ty.ensures.shorter in
    let opened = field_open (left c.args.cursor.now) (left c.expect_lparen.new.self) (left c.parse_ident.new.self) (left c.parse_model_front.new.cursor) lparen (name_of c.in_ok-name.name)
    c.in_ok-expect_lparen.ensures.gives c.in_ok-name.ensures.gives front in (
      field_with c.in_ok-name.name models.Unit,
      c.in_ok-push_model_field-in-None.ensures.items,
      opened,
      omega (
        arith,
        less,
        expect_shorter is_lparen (left c.args.cursor.now) (left c.expect_lparen.new.self) lparen c.in_ok-expect_lparen.ensures.gives,
        name_shrinks (left c.expect_lparen.new.self)
            (left c.parse_ident.new.self) (name_of c.in_ok-name.name) c.in_ok-name.ensures.gives,
      ),
    )
