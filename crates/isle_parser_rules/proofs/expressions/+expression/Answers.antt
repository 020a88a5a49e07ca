use Rattle.std.proofs.Common.{◌≡◌, [], ◌∷◌, ◌++◌, sym, ◌∙◌, arith, rules}
use Rattle.std.specs.Prelude.{codes}
use Rattle.std.proofs.lemmas.Result.{err_from_is_err_and}
use Rattle.std.proofs.lemmas.List.{map_push}
use Rattle.isle_ast_rules.specs.TreeView.{expression_of, expressions_of, single_let_of, single_lets_of}
use Rattle.isle_ast_names.specs.TreeView.{name_of}
use Rattle.isle_base.specs.Token.{lparen}
use Rattle.isle_parser_cursor.specs.Outcomes.{left, source}
use Rattle.isle_parser_rules.specs.ExpressionReaders.{expression, let_definition}
use Rattle.isle_parser_cursor.specs.Reading.{at_rparen, is_lparen, many}
use Rattle.isle_parser_cursor.proofs.Lengths.{expect_shorter, flag_shorter}
use Rattle.isle_parser_cursor.proofs.Loops.{loop_push, loop_stops, loop_end}
use Rattle.isle_parser_cursor.proofs.Names.{name_shrinks}
use Rattle.isle_parser_rules.proofs.Reading.Expressions.{expression_shrinks, let_definition_shrinks, let_definitions_shrink}
use Rattle.isle_parser_rules.proofs.expressions.+expression.Goals as goal

pub parse_expr-parse_let-requires : goal.parse_expr-parse_let-requires
parse_expr-parse_let-requires t c = (
  omega (
    arith,
    expect_shorter is_lparen (left c.args.cursor.now) (left c.expect_lparen.new.self) lparen c.in_ok-expect_lparen.ensures.gives,
    flag_shorter (codes "let")
        (left c.expect_lparen.new.self) (left c.eat_sym_str.new.self) c.in_ok-eat_sym_str.field-0 c.in_ok-eat_sym_str.ensures.gives,
  ),
  tt,
)

pub parse_expr-parse_term-requires : goal.parse_expr-parse_term-requires
parse_expr-parse_term-requires t c = (
  omega (
    arith,
    expect_shorter is_lparen (left c.args.cursor.now) (left c.expect_lparen.new.self) lparen c.in_ok-expect_lparen.ensures.gives,
    flag_shorter (codes "let")
        (left c.expect_lparen.new.self) (left c.eat_sym_str.new.self) c.in_ok-eat_sym_str.field-0 c.in_ok-eat_sym_str.ensures.gives,
  ),
  tt,
)

pub parse_let-parse_expr-requires : goal.parse_let-parse_expr-requires
parse_let-parse_expr-requires t c =
    (omega (arith, let_definitions_shrink (left c.args.cursor.now) (left c.parse_letdefs.new.cursor) (single_lets_of c.in_ok-defs.defs.items) c.in_ok-defs.ensures.gives), tt)

pub parse_term-parse_exprs-requires : goal.parse_term-parse_exprs-requires
parse_term-parse_exprs-requires t c =
    (omega (arith, name_shrinks (left c.args.cursor.now) (left c.parse_ident.new.self) (name_of c.in_ok-sym.sym) c.in_ok-sym.ensures.gives), tt)

pub parse_letdef-parse_expr-requires : goal.parse_letdef-parse_expr-requires
parse_letdef-parse_expr-requires t c = (
  omega (
    arith,
    expect_shorter is_lparen (left c.args.cursor.now) (left c.expect_lparen.new.self) lparen c.in_ok-expect_lparen.ensures.gives,
    name_shrinks (left c.expect_lparen.new.self)
        (left c.parse_ident.new.self) (name_of c.in_ok-var.var) c.in_ok-var.ensures.gives,
    name_shrinks (left c.parse_ident.new.self) (left c.parse_ident-2.new.self) (name_of c.in_ok-ty.ty)
        c.in_ok-ty.ensures.gives,
  ),
  tt,
)

pub parse_exprs-returns-in_err-expr : goal.parse_exprs-returns-in_err-expr
parse_exprs-returns-in_err-expr t c = record {
  same = search rules;
  gives =
      let p = err_from_is_err_and c.from_residual.result c.from_residual.ensures.1 in
      rw (p.1, p.2) (loop_stops expression at_rparen expression_shrinks (expressions_of c.loop-alloc.exprs.items) (left c.loop-alloc.cursor) (many at_rparen expression (left c.args.cursor.now))
      (source c.parse_expr.new.cursor) c.in_err-expr.field-0.0 (sym c.loop-alloc-test.ensures) c.in_err-expr.ensures.gives c.loop-alloc.invariant.so_far);
}

pub parse_exprs-loop-alloc-smaller : goal.parse_exprs-loop-alloc-smaller
parse_exprs-loop-alloc-smaller t c = expression_shrinks (left c.loop-alloc.cursor) (left c.parse_expr.new.cursor) (expression_of c.in_ok-expr.expr) c.in_ok-expr.ensures.gives

pub parse_exprs-loop-alloc-preserved : goal.parse_exprs-loop-alloc-preserved
parse_exprs-loop-alloc-preserved t c =
    let x = c.in_ok-expr.expr in
    let e : expressions_of c.push_expr.new.exprs.items ≡ expressions_of c.loop-alloc.exprs.items ++ expression_of x ∷ [] = rw c.in_ok-push_expr.ensures.items (map_push _ c.loop-alloc.exprs.items x) in
    let less = expression_shrinks (left c.loop-alloc.cursor) (left c.parse_expr.new.cursor) (expression_of x) c.in_ok-expr.ensures.gives in
    record {
      same = c.in_ok-expr.ensures.same ∙ c.loop-alloc.invariant.same;
      so_far = rw e (loop_push expression at_rparen expression_shrinks (expressions_of c.loop-alloc.exprs.items) (left c.loop-alloc.cursor) (left c.parse_expr.new.cursor) (expression_of x)
          (many at_rparen expression (left c.args.cursor.now)) (sym c.loop-alloc-test.ensures) c.in_ok-expr.ensures.gives c.loop-alloc.invariant.so_far);
      shorter = omega (arith, less, c.loop-alloc.invariant.shorter);
    }

pub parse_exprs-returns : goal.parse_exprs-returns
parse_exprs-returns t c = record {
  same = search rules;
  gives = loop_end expression at_rparen expression_shrinks (expressions_of c.loop-alloc.exprs.items) (left c.loop-alloc.cursor) (many at_rparen expression (left c.args.cursor.now))
      (sym c.loop-alloc-test.ensures) c.loop-alloc.invariant.so_far;
}

pub parse_letdef_list-returns-in_err-parse_letdef : goal.parse_letdef_list-returns-in_err-parse_letdef
parse_letdef_list-returns-in_err-parse_letdef t c = record {
  same = search rules;
  gives =
      let p = err_from_is_err_and c.from_residual.result c.from_residual.ensures.1 in
      rw (p.1, p.2) (loop_stops (let_definition expression) at_rparen let_definition_shrinks (single_lets_of c.loop-alloc.defs.items) (left c.loop-alloc.cursor)
      (many at_rparen (let_definition expression) (left c.args.cursor.now)) (source c.parse_letdef.new.cursor) c.in_err-parse_letdef.field-0.0 (sym c.loop-alloc-test.ensures)
      c.in_err-parse_letdef.ensures.gives c.loop-alloc.invariant.so_far);
}

pub parse_letdef_list-loop-alloc-smaller : goal.parse_letdef_list-loop-alloc-smaller
parse_letdef_list-loop-alloc-smaller t c = let_definition_shrinks (left c.loop-alloc.cursor) (left c.parse_letdef.new.cursor) (single_let_of c.in_ok-parse_letdef.field-0) c.in_ok-parse_letdef.ensures.gives

pub parse_letdef_list-loop-alloc-preserved : goal.parse_letdef_list-loop-alloc-preserved
parse_letdef_list-loop-alloc-preserved t c =
    let x = c.in_ok-parse_letdef.field-0 in
    let e : single_lets_of c.push.new.self.items ≡ single_lets_of c.loop-alloc.defs.items ++ single_let_of x ∷ [] = rw c.in_ok-push.ensures.items (map_push _ c.loop-alloc.defs.items x) in
    let less = let_definition_shrinks (left c.loop-alloc.cursor) (left c.parse_letdef.new.cursor) (single_let_of x) c.in_ok-parse_letdef.ensures.gives in
    record {
      same = c.in_ok-parse_letdef.ensures.same ∙ c.loop-alloc.invariant.same;
      so_far = rw e (loop_push (let_definition expression) at_rparen let_definition_shrinks (single_lets_of c.loop-alloc.defs.items) (left c.loop-alloc.cursor) (left c.parse_letdef.new.cursor)
          (single_let_of x) (many at_rparen (let_definition expression) (left c.args.cursor.now)) (sym c.loop-alloc-test.ensures) c.in_ok-parse_letdef.ensures.gives c.loop-alloc.invariant.so_far);
      shorter = omega (arith, less, c.loop-alloc.invariant.shorter);
    }

pub parse_letdef_list-returns : goal.parse_letdef_list-returns
parse_letdef_list-returns t c = record {
  same = search rules;
  gives = loop_end (let_definition expression) at_rparen let_definition_shrinks (single_lets_of c.loop-alloc.defs.items) (left c.loop-alloc.cursor)
      (many at_rparen (let_definition expression) (left c.args.cursor.now)) (sym c.loop-alloc-test.ensures) c.loop-alloc.invariant.so_far;
}
