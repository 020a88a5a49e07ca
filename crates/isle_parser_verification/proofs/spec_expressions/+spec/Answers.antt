use mir.Syntax.{w128}
use Rattle.std.proofs.Common.{◌≡◌, rules, [], ◌∷◌, ◌++◌, sym, ◌∙◌, arith}
use Rattle.std.proofs.lemmas.Int.{to_z-of_z}
use Rattle.std.proofs.lemmas.Result.{err_from_is_err_and}
use Rattle.std.proofs.lemmas.List.{map_push}
use Rattle.isle_ast_verification.specs.TreeView.{single_arm_of, single_arms_of, single_field_init_of, single_field_inits_of, single_spec_let_of, single_spec_lets_of, spec_of, specs_of}
use Rattle.isle_parser_cursor.specs.Outcomes.{left, source}
use Rattle.isle_parser_verification.specs.SpecReaders.{arm, field_init, spec_expression, spec_let, spec_pair}
use Rattle.isle_parser_cursor.specs.Reading.{at_rparen, is_lparen, many}
use Rattle.isle_parser_cursor.proofs.Lengths.{expect_shorter}
use Rattle.isle_parser_cursor.proofs.Loops.{behind_front, loop_push, loop_stops, loop_end}
use Rattle.isle_parser_cursor.proofs.Names.{name_shrinks}
use Rattle.isle_parser_verification.proofs.Reading.Parts.{int_taken, let_read, spec_head_shrinks}
use Rattle.isle_parser_verification.proofs.Reading.Shrinks.{arm_shrinks, field_init_shrinks, headed_shrinks, names_keep, spec_let_shrinks, spec_lets_keep, spec_pair_shrinks, spec_shrinks}
use Rattle.isle_parser_verification.proofs.spec_expressions.+spec.Goals as goal

pub parse_spec_expr-returns-then-is_int : goal.parse_spec_expr-returns-then-is_int
parse_spec_expr-returns-then-is_int t c = record {
  same = search rules;
  gives = int_taken (left c.args.cursor.now) (left c.parse_int.new.self) c.in_ok-val.val _ c.pos-start.result (to_z-of_z w128 c.in_ok-val.val (search rules)) c.if-is_lparen.ensures
      c.if-is_sym.ensures c.if-is_int.ensures c.pos-start.ensures c.in_ok-val.ensures.gives;
}

pub parse_spec_inside-parse_behind_spec_head-requires : goal.parse_spec_inside-parse_behind_spec_head-requires
parse_spec_inside-parse_behind_spec_head-requires t c =
    (omega (arith, spec_head_shrinks (left c.args.cursor.now) (left c.parse_spec_head.new.cursor) _ c.in_ok-head.ensures.gives), tt)

pub parse_arm-parse_spec_expr-requires : goal.parse_arm-parse_spec_expr-requires
parse_arm-parse_spec_expr-requires t c = (
  omega (
    arith,
    expect_shorter is_lparen (left c.args.cursor.now) (left c.expect_lparen.new.self) _ c.in_ok-expect_lparen.ensures.gives,
    headed_shrinks (left c.expect_lparen.new.self)
        (left c.parse_headed.new.self) _ c.in_ok-variant.ensures.gives,
  ),
  tt,
)

pub parse_case-parse_spec_expr-requires-2 : goal.parse_case-parse_spec_expr-requires-2
parse_case-parse_spec_expr-requires-2 t c = (
  omega (
    arith,
    expect_shorter is_lparen (left c.args.cursor.now) (left c.expect_lparen.new.self) _ c.in_ok-expect_lparen.ensures.gives,
    spec_shrinks (left c.expect_lparen.new.self)
        (left c.parse_spec_expr.new.cursor) _ c.in_ok-parse_spec_expr.ensures.gives,
  ),
  tt,
)

pub parse_field_init-parse_spec_expr-requires : goal.parse_field_init-parse_spec_expr-requires
parse_field_init-parse_spec_expr-requires t c = (
  omega (
    arith,
    expect_shorter is_lparen (left c.args.cursor.now) (left c.expect_lparen.new.self) _ c.in_ok-expect_lparen.ensures.gives,
    name_shrinks (left c.expect_lparen.new.self)
        (left c.parse_ident.new.self) _ c.in_ok-name.ensures.gives,
  ),
  tt,
)

pub parse_spec_letdef-parse_spec_expr-requires : goal.parse_spec_letdef-parse_spec_expr-requires
parse_spec_letdef-parse_spec_expr-requires t c = (
  omega (
    arith,
    expect_shorter is_lparen (left c.args.cursor.now) (left c.expect_lparen.new.self) _ c.in_ok-expect_lparen.ensures.gives,
    name_shrinks (left c.expect_lparen.new.self)
        (left c.parse_ident.new.self) _ c.in_ok-name.ensures.gives,
  ),
  tt,
)

pub parse_macro-parse_spec_expr-requires : goal.parse_macro-parse_spec_expr-requires
parse_macro-parse_spec_expr-requires t c =
    (omega (arith, names_keep (left c.args.cursor.now) (left c.parse_idents.new.self) _ c.in_ok-params.ensures.gives), tt)

pub parse_with-parse_spec_expr-requires : goal.parse_with-parse_spec_expr-requires
parse_with-parse_spec_expr-requires t c =
    (omega (arith, names_keep (left c.args.cursor.now) (left c.parse_idents.new.self) _ c.in_ok-decls.ensures.gives), tt)

pub parse_match-parse_arms-requires : goal.parse_match-parse_arms-requires
parse_match-parse_arms-requires t c =
    (omega (arith, spec_shrinks (left c.args.cursor.now) (left c.parse_spec_expr.new.cursor) _ c.in_ok-parse_spec_expr.ensures.gives), tt)

pub parse_switch-parse_cases-requires : goal.parse_switch-parse_cases-requires
parse_switch-parse_cases-requires t c =
    (omega (arith, spec_shrinks (left c.args.cursor.now) (left c.parse_spec_expr.new.cursor) _ c.in_ok-subject.ensures.gives), tt)

pub parse_spec_let-parse_spec_expr-requires : goal.parse_spec_let-parse_spec_expr-requires
parse_spec_let-parse_spec_expr-requires t c =
    (omega (arith, spec_lets_keep (left c.args.cursor.now) (left c.parse_spec_letdefs.new.cursor) _ c.in_ok-defs.ensures.gives), tt)

pub parse_spec_let-returns : goal.parse_spec_let-returns
parse_spec_let-returns t c = record {
  same = search rules;
  gives =
      let body : spec_of c.in_ok-body.body.value ≡ spec_of c.in_ok-parse_spec_expr.field-0 = search rules in
      let_read (left c.args.cursor.now) (left c.parse_spec_letdefs.new.cursor) (left c.parse_spec_expr.new.cursor) c.in_ok-defs.defs c.in_ok-body.body c.args.start c.in_ok-defs.ensures.gives
      (rw body c.in_ok-parse_spec_expr.ensures.gives);
}

pub parse_spec_exprs-returns-in_err-parse_spec_expr : goal.parse_spec_exprs-returns-in_err-parse_spec_expr
parse_spec_exprs-returns-in_err-parse_spec_expr t c = record {
  same = search rules;
  gives =
      let p = err_from_is_err_and c.from_residual.result c.from_residual.ensures.1 in
      rw (p.1, p.2) (loop_stops spec_expression at_rparen spec_shrinks (specs_of c.loop-alloc.exprs.items) (left c.loop-alloc.cursor) (many at_rparen spec_expression (left c.args.cursor.now))
      (source c.parse_spec_expr.new.cursor) c.in_err-parse_spec_expr.field-0.0 (sym c.loop-alloc-test.ensures) c.in_err-parse_spec_expr.ensures.gives c.loop-alloc.invariant.so_far);
}

pub parse_spec_exprs-loop-alloc-smaller : goal.parse_spec_exprs-loop-alloc-smaller
parse_spec_exprs-loop-alloc-smaller t c = spec_shrinks (left c.loop-alloc.cursor) (left c.parse_spec_expr.new.cursor) (spec_of c.in_ok-parse_spec_expr.field-0) c.in_ok-parse_spec_expr.ensures.gives

pub parse_spec_exprs-loop-alloc-preserved : goal.parse_spec_exprs-loop-alloc-preserved
parse_spec_exprs-loop-alloc-preserved t c =
    let x = c.in_ok-parse_spec_expr.field-0 in
    let e : specs_of c.push.new.self.items ≡ specs_of c.loop-alloc.exprs.items ++ spec_of x ∷ [] = rw c.in_ok-push.ensures.items (map_push _ c.loop-alloc.exprs.items x) in
    let less = spec_shrinks (left c.loop-alloc.cursor) (left c.parse_spec_expr.new.cursor) (spec_of x) c.in_ok-parse_spec_expr.ensures.gives in
    record {
      same = c.in_ok-parse_spec_expr.ensures.same ∙ c.loop-alloc.invariant.same;
      so_far = rw e (loop_push spec_expression at_rparen spec_shrinks (specs_of c.loop-alloc.exprs.items) (left c.loop-alloc.cursor) (left c.parse_spec_expr.new.cursor) (spec_of x)
          (many at_rparen spec_expression (left c.args.cursor.now)) (sym c.loop-alloc-test.ensures) c.in_ok-parse_spec_expr.ensures.gives c.loop-alloc.invariant.so_far);
      shorter = omega (arith, less, c.loop-alloc.invariant.shorter);
    }

pub parse_spec_exprs-returns : goal.parse_spec_exprs-returns
parse_spec_exprs-returns t c = record {
  same = search rules;
  gives = loop_end spec_expression at_rparen spec_shrinks (specs_of c.loop-alloc.exprs.items) (left c.loop-alloc.cursor) (many at_rparen spec_expression (left c.args.cursor.now))
      (sym c.loop-alloc-test.ensures) c.loop-alloc.invariant.so_far;
}

pub parse_spec_letdef_list-returns-in_err-parse_spec_letdef : goal.parse_spec_letdef_list-returns-in_err-parse_spec_letdef
parse_spec_letdef_list-returns-in_err-parse_spec_letdef t c = record {
  same = search rules;
  gives =
      let p = err_from_is_err_and c.from_residual.result c.from_residual.ensures.1 in
      rw (p.1, p.2) (loop_stops (spec_let spec_expression) at_rparen spec_let_shrinks (single_spec_lets_of c.loop-alloc.defs.items) (left c.loop-alloc.cursor)
      (many at_rparen (spec_let spec_expression) (left c.args.cursor.now)) (source c.parse_spec_letdef.new.cursor) c.in_err-parse_spec_letdef.field-0.0 (sym c.loop-alloc-test.ensures)
      c.in_err-parse_spec_letdef.ensures.gives c.loop-alloc.invariant.so_far);
}

pub parse_spec_letdef_list-loop-alloc-smaller : goal.parse_spec_letdef_list-loop-alloc-smaller
parse_spec_letdef_list-loop-alloc-smaller t c = spec_let_shrinks (left c.loop-alloc.cursor) (left c.parse_spec_letdef.new.cursor) (single_spec_let_of c.in_ok-parse_spec_letdef.field-0) c.in_ok-parse_spec_letdef.ensures.gives

pub parse_spec_letdef_list-loop-alloc-preserved : goal.parse_spec_letdef_list-loop-alloc-preserved
parse_spec_letdef_list-loop-alloc-preserved t c =
    let x = c.in_ok-parse_spec_letdef.field-0 in
    let e : single_spec_lets_of c.push.new.self.items ≡ single_spec_lets_of c.loop-alloc.defs.items ++ single_spec_let_of x ∷ [] = rw c.in_ok-push.ensures.items (map_push _ c.loop-alloc.defs.items x) in
    let less = spec_let_shrinks (left c.loop-alloc.cursor) (left c.parse_spec_letdef.new.cursor) (single_spec_let_of x) c.in_ok-parse_spec_letdef.ensures.gives in
    record {
      same = c.in_ok-parse_spec_letdef.ensures.same ∙ c.loop-alloc.invariant.same;
      so_far = rw e (loop_push (spec_let spec_expression) at_rparen spec_let_shrinks (single_spec_lets_of c.loop-alloc.defs.items) (left c.loop-alloc.cursor) (left c.parse_spec_letdef.new.cursor)
          (single_spec_let_of x) (many at_rparen (spec_let spec_expression) (left c.args.cursor.now)) (sym c.loop-alloc-test.ensures) c.in_ok-parse_spec_letdef.ensures.gives
          c.loop-alloc.invariant.so_far);
      shorter = omega (arith, less, c.loop-alloc.invariant.shorter);
    }

pub parse_spec_letdef_list-returns : goal.parse_spec_letdef_list-returns
parse_spec_letdef_list-returns t c = record {
  same = search rules;
  gives = loop_end (spec_let spec_expression) at_rparen spec_let_shrinks (single_spec_lets_of c.loop-alloc.defs.items) (left c.loop-alloc.cursor)
      (many at_rparen (spec_let spec_expression) (left c.args.cursor.now)) (sym c.loop-alloc-test.ensures) c.loop-alloc.invariant.so_far;
}

pub parse_arms-returns-in_err-parse_arm : goal.parse_arms-returns-in_err-parse_arm
parse_arms-returns-in_err-parse_arm t c = record {
  same = search rules;
  gives =
      let p = err_from_is_err_and c.from_residual.result c.from_residual.ensures.1 in
      rw (p.1, p.2) (loop_stops (arm spec_expression) at_rparen arm_shrinks (single_arms_of c.loop-alloc.arms.items) (left c.loop-alloc.cursor)
      (many at_rparen (arm spec_expression) (left c.args.cursor.now)) (source c.parse_arm.new.cursor) c.in_err-parse_arm.field-0.0 (sym c.loop-alloc-test.ensures) c.in_err-parse_arm.ensures.gives
      c.loop-alloc.invariant.so_far);
}

pub parse_arms-loop-alloc-smaller : goal.parse_arms-loop-alloc-smaller
parse_arms-loop-alloc-smaller t c = arm_shrinks (left c.loop-alloc.cursor) (left c.parse_arm.new.cursor) (single_arm_of c.in_ok-parse_arm.field-0) c.in_ok-parse_arm.ensures.gives

pub parse_arms-loop-alloc-preserved : goal.parse_arms-loop-alloc-preserved
parse_arms-loop-alloc-preserved t c =
    let x = c.in_ok-parse_arm.field-0 in
    let e : single_arms_of c.push.new.self.items ≡ single_arms_of c.loop-alloc.arms.items ++ single_arm_of x ∷ [] = rw c.in_ok-push.ensures.items (map_push _ c.loop-alloc.arms.items x) in
    let less = arm_shrinks (left c.loop-alloc.cursor) (left c.parse_arm.new.cursor) (single_arm_of x) c.in_ok-parse_arm.ensures.gives in
    record {
      same = c.in_ok-parse_arm.ensures.same ∙ c.loop-alloc.invariant.same;
      so_far = rw e (loop_push (arm spec_expression) at_rparen arm_shrinks (single_arms_of c.loop-alloc.arms.items) (left c.loop-alloc.cursor) (left c.parse_arm.new.cursor) (single_arm_of x)
          (many at_rparen (arm spec_expression) (left c.args.cursor.now)) (sym c.loop-alloc-test.ensures) c.in_ok-parse_arm.ensures.gives c.loop-alloc.invariant.so_far);
      shorter = omega (arith, less, c.loop-alloc.invariant.shorter);
    }

pub parse_arms-returns : goal.parse_arms-returns
parse_arms-returns t c = record {
  same = search rules;
  gives = loop_end (arm spec_expression) at_rparen arm_shrinks (single_arms_of c.loop-alloc.arms.items) (left c.loop-alloc.cursor) (many at_rparen (arm spec_expression) (left c.args.cursor.now))
      (sym c.loop-alloc-test.ensures) c.loop-alloc.invariant.so_far;
}

pub parse_field_inits-returns-in_err-parse_field_init : goal.parse_field_inits-returns-in_err-parse_field_init
parse_field_inits-returns-in_err-parse_field_init t c = record {
  same = search rules;
  gives =
      let p = err_from_is_err_and c.from_residual.result c.from_residual.ensures.1 in
      rw (p.1, p.2) (loop_stops (field_init spec_expression) at_rparen field_init_shrinks (single_field_inits_of c.loop-alloc.fields.items) (left c.loop-alloc.cursor)
      (many at_rparen (field_init spec_expression) (left c.args.cursor.now)) (source c.parse_field_init.new.cursor) c.in_err-parse_field_init.field-0.0 (sym c.loop-alloc-test.ensures)
      c.in_err-parse_field_init.ensures.gives c.loop-alloc.invariant.so_far);
}

pub parse_field_inits-loop-alloc-smaller : goal.parse_field_inits-loop-alloc-smaller
parse_field_inits-loop-alloc-smaller t c = field_init_shrinks (left c.loop-alloc.cursor) (left c.parse_field_init.new.cursor) (single_field_init_of c.in_ok-parse_field_init.field-0) c.in_ok-parse_field_init.ensures.gives

pub parse_field_inits-loop-alloc-preserved : goal.parse_field_inits-loop-alloc-preserved
parse_field_inits-loop-alloc-preserved t c =
    let x = c.in_ok-parse_field_init.field-0 in
    let e : single_field_inits_of c.push.new.self.items ≡ single_field_inits_of c.loop-alloc.fields.items ++ single_field_init_of x ∷ [] = rw c.in_ok-push.ensures.items (map_push _ c.loop-alloc.fields.items x) in
    let less = field_init_shrinks (left c.loop-alloc.cursor) (left c.parse_field_init.new.cursor) (single_field_init_of x) c.in_ok-parse_field_init.ensures.gives in
    record {
      same = c.in_ok-parse_field_init.ensures.same ∙ c.loop-alloc.invariant.same;
      so_far = rw e (loop_push (field_init spec_expression) at_rparen field_init_shrinks (single_field_inits_of c.loop-alloc.fields.items) (left c.loop-alloc.cursor)
          (left c.parse_field_init.new.cursor) (single_field_init_of x) (many at_rparen (field_init spec_expression) (left c.args.cursor.now)) (sym c.loop-alloc-test.ensures)
          c.in_ok-parse_field_init.ensures.gives c.loop-alloc.invariant.so_far);
      shorter = omega (arith, less, c.loop-alloc.invariant.shorter);
    }

pub parse_field_inits-returns : goal.parse_field_inits-returns
parse_field_inits-returns t c = record {
  same = search rules;
  gives = loop_end (field_init spec_expression) at_rparen field_init_shrinks (single_field_inits_of c.loop-alloc.fields.items) (left c.loop-alloc.cursor)
      (many at_rparen (field_init spec_expression) (left c.args.cursor.now)) (sym c.loop-alloc-test.ensures) c.loop-alloc.invariant.so_far;
}

pub parse_cases-returns-in_err-parse_case : goal.parse_cases-returns-in_err-parse_case
parse_cases-returns-in_err-parse_case t c = record {
  same = search rules;
  gives =
      let p = err_from_is_err_and c.from_residual-in_err-parse_case.result c.from_residual-in_err-parse_case.ensures.1 in
      rw (p.1, p.2) (loop_stops (spec_pair spec_expression) at_rparen spec_pair_shrinks (specs_of c.loop-alloc.args.items) (left c.loop-alloc.cursor)
      (behind_front (spec_of c.args.subject ∷ []) (many at_rparen (spec_pair spec_expression) (left c.args.cursor.now))) (source c.parse_case.new.cursor) c.in_err-parse_case.field-0.0
      (sym c.loop-alloc-test.ensures) c.in_err-parse_case.ensures.gives c.loop-alloc.invariant.so_far);
}

pub parse_cases-loop-alloc-smaller : goal.parse_cases-loop-alloc-smaller
parse_cases-loop-alloc-smaller t c = spec_pair_shrinks (left c.loop-alloc.cursor) (left c.parse_case.new.cursor) (spec_of c.in_ok-parse_case.field-0) c.in_ok-parse_case.ensures.gives

pub parse_cases-loop-alloc-preserved : goal.parse_cases-loop-alloc-preserved
parse_cases-loop-alloc-preserved t c =
    let x = c.in_ok-parse_case.field-0 in
    let e : specs_of c.push-in-loop-alloc.new.self.items ≡ specs_of c.loop-alloc.args.items ++ spec_of x ∷ [] = rw c.in_ok-push-2.ensures.items (map_push _ c.loop-alloc.args.items x) in
    let less = spec_pair_shrinks (left c.loop-alloc.cursor) (left c.parse_case.new.cursor) (spec_of x) c.in_ok-parse_case.ensures.gives in
    record {
      same = c.in_ok-parse_case.ensures.same ∙ c.loop-alloc.invariant.same;
      so_far = rw e (loop_push (spec_pair spec_expression) at_rparen spec_pair_shrinks (specs_of c.loop-alloc.args.items) (left c.loop-alloc.cursor) (left c.parse_case.new.cursor) (spec_of x)
          (behind_front (spec_of c.args.subject ∷ []) (many at_rparen (spec_pair spec_expression) (left c.args.cursor.now))) (sym c.loop-alloc-test.ensures) c.in_ok-parse_case.ensures.gives
          c.loop-alloc.invariant.so_far);
      shorter = omega (arith, less, c.loop-alloc.invariant.shorter);
    }

pub parse_cases-returns : goal.parse_cases-returns
parse_cases-returns t c = record {
  same = search rules;
  gives = loop_end (spec_pair spec_expression) at_rparen spec_pair_shrinks (specs_of c.loop-alloc.args.items) (left c.loop-alloc.cursor)
      (behind_front (spec_of c.args.subject ∷ []) (many at_rparen (spec_pair spec_expression) (left c.args.cursor.now))) (sym c.loop-alloc-test.ensures) c.loop-alloc.invariant.so_far;
}
