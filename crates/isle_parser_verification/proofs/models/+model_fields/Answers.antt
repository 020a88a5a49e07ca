use Rattle.std.proofs.Common.{map, sym, ◌∙◌, arith, rules}
use Rattle.std.proofs.lemmas.Result.{err_from_is_err_and}
use Rattle.isle_ast_names.specs.TreeView.{name_of}
use Rattle.isle_parser_cursor.specs.Outcomes.{left, source}
use Rattle.isle_parser_verification.specs.StructParts.{field, field_of}
use Rattle.isle_parser_cursor.specs.Reading.{at_rparen, many}
use Rattle.isle_parser_cursor.proofs.Loops.{loop_push, loop_stops, loop_end}
use Rattle.isle_parser_verification.proofs.Reading.Models.{model_field_shrinks}
use Rattle.isle_parser_verification.proofs.StructParts.{ended, inner_stops}
use Rattle.isle_parser_verification.proofs.models.+model_fields.Goals as goal

pub append_model_field-returns-in_err-inner-clause-gives : goal.append_model_field-returns-in_err-inner-clause-gives
append_model_field-returns-in_err-inner-clause-gives t c =
    let p = err_from_is_err_and c.from_residual-in_err-inner.result c.from_residual-in_err-inner.ensures.1 in
    let b = rw c.if-branch.true at c.in_ok-begin_model_field.ensures.gives in
    rw (p.1, p.2) (inner_stops (name_of b.0.name) (left c.args.cursor.now) (left c.begin_model_field.new.cursor) (source c.parse_model_fields.new.cursor) c.in_err-inner.field-0.0 b.2 c.in_err-inner.ensures.gives)

pub append_model_field-returns-then-branch-clause-gives : goal.append_model_field-returns-then-branch-clause-gives
append_model_field-returns-then-branch-clause-gives t c =
    let b = rw c.if-branch.true at c.in_ok-begin_model_field.ensures.gives in
    ended c.end_model_field.result c.args.fields.now.items c.begin_model_field.new.fields.items c.end_model_field.new.fields.items c.in_ok-inner.inner.items (left c.args.cursor.now)
    (left c.begin_model_field.new.cursor) (left c.parse_model_fields.new.cursor) b.0 c.end_model_field.new.cursor b.1 b.2 c.in_ok-inner.ensures.gives c.end_model_field.ensures.reads.gives
    c.end_model_field.ensures.items

pub parse_model_fields-append_model_field-requires : goal.parse_model_fields-append_model_field-requires
parse_model_fields-append_model_field-requires t c = (omega (arith, c.loop-alloc.invariant.shorter), tt)

pub parse_model_fields-returns-in_err-append_model_field : goal.parse_model_fields-returns-in_err-append_model_field
parse_model_fields-returns-in_err-append_model_field t c = record {
  same = search rules;
  gives =
      let p = err_from_is_err_and c.from_residual.result c.from_residual.ensures.1 in
      rw (p.1, p.2) (loop_stops field at_rparen model_field_shrinks (map field_of c.loop-alloc.fields.items) (left c.loop-alloc.cursor) (many at_rparen field (left c.args.cursor.now))
      (source c.append_model_field.new.cursor) c.in_err-append_model_field.field-0.0 (sym c.loop-alloc-test.ensures) c.in_err-append_model_field.ensures.gives c.loop-alloc.invariant.so_far);
}

pub parse_model_fields-loop-alloc-smaller : goal.parse_model_fields-loop-alloc-smaller
parse_model_fields-loop-alloc-smaller t c =
    let a = c.in_ok-append_model_field.ensures.gives in
    model_field_shrinks (left c.loop-alloc.cursor) (left c.append_model_field.new.cursor) a.0 a.1

pub parse_model_fields-loop-alloc-preserved : goal.parse_model_fields-loop-alloc-preserved
parse_model_fields-loop-alloc-preserved t c =
    let a = c.in_ok-append_model_field.ensures.gives in
    let less = model_field_shrinks (left c.loop-alloc.cursor) (left c.append_model_field.new.cursor) a.0 a.1 in
    record {
      same = c.in_ok-append_model_field.ensures.same ∙ c.loop-alloc.invariant.same;
      so_far = rw a.2 (loop_push field at_rparen model_field_shrinks (map field_of c.loop-alloc.fields.items) (left c.loop-alloc.cursor) (left c.append_model_field.new.cursor) a.0
          (many at_rparen field (left c.args.cursor.now)) (sym c.loop-alloc-test.ensures) a.1 c.loop-alloc.invariant.so_far);
      shorter = omega (arith, less, c.loop-alloc.invariant.shorter);
    }

pub parse_model_fields-returns : goal.parse_model_fields-returns
parse_model_fields-returns t c = record {
  same = search rules;
  gives = loop_end field at_rparen model_field_shrinks (map field_of c.loop-alloc.fields.items) (left c.loop-alloc.cursor) (many at_rparen field (left c.args.cursor.now)) (sym c.loop-alloc-test.ensures) c.loop-alloc.invariant.so_far;
}
