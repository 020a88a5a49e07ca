use Rattle.std.proofs.Common.{◌≡◌, [], ◌∷◌, ◌++◌, map, sym, ◌∙◌, rules}
use Rattle.std.proofs.lemmas.Result.{err_from_is_err_and}
use Rattle.std.proofs.lemmas.List.{map_push}
use Rattle.isle_ast.specs.Tree.{struct_fields}
use Rattle.isle_ast.specs.TreeView.{named_field_of}
use Rattle.isle_parser_cursor.specs.Outcomes.{left, source}
use Rattle.isle_parser.specs.TypeReaders.{named_field}
use Rattle.isle_parser_cursor.specs.Reading.{at_rparen, many, pos_ahead}
use Rattle.isle_parser_cursor.proofs.Loops.{loop_push, loop_stops, loop_end, made_stops, made_end}
use Rattle.isle_parser.proofs.Reading.Types.{named_field_shrinks}
use Rattle.isle_parser.proofs.parser.types.parse_struct_fields.Goals as goal

pub returns-in_err-parse_struct_field : goal.returns-in_err-parse_struct_field
returns-in_err-parse_struct_field c = record {
  same = search rules;
  gives =
      let p = err_from_is_err_and c.from_residual.result c.from_residual.ensures.1 in
      let all = left c.args.cursor.now in
      rw (p.1, p.2) (made_stops (λ fs. struct_fields fs (pos_ahead all)) (many at_rparen named_field all) (source c.parse_struct_field.new.cursor) c.in_err-parse_struct_field.field-0.0
      (loop_stops named_field at_rparen named_field_shrinks (map named_field_of c.loop-alloc.fields.items) (left c.loop-alloc.cursor) (many at_rparen named_field all)
      (source c.parse_struct_field.new.cursor) c.in_err-parse_struct_field.field-0.0 (sym c.loop-alloc-test.ensures) c.in_err-parse_struct_field.ensures.gives c.loop-alloc.invariant.so_far));
}

pub loop-alloc-smaller : goal.loop-alloc-smaller
loop-alloc-smaller c = named_field_shrinks (left c.loop-alloc.cursor) (left c.parse_struct_field.new.cursor) (named_field_of c.in_ok-parse_struct_field.field-0) c.in_ok-parse_struct_field.ensures.gives

pub loop-alloc-preserved : goal.loop-alloc-preserved
loop-alloc-preserved c =
    let x = c.in_ok-parse_struct_field.field-0 in
    let e : map named_field_of c.push.new.self.items ≡ map named_field_of c.loop-alloc.fields.items ++ named_field_of x ∷ [] = rw c.in_ok-push.ensures.items (map_push _ c.loop-alloc.fields.items x) in
    record {
      same = c.in_ok-parse_struct_field.ensures.same ∙ c.loop-alloc.invariant.same;
      so_far = rw e (loop_push named_field at_rparen named_field_shrinks (map named_field_of c.loop-alloc.fields.items) (left c.loop-alloc.cursor) (left c.parse_struct_field.new.cursor)
          (named_field_of x) (many at_rparen named_field (left c.args.cursor.now)) (sym c.loop-alloc-test.ensures) c.in_ok-parse_struct_field.ensures.gives c.loop-alloc.invariant.so_far);
    }

pub returns : goal.returns
returns c = record {
  same = search rules;
  gives =
      let all = left c.args.cursor.now in
      rw c.pos-pos.ensures (made_end (λ fs. struct_fields fs (pos_ahead all)) (many at_rparen named_field all) (map named_field_of c.loop-alloc.fields.items) (left c.loop-alloc.cursor)
      (loop_end named_field at_rparen named_field_shrinks (map named_field_of c.loop-alloc.fields.items) (left c.loop-alloc.cursor) (many at_rparen named_field all) (sym c.loop-alloc-test.ensures) c.loop-alloc.invariant.so_far));
}
