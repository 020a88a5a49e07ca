use Rattle.std.proofs.Common.{◌≡◌, [], ◌∷◌, ◌++◌, map, sym, ◌∙◌, rules}
use Rattle.std.proofs.lemmas.Result.{err_from_is_err_and}
use Rattle.std.proofs.lemmas.List.{map_push}
use Rattle.isle_ast.specs.Tree.{tuple_fields}
use Rattle.isle_parser_cursor.specs.Outcomes.{left, source}
use Rattle.isle_parser_cursor.specs.NameReaders.{name}
use Rattle.isle_parser.specs.TypeReaders.{numbered}
use Rattle.isle_parser_cursor.specs.Reading.{at_rparen, many, pos_ahead}
use Rattle.isle_parser_cursor.proofs.Loops.{loop_push, loop_stops, loop_end, made_stops, made_end}
use Rattle.isle_parser_cursor.proofs.Names.{name_shrinks}
use Rattle.isle_parser.proofs.Lists.{type_name, counted_push}
use Rattle.isle_parser.proofs.parser.types.parse_tuple_fields.Goals as goal

pub returns-in_err-parse_tuple_field : goal.returns-in_err-parse_tuple_field
returns-in_err-parse_tuple_field c = record {
  same = search rules;
  gives =
      let p = err_from_is_err_and c.from_residual.result c.from_residual.ensures.1 in
      let all = left c.args.cursor.now in
      rw (p.1, p.2) (made_stops (λ tys. tuple_fields (numbered 0 tys) (pos_ahead all)) (many at_rparen name all) (source c.parse_tuple_field.new.cursor) c.in_err-parse_tuple_field.field-0.0
      (loop_stops name at_rparen name_shrinks (map type_name c.loop-alloc.fields.items) (left c.loop-alloc.cursor) (many at_rparen name all) (source c.parse_tuple_field.new.cursor)
      c.in_err-parse_tuple_field.field-0.0 (sym c.loop-alloc-test.ensures) c.in_err-parse_tuple_field.ensures.reads.gives c.loop-alloc.invariant.so_far));
}

pub loop-alloc-smaller : goal.loop-alloc-smaller
loop-alloc-smaller c = name_shrinks (left c.loop-alloc.cursor) (left c.parse_tuple_field.new.cursor) (type_name c.in_ok-parse_tuple_field.field-0) c.in_ok-parse_tuple_field.ensures.reads.gives

pub loop-alloc-preserved : goal.loop-alloc-preserved
loop-alloc-preserved c =
    let x = c.in_ok-parse_tuple_field.field-0 in
    let e : map type_name c.push.new.self.items ≡ map type_name c.loop-alloc.fields.items ++ type_name x ∷ [] = rw c.in_ok-push.ensures.items (map_push _ c.loop-alloc.fields.items x) in
    record {
      same = c.in_ok-parse_tuple_field.ensures.reads.same ∙ c.loop-alloc.invariant.same;
      so_far = rw e (loop_push name at_rparen name_shrinks (map type_name c.loop-alloc.fields.items) (left c.loop-alloc.cursor) (left c.parse_tuple_field.new.cursor) (type_name x)
          (many at_rparen name (left c.args.cursor.now)) (sym c.loop-alloc-test.ensures) c.in_ok-parse_tuple_field.ensures.reads.gives c.loop-alloc.invariant.so_far);
      counted = rw c.in_ok-push.ensures.items (counted_push c.loop-alloc.fields.items x c.len-index.result (c.len-index.ensures ∙ c.loop-alloc.fields.ok.0) c.in_ok-parse_tuple_field.ensures.field c.loop-alloc.invariant.counted);
    }

pub returns : goal.returns
returns c = record {
  same = search rules;
  gives =
      let all = left c.args.cursor.now in
      rw (c.pos-pos.ensures, c.loop-alloc.invariant.counted) (made_end (λ tys. tuple_fields (numbered 0 tys) (pos_ahead all)) (many at_rparen name all) (map type_name c.loop-alloc.fields.items) (left c.loop-alloc.cursor)
      (loop_end name at_rparen name_shrinks (map type_name c.loop-alloc.fields.items) (left c.loop-alloc.cursor) (many at_rparen name all) (sym c.loop-alloc-test.ensures) c.loop-alloc.invariant.so_far));
}
