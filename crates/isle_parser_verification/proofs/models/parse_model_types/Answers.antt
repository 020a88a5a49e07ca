use Rattle.std.proofs.Common.{◌≡◌, [], ◌∷◌, ◌++◌, sym, ◌∙◌, rules}
use Rattle.std.specs.Prelude.{map}
use Rattle.std.proofs.lemmas.Result.{err_from_is_err_and}
use Rattle.std.proofs.lemmas.List.{map_push}
use Rattle.isle_ast_verification.specs.TreeView.{type_model_of}
use Rattle.isle_parser_cursor.specs.Outcomes.{left, source}
use Rattle.isle_parser_verification.specs.ModelReaders.{model_type}
use Rattle.isle_parser_cursor.specs.Reading.{at_rparen, many}
use Rattle.isle_parser_cursor.proofs.Loops.{loop_push, loop_stops, loop_end}
use Rattle.isle_parser_verification.proofs.Reading.Models.{model_type_shrinks}
use Rattle.isle_parser_verification.proofs.models.parse_model_types.Goals as goal

pub returns-in_err-parse_model_type : goal.returns-in_err-parse_model_type
returns-in_err-parse_model_type c = record {
  same = search rules;
  gives =
      let p = err_from_is_err_and c.from_residual.result c.from_residual.ensures.1 in
      rw (p.1, p.2) (loop_stops model_type at_rparen model_type_shrinks (map type_model_of c.loop-alloc.params.items) (left c.loop-alloc.cursor) (many at_rparen model_type (left c.args.cursor.now))
      (source c.parse_model_type.new.cursor) c.in_err-parse_model_type.field-0.0 (sym c.loop-alloc-test.ensures) c.in_err-parse_model_type.ensures.gives c.loop-alloc.invariant.so_far);
}

pub loop-alloc-smaller : goal.loop-alloc-smaller
loop-alloc-smaller c = model_type_shrinks (left c.loop-alloc.cursor) (left c.parse_model_type.new.cursor) (type_model_of c.in_ok-parse_model_type.field-0) c.in_ok-parse_model_type.ensures.gives

pub loop-alloc-preserved : goal.loop-alloc-preserved
loop-alloc-preserved c =
    let x = c.in_ok-parse_model_type.field-0 in
    let e : map type_model_of c.push.new.self.items ≡ map type_model_of c.loop-alloc.params.items ++ type_model_of x ∷ [] = rw c.in_ok-push.ensures.items (map_push _ c.loop-alloc.params.items x) in
    record {
      same = c.in_ok-parse_model_type.ensures.same ∙ c.loop-alloc.invariant.same;
      so_far = rw e (loop_push model_type at_rparen model_type_shrinks (map type_model_of c.loop-alloc.params.items) (left c.loop-alloc.cursor) (left c.parse_model_type.new.cursor)
          (type_model_of x) (many at_rparen model_type (left c.args.cursor.now)) (sym c.loop-alloc-test.ensures) c.in_ok-parse_model_type.ensures.gives c.loop-alloc.invariant.so_far);
    }

pub returns : goal.returns
returns c = record {
  same = search rules;
  gives = loop_end model_type at_rparen model_type_shrinks (map type_model_of c.loop-alloc.params.items) (left c.loop-alloc.cursor) (many at_rparen model_type (left c.args.cursor.now))
      (sym c.loop-alloc-test.ensures) c.loop-alloc.invariant.so_far;
}
