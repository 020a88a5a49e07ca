use Rattle.std.proofs.Common.{◌≡◌, [], ◌∷◌, ◌++◌, sym, ◌∙◌, rules}
use Rattle.std.specs.Prelude.{map}
use Rattle.std.proofs.lemmas.Result.{err_from_is_err_and}
use Rattle.std.proofs.lemmas.List.{map_push}
use Rattle.isle_ast.specs.TreeView.{variant_of}
use Rattle.isle_parser_cursor.specs.Outcomes.{left, source}
use Rattle.isle_parser.specs.TypeReaders.{variant}
use Rattle.isle_parser_cursor.specs.Reading.{at_rparen, many}
use Rattle.isle_parser_cursor.proofs.Loops.{loop_push, loop_stops, loop_end}
use Rattle.isle_parser.proofs.Reading.Types.{variant_shrinks}
use Rattle.isle_parser.proofs.parser.types.parse_type_variants.Goals as goal

pub returns-in_err-parse_type_variant : goal.returns-in_err-parse_type_variant
returns-in_err-parse_type_variant c = record {
  same = search rules;
  gives =
      let p = err_from_is_err_and c.from_residual.result c.from_residual.ensures.1 in
      rw (p.1, p.2) (loop_stops variant at_rparen variant_shrinks (map variant_of c.loop-alloc.variants.items) (left c.loop-alloc.cursor) (many at_rparen variant (left c.args.cursor.now))
      (source c.parse_type_variant.new.cursor) c.in_err-parse_type_variant.field-0.0 (sym c.loop-alloc-test.ensures) c.in_err-parse_type_variant.ensures.gives c.loop-alloc.invariant.so_far);
}

pub loop-alloc-smaller : goal.loop-alloc-smaller
loop-alloc-smaller c = variant_shrinks (left c.loop-alloc.cursor) (left c.parse_type_variant.new.cursor) (variant_of c.in_ok-parse_type_variant.field-0) c.in_ok-parse_type_variant.ensures.gives

pub loop-alloc-preserved : goal.loop-alloc-preserved
loop-alloc-preserved c =
    let x = c.in_ok-parse_type_variant.field-0 in
    let e : map variant_of c.push.new.self.items ≡ map variant_of c.loop-alloc.variants.items ++ variant_of x ∷ [] = rw c.in_ok-push.ensures.items (map_push _ c.loop-alloc.variants.items x) in
    record {
      same = c.in_ok-parse_type_variant.ensures.same ∙ c.loop-alloc.invariant.same;
      so_far = rw e (loop_push variant at_rparen variant_shrinks (map variant_of c.loop-alloc.variants.items) (left c.loop-alloc.cursor) (left c.parse_type_variant.new.cursor) (variant_of x)
          (many at_rparen variant (left c.args.cursor.now)) (sym c.loop-alloc-test.ensures) c.in_ok-parse_type_variant.ensures.gives c.loop-alloc.invariant.so_far);
    }

pub returns : goal.returns
returns c = record {
  same = search rules;
  gives = loop_end variant at_rparen variant_shrinks (map variant_of c.loop-alloc.variants.items) (left c.loop-alloc.cursor) (many at_rparen variant (left c.args.cursor.now))
      (sym c.loop-alloc-test.ensures) c.loop-alloc.invariant.so_far;
}
