use Rattle.std.proofs.Common.{◌≡◌, [], ◌∷◌, ◌++◌, sym, ◌∙◌, rules}
use Rattle.std.proofs.lemmas.Result.{err_from_is_err_and}
use Rattle.std.proofs.lemmas.List.{map_push}
use Rattle.isle_ast_names.specs.TreeView.{name_of, names_of}
use Rattle.isle_parser_cursor.specs.Outcomes.{left, source}
use Rattle.isle_parser.specs.FormReaders.{tag}
use Rattle.isle_parser_cursor.specs.Reading.{at_rparen, many}
use Rattle.isle_parser_cursor.proofs.Loops.{loop_push, loop_stops, loop_end}
use Rattle.isle_parser.proofs.Reading.Forms.{tag_shrinks}
use Rattle.isle_parser.proofs.parser.forms.parse_tags.Goals as goal

pub returns-in_err-parse_tag : goal.returns-in_err-parse_tag
returns-in_err-parse_tag c = record {
  same = search rules;
  gives =
      let p = err_from_is_err_and c.from_residual.result c.from_residual.ensures.1 in
      rw (p.1, p.2) (loop_stops tag at_rparen tag_shrinks (names_of c.loop-alloc.tags.items) (left c.loop-alloc.cursor) (many at_rparen tag (left c.args.cursor.now))
      (source c.parse_tag.new.cursor) c.in_err-parse_tag.field-0.0 (sym c.loop-alloc-test.ensures) c.in_err-parse_tag.ensures.gives c.loop-alloc.invariant.so_far);
}

pub loop-alloc-smaller : goal.loop-alloc-smaller
loop-alloc-smaller c = tag_shrinks (left c.loop-alloc.cursor) (left c.parse_tag.new.cursor) (name_of c.in_ok-parse_tag.field-0) c.in_ok-parse_tag.ensures.gives

pub loop-alloc-preserved : goal.loop-alloc-preserved
loop-alloc-preserved c =
    let x = c.in_ok-parse_tag.field-0 in
    let e : names_of c.push.new.self.items ≡ names_of c.loop-alloc.tags.items ++ name_of x ∷ [] = rw c.in_ok-push.ensures.items (map_push _ c.loop-alloc.tags.items x) in
    record {
      same = c.in_ok-parse_tag.ensures.same ∙ c.loop-alloc.invariant.same;
      so_far = rw e (loop_push tag at_rparen tag_shrinks (names_of c.loop-alloc.tags.items) (left c.loop-alloc.cursor) (left c.parse_tag.new.cursor) (name_of x)
          (many at_rparen tag (left c.args.cursor.now)) (sym c.loop-alloc-test.ensures) c.in_ok-parse_tag.ensures.gives c.loop-alloc.invariant.so_far);
    }

pub returns : goal.returns
returns c = record {
  same = search rules;
  gives = loop_end tag at_rparen tag_shrinks (names_of c.loop-alloc.tags.items) (left c.loop-alloc.cursor) (many at_rparen tag (left c.args.cursor.now)) (sym c.loop-alloc-test.ensures) c.loop-alloc.invariant.so_far;
}
