use Rattle.std.proofs.Common.{◌≡◌, [], ◌∷◌, ◌++◌, sym, ◌∙◌, rules}
use Rattle.std.specs.Prelude.{map}
use Rattle.std.proofs.lemmas.Result.{err_from_is_err_and}
use Rattle.std.proofs.lemmas.List.{map_push}
use Rattle.isle_ast.specs.TreeView.{kind_of}
use Rattle.isle_parser_cursor.specs.Outcomes.{left, source}
use Rattle.isle_parser.specs.TermReaders.{kind}
use Rattle.isle_parser_cursor.specs.Reading.{at_rparen, many}
use Rattle.isle_parser_cursor.proofs.Loops.{loop_push, loop_stops, loop_end}
use Rattle.isle_parser.proofs.Reading.Terms.{kind_shrinks}
use Rattle.isle_parser.proofs.parser.terms.parse_attr_kinds.Goals as goal

pub returns-in_err-parse_attr_kind : goal.returns-in_err-parse_attr_kind
returns-in_err-parse_attr_kind c = record {
  same = search rules;
  gives =
      let p = err_from_is_err_and c.from_residual.result c.from_residual.ensures.1 in
      rw (p.1, p.2) (loop_stops kind at_rparen kind_shrinks (map kind_of c.loop-alloc.kinds.items) (left c.loop-alloc.cursor) (many at_rparen kind (left c.args.cursor.now))
      (source c.parse_attr_kind.new.cursor) c.in_err-parse_attr_kind.field-0.0 (sym c.loop-alloc-test.ensures) c.in_err-parse_attr_kind.ensures.gives c.loop-alloc.invariant.so_far);
}

pub loop-alloc-smaller : goal.loop-alloc-smaller
loop-alloc-smaller c = kind_shrinks (left c.loop-alloc.cursor) (left c.parse_attr_kind.new.cursor) (kind_of c.in_ok-parse_attr_kind.field-0) c.in_ok-parse_attr_kind.ensures.gives

pub loop-alloc-preserved : goal.loop-alloc-preserved
loop-alloc-preserved c =
    let x = c.in_ok-parse_attr_kind.field-0 in
    let e : map kind_of c.push.new.self.items ≡ map kind_of c.loop-alloc.kinds.items ++ kind_of x ∷ [] = rw c.in_ok-push.ensures.items (map_push _ c.loop-alloc.kinds.items x) in
    record {
      same = c.in_ok-parse_attr_kind.ensures.same ∙ c.loop-alloc.invariant.same;
      so_far = rw e (loop_push kind at_rparen kind_shrinks (map kind_of c.loop-alloc.kinds.items) (left c.loop-alloc.cursor) (left c.parse_attr_kind.new.cursor) (kind_of x)
          (many at_rparen kind (left c.args.cursor.now)) (sym c.loop-alloc-test.ensures) c.in_ok-parse_attr_kind.ensures.gives c.loop-alloc.invariant.so_far);
    }

pub returns : goal.returns
returns c = record {
  same = search rules;
  gives = loop_end kind at_rparen kind_shrinks (map kind_of c.loop-alloc.kinds.items) (left c.loop-alloc.cursor) (many at_rparen kind (left c.args.cursor.now)) (sym c.loop-alloc-test.ensures) c.loop-alloc.invariant.so_far;
}
