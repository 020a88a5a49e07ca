use Rattle.std.proofs.Common.{◌≡◌, [], ◌∷◌, ◌++◌, sym, ◌∙◌, rules}
use Rattle.std.proofs.lemmas.Result.{err_from_is_err_and}
use Rattle.std.proofs.lemmas.List.{map_push}
use Rattle.isle_ast_names.specs.TreeView.{name_of, names_of}
use Rattle.isle_parser_cursor.specs.Outcomes.{left, source}
use Rattle.isle_parser_cursor.specs.NameReaders.{name}
use Rattle.isle_parser_cursor.specs.Reading.{at_rparen, many}
use Rattle.isle_parser_cursor.proofs.Loops.{loop_push, loop_stops, loop_end}
use Rattle.isle_parser_cursor.proofs.Names.{name_shrinks}
use Rattle.isle_parser_cursor.proofs.cursor.Cursor.parse_ident_list.Goals as goal

pub returns-in_err-parse_ident : goal.returns-in_err-parse_ident
returns-in_err-parse_ident c = record {
  same = search rules;
  gives =
      let p = err_from_is_err_and c.from_residual.result c.from_residual.ensures.1 in
      rw (p.1, p.2) (loop_stops name at_rparen name_shrinks (names_of c.loop-alloc.idents.items) (left c.loop-alloc.self) (many at_rparen name (left c.args.self.now))
      (source c.parse_ident.new.self) c.in_err-parse_ident.field-0.0 (sym c.loop-alloc-test.ensures) c.in_err-parse_ident.ensures.gives c.loop-alloc.invariant.so_far);
}

pub loop-alloc-smaller : goal.loop-alloc-smaller
loop-alloc-smaller c = name_shrinks (left c.loop-alloc.self) (left c.parse_ident.new.self) (name_of c.in_ok-parse_ident.field-0) c.in_ok-parse_ident.ensures.gives

pub loop-alloc-preserved : goal.loop-alloc-preserved
loop-alloc-preserved c =
    let x = c.in_ok-parse_ident.field-0 in
    let e : names_of c.push.new.self.items ≡ names_of c.loop-alloc.idents.items ++ name_of x ∷ [] = rw c.in_ok-push.ensures.items (map_push _ c.loop-alloc.idents.items x) in
    record {
      same = c.in_ok-parse_ident.ensures.same ∙ c.loop-alloc.invariant.same;
      so_far = rw e (loop_push name at_rparen name_shrinks (names_of c.loop-alloc.idents.items) (left c.loop-alloc.self) (left c.parse_ident.new.self) (name_of x)
          (many at_rparen name (left c.args.self.now)) (sym c.loop-alloc-test.ensures) c.in_ok-parse_ident.ensures.gives c.loop-alloc.invariant.so_far);
    }

pub returns : goal.returns
returns c = record {
  same = search rules;
  gives = loop_end name at_rparen name_shrinks (names_of c.loop-alloc.idents.items) (left c.loop-alloc.self) (many at_rparen name (left c.args.self.now)) (sym c.loop-alloc-test.ensures) c.loop-alloc.invariant.so_far;
}
