use Rattle.std.proofs.Common.{sym, ◌∙◌, arith, rules}
use Rattle.std.specs.Prelude.{codes}
use Rattle.std.proofs.lemmas.Result.{err_from_is_err_and}
use Rattle.isle_ast_names.specs.TreeView.{name_of, optional_name_of}
use Rattle.isle_ast_rules.specs.TreeView.{patterns_of}
use Rattle.isle_base.specs.Token.{at_sign}
use Rattle.isle_parser_cursor.specs.Outcomes.{left, source}
use Rattle.isle_parser_rules.specs.PatternReaders.{pattern}
use Rattle.isle_parser_cursor.specs.Reading.{at_rparen, is_at, many}
use Rattle.isle_parser_cursor.proofs.Lengths.{expect_shorter, flag_shorter}
use Rattle.isle_parser_cursor.proofs.Loops.{loop_push, loop_stops, loop_end}
use Rattle.isle_parser_cursor.proofs.Names.{name_shrinks}
use Rattle.isle_parser_rules.proofs.PatternParts.{appended_none, appended_some, head_shorter}
use Rattle.isle_parser_rules.proofs.Reading.Patterns.{pattern_shrinks}
use Rattle.isle_parser_rules.proofs.patterns.+pattern.Goals as goal

pub parse_pattern_parens-parse_patterns-requires : goal.parse_pattern_parens-parse_patterns-requires
parse_pattern_parens-parse_patterns-requires t c =
    (omega (arith, head_shorter (left c.args.cursor.now) (left c.parse_pattern_head.new.cursor) (optional_name_of c.in_ok-sym.sym) c.in_ok-sym.ensures.gives), tt)

pub append_pattern-parse_patterns-requires : goal.append_pattern-parse_patterns-requires
append_pattern-parse_patterns-requires t c =
    (omega (arith, head_shorter (left c.args.cursor.now) (left c.parse_pattern_head.new.cursor) (optional_name_of c.in_ok-sym.sym) c.in_ok-sym.ensures.gives), tt)

pub parse_pattern_symbol-parse_pattern_variable-requires : goal.parse_pattern_symbol-parse_pattern_variable-requires
parse_pattern_symbol-parse_pattern_variable-requires t c = (
  omega (
    arith,
    flag_shorter (codes "_") (left c.args.cursor.now) (left c.eat_sym_str.new.self) c.in_ok-eat_sym_str.field-0 c.in_ok-eat_sym_str.ensures.gives,
    flag_shorter (codes "true")
        (left c.eat_sym_str.new.self) (left c.eat_sym_str-2.new.self) c.in_ok-eat_sym_str-2.field-0 c.in_ok-eat_sym_str-2.ensures.gives,
    flag_shorter (codes "false")
        (left c.eat_sym_str-2.new.self) (left c.eat_sym_str-3.new.self) c.in_ok-eat_sym_str-3.field-0 c.in_ok-eat_sym_str-3.ensures.gives,
  ),
  tt,
)

pub parse_pattern_variable-parse_pattern-requires : goal.parse_pattern_variable-parse_pattern-requires
parse_pattern_variable-parse_pattern-requires t c = (
  omega (
    arith,
    name_shrinks (left c.args.cursor.now) (left c.parse_ident.new.self) (name_of c.in_ok-var.var) c.in_ok-var.ensures.gives,
    expect_shorter is_at (left c.parse_ident.new.self)
        (left c.take_at.new.cursor) at_sign c.in_ok-take_at.ensures.gives,
  ),
  tt,
)

pub parse_patterns-returns-in_err-append_pattern : goal.parse_patterns-returns-in_err-append_pattern
parse_patterns-returns-in_err-append_pattern t c = record {
  same = search rules;
  gives =
      let p = err_from_is_err_and c.from_residual.result c.from_residual.ensures.1 in
      let none = appended_none pattern (patterns_of c.loop-alloc.patterns.items) (left c.loop-alloc.cursor) (source c.append_pattern.new.cursor) c.in_err-append_pattern.field-0.0 c.in_err-append_pattern.ensures.gives in
      rw (p.1, p.2) (loop_stops pattern at_rparen pattern_shrinks (patterns_of c.loop-alloc.patterns.items) (left c.loop-alloc.cursor) (many at_rparen pattern (left c.args.cursor.now))
      (source c.append_pattern.new.cursor) c.in_err-append_pattern.field-0.0 (sym c.loop-alloc-test.ensures) none c.loop-alloc.invariant.so_far);
}

pub parse_patterns-loop-alloc-smaller : goal.parse_patterns-loop-alloc-smaller
parse_patterns-loop-alloc-smaller t c =
    let a = appended_some pattern (patterns_of c.loop-alloc.patterns.items) (patterns_of c.append_pattern.new.patterns.items) (left c.loop-alloc.cursor) (left c.append_pattern.new.cursor) c.in_ok-append_pattern.ensures.gives in
    pattern_shrinks (left c.loop-alloc.cursor) (left c.append_pattern.new.cursor) a.0 a.1

pub parse_patterns-loop-alloc-preserved : goal.parse_patterns-loop-alloc-preserved
parse_patterns-loop-alloc-preserved t c =
    let a = appended_some pattern (patterns_of c.loop-alloc.patterns.items) (patterns_of c.append_pattern.new.patterns.items) (left c.loop-alloc.cursor) (left c.append_pattern.new.cursor) c.in_ok-append_pattern.ensures.gives in
    let less = pattern_shrinks (left c.loop-alloc.cursor) (left c.append_pattern.new.cursor) a.0 a.1 in
    record {
      same = c.in_ok-append_pattern.ensures.same ∙ c.loop-alloc.invariant.same;
      so_far = rw (sym a.2) (loop_push pattern at_rparen pattern_shrinks (patterns_of c.loop-alloc.patterns.items) (left c.loop-alloc.cursor) (left c.append_pattern.new.cursor) a.0
          (many at_rparen pattern (left c.args.cursor.now)) (sym c.loop-alloc-test.ensures) a.1 c.loop-alloc.invariant.so_far);
      shorter = omega (arith, less, c.loop-alloc.invariant.shorter);
    }

pub parse_patterns-returns : goal.parse_patterns-returns
parse_patterns-returns t c = record {
  same = search rules;
  gives = loop_end pattern at_rparen pattern_shrinks (patterns_of c.loop-alloc.patterns.items) (left c.loop-alloc.cursor) (many at_rparen pattern (left c.args.cursor.now)) (sym c.loop-alloc-test.ensures) c.loop-alloc.invariant.so_far;
}
