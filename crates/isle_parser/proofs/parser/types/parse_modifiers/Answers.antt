use Rattle.std.proofs.Common.{sym, ◌∙◌, rules}
use Rattle.std.specs.Prelude.{string_bytes}
use Rattle.std.proofs.lemmas.Result.{err_from_is_err_and}
use Rattle.isle_parser_cursor.specs.Outcomes.{left, source}
use Rattle.isle_parser.proofs.Reading.Types.{modifier_shrinks}
use Rattle.isle_parser.proofs.Lists.{modifiers_begin, modifiers_push, modifiers_stop, modifiers_end, no_symbol_false, no_symbol_true}
use Rattle.isle_parser.proofs.parser.types.parse_modifiers.Goals as goal

pub loop-alloc-init : goal.loop-alloc-init
loop-alloc-init c = record { same = search; so_far = modifiers_begin (left c.args.cursor.now) }

pub returns-in_err-word : goal.returns-in_err-word
returns-in_err-word c = record {
  same = search rules;
  gives =
      let p = err_from_is_err_and c.from_residual.result c.from_residual.ensures.1 in
      rw (p.1, p.2) (modifiers_stop c.loop-alloc.is_extern c.loop-alloc.is_nodebug (left c.args.cursor.now) (left c.loop-alloc.cursor) (source c.parse_modifier.new.cursor) c.in_err-word.field-0.0
      (no_symbol_false _ (sym c.loop-alloc-test.true ∙ c.is_sym.ensures)) c.in_err-word.ensures.gives c.loop-alloc.invariant.so_far);
}

pub loop-alloc-smaller : goal.loop-alloc-smaller
loop-alloc-smaller c = modifier_shrinks (left c.loop-alloc.cursor) (left c.parse_modifier.new.cursor) (string_bytes c.in_ok-word.word) c.in_ok-word.ensures.gives

pub loop-alloc-preserved : goal.loop-alloc-preserved
loop-alloc-preserved c =
    record {
      same = c.in_ok-word.ensures.same ∙ c.loop-alloc.invariant.same;
      so_far = rw (c.eq-is_extern.ensures, c.eq-is_nodebug.ensures, c.as_str.ensures.value, c.as_str-in-loop-alloc.ensures.value)
          (modifiers_push c.loop-alloc.is_extern c.loop-alloc.is_nodebug (left c.args.cursor.now) (left c.loop-alloc.cursor) (left c.parse_modifier.new.cursor) (string_bytes c.in_ok-word.word)
          (no_symbol_false _ (sym c.loop-alloc-test.true ∙ c.is_sym.ensures)) c.in_ok-word.ensures.gives c.loop-alloc.invariant.so_far);
    }

pub returns : goal.returns
returns c = record {
  same = search rules;
  gives = modifiers_end c.loop-alloc.is_extern c.loop-alloc.is_nodebug (left c.args.cursor.now) (left c.loop-alloc.cursor) (no_symbol_true _ (sym c.loop-alloc-test.false ∙ c.is_sym.ensures)) c.loop-alloc.invariant.so_far;
}
