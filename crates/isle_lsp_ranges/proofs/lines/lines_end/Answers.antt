use Rattle.std.proofs.Common.{◌+◌, ◌≤◌, ◌==◌, ◌&&◌, Bool, true, false, cond, arith, nat_lt, sym}
use Rattle.isle_lsp_text.specs.declared.positions.Range.{Range}
use Rattle.isle_lsp_ranges.specs.LineEdits.{line_after}
use Rattle.isle_lsp_ranges.proofs.LineBreaks.{past_lines}
use Rattle.isle_lsp_ranges.proofs.lines.lines_end.Goals as goal

after_end : (range : Range) → range.end.line ≤ line_after range
after_end range = by_test (range.end.unit == 0 && nat_lt range.start.line range.end.line) where
  by_test : (v : Bool) → range.end.line ≤ cond v range.end.line (range.end.line + 1)
  by_test true = omega arith
  by_test false = omega arith

pub returns-then-range-text : goal.returns-then-range-text
returns-then-range-text c = sym (past_lines c.args.encoding (line_after c.args.range) 0 c.args.text.now (omega (arith, after_end c.args.range, c.if-range-text.true)))
