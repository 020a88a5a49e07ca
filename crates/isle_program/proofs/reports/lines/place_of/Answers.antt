use Rattle.std.proofs.Common.{◌≡◌, refl}
use Rattle.isle_base_source.specs.Lines.{line, line_begin}
use Rattle.isle_base_source.proofs.LineLemmas.{line_begin-le}
use Rattle.isle_program.proofs.reports.lines.place_of.Goals as goal

pub overflow_sub-result : goal.overflow_sub-result
overflow_sub-result c =
    let number = c.line-number.ensures.of_text c.args.text.now c.requires.lines in
    let begin : c.line_begin.result ≡ line_begin c.args.text.now (line c.args.text.now c.args.offset) = rw (← number, ← c.requires.lines) c.line_begin.ensures in
    rw begin (line_begin-le c.args.text.now c.args.offset)

pub returns-clause-column : goal.returns-clause-column
returns-clause-column c =
    let number = c.line-number.ensures.of_text c.args.text.now c.requires.lines in
    let begin : c.line_begin.result ≡ line_begin c.args.text.now (line c.args.text.now c.args.offset) = rw (← number, ← c.requires.lines) c.line_begin.ensures in
    rw begin refl
