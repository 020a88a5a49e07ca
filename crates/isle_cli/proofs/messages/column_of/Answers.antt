use Rattle.std.proofs.Common.{◌≡◌, refl}
use Rattle.isle_base_source.specs.Lines.{line, line_begin}
use Rattle.isle_base_source.proofs.LineLemmas.{line_begin-le}
use Rattle.isle_cli.proofs.messages.column_of.Goals as goal

pub overflow_sub-result : goal.overflow_sub-result
overflow_sub-result c =
    let number = c.line.ensures.of_text c.args.text.now c.requires in
    let begin : c.line_begin.result ≡ line_begin c.args.text.now (line c.args.text.now c.args.offset) = rw (← number, ← c.requires) c.line_begin.ensures in
    rw begin (line_begin-le c.args.text.now c.args.offset)

pub returns : goal.returns
returns c =
    let number = c.line.ensures.of_text c.args.text.now c.requires in
    let begin : c.line_begin.result ≡ line_begin c.args.text.now (line c.args.text.now c.args.offset) = rw (← number, ← c.requires) c.line_begin.ensures in
    rw begin refl
