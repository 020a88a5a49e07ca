use Rattle.std.proofs.Common.{◌≡◌, refl}
use Rattle.std.specs.Prelude.{length}
use Rattle.std.proofs.lemmas.Option.{unwrap_or-slice_get}
use Rattle.isle_base_source.specs.Lines.{line, line_begin, line_end}
use Rattle.isle_base_source.proofs.LineLemmas.{line_begin-le, line_begin-le-end, line_begin-boundary, line_end-boundary, line-le}
use Rattle.isle_base_source.proofs.error.show.source_line.Goals as goal

pub overflow_sub-result : goal.overflow_sub-result
overflow_sub-result c =
    let number = c.line-number.ensures.of_text c.args.text.now c.requires in
    let begin : c.line_begin-begin.result ≡ line_begin c.args.text.now (line c.args.text.now c.args.offset) = rw (← number, ← c.requires) c.line_begin-begin.ensures in
    rw begin (line_begin-le c.args.text.now c.args.offset)

pub range-requires-clause-start_le_end : goal.range-requires-clause-start_le_end
range-requires-clause-start_le_end c =
    let number = c.line-number.ensures.of_text c.args.text.now c.requires in
    let begin : c.line_begin-begin.result ≡ line_begin c.args.text.now (line c.args.text.now c.args.offset) = rw (← number, ← c.requires) c.line_begin-begin.ensures in
    let end : c.unwrap_or-end.result ≡ line_end c.args.text.now (line c.args.text.now c.args.offset) = rw (← number, ← c.requires, c.unwrap_or-end.ensures, c.copied.ensures, c.get.ensures) (unwrap_or-slice_get c.args.line_map.now c.line-number.result (length c.args.text.now)) in
    let within = line-le c.args.text.now c.args.offset in
    rw (begin, end) (line_begin-le-end c.args.text.now (line c.args.text.now c.args.offset) within)

pub range-requires-clause-start_boundary : goal.range-requires-clause-start_boundary
range-requires-clause-start_boundary c =
    let number = c.line-number.ensures.of_text c.args.text.now c.requires in
    let begin : c.line_begin-begin.result ≡ line_begin c.args.text.now (line c.args.text.now c.args.offset) = rw (← number, ← c.requires) c.line_begin-begin.ensures in
    let within = line-le c.args.text.now c.args.offset in
    λ _. rw begin (line_begin-boundary c.args.text.now c.utf8.text (line c.args.text.now c.args.offset) within)

pub range-requires-clause-end_boundary : goal.range-requires-clause-end_boundary
range-requires-clause-end_boundary c =
    let number = c.line-number.ensures.of_text c.args.text.now c.requires in
    let end : c.unwrap_or-end.result ≡ line_end c.args.text.now (line c.args.text.now c.args.offset) = rw (← number, ← c.requires, c.unwrap_or-end.ensures, c.copied.ensures, c.get.ensures) (unwrap_or-slice_get c.args.line_map.now c.line-number.result (length c.args.text.now)) in
    rw end (line_end-boundary c.args.text.now c.utf8.text (line c.args.text.now c.args.offset))

pub returns-clause-column : goal.returns-clause-column
returns-clause-column c =
    let number = c.line-number.ensures.of_text c.args.text.now c.requires in
    let begin : c.line_begin-begin.result ≡ line_begin c.args.text.now (line c.args.text.now c.args.offset) = rw (← number, ← c.requires) c.line_begin-begin.ensures in
    rw begin refl

pub returns-clause-text : goal.returns-clause-text
returns-clause-text c =
    let number = c.line-number.ensures.of_text c.args.text.now c.requires in
    let begin : c.line_begin-begin.result ≡ line_begin c.args.text.now (line c.args.text.now c.args.offset) = rw (← number, ← c.requires) c.line_begin-begin.ensures in
    let end : c.unwrap_or-end.result ≡ line_end c.args.text.now (line c.args.text.now c.args.offset) = rw (← number, ← c.requires, c.unwrap_or-end.ensures, c.copied.ensures, c.get.ensures) (unwrap_or-slice_get c.args.line_map.now c.line-number.result (length c.args.text.now)) in
    rw (c.range.ensures.value, begin, end) refl
