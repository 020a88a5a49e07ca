use Rattle.std.proofs.Common.{◌≡◌, refl}
use Rattle.std.specs.Prelude.{length}
use Rattle.std.proofs.lemmas.Option.{unwrap_or-slice_get}
use Rattle.isle_base_source.specs.Lines.{line, line_begin, line_end}
use Rattle.isle_base_source.proofs.LineLemmas.{line_begin-le}
use Rattle.isle_c.proofs.calls.place_of.Goals as goal

pub overflow_sub-result : goal.overflow_sub-result
overflow_sub-result c =
    let text = c.args.text.now in
    let offset = c.args.offset in
    let map = c.in_ok-map.ensures.ends in
    let number = c.line-line.ensures.of_text text map in
    let begin : c.line_begin-line_begin.result ≡ line_begin text (line text offset) = rw (← number, ← map) c.line_begin-line_begin.ensures in
    rw begin (line_begin-le text offset)

pub returns : goal.returns
returns c =
    let text = c.args.text.now in
    let offset = c.args.offset in
    let map = c.in_ok-map.ensures.ends in
    let number = c.line-line.ensures.of_text text map in
    let begin : c.line_begin-line_begin.result ≡ line_begin text (line text offset) = rw (← number, ← map) c.line_begin-line_begin.ensures in
    let end : c.unwrap_or.result ≡ line_end text (line text offset) = rw (← number, c.unwrap_or.ensures, c.copied.ensures, c.get.ensures, ← map) (unwrap_or-slice_get c.in_ok-map.map c.line-line.result (length text)) in
    rw (number, begin, end) refl
