use Rattle.std.proofs.Common.{◌≡◌, ◌+◌, ◌≤◌, ◌++◌, IsUtf8, false, drop, length, string_bytes, sym, subst, arith}
use Rattle.std.specs.List.{prefix_len}
use Rattle.isle_base.specs.Skips.{begins_with, in_line}
use Rattle.isle_base.proofs.Places.{run_within}
use Rattle.isle_tidy_core.specs.Ends.{end_bytes, with_ends}
use Rattle.isle_tidy_core.proofs.EndPlaces.{last_line, line_stops, line_utf8, one_line}
use Rattle.isle_tidy_core.proofs.ends.put_with_ends.Goals as goal

pub part-requires-clause-within : goal.part-requires-clause-within
part-requires-clause-within c =
    let stop = subst (λ xs. c.line_comment_end-stop.result ≡ c.loop-out.at + prefix_len in_line (drop c.loop-out.at xs)) c.as_bytes.ensures.value c.line_comment_end-stop.ensures in
    run_within in_line c.args.text.now c.loop-out.at c.line_comment_end-stop.result c.loop-out.invariant.0 stop

pub part-requires-clause-last : goal.part-requires-clause-last
part-requires-clause-last c =
    let stop = subst (λ xs. c.line_comment_end-stop.result ≡ c.loop-out.at + prefix_len in_line (drop c.loop-out.at xs)) c.as_bytes.ensures.value c.line_comment_end-stop.ensures in
    line_utf8 c.args.text.now c.loop-out.at c.line_comment_end-stop.result stop c.utf8.text

pub returns-then-stop-text : goal.returns-then-stop-text
returns-then-stop-text c =
    let stop = subst (λ xs. c.line_comment_end-stop.result ≡ c.loop-out.at + prefix_len in_line (drop c.loop-out.at xs)) c.as_bytes.ensures.value c.line_comment_end-stop.ensures in
    last_line c.args.line_end c.args.text.now c.loop-out.at c.line_comment_end-stop.result (string_bytes c.args.out.now) (string_bytes c.loop-out.out) c.part.result.now (string_bytes c.push_str.new.self)
    stop c.if-stop-text.true c.loop-out.invariant.2 c.part.ensures c.in_ok-push_str.ensures.bytes

pub line_end_after-at-requires-clause-within : goal.line_end_after-at-requires-clause-within
line_end_after-at-requires-clause-within c =
    let stop = subst (λ xs. c.line_comment_end-stop.result ≡ c.loop-out.at + prefix_len in_line (drop c.loop-out.at xs)) c.as_bytes.ensures.value c.line_comment_end-stop.ensures in
    let within = run_within in_line c.args.text.now c.loop-out.at c.line_comment_end-stop.result c.loop-out.invariant.0 stop in
    omega (arith, within, c.if-stop-text.false)

pub line_end_after-at-requires-clause-ends : goal.line_end_after-at-requires-clause-ends
line_end_after-at-requires-clause-ends c =
    let stop = subst (λ xs. c.line_comment_end-stop.result ≡ c.loop-out.at + prefix_len in_line (drop c.loop-out.at xs)) c.as_bytes.ensures.value c.line_comment_end-stop.ensures in
    subst (λ xs. begins_with in_line (drop c.line_comment_end-stop.result xs) ≡ false) (sym c.as_bytes-in-loop-out.ensures.value)
    (line_stops c.args.text.now c.loop-out.at c.line_comment_end-stop.result stop)

pub loop-out-preserved : goal.loop-out-preserved
loop-out-preserved c =
    let at = c.loop-out.at in
    let to = c.line_comment_end-stop.result in
    let next = c.line_end_after-at.result in
    let e = c.args.line_end in
    let same = c.as_bytes-in-loop-out.ensures.value in
    let stop = subst (λ xs. to ≡ at + prefix_len in_line (drop at xs)) c.as_bytes.ensures.value c.line_comment_end-stop.ensures in
    let after = subst (λ xs. with_ends e (drop to xs) ≡ end_bytes e ++ with_ends e (drop next xs)) same (c.line_end_after-at.ensures.ended e) in
    let utf8 = subst (λ xs. IsUtf8 (drop to xs) → IsUtf8 (drop next xs)) same c.line_end_after-at.ensures.utf8 in (
      subst (λ xs. next ≤ length xs) same c.line_end_after-at.ensures.last,
      utf8 (line_utf8 c.args.text.now at to stop c.utf8.text),
      one_line e c.args.text.now at to next (string_bytes c.args.out.now) (string_bytes c.loop-out.out) c.part.result.now (string_bytes c.push_str.new.self) (string_bytes c.put_line_end.new.out)
          stop c.loop-out.invariant.2 c.part.ensures c.in_ok-push_str.ensures.bytes c.in_ok-put_line_end.ensures after,
    )
