use Rattle.std.proofs.Common.{◌+◌, arith, sym, ap, ◌∙◌, ◌∷◌, drop, refl}
use Rattle.isle_base.specs.Lexing.{unclosed}
use Rattle.isle_base.specs.Skips.{is_blank, in_line, nothing}
use Rattle.isle_base.proofs.Bytes.{blank_one}
use Rattle.isle_base.proofs.Places.{opens_here, opens_room, comment_further, run_within, skip_block, skip_line, skip_blanks, unskipped_end, unskipped_open, unskipped_byte}
use Rattle.isle_base.proofs.scanner.skips.skip_end.Goals as goal

pub returns-in_default : goal.returns-in_default
returns-in_default c =
    (c.loop-byte.invariant.1 (drop c.loop-byte.at c.args.bytes.now) (nothing refl), unskipped_end (drop c.loop-byte.at c.args.bytes.now) c.in_default.ensures, c.loop-byte.invariant.0)

pub loop-byte-preserved : goal.loop-byte-preserved
loop-byte-preserved c =
    let shown = c.in-Some.ensures in
    let blank = blank_one c.in-Some.byte (λ no_space no_tab no_feed. grind (arith, no_space, no_tab, no_feed)) in
    (run_within is_blank c.args.bytes.now (c.loop-byte.at + 1) c.blanks_behind-at.result (omega (arith, shown.1)) c.blanks_behind-at.ensures, λ rest s. c.loop-byte.invariant.1 rest (skip_blanks c.args.bytes.now c.loop-byte.at c.blanks_behind-at.result c.in-Some.byte shown.0 blank c.blanks_behind-at.ensures rest s))

pub loop-byte-preserved-in-59-1 : goal.loop-byte-preserved-in-59-1
loop-byte-preserved-in-59-1 c =
    let shown = c.in-Some.ensures in
    let here = shown.0 ∙ ap (λ b. b ∷ drop (c.loop-byte.at + 1) c.args.bytes.now) c.in-59.is in
    (run_within in_line c.args.bytes.now (c.loop-byte.at + 1) c.line_comment_end-at.result (omega (arith, shown.1)) c.line_comment_end-at.ensures, λ rest s. c.loop-byte.invariant.1 rest (skip_line c.args.bytes.now c.loop-byte.at c.line_comment_end-at.result here c.line_comment_end-at.ensures rest s))

pub returns-then-not-opens_at : goal.returns-then-not-opens_at
returns-then-not-opens_at c =
    let shown = c.in-Some.ensures in
    (c.loop-byte.invariant.1 (drop c.loop-byte.at c.args.bytes.now) (nothing refl), unskipped_open (drop c.loop-byte.at c.args.bytes.now) c.in-Some.byte (drop (c.loop-byte.at + 1) c.args.bytes.now) shown.0 c.in-40.is (sym c.if-not-opens_at.ensures), c.loop-byte.invariant.0)

pub block_comment_end-requires : goal.block_comment_end-requires
block_comment_end-requires c = opens_room c.args.bytes.now c.loop-byte.at (sym c.if-not-opens_at.ensures)

pub returns-in_default-block_comment_end : goal.returns-in_default-block_comment_end
returns-in_default-block_comment_end c =
    let here = sym c.if-not-opens_at.ensures in
    let room = opens_room c.args.bytes.now c.loop-byte.at here in
    (c.loop-byte.invariant.1 (drop c.loop-byte.at c.args.bytes.now) (nothing refl), unclosed (opens_here c.args.bytes.now c.loop-byte.at here) c.in_default-block_comment_end.ensures, omega arith)

pub loop-byte-smaller-in-40-1 : goal.loop-byte-smaller-in-40-1
loop-byte-smaller-in-40-1 c =
    let further = comment_further c.args.bytes.now (c.loop-byte.at + 2) c.in-Some-block_comment_end.end c.in-Some-block_comment_end.ensures.1 c.in-Some-block_comment_end.ensures.0 in
    omega (arith, c.in-Some-block_comment_end.ensures.1)

pub loop-byte-preserved-in-40-1 : goal.loop-byte-preserved-in-40-1
loop-byte-preserved-in-40-1 c =
    let here = sym c.if-not-opens_at.ensures in
    let stop = c.in-Some-block_comment_end in
    (stop.ensures.1, λ rest s. c.loop-byte.invariant.1 rest (skip_block c.args.bytes.now c.loop-byte.at stop.end here stop.ensures.0 rest s))

pub returns-in_default-byte : goal.returns-in_default-byte
returns-in_default-byte c =
    let shown = c.in-Some.ensures in
    (c.loop-byte.invariant.1 (drop c.loop-byte.at c.args.bytes.now) (nothing refl), unskipped_byte (drop c.loop-byte.at c.args.bytes.now) c.in-Some.byte (drop (c.loop-byte.at + 1) c.args.bytes.now) shown.0 (λ e. omega (arith, e)) (λ e. omega (arith, e)) (λ e. omega (arith, e)) (λ e. omega (arith, e)) (λ e. omega (arith, e)) (λ e. omega (arith, e)), c.loop-byte.invariant.0)

pub returns-in_default-byte-2 : goal.returns-in_default-byte-2
returns-in_default-byte-2 c =
    let shown = c.in-Some.ensures in
    (c.loop-byte.invariant.1 (drop c.loop-byte.at c.args.bytes.now) (nothing refl), unskipped_byte (drop c.loop-byte.at c.args.bytes.now) c.in-Some.byte (drop (c.loop-byte.at + 1) c.args.bytes.now) shown.0 (λ e. grind (arith, e)) (λ e. grind (arith, e)) (λ e. grind (arith, e)) (λ e. grind (arith, e)) (λ e. grind (arith, e)) (λ e. grind (arith, e)), c.loop-byte.invariant.0)
