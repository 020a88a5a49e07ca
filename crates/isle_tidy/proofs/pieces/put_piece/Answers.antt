use Rattle.std.proofs.Common.{◌≡◌, Ok, false, true, ap, string_bytes}
use Rattle.isle_tidy.proofs.PieceLemmas.{ok_is, piece_last, piece_more, piece_fails, memory_fails}
use Rattle.isle_tidy.proofs.pieces.put_piece.Goals as goal

pub returns-in-Ok-put_noting-clause-more : goal.returns-in-Ok-put_noting-clause-more
returns-in-Ok-put_noting-clause-more g c = λ h.
    let yes : c.in-Ok.more ≡ true = ok_is c.in-Ok.more true h in
    piece_more c.args.tidying.now c.put_some.new.self (string_bytes c.clear.new.self) (string_bytes c.put_some.new.out) c.as_str.result.now _ _
    c.clear.ensures.bytes (c.in-Ok.ensures.more (ap Ok yes)) c.as_str.ensures.value c.in-Ok-put_noting.ensures.ok

pub returns-in-Ok-put_noting-clause-last : goal.returns-in-Ok-put_noting-clause-last
returns-in-Ok-put_noting-clause-last g c = λ h.
    let no : c.in-Ok.more ≡ false = ok_is c.in-Ok.more false h in
    piece_last c.args.tidying.now (string_bytes c.clear.new.self) (string_bytes c.put_some.new.out) c.as_str.result.now _ _
    c.clear.ensures.bytes (c.in-Ok.ensures.last (ap Ok no)) c.as_str.ensures.value c.in-Ok-put_noting.ensures.ok

pub returns-in-Err-put_noting-clause-err : goal.returns-in-Err-put_noting-clause-err
returns-in-Err-put_noting-clause-err g c =
    piece_fails c.in-Err-put_noting.failure c.args.tidying.now c.put_some.new.self (string_bytes c.clear.new.self) (string_bytes c.put_some.new.out) c.as_str.result.now _ _ c.in-Ok.more
    c.clear.ensures.bytes (λ e. c.in-Ok.ensures.more (ap Ok e)) (λ e. c.in-Ok.ensures.last (ap Ok e)) c.as_str.ensures.value c.in-Err-put_noting.ensures.err

pub returns-in-Err-clause-err : goal.returns-in-Err-clause-err
returns-in-Err-clause-err g c = memory_fails c.args.tidying.now _
