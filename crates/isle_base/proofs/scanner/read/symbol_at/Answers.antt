use Rattle.std.proofs.Common.{◌≡◌, ◌+◌, ◌≤◌, drop, length, subst, refl, arith}
use Rattle.std.specs.List.{prefix_len}
use Rattle.std.proofs.lemmas.Str.{IsCharBoundary-from_drop}
use Rattle.isle_base.specs.Spellings.{in_symbol}
use Rattle.isle_base.proofs.Found.{symbol_longest, symbol_boundary}
use Rattle.isle_base.proofs.scanner.read.symbol_at.Goals as goal

pub range-requires-clause-start_boundary : goal.range-requires-clause-start_boundary
range-requires-clause-start_boundary c = λ _. IsCharBoundary-from_drop c.args.src.now c.args.start (omega (arith, c.requires.within)) c.requires.text

pub range-requires-clause-end_boundary : goal.range-requires-clause-end_boundary
range-requires-clause-end_boundary c =
    let stop = subst (λ xs. c.symbol_end-end.result ≡ c.args.start + prefix_len in_symbol (drop c.args.start xs)) c.as_bytes.ensures.value c.symbol_end-end.ensures.end in
    let within = subst (λ xs. c.symbol_end-end.result ≤ length xs) c.as_bytes.ensures.value c.symbol_end-end.ensures.within in
    symbol_boundary c.args.src.now c.args.start c.symbol_end-end.result c.requires.begins stop within c.requires.text

pub returns : goal.returns
returns c =
    let stop = subst (λ xs. c.symbol_end-end.result ≡ c.args.start + prefix_len in_symbol (drop c.args.start xs)) c.as_bytes.ensures.value c.symbol_end-end.ensures.end in
    let within = subst (λ xs. c.symbol_end-end.result ≤ length xs) c.as_bytes.ensures.value c.symbol_end-end.ensures.within in
    (refl, (c.requires.begins, symbol_longest c.args.src.now c.args.start c.symbol_end-end.result _ stop c.range.ensures.value), within)
