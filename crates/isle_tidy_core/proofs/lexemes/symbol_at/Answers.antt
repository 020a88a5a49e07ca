use Rattle.std.proofs.Common.{◌≡◌, ◌+◌, drop, subst, sym, arith}
use Rattle.std.specs.List.{prefix_len}
use Rattle.isle_base.specs.Spellings.{in_symbol}
use Rattle.isle_tidy_core.specs.Finds.{Stands}
use Rattle.isle_tidy_layout.specs.Entries.{atom}
use Rattle.isle_tidy_core.proofs.Standing.{symbol_stands}
use Rattle.isle_tidy_core.proofs.lexemes.symbol_at.Goals as goal

pub part-requires-clause-last : goal.part-requires-clause-last
part-requires-clause-last c =
    let stop = subst (λ xs. c.symbol_end-end.result ≡ c.args.start + prefix_len in_symbol (drop c.args.start xs)) c.as_bytes.ensures.value c.symbol_end-end.ensures.end in
    (symbol_stands c.args.text.now c.args.start c.symbol_end-end.result (omega (arith, c.requires.within)) c.requires.begins stop c.requires.first).3

pub returns : goal.returns
returns c =
    let stop = subst (λ xs. c.symbol_end-end.result ≡ c.args.start + prefix_len in_symbol (drop c.args.start xs)) c.as_bytes.ensures.value c.symbol_end-end.ensures.end in
    subst (λ xs. Stands c.args.text.now (atom xs) c.args.start c.symbol_end-end.result) (sym c.part.ensures)
    (symbol_stands c.args.text.now c.args.start c.symbol_end-end.result (omega (arith, c.requires.within)) c.requires.begins stop c.requires.first)
