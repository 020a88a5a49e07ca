use Rattle.std.proofs.Common.{get_or, sym, ap, ◌∙◌, refl, arith}
use Rattle.std.proofs.lemmas.List.{drop_more}
use Rattle.isle_base.specs.Literals.{begins_literal}
use Rattle.isle_base.specs.Skips.{begins_with}
use Rattle.isle_base.proofs.Bytes.{literal_one, literal_else}
use Rattle.isle_base.proofs.Found.{symbol_begins, feed_here}
use Rattle.isle_base.proofs.scanner.read.token_at.Goals as goal

pub symbol_at-requires-clause-begins : goal.symbol_at-requires-clause-begins
symbol_at-requires-clause-begins c =
    let here = ap (λ xs. get_or xs c.args.start 0) (sym c.as_bytes.ensures.value) in
    let byte = get_or c.args.src.now c.args.start 0 in
    let no_literal = literal_else byte (λ e. grind (arith, here, e)) (λ from. grind (arith, here, from)) in
    symbol_begins c.args.src.now c.args.start c.requires.within c.requires.unskipped (λ e. omega (arith, here, e)) (λ e. omega (arith, here, e)) (λ e. omega (arith, here, e)) (λ e. omega (arith, here, e)) no_literal

pub integer_at-requires-clause-begins : goal.integer_at-requires-clause-begins
integer_at-requires-clause-begins c =
    let bytes = c.as_bytes-in-48-to-57.result.now in
    let byte = get_or bytes c.args.start 0 in
    let same = ap (λ xs. get_or xs c.args.start 0) (c.as_bytes-in-48-to-57.ensures.value ∙ sym c.as_bytes.ensures.value) in
    let literal = literal_one byte (λ no_minus. (grind (arith, same, no_minus), grind (arith, same, no_minus))) in
    ap (begins_with begins_literal) (drop_more bytes c.args.start 0 (omega (arith, c.requires.within, c.as_bytes-in-48-to-57.ensures.len))) ∙ literal

pub returns-in-12 : goal.returns-in-12
returns-in-12 c =
    let here = ap (λ xs. get_or xs c.args.start 0) (sym c.as_bytes.ensures.value) in
    (refl, feed_here c.args.src.now c.args.start c.requires.within (here ∙ c.in-12.is))
