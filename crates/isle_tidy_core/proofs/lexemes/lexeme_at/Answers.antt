use Rattle.std.proofs.Common.{get_or, drop, sym, ap, ◌∙◌, arith}
use Rattle.std.proofs.lemmas.List.{drop_more}
use Rattle.isle_base.specs.Literals.{begins_literal}
use Rattle.isle_base.specs.Skips.{begins_with}
use Rattle.isle_base.proofs.Bytes.{literal_one, literal_else}
use Rattle.isle_base.proofs.Found.{symbol_begins, feed_here}
use Rattle.isle_tidy_core.proofs.Refusals.{faulty_spells_none}
use Rattle.isle_tidy_core.proofs.Standing.{closing_stands, at_sign_stands, unskipped}
use Rattle.isle_tidy_core.proofs.lexemes.lexeme_at.Goals as goal

pub symbol_at-requires-clause-begins : goal.symbol_at-requires-clause-begins
symbol_at-requires-clause-begins c =
    let here = ap (λ xs. get_or xs c.args.start 0) (sym c.as_bytes.ensures.value) in
    let byte = get_or c.args.text.now c.args.start 0 in
    let no_literal = literal_else byte (λ e. grind (arith, here, e)) (λ from. grind (arith, here, from)) in
    let clear = unskipped c.args.text.now c.args.start c.requires.within c.requires.not_blank (λ e. omega (arith, here, e)) (λ e. omega (arith, here, e)) in
    symbol_begins c.args.text.now c.args.start c.requires.within clear (λ e. omega (arith, here, e)) (λ e. omega (arith, here, e)) (λ e. omega (arith, here, e)) (λ e. omega (arith, here, e)) no_literal

pub integer_at-requires-clause-begins : goal.integer_at-requires-clause-begins
integer_at-requires-clause-begins c =
    let here = ap (λ xs. get_or xs c.args.start 0) (sym c.as_bytes.ensures.value) in
    let byte = get_or c.args.text.now c.args.start 0 in
    let literal = literal_one byte (λ no_minus. (grind (arith, here, no_minus), grind (arith, here, no_minus))) in
    ap (begins_with begins_literal) (drop_more c.args.text.now c.args.start 0 c.requires.within) ∙ literal

pub returns-in-64 : goal.returns-in-64
returns-in-64 c =
    let here = ap (λ xs. get_or xs c.args.start 0) (sym c.as_bytes.ensures.value) in
    at_sign_stands c.args.text.now c.args.start c.requires.within (here ∙ c.in-64.is) c.requires.first

pub returns-in-12 : goal.returns-in-12
returns-in-12 c =
    let here = ap (λ xs. get_or xs c.args.start 0) (sym c.as_bytes.ensures.value) in
    faulty_spells_none (drop c.args.start c.args.text.now) (feed_here c.args.text.now c.args.start c.requires.within (here ∙ c.in-12.is))

pub returns-in-41 : goal.returns-in-41
returns-in-41 c =
    let here = ap (λ xs. get_or xs c.args.start 0) (sym c.as_bytes.ensures.value) in
    closing_stands c.args.text.now c.args.start c.requires.within (here ∙ c.in-41.is) c.requires.first
