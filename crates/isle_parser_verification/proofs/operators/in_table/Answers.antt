use Rattle.std.proofs.Common.{refl, sym, ap, ◌∙◌, add-one}
use Rattle.isle_parser_verification.proofs.Words.Tables.{from_row, row_found, row_passed, rows_end}
use Rattle.isle_parser_verification.proofs.operators.in_table.Goals as goal

pub loop-name-init : goal.loop-name-init
loop-name-init c = refl

pub returns-then-eq : goal.returns-then-eq
returns-then-eq c =
    row_found c.loop-name.name-index c.args.rows.now _ c.args.text.now c.loop-name-test.true (sym c.eq.ensures ∙ c.if-eq.true)
    ∙ c.loop-name.invariant

pub loop-name-preserved : goal.loop-name-preserved
loop-name-preserved c =
    ap (λ i. from_row i c.args.rows.now c.args.text.now) (add-one c.loop-name.name-index)
    ∙ row_passed c.loop-name.name-index c.args.rows.now _ c.args.text.now c.loop-name-test.true (sym c.eq.ensures ∙ c.if-eq.false)
    ∙ c.loop-name.invariant

pub returns : goal.returns
returns c = rows_end c.loop-name.name-index c.args.rows.now c.args.text.now c.loop-name-test.false ∙ c.loop-name.invariant
