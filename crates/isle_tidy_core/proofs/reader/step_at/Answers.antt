use Rattle.std.proofs.Common.{subst}
use Rattle.isle_tidy_core.specs.Finds.{FindsGap}
use Rattle.isle_tidy_core.proofs.Listing.{gap_utf8, none_refuses}
use Rattle.isle_tidy_core.proofs.reader.step_at.Goals as goal

pub lexeme_at-requires-clause-first : goal.lexeme_at-requires-clause-first
lexeme_at-requires-clause-first c =
    let gap = subst (λ xs. FindsGap xs c.args.gap c.args.from c.blanks_at-blanks.result.gap c.blanks_at-blanks.result.end) c.as_bytes.ensures.value c.blanks_at-blanks.ensures.0 in
    gap_utf8 c.args.text.now c.args.from c.blanks_at-blanks.result.end c.args.gap c.blanks_at-blanks.result.gap gap c.requires.first

pub returns-in-None : goal.returns-in-None
returns-in-None c =
    let gap = subst (λ xs. FindsGap xs c.args.gap c.args.from c.blanks_at-blanks.result.gap c.blanks_at-blanks.result.end) c.as_bytes.ensures.value c.blanks_at-blanks.ensures.0 in
    none_refuses c.args.text.now c.args.from c.blanks_at-blanks.result.end c.args.gap c.blanks_at-blanks.result.gap gap gap.4 c.if-blanks-text.false c.in-None.ensures
