use Rattle.std.proofs.Common.{arith}
use Rattle.std.proofs.lemmas.Bool.{eqb-true}
use Rattle.isle_tidy_layout.specs.EntriesView.{lexeme_of}
use Rattle.isle_tidy_layout.specs.declared.entries.Gap.TheVariants.{Beside, Below}
use Rattle.isle_tidy_core.proofs.LexemeChecks.{looked, more_end, all_end}
use Rattle.isle_tidy_core.proofs.Listing.{gap_utf8, not_blank}
use Rattle.isle_tidy_core.proofs.check_lexemes.has_document.Goals as goal

pub loop-at-init : goal.loop-at-init
loop-at-init c = ((Below 0 0, λ es s m. (es, (s, m))), omega arith, c.utf8.text)

pub returns-then-start-text : goal.returns-then-start-text
returns-then-start-text c = λ h.
    let gap = c.loop-at.invariant.0.0 in
    let found = looked c.args.text.now c.as_bytes.result.now gap c.loop-at.at c.start_at-start.result c.as_bytes.ensures.value c.start_at-start.ensures.end c.start_at-start.ensures.within in
    all_end c.args.text.now c.loop-at.depth c.loop-at.at c.start_at-start.result gap _ c.loop-at.invariant.0.1 found c.if-start-text.true (eqb-true c.loop-at.depth 0 h)

pub lexeme_at-requires-clause-first : goal.lexeme_at-requires-clause-first
lexeme_at-requires-clause-first c =
    let gap = c.loop-at.invariant.0.0 in
    let found = looked c.args.text.now c.as_bytes.result.now gap c.loop-at.at c.start_at-start.result c.as_bytes.ensures.value c.start_at-start.ensures.end c.start_at-start.ensures.within in
    gap_utf8 c.args.text.now c.loop-at.at c.start_at-start.result gap _ found c.loop-at.invariant.2

pub lexeme_at-requires-clause-not_blank : goal.lexeme_at-requires-clause-not_blank
lexeme_at-requires-clause-not_blank c =
    let gap = c.loop-at.invariant.0.0 in
    let found = looked c.args.text.now c.as_bytes.result.now gap c.loop-at.at c.start_at-start.result c.as_bytes.ensures.value c.start_at-start.ensures.end c.start_at-start.ensures.within in
    not_blank c.args.text.now c.loop-at.at c.start_at-start.result gap _ found

pub loop-at-preserved : goal.loop-at-preserved
loop-at-preserved c =
    let gap = c.loop-at.invariant.0.0 in
    let found = looked c.args.text.now c.as_bytes.result.now gap c.loop-at.at c.start_at-start.result c.as_bytes.ensures.value c.start_at-start.ensures.end c.start_at-start.ensures.within in (
      (Beside 0, more_end c.args.text.now c.loop-at.depth c.loop-at.at c.start_at-start.result c.in-Some.end c.in-Some-depth_after.after gap _ (lexeme_of c.in-Some.lexeme) c.loop-at.invariant.0.1 found c.in-Some.ensures c.in-Some-depth_after.ensures),
      c.in-Some.ensures.2,
      c.in-Some.ensures.3,
    )
