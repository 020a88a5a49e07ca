use Rattle.std.proofs.Common.{◌-◌, ◌≤◌, drop, length, IsUtf8}
use Rattle.isle_tidy_layout.specs.declared.entries.Gap.{Gap}
use Rattle.isle_tidy_core.proofs.LexemeChecks.{EndDocuments}
use Rattle.isle_tidy_core.proofs.check_lexemes.has_document.Given as goal

abbrev pub invariant-loop-at : goal.invariant-loop-at
invariant-loop-at l = ((gap : Gap) × EndDocuments l.text l.depth l.at gap) × (l.at ≤ length l.text) × IsUtf8 (drop l.at l.text)

abbrev pub decreases-loop-at : goal.decreases-loop-at
decreases-loop-at l = length l.text - l.at
