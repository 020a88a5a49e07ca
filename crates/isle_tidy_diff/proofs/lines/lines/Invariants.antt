use Rattle.isle_tidy_diff.specs.Edits.{texts_of}
use Rattle.isle_tidy_diff.proofs.LineLemmas.{AreRead}
use Rattle.isle_tidy_diff.proofs.lines.lines.Given as goal

abbrev pub invariant-loop-at : goal.invariant-loop-at
invariant-loop-at l = AreRead l.text (texts_of l.made.items) l.begin l.at
