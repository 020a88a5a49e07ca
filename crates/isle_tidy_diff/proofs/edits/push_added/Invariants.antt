use Rattle.std.proofs.Common.{◌≡◌, ◌++◌, drop, map}
use Rattle.isle_tidy_diff.specs.Edits.{added_line, edits_of, texts_of}
use Rattle.isle_tidy_diff.proofs.edits.push_added.Given as goal

abbrev pub invariant-loop-line : goal.invariant-loop-line
invariant-loop-line l =
    edits_of l.edits.items ++ map added_line (texts_of (drop l.line-index l.lines))
    ≡ edits_of l.fn.edits.items ++ map added_line (texts_of l.lines)
