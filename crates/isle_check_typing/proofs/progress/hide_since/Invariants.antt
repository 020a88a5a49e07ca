use Rattle.std.proofs.Common.{◌≡◌}
use Rattle.isle_check_typing.specs.Progress.{hide_since}
use Rattle.isle_check_typing.specs.Views.{progress_of}
use Rattle.isle_check_typing.proofs.progress.hide_since.Given as goal

abbrev pub invariant-loop-number : goal.invariant-loop-number
invariant-loop-number l =
    hide_since l.number (progress_of l.progress) ≡ hide_since l.count (progress_of l.fn.progress)
