use Rattle.std.proofs.Common.{◌≡◌, drop, option_map}
use Rattle.isle_check_environment.specs.signatures.Entries.{or_else}
use Rattle.isle_check_typing.specs.Progress.{find, find_from}
use Rattle.isle_check_typing.specs.Views.{found_of, variables_of}
use Rattle.isle_check_typing.proofs.progress.find.Given as goal

abbrev pub invariant-loop-number : goal.invariant-loop-number
invariant-loop-number l =
    or_else (find_from l.number (variables_of (drop l.number l.bound)) l.name) (option_map found_of l.found)
    ≡ find (variables_of l.bound) l.name
