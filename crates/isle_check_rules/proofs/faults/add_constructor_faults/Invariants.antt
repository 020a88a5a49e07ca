use Rattle.std.proofs.Common.{◌≡◌, ◌++◌, map, take}
use Rattle.isle_check_typing.specs.Views.{faults_of}
use Rattle.isle_check_rules.specs.RuleFaults.{constructor_fault}
use Rattle.isle_check_rules.specs.Views.{heads_at}
use Rattle.isle_check_rules.proofs.faults.add_constructor_faults.Given as goal

abbrev pub invariant-loop-pos : goal.invariant-loop-pos
invariant-loop-pos l =
    faults_of l.found.items ≡ faults_of l.fn.found.items ++ map constructor_fault (heads_at (take l.pos-index l.heads))
