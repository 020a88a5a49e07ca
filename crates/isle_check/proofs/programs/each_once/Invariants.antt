-- What is told of the programs so far is added.
use Rattle.std.proofs.Common.{◌≡◌, [], drop, map}
use Rattle.isle_check.specs.Programs.{checked_of, is_same, once_of}
use Rattle.isle_program_findings.specs.Programs.{each_once}
use Rattle.isle_check.proofs.programs.each_once.Given as goal

abbrev pub invariant-loop-program : goal.invariant-loop-program
invariant-loop-program l = each_once is_same (map once_of l.all.items) (map checked_of (drop l.program-index l.checked)) ≡ each_once is_same [] (map checked_of l.checked)
