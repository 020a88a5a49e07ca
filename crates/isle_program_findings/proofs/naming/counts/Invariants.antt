use Rattle.std.proofs.Common.{◌≡◌, drop, map}
use Rattle.isle_cli.specs.Arguments.{given_of}
use Rattle.isle_program_findings.specs.Naming.{counts}
use Rattle.isle_program_findings.proofs.naming.counts.Given as goal

abbrev pub invariant-loop-argument : goal.invariant-loop-argument
invariant-loop-argument l =
    counts l.so_far (map given_of (drop l.argument-index l.arguments)) l.name ≡ counts l.by_itself (map given_of l.arguments) l.name
