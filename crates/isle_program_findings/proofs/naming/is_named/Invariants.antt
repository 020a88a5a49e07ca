use Rattle.std.proofs.Common.{◌≡◌, drop, map}
use Rattle.isle_cli.specs.Arguments.{given_of}
use Rattle.isle_program_findings.specs.Naming.{is_named}
use Rattle.isle_program_findings.proofs.naming.is_named.Given as goal

abbrev pub invariant-loop-argument : goal.invariant-loop-argument
invariant-loop-argument l = is_named l.option l.name (map given_of (drop l.argument-index l.arguments)) ≡ is_named l.option l.name (map given_of l.arguments)
