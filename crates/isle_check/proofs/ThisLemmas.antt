-- This program, wherever its texts lie.
use Rattle.std.specs.Prelude.{[], ◌∷◌, codes}
use Rattle.isle_cli.proofs.FailureLemmas.{program_of}
use Rattle.isle_cli.proofs.UsageLemmas.{options_of}
use Rattle.isle_cli.specs.declared.arguments.Options.{Options}
use Rattle.isle_cli.specs.declared.program.Program.{Program}

abbrev pub this : Program
this = program_of (codes "isle-check") (codes "usage: isle-check [--allow KIND] [--warn KIND] [--deny KIND] [--message-format FORMAT] [--color WHEN] [--exclude PATTERN] [--stdin-name NAME] [--program NAME] [--all-programs] [FILE ..]\n")

-- its options, and those that are about the programs of a manifest
abbrev pub all : Options
all = options_of (codes "--print-programs" ∷ codes "--all-programs" ∷ []) (codes "--allow" ∷ codes "--warn" ∷ codes "--deny" ∷ codes "--message-format" ∷ codes "--color" ∷ codes "--exclude" ∷ codes "--program" ∷ [])
