-- No program so far has a mistake.
use Rattle.std.proofs.Common.{◌≡◌, drop}
use Rattle.toml.specs.View.{items_view}
use Rattle.isle_program_manifest.specs.Mistakes.{in_programs}
use Rattle.isle_program_manifest.proofs.mistakes.in_programs.Given as goal

abbrev pub invariant-loop-number : goal.invariant-loop-number
invariant-loop-number l = in_programs l.number (items_view (drop l.number l.programs.items)) ≡ in_programs 0 (items_view l.programs.items)
