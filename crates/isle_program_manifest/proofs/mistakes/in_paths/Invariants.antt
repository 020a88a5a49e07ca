-- No path so far is a mistake.
use Rattle.std.proofs.Common.{◌≡◌, drop}
use Rattle.toml.specs.View.{items_view}
use Rattle.isle_program_manifest.specs.Mistakes.{in_paths}
use Rattle.isle_program_manifest.proofs.mistakes.in_paths.Given as goal

abbrev pub invariant-loop-path : goal.invariant-loop-path
invariant-loop-path l = in_paths l.program (items_view (drop l.path-index l.path-items)) ≡ in_paths l.program (items_view l.path-items)
