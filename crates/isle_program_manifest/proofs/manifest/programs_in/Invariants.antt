-- The programs so far, and then those of the other items, are all.
use Rattle.std.proofs.Common.{◌≡◌, ◌++◌, drop, map, option_map}
use Rattle.toml.specs.View.{items_view, view}
use Rattle.isle_program_manifest.specs.Manifest.{items_in, program_of, programs, strings}
use Rattle.isle_program_manifest.proofs.manifest.programs_in.Given as goal

abbrev pub invariant-loop-value : goal.invariant-loop-value
invariant-loop-value l =
    map program_of l.programs.items ++ programs (strings (items_in (option_map (λ v. view v.now) l.exclude))) (items_view (drop l.value-index l.value-items))
    ≡ programs (strings (items_in (option_map (λ v. view v.now) l.exclude))) (items_view l.value-items)
