-- The strings so far, and then those of the other items, are all.
use Rattle.std.proofs.Common.{◌≡◌, ◌++◌, drop, map, string_bytes}
use Rattle.toml.specs.View.{items_view}
use Rattle.isle_program_manifest.specs.Manifest.{strings}
use Rattle.isle_program_manifest.proofs.manifest.strings_in.Given as goal

abbrev pub invariant-loop-value : goal.invariant-loop-value
invariant-loop-value l = map string_bytes l.strings.items ++ strings (items_view (drop l.value-index l.value-items)) ≡ strings (items_view l.value-items)
