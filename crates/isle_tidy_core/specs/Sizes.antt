-- How great the numbers of a gap are.
use Rattle.std.specs.Prelude.{ℕ, ◌+◌}
use Rattle.isle_tidy_layout.specs.declared.entries.Gap.{Gap}
use Rattle.isle_tidy_layout.specs.declared.entries.Gap.TheVariants.{Beside, Tabbed, Below}

abbrev pub size_of : Gap → ℕ
size_of (Beside width) = width
size_of (Tabbed width) = width
size_of (Below empty column) = empty + column
