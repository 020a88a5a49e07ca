-- The order of positions: by file, then by offset. Their hash is that of file and offset, in this
-- order.
use Rattle.std.specs.Prelude.{◌++◌, ◌<◌, ◌^◌}
use Rattle.std.specs.Hash.{HashWrites, usize}
use Rattle.std.specs.Ordering.{nat_cmp, on, then_cmp}
use Rattle.std.specs.declared.cmp.Ordering.{Ordering}
use Rattle.isle_base_source.specs.declared.pos.Pos.{Pos}

abbrev pub position_cmp : Pos → Pos → Ordering
position_cmp = then_cmp (on (λ p. p.file) nat_cmp) (on (λ p. p.offset) nat_cmp)

-- the input of the hasher
abbrev pub position_hash : Pos → HashWrites
position_hash p = usize p.file ++ usize p.offset

-- both numbers fit the types of their fields, as for each position in code
abbrev pub IsInRange : Pos → Type 0
IsInRange p = (p.file < 2 ^ 64) × (p.offset < 2 ^ 64)
