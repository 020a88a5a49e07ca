use Rattle.std.proofs.Common.{◌≡◌, drop}
use Rattle.std.specs.List.{list_any}
use Rattle.isle_index.specs.Renamed.{same_place}
use Rattle.isle_index.proofs.parts.is_among.Given as goal

abbrev pub invariant-loop-place : goal.invariant-loop-place
invariant-loop-place l = list_any (same_place l.pos) (drop l.place-index l.places) ≡ list_any (same_place l.pos) l.places
