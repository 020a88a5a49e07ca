use Rattle.std.proofs.Common.{◌≡◌, ◌++◌, drop}
use Rattle.isle_check_places.specs.Views.{places_of}
use Rattle.isle_check_matchings.proofs.values.copied_places.Given as goal

abbrev pub invariant-loop-place : goal.invariant-loop-place
invariant-loop-place l =
    places_of l.made.items ++ places_of (drop l.place-index l.places) ≡ places_of l.places
