-- A map of maps, from two texts to values.
use Rattle.std.specs.Prelude.{ℕ, List, Option, None, Some}
use Rattle.std.specs.HashMap.{get_by_text}
use Rattle.isle_check_environment.specs.ByText.{ByText}

abbrev pub get_if_some : {V : Type 0} → Option (ByText V) → List ℕ → Option V
get_if_some None text = None
get_if_some (Some values) text = get_by_text values text

-- what the map at the first text has at the second one
abbrev pub get_by_texts : {V : Type 0} → ByText (ByText V) → (first second : List ℕ) → Option V
get_by_texts values first second = get_if_some (get_by_text values first) second
