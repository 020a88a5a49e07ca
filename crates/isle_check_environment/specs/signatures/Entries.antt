-- A map from texts to values, viewed as the entries that were added to it.
use Rattle.std.specs.Prelude.{◌≡◌, ℕ, List, [], ◌∷◌, Option, None, Some, option_map, if◌then◌else◌}
use Rattle.std.specs.HashMap.{get_by_text}
use Rattle.std.specs.Str.{bytes_eq}
use Rattle.isle_check_environment.specs.ByText.{ByText}

-- a value under a text
pub record Entry (Y : Type 0) : Type 0 where
  pub text : List ℕ
  pub value : Y

abbrev pub entry : {Y : Type 0} → List ℕ → Y → Entry Y
entry text value = record { text = text; value = value }

-- the first value if there is one, and otherwise the second
abbrev pub or_else : {Y : Type 0} → Option Y → Option Y → Option Y
or_else None second = second
or_else (Some y) second = Some y

-- the value of the last entry that has this text
abbrev pub value_of : {Y : Type 0} → List (Entry Y) → List ℕ → Option Y
value_of [] text = None
value_of (e ∷ es) text = or_else (value_of es text) (if bytes_eq e.text text then Some e.value else None)

-- the map has the values of these entries and no others
abbrev pub Holds : {V Y : Type 0} → (V → Y) → ByText V → List (Entry Y) → Type 0
Holds view map entries = (text : List ℕ) → option_map view (get_by_text map text) ≡ value_of entries text
