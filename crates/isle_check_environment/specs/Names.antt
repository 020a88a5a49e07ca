-- A map from texts to positions, viewed as the names that were added to it.
use Rattle.std.specs.Prelude.{◌≡◌, ℕ, List, [], ◌∷◌, Bool, is_some, Option, None, Some, if◌then◌else◌}
use Rattle.std.specs.HashMap.{get_by_text}
use Rattle.std.specs.Str.{bytes_eq}
use Rattle.isle_base_source.specs.declared.pos.Pos.{Pos}
use Rattle.isle_ast_names.specs.Tree.{Name}
use Rattle.isle_check_environment.specs.ByText.{ByText}

-- the first one if there is one, and otherwise the second
abbrev pub or_else : {A : Type 0} → Option A → Option A → Option A
or_else None second = second
or_else (Some first) second = Some first

-- the position of the last name that has this text
abbrev pub place_of : List Name → List ℕ → Option Pos
place_of [] text = None
place_of (n ∷ ns) text = or_else (place_of ns text) (if bytes_eq n.text text then Some n.pos else None)

-- whether one of the names has this text
abbrev pub has : List Name → List ℕ → Bool
has names text = is_some (place_of names text)

-- the map has the positions of these names and no others
abbrev pub Knows : ByText Pos → List Name → Type 0
Knows places names = (text : List ℕ) → get_by_text places text ≡ place_of names text
