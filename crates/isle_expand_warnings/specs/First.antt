-- The first value that a function gives of a list.
use Rattle.std.specs.Prelude.{List, [], ◌∷◌, Option, None, Some}

abbrev pub or_first : {B : Type 0} → Option B → Option B → Option B
or_first None o = o
or_first (Some y) o = Some y

abbrev pub first : {A B : Type 0} → (A → Option B) → List A → Option B
first f [] = None
first f (x ∷ xs) = or_first (f x) (first f xs)
