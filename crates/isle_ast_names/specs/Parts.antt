-- The relations of the grammar by parts. A part is a list of tokens that is a spelling, whatever
-- follows it.
use Rattle.std.specs.Prelude.{◌≡◌, ◌↔◌, List, [], ◌∷◌, ◌++◌}
use Rattle.isle_base.specs.Place.{Placed}

-- these tokens spell it, whatever follows them
abbrev pub IsPart : (List Placed → List Placed → Type 0) → List Placed → Type 0
IsPart Spells part = (rest : List Placed) → Spells (part ++ rest) rest

-- `all` begins with a spelling and `rest` follows: so `all` is such a part and then `rest`
abbrev pub CutsPart : (List Placed → List Placed → Type 0) → List Placed → List Placed → Type 0
CutsPart Spells all rest = (part : List Placed) × (all ≡ part ++ rest) × IsPart Spells part

-- the relation says no more than that
abbrev pub IsByParts : (List Placed → List Placed → Type 0) → Type 0
IsByParts Spells = (all rest : List Placed) → Spells all rest ↔ CutsPart Spells all rest

-- the tokens are divided into one part for each node, which spells that node
abbrev pub AreParts : {A : Type 0} → (A → List Placed → List Placed → Type 0) → List A → List Placed → Type 0
AreParts Spells [] all = all ≡ []
AreParts Spells (x ∷ xs) all =
    (first : List Placed) × (others : List Placed) × (all ≡ first ++ others) × IsPart (Spells x) first × AreParts Spells xs others
