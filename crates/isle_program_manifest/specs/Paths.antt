-- Paths that lead out of the folder that they are relative to.
use Rattle.std.specs.Prelude.{ℕ, nat_eq, ◌==◌, List, [], ◌∷◌, Bool, true, false, ◌&&◌, ◌||◌, codes}
use Rattle.std.specs.List.{starts_with}
use Rattle.std.specs.Str.{bytes_eq}

-- the bytes begin with this one
abbrev pub begins_with : ℕ → List ℕ → Bool
begins_with b [] = false
begins_with b (c ∷ _) = c == b

-- the first part of a path is `..`
abbrev pub is_up : List ℕ → Bool
is_up path = bytes_eq path (codes "..") || starts_with nat_eq path (codes "../")

-- some part of a path is `..`; at its first byte a part starts, or not
abbrev pub has_up : (starts : Bool) → List ℕ → Bool
has_up starts [] = false
has_up starts (b ∷ path) = (starts && is_up (b ∷ path)) || has_up (b == 47) path

-- a path begins with `/`, or some part of it is `..`
abbrev pub leads_out : List ℕ → Bool
leads_out path = begins_with 47 path || has_up true path
