-- Which names a pattern matches.
use Rattle.std.specs.Prelude.{ℕ, ◌==◌, List, [], ◌∷◌, Bool, true, false, not, ◌&&◌, ◌||◌, if◌then◌else◌}
use Rattle.std.specs.List.{list_any}

-- what is left of a name fits, perhaps after some of its bytes, none of them `/`
abbrev pub after_some : (fits : List ℕ → Bool) → List ℕ → Bool
after_some fits [] = fits []
after_some fits (b ∷ name) = fits (b ∷ name) || (not (b == 47) && after_some fits name)

-- a name begins with this byte, and what is left of it fits
abbrev pub after_byte : ℕ → (fits : List ℕ → Bool) → List ℕ → Bool
after_byte c fits [] = false
after_byte c fits (b ∷ name) = b == c && fits name

-- a name ends, or goes on below what ends here
abbrev pub ends : (below : Bool) → List ℕ → Bool
ends below [] = true
ends below (b ∷ _) = below && b == 47

-- `*` (42) stands for any bytes but `/`, each other byte for itself; the name, or a folder above it, ends with the pattern
abbrev pub fits : (below : Bool) → (pattern : List ℕ) → List ℕ → Bool
fits below [] name = ends below name
fits below (c ∷ pattern) name = if c == 42 then after_some (fits below pattern) name else after_byte c (fits below pattern) name

-- a pattern matches a name
abbrev pub matches : (pattern name : List ℕ) → Bool
matches pattern name = fits false pattern name

-- a pattern matches a path, or a folder above it
abbrev pub covers : (pattern path : List ℕ) → Bool
covers pattern path = fits true pattern path

-- a pattern matches what follows a `/` in a path
abbrev pub excludes_behind : (pattern path : List ℕ) → Bool
excludes_behind pattern [] = false
excludes_behind pattern (b ∷ path) = (b == 47 && matches pattern path) || excludes_behind pattern path

-- a pattern matches a path, or what follows a `/` in it
abbrev pub excludes : (pattern path : List ℕ) → Bool
excludes pattern path = matches pattern path || excludes_behind pattern path

-- one of the patterns leaves a path out of the folders above it
abbrev pub is_excluded : (patterns : List (List ℕ)) → (path : List ℕ) → Bool
is_excluded patterns path = list_any (λ pattern. excludes pattern path) patterns
