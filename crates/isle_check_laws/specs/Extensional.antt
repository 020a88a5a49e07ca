-- Worlds in which values are equal if they look so.
use Rattle.std.specs.Prelude.{◌≡◌, ℕ, ◌<◌, Some}
use Rattle.isle_check_places.specs.Places.{ConstraintNode, of_variant, of_bool, of_int, of_constant, present}
use Rattle.isle_check_laws.specs.Worlds.{World}

-- two values have equal parts, as a constraint tells them
abbrev pub HaveEqualParts : {V : Type 0} → World V → ConstraintNode → (u v : V) → Type 0
HaveEqualParts w (of_variant name n) u v = (i : ℕ) → i < n → w.field name i u ≡ w.field name i v
HaveEqualParts w (of_bool _) u v = Unit {0}
HaveEqualParts w (of_int _) u v = Unit {0}
HaveEqualParts w (of_constant _) u v = Unit {0}
HaveEqualParts w present u v = w.content u ≡ w.content v

-- values of which one constraint holds are equal if their parts are
abbrev pub IsExtensional : {V : Type 0} → World V → Type 0
IsExtensional {V} w =
    (c : ConstraintNode) (u v : V) → w.constraint u ≡ Some c → w.constraint v ≡ Some c → HaveEqualParts w c u v → u ≡ v
