-- What is known after a part of a rule: the variables that are bound, and the errors.
use Rattle.std.specs.Prelude.{ℕ, ◌+◌, List, [], ◌∷◌, ◌++◌, map, take, drop, Bool, true, false, ◌&&◌, Option, None, Some, if◌then◌else◌}
use Rattle.std.specs.Str.{bytes_eq}
use Rattle.isle_base_source.specs.declared.pos.Pos.{Pos}
use Rattle.isle_check_environment.specs.signatures.Entries.{or_else}
use Rattle.isle_check_typing.specs.Faults.{KindNode, FaultNode}

pub record VariableNode : Type 0 where
  pub name : List ℕ
  pub ty : List ℕ
  -- whether it may be named
  pub is_visible : Bool

pub record ProgressNode : Type 0 where
  pub bound : List VariableNode
  pub faults : List FaultNode

-- one more error
abbrev pub tell : KindNode → Pos → ProgressNode → ProgressNode
tell kind place s = record { bound = s.bound; faults = s.faults ++ record { kind = kind; pos = place } ∷ [] }

-- one more error, unless this holds
abbrev pub unless : Bool → KindNode → Pos → ProgressNode → ProgressNode
unless holds kind place s = if holds then s else tell kind place s

-- one more variable
abbrev pub bind : (name ty : List ℕ) → ProgressNode → ProgressNode
bind name ty s = record { bound = s.bound ++ record { name = name; ty = ty; is_visible = true } ∷ []; faults = s.faults }

abbrev pub hidden : VariableNode → VariableNode
hidden v = record { name = v.name; ty = v.ty; is_visible = false }

-- the variables that were bound since there were `count` are hidden
abbrev pub hide_since : (count : ℕ) → ProgressNode → ProgressNode
hide_since count s = record { bound = take count s.bound ++ map hidden (drop count s.bound); faults = s.faults }

-- a variable by its number, and its type
pub record FoundNode : Type 0 where
  pub number : ℕ
  pub ty : List ℕ

-- the last variable of this name that is visible, if the first variable has the number `i`
abbrev pub find_from : (i : ℕ) → List VariableNode → (name : List ℕ) → Option FoundNode
find_from i [] name = None
find_from i (v ∷ vs) name =
    or_else (find_from (i + 1) vs name) (if v.is_visible && bytes_eq v.name name then Some (record { number = i; ty = v.ty }) else None)

-- the last variable of this name that is visible
abbrev pub find : List VariableNode → (name : List ℕ) → Option FoundNode
find vs name = find_from 0 vs name
