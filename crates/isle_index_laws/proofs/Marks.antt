-- Tokens, with marks at those that names of the tree are read from.
use Rattle.std.proofs.Common.{◌≡◌, ◌∷◌, ◌++◌, ℕ, ◌+◌, List, [], Bool, true, false, ◌&&◌, not, Option, None, Some, map, refl, arith}
use Rattle.isle_base.specs.Bytes.{dollar}
use Rattle.isle_base.specs.Place.{Placed}
use Rattle.isle_base.specs.Token.{symbol}
use Rattle.isle_base_source.specs.declared.pos.Pos.{Pos}
use Rattle.isle_ast_names.specs.Tree.{Name}
use Rattle.isle_resolve.specs.declared.event.Kind.{Kind}
use Rattle.isle_resolve.specs.declared.event.Kind.TheVariants as kinds
use Rattle.isle_resolve.specs.Event.{EventNode, defines, uses, defines_variant, occurs, binds, reads, closes, ends}
use Rattle.isle_index.specs.Renamed.{same_place}

-- a token that no event is about, a name, or a constant, which is written with a `$` before it
pub data Mark : Type 0 where
  plain : Placed → Mark
  name : Name → Mark
  constant : Name → Mark

-- the token, with f applied to its name
abbrev pub token : (Name → Name) → Mark → Placed
token f (plain t) = t
token f (name n) = record { pos = n.pos; token = symbol (f n).text }
token f (constant n) = record { pos = n.pos; token = symbol (dollar ∷ (f n).text) }

abbrev pub tokens : (Name → Name) → List Mark → List Placed
tokens f ms = map (token f) ms

-- the tokens as they are
abbrev pub tokens_of : List Mark → List Placed
tokens_of ms = tokens (λ n. n) ms

-- what a mark or an event is about: whether a constant, and its position
abbrev pub Key : Type 0
Key = Option (Bool × Pos)

abbrev pub marked : Mark → Key
marked (plain _) = None
marked (name n) = Some (false, n.pos)
marked (constant n) = Some (true, n.pos)

abbrev pub is_constant_kind : Kind → Bool
is_constant_kind kinds.Term = false
is_constant_kind kinds.Type = false
is_constant_kind kinds.Constant = true

abbrev pub wanted : EventNode → Key
wanted (defines kind n) = Some (is_constant_kind kind, n.pos)
wanted (uses kind n) = Some (is_constant_kind kind, n.pos)
wanted (defines_variant _ member) = Some (false, member.pos)
wanted (occurs _ n) = Some (false, n.pos)
wanted (binds n) = Some (false, n.pos)
wanted (reads n) = Some (false, n.pos)
wanted closes = None
wanted ends = None

abbrev pub alike : Bool → Bool → Bool
alike true b = b
alike false b = not b

abbrev pub one_if : Bool → ℕ
one_if true = 1
one_if false = 0

-- 1 if it is this kind at this position
abbrev pub hit : Bool → Pos → Key → ℕ
hit of_constant p None = 0
hit of_constant p (Some k) = one_if (alike of_constant k.0 && same_place p k.1)

-- how many of the marks, and of the events, are of this kind at this position
abbrev pub marks_at : Bool → Pos → List Mark → ℕ
marks_at of_constant p [] = 0
marks_at of_constant p (m ∷ ms) = hit of_constant p (marked m) + marks_at of_constant p ms

abbrev pub events_at : Bool → Pos → List EventNode → ℕ
events_at of_constant p [] = 0
events_at of_constant p (e ∷ es) = hit of_constant p (wanted e) + events_at of_constant p es

pub marks_in_turn : (c : Bool) (p : Pos) (xs ys : List Mark) → marks_at c p (xs ++ ys) ≡ marks_at c p xs + marks_at c p ys
marks_in_turn c p [] ys = omega arith
marks_in_turn c p (x ∷ xs) ys = let more = marks_in_turn c p xs ys in omega arith

pub events_in_turn : (c : Bool) (p : Pos) (es fs : List EventNode) → events_at c p (es ++ fs) ≡ events_at c p es + events_at c p fs
events_in_turn c p [] fs = omega arith
events_in_turn c p (e ∷ es) fs = let more = events_in_turn c p es fs in omega arith

-- the marks are those of the events
abbrev pub AreMarked : List Mark → List EventNode → Type 0
AreMarked ms es = (c : Bool) (p : Pos) → events_at c p es ≡ marks_at c p ms

-- the events in another order, and with other events that are about nothing
abbrev pub SameEvents : List EventNode → List EventNode → Type 0
SameEvents es fs = (c : Bool) (p : Pos) → events_at c p es ≡ events_at c p fs

pub plain_marks : (c : Bool) (p : Pos) (ts : List Placed) → 0 ≡ marks_at c p (map plain ts)
plain_marks c p [] = refl
plain_marks c p (t ∷ ts) = let more = plain_marks c p ts in omega arith

pub alone : (es : List EventNode) → SameEvents (es ++ []) es
alone es c p = let both = events_in_turn c p es [] in omega arith

pub exchanged : (es fs : List EventNode) → SameEvents (es ++ fs) (fs ++ es)
exchanged es fs c p =
    let one = events_in_turn c p es fs in
    let other = events_in_turn c p fs es in
    omega arith
