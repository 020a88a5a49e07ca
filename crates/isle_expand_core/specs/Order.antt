-- Places in an order in which each comes after its callees.
use Rattle.std.specs.Prelude.{◌≡◌, ◌==◌, ℕ, zero, suc, ◌<◌, List, [], ◌∷◌, ◌++◌, Bool, true, false, Option, None, Some, length, get_or, map}
use Rattle.std.specs.List.{list_all, list_any}
use Rattle.isle_expand_core.specs.Macros.{MacroNode, place_of}
use Rattle.isle_expand_core.specs.Expansion.{expanded_by}
use Rattle.isle_expand_core.specs.Mentions.{TermUse, uses}

abbrev pub with_place : Option ℕ → List ℕ → List ℕ
with_place None places = places
with_place (Some place) places = place ∷ places

-- the places of the macros that uses mean
abbrev pub callee_places : List MacroNode → List TermUse → List ℕ
callee_places ms [] = []
callee_places ms (u ∷ us) = with_place (place_of u.term.text ms) (callee_places ms us)

-- those that each template uses
abbrev pub callees_in : List MacroNode → List (List ℕ)
callees_in ms = map (λ m. callee_places ms (uses m.template)) ms

abbrev pub has : List ℕ → ℕ → Bool
has places place = list_any (λ p. p == place) places

-- each place comes after its callees, where some places came before
abbrev pub AreAfterCallees : List (List ℕ) → List ℕ → List ℕ → Type 0
AreAfterCallees callees before [] = Unit {0}
AreAfterCallees callees before (place ∷ places) =
    (list_all (has before) (get_or callees place []) ≡ true) × AreAfterCallees callees (before ++ place ∷ []) places

-- all callees of a place come to an end
abbrev pub all_end : List Bool → List ℕ → Bool
all_end ends places = list_all (λ place. get_or ends place false) places

-- the places that come to an end, as flags and in an order, where each comes after its callees
pub record IsOrder (callees : List (List ℕ)) (ends : List Bool) (places : List ℕ) : Type 0 where
  pub count : length ends ≡ length callees
  pub same : (place : ℕ) → get_or ends place false ≡ has places place
  pub after : AreAfterCallees callees [] places

-- a place whose callees all come to an end is one of them
abbrev pub IsClosed : List (List ℕ) → List Bool → ℕ → Type 0
IsClosed callees ends bound =
    (place : ℕ) → place < bound → all_end ends (get_or callees place []) ≡ true → get_or ends place false ≡ true

-- how many places don't come to an end
abbrev pub unended : List Bool → ℕ
unended [] = 0
unended (true ∷ ends) = unended ends
unended (false ∷ ends) = suc (unended ends)

-- the macros once the template at a place, and those at places in order, are expanded by what is known then
abbrev pub expand_place : ℕ → List MacroNode → List MacroNode → List MacroNode
expand_place place ks [] = []
expand_place zero ks (m ∷ ms) = expanded_by ks m ∷ ms
expand_place (suc place) ks (m ∷ ms) = m ∷ expand_place place ks ms

abbrev pub expand_places : List ℕ → List MacroNode → List MacroNode
expand_places [] ms = ms
expand_places (place ∷ places) ms = expand_places places (expand_place place ms ms)
