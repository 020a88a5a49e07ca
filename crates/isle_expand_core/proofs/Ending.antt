-- The flags of an order tell exactly which templates end.
use Rattle.std.proofs.Common.{◌≡◌, ◌==◌, ℕ, zero, suc, List, [], ◌∷◌, ◌++◌, length, get_or, Bool, true, false, ◌&&◌, ◌||◌, Option, None, Some, slice_get, option_map, ◌⊎◌, inl, inr, refl, ap, sym, subst, ◌∙◌, eqb-true}
use Rattle.std.specs.List.{list_all}
use Rattle.std.proofs.lemmas.Option.{slice_get_within, slice_get-map, get_or_from_slice_get}
use Rattle.isle_ast_rules.specs.Tree.{PatternNode}
use Rattle.isle_expand_core.specs.Macros.{MacroNode, meant, place_of}
use Rattle.isle_expand_core.specs.Mentions.{TermUse, uses}
use Rattle.isle_expand_core.specs.Misuses.{Ends, ends, fits}
use Rattle.isle_expand_core.specs.Order.{AreAfterCallees, IsClosed, IsOrder, all_end, callee_places, callees_in, has, with_place}
use Rattle.isle_expand_core.proofs.Growth.{deeper, deeper_comm}
use Rattle.isle_expand_core.proofs.Places.{no_place, place_means}

-- two tests
pub both_true : (a b : Bool) → a ≡ true → b ≡ true → (a && b) ≡ true
both_true a b h k = (λ i. h i && k i)

pub first_true : (a b : Bool) → (a && b) ≡ true → a ≡ true
first_true true b h = refl
first_true false b h = absurd (cc)

pub second_true : (a b : Bool) → (a && b) ≡ true → b ≡ true
second_true true b h = h
second_true false b h = absurd (cc)

-- a test that passes more
pub all_more : {A : Type 0} (f g : A → Bool) (xs : List A) → ((x : A) → f x ≡ true → g x ≡ true) → list_all f xs ≡ true → list_all g xs ≡ true
all_more f g [] k h = refl
all_more f g (x ∷ xs) k h =
    both_true (g x) (list_all g xs) (k x (first_true (f x) (list_all f xs) h)) (all_more f g xs k (second_true (f x) (list_all f xs) h))

-- a greater depth
fits_more : (f g : PatternNode → Bool) (o : Option MacroNode) → ((p : PatternNode) → f p ≡ true → g p ≡ true) → fits o f ≡ true → fits o g ≡ true
fits_more f g None k h = refl
fits_more f g (Some m) k h = k m.template h

pub ends_more : (ms : List MacroNode) (d : ℕ) (p : PatternNode) → ends d ms p ≡ true → ends (suc d) ms p ≡ true
ends_more ms zero p h = absurd (cc)
ends_more ms (suc d) p h =
    all_more (λ u. fits (meant u.term.text ms) (ends d ms)) (λ u. fits (meant u.term.text ms) (ends (suc d) ms)) (uses p)
    (λ u. fits_more (ends d ms) (ends (suc d) ms) (meant u.term.text ms) (ends_more ms d)) h

ends_deeper : (ms : List MacroNode) (n d : ℕ) (p : PatternNode) → ends d ms p ≡ true → ends (deeper n d) ms p ≡ true
ends_deeper ms zero d p h = h
ends_deeper ms (suc n) d p h = ends_more ms (deeper n d) p (ends_deeper ms n d p h)

-- what a use means comes to an end
abbrev pub MeantEnds : List MacroNode → Option MacroNode → Type 0
MeantEnds ms None = Unit {0}
MeantEnds ms (Some m) = Ends ms m.template

abbrev pub AllEnd : List MacroNode → List TermUse → Type 0
AllEnd ms [] = Unit {0}
AllEnd ms (u ∷ us) = MeantEnds ms (meant u.term.text ms) × AllEnd ms us

fits_at : (ms : List MacroNode) (o : Option MacroNode) → MeantEnds ms o → (d : ℕ) × (fits o (ends d ms) ≡ true)
fits_at ms None h = (0, refl)
fits_at ms (Some m) h = h

fits_deeper : (ms : List MacroNode) (n d : ℕ) (o : Option MacroNode) → fits o (ends d ms) ≡ true → fits o (ends (deeper n d) ms) ≡ true
fits_deeper ms n d None h = refl
fits_deeper ms n d (Some m) h = ends_deeper ms n d m.template h

-- so all do at one depth
all_at : (ms : List MacroNode) (us : List TermUse) → AllEnd ms us → (d : ℕ) × (list_all (λ u. fits (meant u.term.text ms) (ends d ms)) us ≡ true)
all_at ms [] h = (0, refl)
all_at ms (u ∷ us) h =
    let one = fits_at ms (meant u.term.text ms) h.0 in
    let rest = all_at ms us h.1 in
    let d = deeper rest.0 one.0 in (
      d,
      both_true (fits (meant u.term.text ms) (ends d ms)) (list_all (λ u. fits (meant u.term.text ms) (ends d ms)) us)
          (fits_deeper ms rest.0 one.0 (meant u.term.text ms) one.1)
          (subst (λ n. list_all (λ u. fits (meant u.term.text ms) (ends n ms)) us ≡ true) (deeper_comm one.0 rest.0)
          (all_more (λ u. fits (meant u.term.text ms) (ends rest.0 ms)) (λ u. fits (meant u.term.text ms) (ends (deeper one.0 rest.0) ms)) us
          (λ u. fits_deeper ms one.0 rest.0 (meant u.term.text ms)) rest.1)),
    )

pub all_end_ends : (ms : List MacroNode) (p : PatternNode) → AllEnd ms (uses p) → Ends ms p
all_end_ends ms p h = let all = all_at ms (uses p) h in (suc all.0, all.1)

or_left : (b : Bool) → (b || false) ≡ true → b ≡ true
or_left true h = refl
or_left false h = absurd (cc)

push_has_at : (b later had : Bool) (place q : ℕ) → (b || later) ≡ true → (later ≡ true → (had ≡ true) ⊎ (place ≡ q)) → ((b || had) ≡ true) ⊎ (place ≡ q)
push_has_at true later had place q h k = inl refl
push_has_at false later had place q h k = k h

either_place : {P : Type 0} (a b : Bool) → (a || b) ≡ true → (a ≡ true → P) → (b ≡ true → P) → P
either_place true b h f g = f refl
either_place false b h f g = g h

-- the template at a place comes to an end
abbrev pub EndsAt : List MacroNode → ℕ → Type 0
EndsAt ms place = (m : MacroNode) → slice_get ms place ≡ Some m → Ends ms m.template

-- where the places of callees pass a test that tells which come to an end, what is used does
meant_ends : (ms : List MacroNode) (u : TermUse) (o : Option ℕ) (rest : List ℕ) (test : ℕ → Bool) → place_of u.term.text ms ≡ o → ((p : ℕ) → test p ≡ true → EndsAt ms p) →
    list_all test (with_place o rest) ≡ true → MeantEnds ms (meant u.term.text ms) × (list_all test rest ≡ true)
meant_ends ms u None rest test is k h = (subst (MeantEnds ms) (sym (no_place u.term.text ms is)) tt, h)
meant_ends ms u (Some p) rest test is k h =
    let at = place_means u.term.text ms p is in (
      subst (MeantEnds ms) (sym at.means) (k p (first_true (test p) (list_all test rest) h) at.found at.there),
      second_true (test p) (list_all test rest) h,
    )

callees_end : (ms : List MacroNode) (test : ℕ → Bool) → ((p : ℕ) → test p ≡ true → EndsAt ms p) → (us : List TermUse) → list_all test (callee_places ms us) ≡ true → AllEnd ms us
callees_end ms test k [] h = tt
callees_end ms test k (u ∷ us) h =
    let one = meant_ends ms u (place_of u.term.text ms) (callee_places ms us) test refl k h in (one.0, callees_end ms test k us one.1)

-- what is at a place among the callees
pub callees_at : (ms : List MacroNode) (place : ℕ) (m : MacroNode) → slice_get ms place ≡ Some m → get_or (callees_in ms) place [] ≡ callee_places ms (uses m.template)
callees_at ms place m h =
    get_or_from_slice_get (callees_in ms) place (callee_places ms (uses m.template)) []
    (slice_get-map (λ n. callee_places ms (uses n.template)) ms place ∙ ap (option_map (λ n. callee_places ms (uses n.template))) h)

push_has : (before : List ℕ) (place q : ℕ) → has (before ++ place ∷ []) q ≡ true → (has before q ≡ true) ⊎ (place ≡ q)
push_has [] place q h = inr (eqb-true place q (or_left (place == q) h))
push_has (x ∷ before) place q h = push_has_at (x == q) (has (before ++ place ∷ []) q) (has before q) place q h (push_has before place q)

-- each place in an order comes to an end
after_ends : (ms : List MacroNode) (before places : List ℕ) → ((p : ℕ) → has before p ≡ true → EndsAt ms p) → AreAfterCallees (callees_in ms) before places →
    (p : ℕ) → has places p ≡ true → EndsAt ms p
after_ends ms before [] k a p h = absurd (cc)
after_ends ms before (place ∷ places) k a p h =
    let here : EndsAt ms place = λ m there.
    all_end_ends ms m.template (callees_end ms (has before) k (uses m.template) (subst (λ cs. list_all (has before) cs ≡ true) (callees_at ms place m there) a.0)) in
    let more : (q : ℕ) → has (before ++ place ∷ []) q ≡ true → EndsAt ms q = λ q had.
    elim (push_has before place q had) [
      | inl old ↦ k q old
      | inr same ↦ subst (EndsAt ms) same here
    ] in
    either_place (place == p) (has places p) h
    (λ same. subst (EndsAt ms) (eqb-true place p same) here) (after_ends ms (before ++ place ∷ []) places more a.1 p)

pub order_ends : (ms : List MacroNode) (flags : List Bool) (places : List ℕ) → IsOrder (callees_in ms) flags places → (p : ℕ) → get_or flags p false ≡ true → EndsAt ms p
order_ends ms flags places order p h = after_ends ms [] places (λ q no. absurd (cc)) order.after p (sym (order.same p) ∙ h)

-- what comes to an end at a depth has its flag
meant_flag : (ms : List MacroNode) (flags : List Bool) (d : ℕ) (u : TermUse) (o : Option ℕ) (rest : List ℕ) → place_of u.term.text ms ≡ o →
    ((p : ℕ) (m : MacroNode) → slice_get ms p ≡ Some m → ends d ms m.template ≡ true → get_or flags p false ≡ true) →
    fits (meant u.term.text ms) (ends d ms) ≡ true → all_end flags rest ≡ true → all_end flags (with_place o rest) ≡ true
meant_flag ms flags d u None rest is k h all = all
meant_flag ms flags d u (Some p) rest is k h all =
    let at = place_means u.term.text ms p is in
    both_true (get_or flags p false) (all_end flags rest) (k p at.found at.there (subst (λ o. fits o (ends d ms) ≡ true) at.means h)) all

all_flags : (ms : List MacroNode) (flags : List Bool) (d : ℕ) → ((p : ℕ) (m : MacroNode) → slice_get ms p ≡ Some m → ends d ms m.template ≡ true → get_or flags p false ≡ true) →
    (us : List TermUse) → list_all (λ u. fits (meant u.term.text ms) (ends d ms)) us ≡ true → all_end flags (callee_places ms us) ≡ true
all_flags ms flags d k [] h = refl
all_flags ms flags d k (u ∷ us) h =
    let test = λ (u : TermUse). fits (meant u.term.text ms) (ends d ms) in
    meant_flag ms flags d u (place_of u.term.text ms) (callee_places ms us) refl k (first_true (test u) (list_all test us) h)
    (all_flags ms flags d k us (second_true (test u) (list_all test us) h))

pub flag_at : (ms : List MacroNode) (flags : List Bool) → IsClosed (callees_in ms) flags (length ms) → (d : ℕ) (p : ℕ) (m : MacroNode) → slice_get ms p ≡ Some m → ends d ms m.template ≡ true →
    get_or flags p false ≡ true
flag_at ms flags closed zero p m there h = absurd (cc)
flag_at ms flags closed (suc d) p m there h =
    closed p (slice_get_within ms p m there)
    (subst (λ cs. all_end flags cs ≡ true) (sym (callees_at ms p m there)) (all_flags ms flags d (flag_at ms flags closed d) (uses m.template) h))
