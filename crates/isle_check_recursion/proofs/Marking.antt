-- Places that are marked one after another.
use Rattle.std.proofs.Common.{◌≡◌, ◌≢◌, ◌==◌, ◌<◌, ℕ, ◌+◌, zero, suc, List, [], ◌∷◌, length, get_or, set, replicate, Bool, true, false, ◌&&◌, not, nat_lt, refl, ap, sym, subst, ◌∙◌, arith, eqb-true, eq-eqb}
use Rattle.std.specs.List.{list_all}
use Rattle.std.proofs.lemmas.Bool.{ltb-true, lt-ltb}
use Rattle.std.proofs.lemmas.List.{length-set, length-replicate, get_or-set_other}
use Rattle.isle_check_recursion.specs.Walks.{AreEnds, IsClosed, IsSound, all_end, ended, ends_from, ends_within, unended}

-- two tests
both_true : (a b : Bool) → a ≡ true → b ≡ true → (a && b) ≡ true
both_true a b h k = (λ i. h i && k i)

first_true : (a b : Bool) → (a && b) ≡ true → a ≡ true
first_true true b h = refl
first_true false b h = absurd (cc)

second_true : (a b : Bool) → (a && b) ≡ true → b ≡ true
second_true true b h = h
second_true false b h = absurd (cc)

same_by : (a b : Bool) → (a ≡ true → b ≡ true) → (b ≡ true → a ≡ true) → a ≡ b
same_by true b h k = sym (h refl)
same_by false true h k = k refl
same_by false false h k = refl

-- a test that passes more
all_more : (f g : ℕ → Bool) (xs : List ℕ) → ((x : ℕ) → f x ≡ true → g x ≡ true) → list_all f xs ≡ true → list_all g xs ≡ true
all_more f g [] k h = refl
all_more f g (x ∷ xs) k h =
    both_true (g x) (list_all g xs) (k x (first_true (f x) (list_all f xs) h)) (all_more f g xs k (second_true (f x) (list_all f xs) h))

-- walks with fewer steps than a number have fewer than a greater one
within_more : (next : List (List ℕ)) (n place : ℕ) → ends_within n next place ≡ true → ends_within (suc n) next place ≡ true
within_more next zero place h = absurd (cc)
within_more next (suc n) place h =
    let below = nat_lt place (length next) in
    let steps = get_or next place [] in
    both_true below (list_all (ends_within (suc n) next) steps) (first_true below (list_all (ends_within n next) steps) h)
    (all_more (ends_within n next) (ends_within (suc n) next) steps (within_more next n) (second_true below (list_all (ends_within n next) steps) h))

abbrev deeper : ℕ → ℕ → ℕ
deeper zero n = n
deeper (suc more) n = suc (deeper more n)

deeper_is : (more n : ℕ) → deeper more n ≡ more + n
deeper_is zero n = let e : n ≡ 0 + n = omega arith in e
deeper_is (suc more) n = let e : deeper more n ≡ more + n = deeper_is more n in omega (arith, e)

within_deeper : (next : List (List ℕ)) (more n place : ℕ) → ends_within n next place ≡ true → ends_within (deeper more n) next place ≡ true
within_deeper next zero n place h = h
within_deeper next (suc more) n place h = within_more next (deeper more n) place (within_deeper next more n place h)

-- flags once one is set
get_set : (flags : List Bool) (p q : ℕ) → p < length flags → (b : Bool) → (q == p) ≡ b → get_or (set flags p true) q false ≡ true → (b ≡ false → get_or flags q false ≡ true)
get_set flags p q within true same is other = absurd (cc)
get_set flags p q within false differs is other =
    let apart : q ≢ p = λ e. let t : (q == p) ≡ true = eq-eqb q p e in absurd (cc) in
    sym (get_or-set_other flags p q true false apart) ∙ is

ended_set : (flags : List Bool) (p : ℕ) → p < length flags → get_or flags p false ≡ false → ended (set flags p true) ≡ suc (ended flags)
ended_set [] p h f = absurd (omega (arith, h))
ended_set (true ∷ flags) zero h f = absurd (cc)
ended_set (false ∷ flags) zero h f = refl
ended_set (true ∷ flags) (suc p) h f = ap suc (ended_set flags p (omega (arith, h)) f)
ended_set (false ∷ flags) (suc p) h f = ended_set flags p (omega (arith, h)) f

pub unended_set : (flags : List Bool) (p : ℕ) → p < length flags → get_or flags p false ≡ false → suc (unended (set flags p true)) ≡ unended flags
unended_set [] p h f = absurd (omega (arith, h))
unended_set (true ∷ flags) zero h f = absurd (cc)
unended_set (false ∷ flags) zero h f = refl
unended_set (true ∷ flags) (suc p) h f = unended_set flags p (omega (arith, h)) f
unended_set (false ∷ flags) (suc p) h f = ap suc (unended_set flags p (omega (arith, h)) f)

-- no more places are marked than there are
ended_le : (flags : List Bool) → ended flags + unended flags ≡ length flags
ended_le [] = refl
ended_le (true ∷ flags) = let e : ended flags + unended flags ≡ length flags = ended_le flags in omega (arith, e)
ended_le (false ∷ flags) = let e : ended flags + unended flags ≡ length flags = ended_le flags in omega (arith, e)

-- what a test of a place says
pub ready_unset : (a b : Bool) → (not a && b) ≡ true → a ≡ false
ready_unset true b h = absurd (cc)
ready_unset false b h = refl

ready_ends : (a b : Bool) → (not a && b) ≡ true → b ≡ true
ready_ends true b h = absurd (cc)
ready_ends false b h = h

unready : (a b : Bool) → (not a && b) ≡ false → b ≡ true → a ≡ true
unready true b h e = refl
unready false b h e = absurd (cc)

-- no place is marked
none_set : (n place : ℕ) → get_or (replicate n false) place false ≡ false
none_set zero place = refl
none_set (suc n) zero = refl
none_set (suc n) (suc place) = none_set n place

pub sound_begun : (next : List (List ℕ)) (flags : List Bool) (n : ℕ) → n ≡ length next → flags ≡ replicate n false → IsSound next flags
sound_begun next flags n count is =
    record {
      count = ap length is ∙ length-replicate n false ∙ count;
      each = λ place set. let unset : get_or flags place false ≡ false = ap (λ fs. get_or fs place false) is ∙ none_set n place in absurd (cc);
    }

-- one more place is marked
sound_at : (next : List (List ℕ)) (flags : List Bool) (p q : ℕ) → IsSound next flags → p < length next → all_end flags (get_or next p []) ≡ true →
    (b : Bool) → (q == p) ≡ b → (b ≡ false → get_or flags q false ≡ true) → ends_within (suc (ended flags)) next q ≡ true
sound_at next flags p q sound within ends true same other =
    subst (λ r. ends_within (suc (ended flags)) next r ≡ true) (sym (eqb-true q p same))
    (both_true (nat_lt p (length next)) (list_all (ends_within (ended flags) next) (get_or next p [])) (lt-ltb p (length next) within)
    (all_more (λ r. get_or flags r false) (ends_within (ended flags) next) (get_or next p []) sound.each ends))
sound_at next flags p q sound within ends false differs other =
    within_more next (ended flags) q (sound.each q (other refl))

pub sound_mark : (next : List (List ℕ)) (flags : List Bool) (p : ℕ) → IsSound next flags → p < length next →
    (not (get_or flags p false) && all_end flags (get_or next p [])) ≡ true → IsSound next (set flags p true)
sound_mark next flags p sound within ready =
    let unset : get_or flags p false ≡ false = ready_unset (get_or flags p false) (all_end flags (get_or next p [])) ready in
    let ends : all_end flags (get_or next p []) ≡ true = ready_ends (get_or flags p false) (all_end flags (get_or next p [])) ready in
    let inside : p < length flags = omega (arith, sound.count, within) in
    record {
      count = length-set flags p true ∙ sound.count;
      each = λ q is. subst (λ n. ends_within n next q ≡ true) (sym (ended_set flags p inside unset))
          (sound_at next flags p q sound within ends (q == p) refl (get_set flags p q inside (q == p) refl is));
    }

below_other : (p q : ℕ) → (q == p) ≡ false → q < p + 1 → q < p
below_other p q other below =
    let differ : ¬ (q ≡ p) = λ e. let t : (q == p) ≡ true = eq-eqb q p e in absurd (cc) in
    omega (arith, differ, below)

-- one place more is looked at
closed_at : (next : List (List ℕ)) (flags : List Bool) (p q : ℕ) → IsClosed next flags p → (not (get_or flags p false) && all_end flags (get_or next p [])) ≡ false →
    all_end flags (get_or next q []) ≡ true → (b : Bool) → (q == p) ≡ b → q < p + 1 → get_or flags q false ≡ true
closed_at next flags p q closed test ends true same below =
    let e : q ≡ p = eqb-true q p same in
    subst (λ r. get_or flags r false ≡ true) (sym e)
    (unready (get_or flags p false) (all_end flags (get_or next p [])) test (subst (λ r. all_end flags (get_or next r []) ≡ true) e ends))
closed_at next flags p q closed test ends false other below = closed q (below_other p q other below) ends

pub closed_more : (next : List (List ℕ)) (flags : List Bool) (p : ℕ) → IsClosed next flags p → (not (get_or flags p false) && all_end flags (get_or next p [])) ≡ false →
    IsClosed next flags (p + 1)
closed_more next flags p closed test q below ends = closed_at next flags p q closed test ends (q == p) refl below

-- where no further place can be marked, the marks tell which walks end
complete : (next : List (List ℕ)) (flags : List Bool) → IsClosed next flags (length next) → (n place : ℕ) → ends_within n next place ≡ true → get_or flags place false ≡ true
complete next flags closed zero place h = absurd (cc)
complete next flags closed (suc n) place h =
    let below = nat_lt place (length next) in
    let steps = get_or next place [] in
    closed place (ltb-true place (length next) (first_true below (list_all (ends_within n next) steps) h))
    (all_more (ends_within n next) (λ r. get_or flags r false) steps (complete next flags closed n) (second_true below (list_all (ends_within n next) steps) h))

enough : (next : List (List ℕ)) (flags : List Bool) (place : ℕ) → IsSound next flags → get_or flags place false ≡ true → ends_from next place ≡ true
enough next flags place sound set =
    let all : ended flags + unended flags ≡ length flags = ended_le flags in
    let is : deeper (unended flags) (ended flags) ≡ length next = deeper_is (unended flags) (ended flags) ∙ omega (arith, all, sound.count) in
    subst (λ n. ends_within n next place ≡ true) is (within_deeper next (unended flags) (ended flags) place (sound.each place set))

pub are_ends : (next : List (List ℕ)) (flags : List Bool) → IsSound next flags → IsClosed next flags (length next) → AreEnds next flags
are_ends next flags sound closed =
    record {
      count = sound.count;
      each = λ place. same_by (get_or flags place false) (ends_from next place) (enough next flags place sound) (complete next flags closed (length next) place);
    }
