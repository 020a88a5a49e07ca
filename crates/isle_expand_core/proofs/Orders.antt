-- An order with one place more.
use Rattle.std.proofs.Common.{◌≡◌, ◌≢◌, ◌==◌, ◌<◌, ℕ, ◌+◌, zero, suc, List, [], ◌∷◌, ◌++◌, length, get_or, set, replicate, Bool, true, false, ◌&&◌, ◌||◌, not, refl, ap, sym, subst, ◌∙◌, arith, eqb-true, eq-eqb, append_assoc}
use Rattle.std.specs.List.{list_all}
use Rattle.std.proofs.lemmas.List.{length-set, length-replicate, append-nil, get_or-set_same, get_or-set_other}
use Rattle.std.proofs.lemmas.List.Folds.{list_any-append}
use Rattle.isle_expand_core.specs.Order.{AreAfterCallees, IsClosed, IsOrder, all_end, has, unended}
use Rattle.isle_expand_core.proofs.Ending.{all_more}

or_true : (b : Bool) → (b || true) ≡ true
or_true true = refl
or_true false = refl

or_false : (b : Bool) → (b || false) ≡ b
or_false true = refl
or_false false = refl

below_other : (p q : ℕ) → (q == p) ≡ false → q < p + 1 → q < p
below_other p q other below =
    let differ : ¬ (q ≡ p) = λ e. let t : (q == p) ≡ true = eq-eqb q p e in absurd (cc) in
    omega (arith, differ, below)

-- flags once one is set
set_flag_at : (flags : List Bool) (p q : ℕ) (t : Bool) → (p == q) ≡ t → p < length flags → get_or (set flags p true) q false ≡ (get_or flags q false || t)
set_flag_at flags p q true is h =
    let same : p ≡ q = eqb-true p q is in
    subst (λ r. get_or (set flags p true) r false ≡ (get_or flags r false || true)) same (get_or-set_same flags p true false h ∙ sym (or_true (get_or flags p false)))
set_flag_at flags p q false is h =
    let differ : q ≢ p = λ e. let t : (p == q) ≡ true = eq-eqb p q (sym e) in absurd (cc) in
    get_or-set_other flags p q true false differ ∙ sym (or_false (get_or flags q false))

set_flag : (flags : List Bool) (p q : ℕ) → p < length flags → get_or (set flags p true) q false ≡ (get_or flags q false || (p == q))
set_flag flags p q h = set_flag_at flags p q (p == q) refl h

-- fewer are left
pub unended_set : (flags : List Bool) (p : ℕ) → p < length flags → get_or flags p false ≡ false → suc (unended (set flags p true)) ≡ unended flags
unended_set [] p h f = absurd (omega (arith, h))
unended_set (true ∷ flags) zero h f = absurd (cc)
unended_set (false ∷ flags) zero h f = refl
unended_set (true ∷ flags) (suc p) h f = unended_set flags p (omega (arith, h)) f
unended_set (false ∷ flags) (suc p) h f = ap suc (unended_set flags p (omega (arith, h)) f)

has_push : (places : List ℕ) (p q : ℕ) → has (places ++ p ∷ []) q ≡ (has places q || (p == q))
has_push places p q = list_any-append (λ x. x == q) places (p ∷ []) ∙ ap (λ b. has places q || b) (or_false (p == q))

after_push : (callees : List (List ℕ)) (before places : List ℕ) (p : ℕ) → AreAfterCallees callees before places → list_all (has (before ++ places)) (get_or callees p []) ≡ true →
    AreAfterCallees callees before (places ++ p ∷ [])
after_push callees before [] p a h = (subst (λ xs. list_all (has xs) (get_or callees p []) ≡ true) (append-nil before) h, tt)
after_push callees before (x ∷ places) p a h =
    (a.0, after_push callees (before ++ x ∷ []) places p a.1 (subst (λ xs. list_all (has xs) (get_or callees p []) ≡ true) (sym (append_assoc before (x ∷ []) places)) h))

pub order_push : (callees : List (List ℕ)) (flags : List Bool) (places : List ℕ) (p : ℕ) → IsOrder callees flags places → p < length callees → all_end flags (get_or callees p []) ≡ true →
    IsOrder callees (set flags p true) (places ++ p ∷ [])
order_push callees flags places p order within ends =
    let inside : p < length flags = omega (arith, order.count, within) in
    record {
      count = length-set flags p true ∙ order.count;
      same = λ q. set_flag flags p q inside ∙ ap (λ b. b || (p == q)) (order.same q) ∙ sym (has_push places p q);
      after = after_push callees [] places p order.after
          (all_more (λ c. get_or flags c false) (has places) (get_or callees p []) (λ c is. sym (order.same c) ∙ is) ends);
    }

none_set : (n q : ℕ) → get_or (replicate n false) q false ≡ false
none_set zero q = refl
none_set (suc n) zero = refl
none_set (suc n) (suc q) = none_set n q

-- the order with no place
pub order_begun : (callees : List (List ℕ)) (flags : List Bool) (n : ℕ) → n ≡ length callees → flags ≡ replicate n false → IsOrder callees flags []
order_begun callees flags n count is =
    record {
      count = ap length is ∙ length-replicate n false ∙ count;
      same = λ q. ap (λ fs. get_or fs q false) is ∙ none_set n q;
      after = tt;
    }

-- what a test of a place says
pub ready_unset : (a b : Bool) → (not a && b) ≡ true → a ≡ false
ready_unset true b h = absurd (cc)
ready_unset false b h = refl

pub ready_ends : (a b : Bool) → (not a && b) ≡ true → b ≡ true
ready_ends true b h = absurd (cc)
ready_ends false b h = h

unready : (a b : Bool) → (not a && b) ≡ false → b ≡ true → a ≡ true
unready true b h e = refl
unready false b h e = absurd (cc)

-- one place more is looked at
pub closed_more : (callees : List (List ℕ)) (flags : List Bool) (p : ℕ) → IsClosed callees flags p → (not (get_or flags p false) && all_end flags (get_or callees p [])) ≡ false →
    IsClosed callees flags (p + 1)
closed_more callees flags p closed test q below ends = closed_at callees flags p q closed test ends (q == p) refl below
  where
    closed_at : (callees : List (List ℕ)) (flags : List Bool) (p q : ℕ) → IsClosed callees flags p → (not (get_or flags p false) && all_end flags (get_or callees p [])) ≡ false →
        all_end flags (get_or callees q []) ≡ true → (b : Bool) → (q == p) ≡ b → q < p + 1 → get_or flags q false ≡ true
    closed_at callees flags p q closed test ends true same below =
        let e : q ≡ p = eqb-true q p same in
        subst (λ r. get_or flags r false ≡ true) (sym e)
        (unready (get_or flags p false) (all_end flags (get_or callees p [])) test (subst (λ r. all_end flags (get_or callees r []) ≡ true) e ends))
    closed_at callees flags p q closed test ends false other below =
        closed q (below_other p q other below) ends
