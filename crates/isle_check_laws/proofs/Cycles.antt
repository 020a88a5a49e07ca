-- A walk from a place of a graph from which walks needn't end comes to a place again.
use Rattle.std.proofs.Common.{◌≡◌, ◌≢◌, ◌⊎◌, inl, inr, ℕ, zero, suc, ◌+◌, ◌<◌, ◌≤◌, ◌==◌, max, List, [], ◌∷◌, ◌++◌, Bool, true, false, not, ◌&&◌, ◌||◌, Contains, refl, ap, sym, ◌∙◌, subst, length, get_or, set, replicate, arith, eqb-true, eq-eqb, if◌then◌else◌}
use Rattle.std.specs.List.{list_any}
use Rattle.std.proofs.Math.Nat.{max-eq_right}
use Rattle.std.proofs.lemmas.List.{get_or-set_other, length-set, length-replicate}
use Rattle.std.proofs.lemmas.List.Elements.{Contains-append_left, Contains-push, Contains-push_cases}
use Rattle.isle_check_recursion.proofs.Marking.{are_ends, closed_more, sound_begun, sound_mark, unended_set}
use Rattle.isle_check_recursion.specs.Walks.{AreEnds, IsClosed, IsSound, all_end, ends_from, unended}
use Rattle.isle_check_recursion.specs.Recursion.{endless, endless_after, walk}
use Rattle.isle_check_laws.specs.BrokenRecursions.{AreLinked}
use Rattle.isle_check_laws.proofs.Lists.{either, first_or_later, here, later, no_element, only}

-- marks

ready_unset : (a b : Bool) → (not a && b) ≡ true → a ≡ false
ready_unset true b h = cc
ready_unset false b h = refl

module _ (next : List (List ℕ)) where
  -- a place that can be marked
  abbrev CanMark : List Bool → Type 0
  CanMark flags = (p : ℕ) × (p < length next) × ((not (get_or flags p false) && all_end flags (get_or next p [])) ≡ true)

  seek_by : (flags : List Bool) (m : ℕ) → suc m ≤ length next → IsClosed next flags m →
      (b : Bool) → (not (get_or flags m false) && all_end flags (get_or next m [])) ≡ b → IsClosed next flags (suc m) ⊎ CanMark flags
  seek_by flags m within closed true is = inr (m, omega (arith, within), is)
  seek_by flags m within closed false is =
      let e : m + 1 ≡ suc m = omega arith in inl (subst (λ k. IsClosed next flags k) e (closed_more next flags m closed is))

  seek : (flags : List Bool) (m : ℕ) → m ≤ length next → IsClosed next flags m ⊎ CanMark flags
  seek flags zero within = inl (λ place below _. absurd (omega (arith, below)))
  seek flags (suc m) within =
      either (λ closed. seek_by flags m within closed (not (get_or flags m false) && all_end flags (get_or next m [])) refl) inr
      (seek flags m (omega (arith, within)))

  abbrev Marks : Type 0
  Marks = (flags : List Bool) × IsSound next flags × IsClosed next flags (length next)

  one_less : (flags : List Bool) → IsSound next flags → (can : CanMark flags) → suc (unended (set flags can.0 true)) ≡ unended flags
  one_less flags sound can =
      let inside : can.0 < length flags = omega (arith, sound.count, can.1) in
      unended_set flags can.0 inside (ready_unset (get_or flags can.0 false) (all_end flags (get_or next can.0 [])) can.2)

  mark_all : (fuel : ℕ) (flags : List Bool) → IsSound next flags → unended flags ≤ fuel → Marks
  mark_all zero flags sound enough =
      either (λ closed. (flags, sound, closed))
      (λ can. let e : suc (unended (set flags can.0 true)) ≡ unended flags = one_less flags sound can in absurd (omega (arith, e, enough)))
      (seek flags (length next) (omega arith))
  mark_all (suc fuel) flags sound enough =
      either (λ closed. (flags, sound, closed))
      (λ can.
      let e : suc (unended (set flags can.0 true)) ≡ unended flags = one_less flags sound can in
      mark_all fuel (set flags can.0 true) (sound_mark next flags can.0 sound can.1 can.2) (omega (arith, e, enough)))
      (seek flags (length next) (omega arith))

  marks : Marks
  marks =
      let none : List Bool = replicate (length next) false in
      mark_all (unended none) none (sound_begun next none (length next) refl refl) (omega arith)

  -- a place from which walks needn't end goes on to one

  unended_by : (flags : List Bool) (p : ℕ) (ps : List ℕ) (b : Bool) → get_or flags p false ≡ b →
      (all_end flags ps ≡ false → (q : ℕ) × Contains ps q × (get_or flags q false ≡ false)) → (b && all_end flags ps) ≡ false →
      (q : ℕ) × Contains (p ∷ ps) q × (get_or flags q false ≡ false)
  unended_by flags p ps true is more k = let at = more k in (at.0, later p ps at.0 at.1, at.2)
  unended_by flags p ps false is more k = (p, here p ps, is)

  one_unended : (flags : List Bool) (ps : List ℕ) → all_end flags ps ≡ false → (q : ℕ) × Contains ps q × (get_or flags q false ≡ false)
  one_unended flags [] h = cc
  one_unended flags (p ∷ ps) h = unended_by flags p ps (get_or flags p false) refl (one_unended flags ps) h

  goes_on : (place : ℕ) → place < length next → ends_from next place ≡ false → (q : ℕ) × Contains (get_or next place []) q × (ends_from next q ≡ false)
  goes_on place within endless =
      let m = marks in
      let are : AreEnds next m.0 = are_ends next m.0 m.1 m.2 in
      by m.0 are m.2 (all_end m.0 (get_or next place [])) refl
    where
      by : (flags : List Bool) → AreEnds next flags → IsClosed next flags (length next) → (b : Bool) → all_end flags (get_or next place []) ≡ b →
          (q : ℕ) × Contains (get_or next place []) q × (ends_from next q ≡ false)
      by flags are closed true is =
          let e : true ≡ false = sym (closed place within is) ∙ are.each place ∙ endless in cc
      by flags are closed false is =
          let at = one_unended flags (get_or next place []) is in (at.0, at.1, sym (are.each at.0) ∙ at.2)

max_is : (a b : ℕ) → (max a b ≡ a) ⊎ (max a b ≡ b)
max_is a b = grind arith

-- the greatest place from which walks needn't end

module _ (ends : ℕ → Bool) (all : List ℕ) where
  -- one of all places, from which walks needn't end
  abbrev IsEndless : ℕ → Type 0
  IsEndless q = Contains all q × (ends q ≡ false)

  greater : (g p : ℕ) → IsEndless g → IsEndless p → IsEndless (max g p)
  greater g p one two = either (λ e. subst IsEndless (sym e) one) (λ e. subst IsEndless (sym e) two) (max_is g p)

  after : (g : ℕ) (ps : List ℕ) → ((q : ℕ) → Contains ps q → Contains all q) → IsEndless g → IsEndless (endless_after ends g ps)
  after g [] inside good = good
  after g (p ∷ ps) inside good =
      after (if ends p then g else max g p) ps (λ q among. inside q (later p ps q among)) (by (ends p) refl)
    where
      by : (b : Bool) → ends p ≡ b → IsEndless (if b then g else max g p)
      by true is = good
      by false is = greater g p good (inside p (here p ps), is)

  first_by : (p : ℕ) (ps : List ℕ) (q : ℕ) → ((x : ℕ) → Contains (p ∷ ps) x → Contains all x) → (p ≡ q) ⊎ Contains ps q → ends q ≡ false →
      (b : Bool) → ends p ≡ b → (Contains ps q → IsEndless (endless_after ends 0 ps)) → IsEndless (endless_after ends (if b then 0 else max 0 p) ps)
  first_by p ps q inside among endless true is more =
      either (λ same. let e : true ≡ false = sym is ∙ ap ends same ∙ endless in cc) more among
  first_by p ps q inside among endless false is more =
      let e : max 0 p ≡ p = max-eq_right (omega arith) in
      after (max 0 p) ps (λ x behind. inside x (later p ps x behind)) (subst IsEndless (sym e) (inside p (here p ps), is))

  first : (ps : List ℕ) (q : ℕ) → ((x : ℕ) → Contains ps x → Contains all x) → Contains ps q → ends q ≡ false → IsEndless (endless_after ends 0 ps)
  first [] q inside among endless = absurd (no_element q among)
  first (p ∷ ps) q inside among endless =
      first_by p ps q inside (first_or_later p ps q among) endless (ends p) refl
      (λ more. first ps q (λ x behind. inside x (later p ps x behind)) more endless)

-- walks

is_among : (p : ℕ) (path : List ℕ) → list_any (λ q. q == p) path ≡ true → Contains path p
is_among p [] h = cc
is_among p (q ∷ path) h = by (q == p) refl h (is_among p path)
  where
    by : (b : Bool) → (q == p) ≡ b → (b || list_any (λ x. x == p) path) ≡ true → (list_any (λ x. x == p) path ≡ true → Contains path p) → Contains (q ∷ path) p
    by true is k more = let e : q ≡ p = eqb-true q p is in subst (λ x. Contains (x ∷ path) p) (sym e) (here p path)
    by false is k more = later q path p (more k)

all_marked : (flags : List Bool) (p : ℕ) → p < length flags → unended flags ≤ 0 → get_or flags p false ≡ true
all_marked [] p within none = absurd (omega (arith, within))
all_marked (true ∷ flags) zero within none = refl
all_marked (true ∷ flags) (suc p) within none = all_marked flags p (omega (arith, within)) none
all_marked (false ∷ flags) p within none = absurd (omega (arith, none))

linked_more : {X : Type 0} (R : X → X → Type 0) (xs : List X) (x y : X) → AreLinked R (xs ++ x ∷ []) → R x y → AreLinked R ((xs ++ x ∷ []) ++ y ∷ [])
linked_more R [] x y linked r = (r, tt)
linked_more R (z ∷ []) x y linked r = (linked.0, (r, tt))
linked_more R (z ∷ w ∷ xs) x y linked r = (linked.0, linked_more R (w ∷ xs) x y linked.1 r)

module _ (next : List (List ℕ)) (in_range : (p q : ℕ) → Contains (get_or next p []) q → q < length next) where
  abbrev pub Goes : ℕ → ℕ → Type 0
  Goes p q = Contains (get_or next p []) q

  abbrev step : ℕ → ℕ
  step place = endless (ends_from next) (get_or next place [])

  -- places each of which goes on to the next one; the last one comes twice
  abbrev pub ComesAgain : List ℕ → Type 0
  ComesAgain path =
      (front : List ℕ) × (last : ℕ) × (path ≡ front ++ last ∷ []) × AreLinked Goes path × Contains front last × ((p : ℕ) → Contains path p → p < length next)

  marked_more : (path : List ℕ) (place : ℕ) (flags : List Bool) → ((p : ℕ) → get_or flags p false ≡ true → Contains path p) →
      (p : ℕ) (b : Bool) → (p == place) ≡ b → get_or (set flags place true) p false ≡ true → Contains (path ++ place ∷ []) p
  marked_more path place flags marked p true is set_ =
      let e : p ≡ place = eqb-true p place is in subst (λ x. Contains (path ++ place ∷ []) x) (sym e) (Contains-push path place)
  marked_more path place flags marked p false is set_ =
      let apart : p ≢ place = λ e. let t : (p == place) ≡ true = eq-eqb p place e in absurd (cc) in
      Contains-append_left path (place ∷ []) p (marked p (sym (get_or-set_other flags place p true false apart) ∙ set_))

  -- what is known of a walk at a place
  record IsWalk (n : ℕ) (path : List ℕ) (place : ℕ) (flags : List Bool) : Type 0 where
    linked : AreLinked Goes (path ++ place ∷ [])
    within : (p : ℕ) → Contains (path ++ place ∷ []) p → p < length next
    endless_here : ends_from next place ≡ false
    count : length flags ≡ length next
    marked : (p : ℕ) → get_or flags p false ≡ true → Contains path p
    enough : unended flags ≤ n

  onward : (n : ℕ) (path : List ℕ) (place : ℕ) (flags : List Bool) → IsWalk (suc n) path place flags → (Contains path place → ⊥) →
      IsWalk n (path ++ place ∷ []) (step place) (set flags place true)
  onward n path place flags w new =
      let inside : place < length next = w.within place (Contains-push path place) in
      let q = goes_on next place inside w.endless_here in
      let good = first (ends_from next) (get_or next place []) (get_or next place []) q.0 (λ x among. among) q.1 q.2 in
      let in_flags : place < length flags = omega (arith, w.count, inside) in
      let less : suc (unended (set flags place true)) ≡ unended flags = unended_set flags place in_flags (unset (get_or flags place false) refl) in
      let bound : unended flags ≤ suc n = w.enough in
      record {
        linked = linked_more Goes path place (step place) w.linked good.0;
        within = λ p among.
            either (w.within p) (λ same. subst (λ x. x < length next) same (in_range place (step place) good.0))
            (Contains-push_cases (path ++ place ∷ []) (step place) p among);
        endless_here = good.1;
        count = length-set flags place true ∙ w.count;
        marked = λ p is. marked_more path place flags w.marked p (p == place) refl is;
        enough = omega (arith, less, bound);
      }
    where
      unset : (b : Bool) → get_or flags place false ≡ b → get_or flags place false ≡ false
      unset true is = absurd (new (w.marked place is))
      unset false is = is

  among_any : (p : ℕ) (path : List ℕ) → Contains path p → list_any (λ q. q == p) path ≡ true
  among_any p [] among = absurd (no_element p among)
  among_any p (q ∷ path) among = either (λ same. now (q == p) (eq-eqb q p same)) (λ more. other (q == p) (among_any p path more)) (first_or_later q path p among)
    where
      now : (b : Bool) → b ≡ true → (b || list_any (λ x. x == p) path) ≡ true
      now true is = refl
      now false is = cc

      other : (b : Bool) → list_any (λ x. x == p) path ≡ true → (b || list_any (λ x. x == p) path) ≡ true
      other true is = refl
      other false is = is

  new_place : (p : ℕ) (path : List ℕ) → list_any (λ q. q == p) path ≡ false → Contains path p → ⊥
  new_place p path is among = let e : true ≡ false = sym (among_any p path among) ∙ is in cc

  walk_by : (n : ℕ) (path : List ℕ) (place : ℕ) (flags : List Bool) → IsWalk (suc n) path place flags →
      (IsWalk n (path ++ place ∷ []) (step place) (set flags place true) → ComesAgain (walk n step (path ++ place ∷ []) (step place))) →
      (b : Bool) → list_any (λ p. p == place) path ≡ b → ComesAgain (if b then path ++ place ∷ [] else walk n step (path ++ place ∷ []) (step place))
  walk_by n path place flags w more true is = (path, place, refl, w.linked, is_among place path is, w.within)
  walk_by n path place flags w more false is = more (onward n path place flags w (new_place place path is))

  walks : (n : ℕ) (path : List ℕ) (place : ℕ) (flags : List Bool) → IsWalk n path place flags → ComesAgain (walk n step path place)
  walks zero path place flags w =
      let inside : place < length next = w.within place (Contains-push path place) in
      let in_flags : place < length flags = omega (arith, w.count, inside) in
      (path, place, refl, w.linked, w.marked place (all_marked flags place in_flags w.enough), w.within)
  walks (suc n) path place flags w =
      walk_by n path place flags w (walks n (path ++ place ∷ []) (step place) (set flags place true)) (list_any (λ p. p == place) path) refl

  none_marked : (n p : ℕ) → get_or (replicate n false) p false ≡ true → ⊥
  none_marked zero p is = cc
  none_marked (suc n) zero is = cc
  none_marked (suc n) (suc p) is = none_marked n p is

  unended_all : (n : ℕ) → unended (replicate n false) ≤ n
  unended_all zero = omega arith
  unended_all (suc n) = let le : unended (replicate n false) ≤ n = unended_all n in omega (arith, le)

  pub comes_again : (root : ℕ) → root < length next → ends_from next root ≡ false → ComesAgain (walk (length next) step [] root)
  comes_again root inside endless =
      walks (length next) [] root (replicate (length next) false)
      (record {
        linked = tt;
        within = λ p among. subst (λ x. x < length next) (only root p among) inside;
        endless_here = endless;
        count = length-replicate (length next) false;
        marked = λ p is. absurd (none_marked (length next) p is);
        enough = unended_all (length next);
      })
