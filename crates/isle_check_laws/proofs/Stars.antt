-- The stars: each has a rule in its middle that overlaps with the others, of which there is one at least.
use Rattle.std.proofs.Common.{◌≡◌, ◌≢◌, ◌⊎◌, inl, inr, ◌<◌, ◌≤◌, ◌==◌, ℕ, zero, suc, List, [], ◌∷◌, Bool, true, false, not, ◌||◌, cond, map, nat_le, Contains, refl, sym, ap, ◌∙◌, subst, length, arith, eqb-true, eq-eqb, if◌then◌else◌}
use Rattle.std.specs.List.{filter}
use Rattle.std.proofs.lemmas.Bool.{leb-true, leb-false}
use Rattle.isle_check_overlaps.specs.Candidates.{CandidateNode, overlap}
use Rattle.isle_check_overlaps.specs.Stars.{PairNode, StarNode, degree, other_than, star, stars, top, touches, without}
use Rattle.isle_check_laws.proofs.Candidates.{Increase, one_rule}
use Rattle.isle_check_laws.proofs.Elements.{filtered}
use Rattle.isle_check_laws.proofs.Lists.{either, first_or_later, from_map, no_element}
use Rattle.isle_check_laws.proofs.Pairs.{IsPair}

-- the first of two is no less than any number before it, if the other one is not
top_by : (ps : List PairNode) (n i : ℕ) (b : Bool) → nat_le (degree ps (top ps n)) (degree ps n) ≡ b → (i < n → degree ps i ≤ degree ps (top ps n)) →
    i < suc n → (same : Bool) → (i == n) ≡ same → degree ps i ≤ degree ps (if b then n else top ps n)
top_by ps n i true is more less true same = omega (arith, ap (degree ps) (eqb-true i n same))
top_by ps n i true is more less false other =
    let smaller : i < n = grind (arith, less, other) in omega (arith, more smaller, leb-true (degree ps (top ps n)) (degree ps n) is)
top_by ps n i false is more less true same =
    omega (arith, ap (degree ps) (eqb-true i n same), leb-false (degree ps (top ps n)) (degree ps n) is)
top_by ps n i false is more less false other = let smaller : i < n = grind (arith, less, other) in more smaller

most : (ps : List PairNode) (count i : ℕ) → i < count → degree ps i ≤ degree ps (top ps count)
most ps zero i less = absurd (omega (arith, less))
most ps (suc n) i less = top_by ps n i (nat_le (degree ps (top ps n)) (degree ps n)) refl (most ps n i) less (i == n) refl

-- the first pair counts for its first rule
first_counts : (p : PairNode) (ps : List PairNode) (b : Bool) → (p.first.number == p.first.number) ≡ b → b ≡ true →
    0 < length (cond (b || p.second.number == p.first.number) (p ∷ filter (touches p.first.number) ps) (filter (touches p.first.number) ps))
first_counts p ps true is h = omega arith
first_counts p ps false is h = cc

pub some_touch : (count : ℕ) (p : PairNode) (ps : List PairNode) → p.first.number < count → 0 < length (filter (touches (top (p ∷ ps) count)) (p ∷ ps))
some_touch count p ps within =
    let one : 0 < degree (p ∷ ps) p.first.number =
    first_counts p ps (p.first.number == p.first.number) refl (eq-eqb p.first.number p.first.number refl) in
    omega (arith, one, most (p ∷ ps) count p.first.number within)

-- a star is around the rule that overlaps with most, in some of the pairs
pub record IsAround (count : ℕ) (all : List PairNode) (s : StarNode) : Type 0 where
  pub first : PairNode
  pub rest : List PairNode
  pub is : star (top (first ∷ rest) count) (first ∷ rest) ≡ s
  pub inside : (p : PairNode) → Contains (first ∷ rest) p → Contains all p

module _ (count : ℕ) (all : List PairNode) where
  pub around : (n : ℕ) (ps : List PairNode) → ((p : PairNode) → Contains ps p → Contains all p) → (s : StarNode) → Contains (stars n count ps) s → IsAround count all s
  around zero ps inside s h = absurd (no_element s h)
  around (suc n) [] inside s h = absurd (no_element s h)
  around (suc n) (p ∷ ps) inside s h =
      let center = top (p ∷ ps) count in
      either (λ first. record { first = p; rest = ps; is = first; inside = inside })
      (around n (without center (p ∷ ps)) (λ q in_q. inside q (filtered (λ x. not (touches center x)) (p ∷ ps) q in_q).0) s)
      (first_or_later (star center (p ∷ ps)) (stars n count (without center (p ∷ ps))) s h)

-- a rule overlaps with another one of these
pub record Touches (cs : List CandidateNode) (c d : CandidateNode) : Type 0 where
  pub inside : Contains cs d
  pub meet : (overlap c d ≡ true) ⊎ (overlap d c ≡ true)
  pub differ : c.number ≢ d.number

module _ (cs : List CandidateNode) (up : Increase cs) (c : CandidateNode) (in_c : Contains cs c) where
  with_first : (p : PairNode) → IsPair cs p → p.first.number ≡ c.number → Touches cs c p.second
  with_first p is same =
      let whole : Touches cs p.first p.second = record { inside = is.second_in; meet = inl is.meet; differ = λ e. omega (arith, e, is.in_order) } in
      subst (λ x. Touches cs x p.second) (one_rule cs up p.first c is.first_in in_c same) whole

  with_second : (p : PairNode) → IsPair cs p → p.second.number ≡ c.number → Touches cs c p.first
  with_second p is same =
      let whole : Touches cs p.second p.first = record { inside = is.first_in; meet = inr is.meet; differ = λ e. omega (arith, e, is.in_order) } in
      subst (λ x. Touches cs x p.first) (one_rule cs up p.second c is.second_in in_c same) whole

  touching : (p : PairNode) → IsPair cs p → (b : Bool) → (p.first.number == c.number) ≡ b → (b || p.second.number == c.number) ≡ true →
      Touches cs c (if b then p.second else p.first)
  touching p is true first h = with_first p is (eqb-true p.first.number c.number first)
  touching p is false first h = with_second p is (eqb-true p.second.number c.number h)

  pub touched : (center : ℕ) → center ≡ c.number → (ps : List PairNode) → ((p : PairNode) → Contains ps p → IsPair cs p) → (d : CandidateNode) →
      Contains (map (other_than center) (filter (touches center) ps)) d → Touches cs c d
  touched center same ps are d h =
      let at = from_map (other_than center) (filter (touches center) ps) d h in
      let kept = filtered (touches center) ps at.0 at.1 in
      let p = at.0 in
      subst (Touches cs c) (ap (λ n. other_than n p) (sym same) ∙ at.2)
      (touching p (are p kept.0) (p.first.number == c.number) refl (subst (λ n. touches n p ≡ true) same kept.1))
