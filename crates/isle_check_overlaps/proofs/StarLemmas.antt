-- The first star, and those after it.
use Rattle.std.proofs.Common.{◌≡◌, ◌≢◌, ◌==◌, ◌<◌, ◌≤◌, ℕ, zero, suc, ◌+◌, ◌-◌, Bor, List, [], ◌∷◌, ◌++◌, Option, length, map, min, take, false, true, refl, sym, ap, ◌∙◌, arith, append_assoc, append-nil, eqb-true}
use Rattle.isle_check_overlaps.specs.Faults.{OtherNode, fault, most_told, other, overlaps, star_of}
use Rattle.isle_check_overlaps.specs.Candidates.{CandidateNode}
use Rattle.isle_check_overlaps.specs.declared.candidates.Candidate.{Candidate}
use Rattle.isle_check_environment.specs.signatures.Signatures.{TermNode}
use Rattle.std.proofs.lemmas.List.{length-map}
use Rattle.std.proofs.lemmas.Bool.{true≢false}
use Rattle.isle_check_overlaps.specs.declared.stars.Pair.{Pair}
use Rattle.isle_check_overlaps.specs.Stars.{PairNode, StarNode, star, stars, top, without}
use Rattle.isle_check_overlaps.specs.Views.{candidate_of, candidates_at, pair_of, pairs_of}
use Rattle.isle_check_overlaps.proofs.ListLemmas.{take_map, take_min}

pub stars_step : (n count : ℕ) (items : List Pair) (left : List PairNode) (before after : List StarNode) → n ≢ 0 → (length items == 0) ≡ false →
    after ≡ before ++ star (top (pairs_of items) count) (pairs_of items) ∷ [] → left ≡ without (top (pairs_of items) count) (pairs_of items) →
    after ++ stars (n - 1) count left ≡ before ++ stars n count (pairs_of items)
stars_step zero count items left before after some pairs told rest = absurd (some refl)
stars_step (suc n) count [] left before after some pairs told rest = absurd (true≢false pairs)
stars_step (suc n) count (p ∷ ps) left before after some pairs told rest =
    let m : suc n - 1 ≡ n = omega arith in
    let center : ℕ = top (pair_of p ∷ pairs_of ps) count in
    ap (λ k. after ++ stars k count left) m
    ∙ (ap (λ l. after ++ stars n count l) rest
    ∙ (ap (λ a. a ++ stars n count (without center (pair_of p ∷ pairs_of ps))) told
    ∙ append_assoc before (star center (pair_of p ∷ pairs_of ps) ∷ []) (stars n count (without center (pair_of p ∷ pairs_of ps)))))

-- one star more of so many, none where there is no pair, and none past the last one
pub stars_more : (total i count : ℕ) (items : List Pair) (left : List PairNode) (before after all : List StarNode) → i < total → (length items == 0) ≡ false →
    after ≡ before ++ star (top (pairs_of items) count) (pairs_of items) ∷ [] → left ≡ without (top (pairs_of items) count) (pairs_of items) →
    before ++ stars (total - i) count (pairs_of items) ≡ all → after ++ stars (total - (i + 1)) count left ≡ all
stars_more total i count items left before after all less some told rest held =
    let more : total - i ≢ 0 = λ e. absurd (omega (arith, e, less)) in
    let one_less : total - (i + 1) ≡ total - i - 1 = omega arith in
    ap (λ n. after ++ stars n count left) one_less ∙ (stars_step (total - i) count items left before after more some told rest ∙ held)

no_stars : (n count : ℕ) → stars n count [] ≡ []
no_stars zero count = refl
no_stars (suc n) count = refl

pub stars_none : (n count : ℕ) (left : List Pair) (made all : List StarNode) → (length left == 0) ≡ true → made ++ stars n count (pairs_of left) ≡ all → made ≡ all
stars_none n count [] made all none held = sym (ap (λ ss. made ++ ss) (no_stars n count) ∙ append-nil made) ∙ held
stars_none n count (p ∷ left) made all none held = absurd (omega (arith, eqb-true (length (p ∷ left)) 0 none))

pub stars_end : (total i count : ℕ) (left : List PairNode) (made all : List StarNode) → total ≤ i → made ++ stars (total - i) count left ≡ all → made ≡ all
stars_end total i count left made all past held =
    let none : total - i ≡ 0 = omega (arith, past) in sym (ap (λ n. made ++ stars n count left) none ∙ append-nil made) ∙ held

-- what is told of a star
pub star_parts : (terms : List ℕ → Option TermNode) (c : CandidateNode) (others : List (Bor Candidate)) (n : ℕ) (told : List OtherNode) → n ≡ min (length others) most_told →
    told ≡ map (other terms c) (candidates_at (take n others)) → fault (overlaps told (length others - n)) c.pos ≡ star_of terms c (candidates_at others)
star_parts terms c others n told count told_is =
    let first : told ≡ map (other terms c) (take most_told (candidates_at others)) =
    told_is ∙ ap (map (other terms c)) (ap (λ k. candidates_at (take k others)) count ∙ (ap candidates_at (take_min others most_told) ∙ take_map (λ x. candidate_of x.now) most_told others)) in
    let rest : length others - n ≡ length (candidates_at others) - most_told = omega (arith, count, length-map others (λ x. candidate_of x.now)) in
    λ i. fault (overlaps (first i) (rest i)) c.pos
