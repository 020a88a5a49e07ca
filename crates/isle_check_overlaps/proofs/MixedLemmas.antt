-- Rules of a group, in order.
use Rattle.std.proofs.Common.{◌≡◌, ◌≤◌, ℕ, zero, suc, ◌+◌, ◌-◌, List, [], ◌∷◌, ◌++◌, length, take, drop, refl, sym, ap, ◌∙◌, arith, append_assoc}
use Rattle.isle_check_overlaps.specs.Candidates.{CandidateNode}
use Rattle.isle_check_overlaps.specs.Groups.{AreRanked, RankedNode, between, mixed}

drop_last : {A : Type 0} (n : ℕ) (xs : List A) (x : A) → n ≤ length xs → drop n (xs ++ x ∷ []) ≡ drop n xs ++ x ∷ []
drop_last zero xs x h = refl
drop_last (suc n) [] x h = absurd (omega (arith, h))
drop_last (suc n) (y ∷ xs) x h = drop_last n xs x (omega (arith, h))

drop_all : {A : Type 0} (xs : List A) → drop (length xs) xs ≡ []
drop_all [] = refl
drop_all (x ∷ xs) = drop_all xs

take_first : {A : Type 0} (n : ℕ) (xs : List A) (x : A) → n ≤ length xs → take n (xs ++ x ∷ []) ≡ take n xs
take_first zero xs x h = refl
take_first (suc n) [] x h = absurd (omega (arith, h))
take_first (suc n) (y ∷ xs) x h = ap (λ l. y ∷ l) (take_first n xs x (omega (arith, h)))

take_all : {A : Type 0} (xs : List A) → take (length xs) xs ≡ xs
take_all [] = refl
take_all (x ∷ xs) = ap (λ l. x ∷ l) (take_all xs)

length_drop : {A : Type 0} (n : ℕ) (xs : List A) → length (drop n xs) ≡ length xs - n
length_drop zero xs = omega arith
length_drop {A} (suc n) [] = omega arith
length_drop (suc n) (x ∷ xs) = length_drop n xs ∙ omega arith

pub between_all : (from : ℕ) (cs : List CandidateNode) → between from (length cs) cs ≡ drop from cs
between_all from cs = ap (λ n. take n (drop from cs)) (sym (length_drop from cs)) ∙ take_all (drop from cs)

between_last : (from to : ℕ) (cs : List CandidateNode) (c : CandidateNode) → from ≤ to → to ≤ length cs → between from to (cs ++ c ∷ []) ≡ between from to cs
between_last from to cs c first last =
    let within : from ≤ length cs = omega (arith, first, last) in
    let less : to - from ≤ length (drop from cs) = omega (arith, last, length_drop from cs) in
    ap (take (to - from)) (drop_last from cs c within) ∙ take_first (to - from) (drop from cs) c less

pub ranked_within : (passed : ℕ) (rs : List RankedNode) (free : ℕ) → AreRanked passed rs free → passed ≤ free
ranked_within passed [] free h = h
ranked_within passed (r ∷ rs) free h = let more : r.before ≤ free = ranked_within r.before rs free h.1 in let first : passed ≤ r.before = h.0 in omega (arith, first, more)

-- a free rule more
pub mixed_free : (passed : ℕ) (rs : List RankedNode) (free : List CandidateNode) (c : CandidateNode) → AreRanked passed rs (length free) →
    mixed passed rs (free ++ c ∷ []) ≡ mixed passed rs free ++ c ∷ []
mixed_free passed [] free c h = drop_last passed free c h
mixed_free passed (r ∷ rs) free c h =
    ap (λ l. l ++ r.candidate ∷ mixed r.before rs (free ++ c ∷ [])) (between_last passed r.before free c h.0 (ranked_within r.before rs (length free) h.1))
    ∙ (ap (λ l. between passed r.before free ++ r.candidate ∷ l) (mixed_free r.before rs free c h.1)
    ∙ sym (append_assoc (between passed r.before free) (r.candidate ∷ mixed r.before rs free) (c ∷ [])))

-- a rule more that asks for the same
pub mixed_alike : (passed : ℕ) (rs : List RankedNode) (free : List CandidateNode) (r : RankedNode) → r.before ≡ length free → AreRanked passed rs (length free) →
    mixed passed (rs ++ r ∷ []) free ≡ mixed passed rs free ++ r.candidate ∷ []
mixed_alike passed [] free r last h =
    ap (λ n. between passed n free ++ r.candidate ∷ drop n free) last
    ∙ (ap (λ l. l ++ r.candidate ∷ drop (length free) free) (between_all passed free) ∙ ap (λ l. drop passed free ++ r.candidate ∷ l) (drop_all free))
mixed_alike passed (q ∷ rs) free r last h =
    ap (λ l. between passed q.before free ++ q.candidate ∷ l) (mixed_alike q.before rs free r last h.1)
    ∙ sym (append_assoc (between passed q.before free) (q.candidate ∷ mixed q.before rs free) (r.candidate ∷ []))

pub ranked_more : (passed : ℕ) (rs : List RankedNode) (free : ℕ) → AreRanked passed rs free → AreRanked passed rs (free + 1)
ranked_more passed [] free h = let first : passed ≤ free = h in omega (arith, first)
ranked_more passed (r ∷ rs) free h = (h.0, ranked_more r.before rs free h.1)

pub ranked_last : (passed : ℕ) (rs : List RankedNode) (free : ℕ) (r : RankedNode) → r.before ≡ free → AreRanked passed rs free → AreRanked passed (rs ++ r ∷ []) free
ranked_last passed [] free r last h =
    let first : passed ≤ free = h in
    let one : passed ≤ r.before = omega (arith, first, last) in
    let two : r.before ≤ free = omega (arith, last) in (one, two)
ranked_last passed (q ∷ rs) free r last h = (h.0, ranked_last q.before rs free r last h.1)
