-- Rules are counted pair by pair.
use Rattle.std.proofs.Common.{◌≡◌, ◌≢◌, ◌<◌, ◌≤◌, ℕ, ◌+◌, zero, suc, List, [], ◌∷◌, ◌++◌, Bool, true, false, ◌||◌, ◌==◌, nat_lt, length, get_or, set, take, refl, sym, ap, subst, ◌∙◌, arith, eqb-true, eq-eqb, if◌then◌else◌}
use Rattle.std.specs.List.{filter}
use Rattle.std.proofs.lemmas.Bool.{ltb-true, lt-ltb}
use Rattle.std.proofs.lemmas.List.{length-set, get_or-set_other}
use Rattle.isle_check_overlaps.specs.Degrees.{AreDegrees, counted, counted_pair}
use Rattle.isle_check_overlaps.specs.declared.stars.Pair.{Pair}
use Rattle.isle_check_overlaps.specs.Stars.{PairNode, degree, touches}
use Rattle.isle_check_overlaps.specs.Views.{pair_of, pairs_of}
use Rattle.isle_check_overlaps.proofs.ListLemmas.{map_last, take_more}

abbrev pub one_if : Bool → ℕ
one_if true = 1
one_if false = 0

degree_step : (r : Bool) (p : PairNode) (ps : List PairNode) → length (if r then p ∷ ps else ps) ≡ length ps + one_if r
degree_step true p ps = omega arith
degree_step false p ps = omega arith

-- one pair more
degree_last : (ps : List PairNode) (p : PairNode) (number : ℕ) → degree (ps ++ p ∷ []) number ≡ degree ps number + one_if (touches number p)
degree_last [] p number = degree_step (touches number p) p []
degree_last (q ∷ ps) p number =
    let rest : degree (ps ++ p ∷ []) number ≡ degree ps number + one_if (touches number p) = degree_last ps p number in
    let one = degree_step (touches number q) q (filter (touches number) (ps ++ p ∷ [])) in
    let other = degree_step (touches number q) q (filter (touches number) ps) in
    omega (arith, rest, one, other)

get_set : (counts : List ℕ) (number value : ℕ) → number < length counts → get_or (set counts number value) number 0 ≡ value
get_set [] number value h = absurd (omega (arith, h))
get_set (x ∷ counts) zero value h = refl
get_set (x ∷ counts) (suc n) value h = get_set counts n value (omega (arith, h))

-- one number is counted once more
counted_by : (r : Bool) (counts : List ℕ) (number : ℕ) → length (if r then set counts number (get_or counts number 0 + 1) else counts) ≡ length counts
counted_by true counts number = length-set counts number (get_or counts number 0 + 1)
counted_by false counts number = refl

length_counted : (counts : List ℕ) (number : ℕ) → length (counted counts number) ≡ length counts
length_counted counts number = counted_by (nat_lt number (length counts)) counts number

set_at : (r : Bool) (counts : List ℕ) (number asked : ℕ) → (number == asked) ≡ r → number < length counts →
    get_or (set counts number (get_or counts number 0 + 1)) asked 0 ≡ get_or counts asked 0 + one_if r
set_at true counts number asked same within =
    let e : asked ≡ number = sym (eqb-true number asked same) in
    ap (λ a. get_or (set counts number (get_or counts number 0 + 1)) a 0) e
    ∙ (get_set counts number (get_or counts number 0 + 1) within
    ∙ ap (λ a. get_or counts a 0 + 1) (sym e))
set_at false counts number asked differs within =
    let apart : asked ≢ number = λ e. let t : (number == asked) ≡ true = eq-eqb number asked (sym e) in absurd (cc) in
    let same : get_or (set counts number (get_or counts number 0 + 1)) asked 0 ≡ get_or counts asked 0 =
    get_or-set_other counts number asked (get_or counts number 0 + 1) 0 apart in
    same ∙ omega arith

past_at : (r : Bool) (counts : List ℕ) (number asked : ℕ) → (number == asked) ≡ r → nat_lt number (length counts) ≡ false → asked < length counts →
    get_or counts asked 0 ≡ get_or counts asked 0 + one_if r
past_at true counts number asked same past h =
    let e : number ≡ asked = eqb-true number asked same in
    let t : nat_lt number (length counts) ≡ true = lt-ltb number (length counts) (omega (arith, e, h)) in absurd (cc)
past_at false counts number asked differs past h = omega arith

counted_at : (r : Bool) (counts : List ℕ) (number asked : ℕ) → nat_lt number (length counts) ≡ r → asked < length counts →
    get_or (if r then set counts number (get_or counts number 0 + 1) else counts) asked 0 ≡ get_or counts asked 0 + one_if (number == asked)
counted_at true counts number asked within h = set_at (number == asked) counts number asked refl (ltb-true number (length counts) within)
counted_at false counts number asked past h = past_at (number == asked) counts number asked refl past h

get_counted : (counts : List ℕ) (number asked : ℕ) → asked < length counts → get_or (counted counts number) asked 0 ≡ get_or counts asked 0 + one_if (number == asked)
get_counted counts number asked h = counted_at (nat_lt number (length counts)) counts number asked refl h

-- both of a pair are counted
touched : (first second asked : ℕ) (r t : Bool) → (first == asked) ≡ r → (second == asked) ≡ t → (second == first) ≡ false → one_if r + one_if t ≡ one_if (r || t)
touched first second asked true true e f differ =
    let t : (second == first) ≡ true = eq-eqb second first (eqb-true second asked f ∙ sym (eqb-true first asked e)) in absurd (cc)
touched first second asked true false e f differ = omega arith
touched first second asked false true e f differ = omega arith
touched first second asked false false e f differ = omega arith

either_same : (r : Bool) → one_if r ≡ one_if (r || r)
either_same true = refl
either_same false = refl

pair_length_by : (r : Bool) (counts : List ℕ) (first second : ℕ) → length (if r then counted counts first else counted (counted counts first) second) ≡ length counts
pair_length_by true counts first second = length_counted counts first
pair_length_by false counts first second = length_counted (counted counts first) second ∙ length_counted counts first

pub length_pair : (counts : List ℕ) (p : PairNode) → length (counted_pair counts p) ≡ length counts
length_pair counts p = pair_length_by (p.second.number == p.first.number) counts p.first.number p.second.number

pair_at : (r : Bool) (counts : List ℕ) (p : PairNode) (asked : ℕ) → (p.second.number == p.first.number) ≡ r → asked < length counts →
    get_or (if r then counted counts p.first.number else counted (counted counts p.first.number) p.second.number) asked 0
    ≡ get_or counts asked 0 + one_if (touches asked p)
pair_at true counts p asked same h =
    let e : p.second.number ≡ p.first.number = eqb-true p.second.number p.first.number same in
    get_counted counts p.first.number asked h
    ∙ (ap (λ n. get_or counts asked 0 + n) (either_same (p.first.number == asked))
    ∙ ap (λ n. get_or counts asked 0 + one_if ((p.first.number == asked) || (n == asked))) (sym e))
pair_at false counts p asked differs h =
    let within : asked < length (counted counts p.first.number) = omega (arith, h, length_counted counts p.first.number) in
    let one = get_counted counts p.first.number asked h in
    let two = get_counted (counted counts p.first.number) p.second.number asked within in
    let both = touched p.first.number p.second.number asked (p.first.number == asked) (p.second.number == asked) refl refl differs in
    omega (arith, one, two, both)

pub get_pair : (counts : List ℕ) (p : PairNode) (asked : ℕ) → asked < length counts → get_or (counted_pair counts p) asked 0 ≡ get_or counts asked 0 + one_if (touches asked p)
get_pair counts p asked h = pair_at (p.second.number == p.first.number) counts p asked refl h

pub degrees_pair : (counts : List ℕ) (ps : List PairNode) (p : PairNode) → AreDegrees counts ps → AreDegrees (counted_pair counts p) (ps ++ p ∷ [])
degrees_pair counts ps p held asked h =
    let within : asked < length counts = omega (arith, h, length_pair counts p) in
    get_pair counts p asked within ∙ (ap (λ n. n + one_if (touches asked p)) (held asked within) ∙ sym (degree_last ps p asked))

at_most_one : (r : Bool) → one_if r ≤ 1
at_most_one true = omega arith
at_most_one false = omega arith

pub small_pair : (counts : List ℕ) (p : PairNode) (most : ℕ) → ((number : ℕ) → number < length counts → get_or counts number 0 ≤ most) →
    (number : ℕ) → number < length (counted_pair counts p) → get_or (counted_pair counts p) number 0 ≤ most + 1
small_pair counts p most small number h =
    let within : number < length counts = omega (arith, h, length_pair counts p) in
    omega (arith, get_pair counts p number within, at_most_one (touches number p), small number within)

pub degrees_step : (counts new : List ℕ) (ps : List Pair) (i : ℕ) (p : Pair) → i < length ps → p ≡ get_or ps i p → new ≡ counted_pair counts (pair_of p) →
    AreDegrees counts (pairs_of (take i ps)) → AreDegrees new (pairs_of (take (i + 1) ps))
degrees_step counts new ps i p within is new_is held =
    subst (λ l. AreDegrees l (pairs_of (take (i + 1) ps))) (sym new_is)
    (subst (λ l. AreDegrees (counted_pair counts (pair_of p)) l) (sym (ap pairs_of (take_more ps i p within is) ∙ map_last pair_of (take i ps) p))
    (degrees_pair counts (pairs_of (take i ps)) (pair_of p) held))
