-- Where an encoding ends: two that have the same bytes in front are of one value, whatever follows.
use Rattle.std.proofs.Common.{◌≡◌, ◌<◌, ◌≤◌, ◌+◌, ◌/◌, ◌%◌, ℕ, zero, suc, ℤ, pos, negsuc, Bool, true, false, Option, Some, None, List, [], ◌∷◌, ◌++◌, length, flat_map, append_assoc, eq-eqb, nat_eq, refl, ap, sym, ◌∙◌, arith}
use Rattle.std.proofs.Math.Logic.{◌⊎◌, inl, inr}
use Rattle.std.proofs.lemmas.Bool.{cases_lt, true≢false}
use Rattle.isle_encoding.specs.Numbers.{flag, integer, list, number, option}
use Rattle.isle_encoding.proofs.Digits.{number_few, number_more}

abbrev pub Ends : {A : Type 0} → (A → List ℕ) → Type 0
Ends {A} encode = (x y : A) (r s : List ℕ) → encode x ++ r ≡ encode y ++ s → (x ≡ y) × (r ≡ s)

-- the part in front is one value, and the parts after it have the same bytes
pub front : {A : Type 0} (encode : A → List ℕ) → Ends encode → (x y : A) (a b r s : List ℕ)
    → (encode x ++ a) ++ r ≡ (encode y ++ b) ++ s → (x ≡ y) × (a ++ r ≡ b ++ s)
front encode ends x y a b r s same =
    ends x y (a ++ r) (b ++ s) (sym (append_assoc (encode x) a r) ∙ same ∙ append_assoc (encode y) b s)

pub rest : (k l : ℕ) (a b : List ℕ) → k ∷ a ≡ l ∷ b → a ≡ b
rest k l a b same = cc

-- two different bytes in front
pub apart : (k l : ℕ) (a b : List ℕ) → k ∷ a ≡ l ∷ b → nat_eq k l ≡ false → ⊥
apart k l a b same different =
    let first : k ≡ l = cc in
    true≢false (sym (eq-eqb k l first) ∙ different)

-- the part in front, and after it whatever follows
pub regroup : (x y a b r s : List ℕ) → x ++ a ++ r ≡ y ++ b ++ s → x ++ (a ++ r) ≡ y ++ (b ++ s)
regroup x y a b r s same = sym (append_assoc x a r) ∙ same ∙ append_assoc y b s

-- each part, and after it the others and whatever follows

pub parts_2 : (a0 a1 b0 b1 r s : List ℕ) → a0 ++ a1 ++ r ≡ b0 ++ b1 ++ s → a0 ++ (a1 ++ r) ≡ b0 ++ (b1 ++ s)
parts_2 a0 a1 b0 b1 r s same = regroup a0 b0 a1 b1 r s same

pub parts_3 : (a0 a1 a2 b0 b1 b2 r s : List ℕ) → (a0 ++ a1 ++ a2) ++ r ≡ (b0 ++ b1 ++ b2) ++ s
    → a0 ++ (a1 ++ (a2 ++ r)) ≡ b0 ++ (b1 ++ (b2 ++ s))
parts_3 a0 a1 a2 b0 b1 b2 r s same =
    parts_2 a0 a1 b0 b1 (a2 ++ r) (b2 ++ s) (regroup (a0 ++ a1) (b0 ++ b1) a2 b2 r s same)

pub parts_4 : (a0 a1 a2 a3 b0 b1 b2 b3 r s : List ℕ) → (a0 ++ a1 ++ a2 ++ a3) ++ r ≡ (b0 ++ b1 ++ b2 ++ b3) ++ s
    → a0 ++ (a1 ++ (a2 ++ (a3 ++ r))) ≡ b0 ++ (b1 ++ (b2 ++ (b3 ++ s)))
parts_4 a0 a1 a2 a3 b0 b1 b2 b3 r s same =
    parts_3 a0 a1 a2 b0 b1 b2 (a3 ++ r) (b3 ++ s) (regroup (a0 ++ a1 ++ a2) (b0 ++ b1 ++ b2) a3 b3 r s same)

pub parts_5 : (a0 a1 a2 a3 a4 b0 b1 b2 b3 b4 r s : List ℕ) → (a0 ++ a1 ++ a2 ++ a3 ++ a4) ++ r ≡ (b0 ++ b1 ++ b2 ++ b3 ++ b4) ++ s
    → a0 ++ (a1 ++ (a2 ++ (a3 ++ (a4 ++ r)))) ≡ b0 ++ (b1 ++ (b2 ++ (b3 ++ (b4 ++ s))))
parts_5 a0 a1 a2 a3 a4 b0 b1 b2 b3 b4 r s same =
    parts_4 a0 a1 a2 a3 b0 b1 b2 b3 (a4 ++ r) (b4 ++ s) (regroup (a0 ++ a1 ++ a2 ++ a3) (b0 ++ b1 ++ b2 ++ b3) a4 b4 r s same)

pub parts_6 : (a0 a1 a2 a3 a4 a5 b0 b1 b2 b3 b4 b5 r s : List ℕ) → (a0 ++ a1 ++ a2 ++ a3 ++ a4 ++ a5) ++ r ≡ (b0 ++ b1 ++ b2 ++ b3 ++ b4 ++ b5) ++ s
    → a0 ++ (a1 ++ (a2 ++ (a3 ++ (a4 ++ (a5 ++ r))))) ≡ b0 ++ (b1 ++ (b2 ++ (b3 ++ (b4 ++ (b5 ++ s)))))
parts_6 a0 a1 a2 a3 a4 a5 b0 b1 b2 b3 b4 b5 r s same =
    parts_5 a0 a1 a2 a3 a4 b0 b1 b2 b3 b4 (a5 ++ r) (b5 ++ s) (regroup (a0 ++ a1 ++ a2 ++ a3 ++ a4) (b0 ++ b1 ++ b2 ++ b3 ++ b4) a5 b5 r s same)

pub parts_7 : (a0 a1 a2 a3 a4 a5 a6 b0 b1 b2 b3 b4 b5 b6 r s : List ℕ) → (a0 ++ a1 ++ a2 ++ a3 ++ a4 ++ a5 ++ a6) ++ r ≡ (b0 ++ b1 ++ b2 ++ b3 ++ b4 ++ b5 ++ b6) ++ s
    → a0 ++ (a1 ++ (a2 ++ (a3 ++ (a4 ++ (a5 ++ (a6 ++ r)))))) ≡ b0 ++ (b1 ++ (b2 ++ (b3 ++ (b4 ++ (b5 ++ (b6 ++ s))))))
parts_7 a0 a1 a2 a3 a4 a5 a6 b0 b1 b2 b3 b4 b5 b6 r s same =
    parts_6 a0 a1 a2 a3 a4 a5 b0 b1 b2 b3 b4 b5 (a6 ++ r) (b6 ++ s) (regroup (a0 ++ a1 ++ a2 ++ a3 ++ a4 ++ a5) (b0 ++ b1 ++ b2 ++ b3 ++ b4 ++ b5) a6 b6 r s same)

pub parts_8 : (a0 a1 a2 a3 a4 a5 a6 a7 b0 b1 b2 b3 b4 b5 b6 b7 r s : List ℕ) → (a0 ++ a1 ++ a2 ++ a3 ++ a4 ++ a5 ++ a6 ++ a7) ++ r ≡ (b0 ++ b1 ++ b2 ++ b3 ++ b4 ++ b5 ++ b6 ++ b7) ++ s
    → a0 ++ (a1 ++ (a2 ++ (a3 ++ (a4 ++ (a5 ++ (a6 ++ (a7 ++ r))))))) ≡ b0 ++ (b1 ++ (b2 ++ (b3 ++ (b4 ++ (b5 ++ (b6 ++ (b7 ++ s)))))))
parts_8 a0 a1 a2 a3 a4 a5 a6 a7 b0 b1 b2 b3 b4 b5 b6 b7 r s same =
    parts_7 a0 a1 a2 a3 a4 a5 a6 b0 b1 b2 b3 b4 b5 b6 (a7 ++ r) (b7 ++ s) (regroup (a0 ++ a1 ++ a2 ++ a3 ++ a4 ++ a5 ++ a6) (b0 ++ b1 ++ b2 ++ b3 ++ b4 ++ b5 ++ b6) a7 b7 r s same)

digit_step : (m n : ℕ) (r s : List ℕ) → 64 ≤ m → 64 ≤ n → number m ++ r ≡ number n ++ s
    → (64 + m % 64 ≡ 64 + n % 64) × (number (m / 64) ++ r ≡ number (n / 64) ++ s)
digit_step m n r s large_m large_n same =
    let cells : (64 + m % 64) ∷ (number (m / 64) ++ r) ≡ (64 + n % 64) ∷ (number (n / 64) ++ s) =
    ap (λ ds. ds ++ r) (sym (number_more m large_m)) ∙ same ∙ ap (λ ds. ds ++ s) (number_more n large_n) in
    (cc, cc)

last_step : (m n : ℕ) (r s : List ℕ) → m < 64 → n < 64 → number m ++ r ≡ number n ++ s → (m ≡ n) × (r ≡ s)
last_step m n r s small_m small_n same =
    let cells : m ∷ r ≡ n ∷ s = ap (λ ds. ds ++ r) (sym (number_few m small_m)) ∙ same ∙ ap (λ ds. ds ++ s) (number_few n small_n) in
    (cc, cc)

mixed : (m n : ℕ) (r s : List ℕ) → m < 64 → 64 ≤ n → number m ++ r ≡ number n ++ s → ⊥
mixed m n r s small large same =
    let cells : m ∷ r ≡ (64 + n % 64) ∷ (number (n / 64) ++ s) =
    ap (λ ds. ds ++ r) (sym (number_few m small)) ∙ same ∙ ap (λ ds. ds ++ s) (number_more n large) in
    let heads : m ≡ 64 + n % 64 = cc in
    omega arith

from_quotients : (m n : ℕ) → 64 + m % 64 ≡ 64 + n % 64 → m / 64 ≡ n / 64 → m ≡ n
from_quotients m n digits quotients = omega arith

within : (room m n : ℕ) (r s : List ℕ) → m ≤ room → number m ++ r ≡ number n ++ s → (m ≡ n) × (r ≡ s)
within zero m n r s fits same =
    elim (cases_lt n 64) as (λ _. (m ≡ n) × (r ≡ s)) [
      | inl small_n ↦ last_step m n r s (omega arith) small_n same
      | inr large_n ↦ absurd (mixed m n r s (omega arith) large_n same)
    ]
within (suc room) m n r s fits same =
    elim (cases_lt m 64) as (λ _. (m ≡ n) × (r ≡ s)) [
      | inl small_m ↦ elim (cases_lt n 64) as (λ _. (m ≡ n) × (r ≡ s)) [
        | inl small_n ↦ last_step m n r s small_m small_n same
        | inr large_n ↦ absurd (mixed m n r s small_m large_n same)
      ]
      | inr large_m ↦ elim (cases_lt n 64) as (λ _. (m ≡ n) × (r ≡ s)) [
        | inl small_n ↦ absurd (mixed n m s r small_n large_m (sym same))
        | inr large_n ↦
            let step = digit_step m n r s large_m large_n same in
            let others = within room (m / 64) (n / 64) r s (omega arith) step.1 in
            (from_quotients m n step.0 others.0, others.1)
      ]
    ]

pub number_ends : Ends number
number_ends m n r s same = within m m n r s (omega arith) same

-- how many there are, and after it the items and whatever follows
pub counted : (m n : ℕ) (x y r s : List ℕ) → number m ++ x ++ r ≡ number n ++ y ++ s → (m ≡ n) × (x ++ r ≡ y ++ s)
counted m n x y r s same = number_ends m n (x ++ r) (y ++ s) (regroup (number m) (number n) x y r s same)

pub flag_ends : Ends flag
flag_ends false false r s same = (refl, rest 0 0 r s same)
flag_ends true true r s same = (refl, rest 1 1 r s same)
flag_ends _ _ r s same = absurd cc

pub integer_ends : Ends integer
integer_ends (pos m) (pos n) r s same = let number = number_ends m n r s (rest 0 0 _ _ same) in ((λ i. pos (number.0 i)), number.1)
integer_ends (negsuc m) (negsuc n) r s same = let number = number_ends m n r s (rest 1 1 _ _ same) in ((λ i. negsuc (number.0 i)), number.1)
integer_ends _ _ r s same = absurd cc

pub option_ends : {A : Type 0} (encode : A → List ℕ) → Ends encode → Ends (option encode)
option_ends encode ends None None r s same = (refl, rest 0 0 r s same)
option_ends encode ends (Some x) (Some y) r s same = let value = ends x y r s (rest 1 1 _ _ same) in ((λ i. Some (value.0 i)), value.1)
option_ends encode ends _ _ r s same = absurd cc

items_end : {A : Type 0} (encode : A → List ℕ) → Ends encode → (xs ys : List A) (r s : List ℕ)
    → length xs ≡ length ys → flat_map encode xs ++ r ≡ flat_map encode ys ++ s → (xs ≡ ys) × (r ≡ s)
items_end encode ends [] [] r s lengths same = (refl, same)
items_end encode ends (x ∷ xs) (y ∷ ys) r s lengths same =
    let first = front encode ends x y (flat_map encode xs) (flat_map encode ys) r s same in
    let others = items_end encode ends xs ys r s (omega arith) first.1 in
    ((λ i. first.0 i ∷ others.0 i), others.1)
items_end encode ends [] (y ∷ ys) r s lengths same = absurd (omega arith)
items_end encode ends (x ∷ xs) [] r s lengths same = absurd (omega arith)

pub list_ends : {A : Type 0} (encode : A → List ℕ) → Ends encode → Ends (list encode)
list_ends encode ends xs ys r s same =
    let count = front number number_ends (length xs) (length ys) (flat_map encode xs) (flat_map encode ys) r s same in
    items_end encode ends xs ys r s count.0 count.1
