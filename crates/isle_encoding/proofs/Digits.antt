-- What a number's first digit is, and what its others are.
use Rattle.std.proofs.Common.{◌≡◌, ◌<◌, ◌≤◌, ◌+◌, ◌/◌, ◌%◌, ℕ, zero, suc, List, [], ◌∷◌, ◌++◌, append_assoc, refl, ap, sym, ◌∙◌, arith, nat_lt, if◌then◌else◌}
use Rattle.isle_encoding.specs.Numbers.{digits, number}

-- a number below 64 is its own digit, whatever room there is
few : (room n : ℕ) → n < 64 → digits room n ≡ n ∷ []
few zero n small = refl
few (suc room) n small = grind arith

more : (room n : ℕ) → 64 ≤ n → digits (suc room) n ≡ (64 + n % 64) ∷ digits room (n / 64)
more room n large = grind arith

-- more room makes no difference
enough : (a b n : ℕ) → n ≤ a → n ≤ b → digits a n ≡ digits b n
enough zero b n fits_a fits_b = let small : n < 64 = omega arith in sym (few b n small)
enough (suc a) zero n fits_a fits_b = let small : n < 64 = omega arith in few (suc a) n small
enough (suc a) (suc b) n fits_a fits_b =
    ap (λ ds. if nat_lt n 64 then n ∷ [] else (64 + n % 64) ∷ ds) (enough a b (n / 64) (omega arith) (omega arith))

pub number_few : (n : ℕ) → n < 64 → number n ≡ n ∷ []
unfolding number
number_few n small = few n n small

pub number_more : (n : ℕ) → 64 ≤ n → number n ≡ (64 + n % 64) ∷ number (n / 64)
unfolding number
number_more zero large = absurd (omega arith)
number_more (suc n) large =
    more n (suc n) large ∙ ap (λ ds. (64 + suc n % 64) ∷ ds) (enough n (suc n / 64) (suc n / 64) (omega arith) (omega arith))

-- a digit is put, and the others are left
pub digit_put : (whole before after : List ℕ) (n : ℕ) → 64 ≤ n → after ≡ before ++ (64 + n % 64) ∷ [] → before ++ number n ≡ whole
    → after ++ number (n / 64) ≡ whole
digit_put whole before after n large put kept = rw put (rw append_assoc (ap (λ ds. before ++ ds) (sym (number_more n large)) ∙ kept))
