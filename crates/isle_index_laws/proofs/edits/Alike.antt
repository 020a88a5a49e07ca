-- Texts that begin with the same byte.
use Rattle.std.proofs.Common.{◌≡◌, ℕ, List, [], ◌∷◌, Bool, true, false, ap, refl}
use Rattle.isle_base.specs.Skips.{begins_with, opens}
use Rattle.isle_base.specs.Spellings.{in_symbol}
use Rattle.isle_base.proofs.Bytes.{symbol_ne_semicolon}

-- both begin with the same byte, or both are empty
abbrev pub Alike : List ℕ → List ℕ → Type 0
Alike [] [] = Unit {0}
Alike [] (_ ∷ _) = ⊥
Alike (_ ∷ _) [] = ⊥
Alike (b ∷ _) (c ∷ _) = b ≡ c

pub alike_self : (xs : List ℕ) → Alike xs xs
alike_self [] = tt
alike_self (x ∷ xs) = refl

pub alike_begins : (kind : ℕ → Bool) (xs ys : List ℕ) → Alike xs ys → begins_with kind xs ≡ begins_with kind ys
alike_begins kind [] [] h = refl
alike_begins kind [] (y ∷ ys) h = absurd h
alike_begins kind (x ∷ xs) [] h = absurd h
alike_begins kind (x ∷ xs) (y ∷ ys) h = ap kind h

pub alike_opens : (b : ℕ) (xs ys : List ℕ) → Alike xs ys → opens (b ∷ xs) ≡ opens (b ∷ ys)
alike_opens b [] [] h = refl
alike_opens b [] (y ∷ ys) h = absurd h
alike_opens b (x ∷ xs) [] h = absurd h
alike_opens b (x ∷ xs) (y ∷ ys) h = ap (λ c. opens (b ∷ c ∷ [])) h

-- no comment opens where a byte of a symbol is behind the parenthesis
pub symbol_closes : (xs : List ℕ) → begins_with in_symbol xs ≡ true → opens (40 ∷ xs) ≡ false
symbol_closes [] h = let never : false ≡ true = h in absurd (cc)
symbol_closes (x ∷ xs) h = symbol_ne_semicolon x h
