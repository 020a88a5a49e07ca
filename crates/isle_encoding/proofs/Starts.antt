-- Where a part of a node is put.
use Rattle.std.proofs.Common.{◌≡◌, ℕ, List, [], ◌∷◌, ◌++◌, append_assoc, ap, ◌∙◌, sym, refl}
use Rattle.isle_ast_verification.proofs.SpecLets.{let_seen}
use Rattle.isle_encoding.specs.Numbers.{number}

pub starts : (before after each : List ℕ) (count n : ℕ) → after ≡ before ++ number n → n ≡ count → after ++ each ≡ before ++ (number count ++ each)
starts before after each count n put same =
    ap (λ bytes. bytes ++ each) (put ∙ ap (λ m. before ++ number m) same) ∙ append_assoc before (number count) each

-- a kind with its first part, then two more parts
pub match_put : (before first second after a b c : List ℕ) (k : ℕ) → first ≡ before ++ (k ∷ a) → second ≡ first ++ b → after ≡ second ++ c
    → after ≡ before ++ (k ∷ a ++ b ++ c)
match_put before first second after a b c k put_a put_b put_c =
    rw put_c (rw put_b (rw put_a (ap (λ bytes. bytes ++ c) (append_assoc before (k ∷ a) b) ∙ append_assoc before (k ∷ a ++ b) c)))

-- a kind, then a part, then two more parts together
pub let_put : (before first second after a b c : List ℕ) (k : ℕ) → first ≡ before ++ k ∷ [] → second ≡ first ++ a → after ≡ second ++ (b ++ c)
    → after ≡ before ++ (k ∷ a ++ b ++ c)
let_put before first second after a b c k put_k put_a put_b =
    rw put_b (rw put_a (rw put_k
    (ap (λ bytes. bytes ++ (b ++ c)) (append_assoc before (k ∷ []) a) ∙ append_assoc before (k ∷ a) (b ++ c)
    ∙ ap (λ bytes. before ++ (k ∷ bytes)) (sym (append_assoc a b c)))))

-- a kind with its first part, then two more parts together
pub pair_put : (before first after a b c : List ℕ) (k : ℕ) → first ≡ before ++ (k ∷ a) → after ≡ first ++ (b ++ c)
    → after ≡ before ++ (k ∷ a ++ b ++ c)
pair_put before first after a b c k put_a put_b =
    rw put_b (rw put_a (append_assoc before (k ∷ a) (b ++ c) ∙ ap (λ bytes. before ++ (k ∷ bytes)) (sym (append_assoc a b c))))

pub ruleset puts = (let_seen, match_put, let_put, pair_put)
