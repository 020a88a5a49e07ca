-- The order in which two texts are compared plays no part.
use Rattle.std.proofs.Common.{◌≡◌, ℕ, Bool, true, false, ◌||◌, List, [], ◌∷◌, Decides, bytes_eq, refl, sym, ap₂}
use Rattle.std.specs.List.{list_any}
use Rattle.std.proofs.lemmas.Slice.Eq.{bytes_eq-Decides}

same_test : {P Q : Type 0} (a b : Bool) → Decides a P → Decides b Q → (P → Q) → (Q → P) → a ≡ b
same_test true b d e to from = sym (e.1 (to (d.0 refl)))
same_test false true d e to from = d.1 (from (e.0 refl))
same_test false false d e to from = refl

turned : (text other : List ℕ) → bytes_eq text other ≡ bytes_eq other text
turned text other = same_test (bytes_eq text other) (bytes_eq other text) (bytes_eq-Decides text other) (bytes_eq-Decides other text) sym sym

-- whether a text is one of some texts
pub any_turned : (text : List ℕ) (texts : List (List ℕ)) → list_any (λ t. bytes_eq t text) texts ≡ list_any (bytes_eq text) texts
any_turned text [] = refl
any_turned text (t ∷ ts) = ap₂ (λ a b. a || b) (turned t text) (any_turned text ts)
