-- Tests of the words of a list.
use Rattle.std.proofs.Common.{◌≡◌, ℕ, List, [], ◌∷◌, ◌++◌, ◌||◌, Bool, true, ap, append-nil, map, refl, sym}
use Rattle.std.specs.List.{list_any}
use Rattle.std.specs.Str.{bytes_eq}
use Rattle.isle_base.specs.Token.{symbol}
use Rattle.isle_lsp_text.specs.Calls.{new_word}

pub any_map : {X Y : Type 0} (test : Y → Bool) (f : X → Y) (xs : List X) → list_any test (map f xs) ≡ list_any (λ x. test (f x)) xs
any_map test f [] = refl
any_map test f (x ∷ xs) = ap (λ b. test (f x) || b) (any_map test f xs)

-- nothing is added to words that have this one
pub known : (found : List (List ℕ)) (word : List ℕ) → list_any (λ w. bytes_eq w word) found ≡ true → found ≡ found ++ new_word found (symbol word)
known found word h = rw h (sym (append-nil found))
