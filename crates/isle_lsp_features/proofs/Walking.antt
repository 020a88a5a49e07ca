-- A walk over lists: no more of them are open than bytes are behind.
use Rattle.std.proofs.Common.{◌≡◌, ℕ, ◌+◌, ◌<◌, ◌≤◌, ◌^◌, List, [], ◌∷◌, Some, arith, nat_le, subst, ⊎_elim}
use Rattle.std.proofs.lemmas.Bool.{cases_Bool}
use Rattle.isle_base.specs.Steps.{AreWithin, Rises, first_placed}
use Rattle.isle_base.specs.Place.{Placed}
use Rattle.isle_base.specs.Token.{Tok, lparen, rparen, symbol, integer, at_sign, Lexeme}
use Rattle.isle_lsp_features.specs.Rests.{lists_after}
use Rattle.isle_lsp_features.specs.declared.rests.Lists.{Lists}

-- so many bytes are before the next token
abbrev pub IsAfter : ℕ → List Lexeme → Type 0
IsAfter n [] = Unit {0}
IsAfter n (x ∷ xs) = n ≤ x.offset

pub room : (n file size : ℕ) (xs : List Lexeme) (x : Placed) → IsAfter n xs → first_placed file xs ≡ Some x → AreWithin size xs → size + 1 < 2 ^ 64 → n + 1 < 2 ^ 64
room n file size [] x after is within short = absurd (cc is)
room n file size (y ∷ ys) x after is within short = omega (arith, after, within.0, short)

one-more : (n : Lists) (t : Tok) → (lists_after n t).depth ≤ n.depth + 1
one-more n lparen = omega arith
one-more n rparen = ⊎_elim (λ is. rw is (omega arith)) (λ isnt. rw isnt (omega arith)) (cases_Bool (nat_le n.depth 1))
one-more n (symbol s) = omega arith
one-more n (integer i) = omega arith
one-more n at_sign = omega arith

pub after-next : (n : Lists) (x : Lexeme) (old new : List Lexeme) → old ≡ x ∷ new → IsAfter n.depth old → Rises 0 old → IsAfter (lists_after n x.token).depth new
after-next n x old [] is after up = tt
after-next n x old (y ∷ ys) is after up =
    let rises : Rises 0 (x ∷ y ∷ ys) = subst (λ xs. Rises 0 xs) is up in
    let low : n.depth ≤ x.offset = subst (λ xs. IsAfter n.depth xs) is after in
    let most = one-more n x.token in
    omega (arith, rises.1, rises.2.0, low, most)
