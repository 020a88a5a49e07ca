-- What is read leaves fewer tokens, or no more.
use Rattle.std.proofs.Common.{◌≡◌, ℕ, ◌≤◌, ◌<◌, inl, inr, Bool, true, false, List, [], ◌∷◌, length, Some, sym, arith}
use Rattle.isle_base.specs.Place.{Placed}
use Rattle.isle_base.specs.Token.{Tok}
use Rattle.isle_parser_cursor.specs.Reading.{expect, flag, is_symbol_of}
use Rattle.isle_parser_cursor.proofs.Readers.{chosen, chosen_some, done_is}

pub expect_shorter : (passes : Tok → Bool) (all rest : List Placed) (t : Tok) → expect passes all ≡ Some (t, rest) → length rest < length all
expect_shorter passes [] rest t e = absurd cc
expect_shorter passes (x ∷ xs) rest t e =
    let a = chosen_some (passes x.token) (x.token, xs) (t, rest) e in
    let behind : xs ≡ rest = (done_is x.token t xs rest a.1).1 in
    rw (sym behind) (omega arith)

pub flag_shorter : (word : List ℕ) (all rest : List Placed) (b : Bool) → flag word all ≡ Some (b, rest) → length rest ≤ length all
unfolding flag
flag_shorter word [] rest b e =
    let behind : [] ≡ rest = (done_is false b [] rest e).1 in
    rw (sym behind) (omega arith)
flag_shorter word (x ∷ xs) rest b e =
    elim (chosen (is_symbol_of word x.token) (Some (true, xs)) (Some (false, x ∷ xs)) (Some (b, rest)) e) [
      | inl h ↦
          let behind : xs ≡ rest = (done_is true b xs rest h.1).1 in
          rw (sym behind) (omega arith)
      | inr h ↦
          let behind : x ∷ xs ≡ rest = (done_is false b (x ∷ xs) rest h.1).1 in
          rw (sym behind) (omega arith)
    ]
