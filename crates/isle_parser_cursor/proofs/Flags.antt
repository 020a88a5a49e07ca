-- A flag is read as the grammar spells it, and what it means that its word is ahead of a name.
use Rattle.std.proofs.Common.{[], ◌≡◌, ℕ, Bool, true, false, List, ◌∷◌, Option, Some, refl, ap, subst, ◌∙◌, inl, inr}
use Rattle.std.proofs.lemmas.Slice.Eq.{bytes_eq-Decides}
use Rattle.isle_base.specs.Place.{Placed}
use Rattle.isle_base.specs.Token.{Tok, lparen, rparen, symbol, integer, at_sign}
use Rattle.std.specs.Str.{bytes_eq}
use Rattle.isle_ast_names.specs.Tree.{Name}
use Rattle.isle_ast_names.specs.Words.{SpellsName, SpellsWord, SpellsFlag}
use Rattle.isle_parser_cursor.specs.Reading.{◌>>=◌, is_ahead, is_symbol_of, take, flag}
use Rattle.isle_parser_cursor.proofs.SameBytes.{same_bytes}
use Rattle.isle_parser_cursor.proofs.Readers.{chosen, done_is}

-- a flag as it is read: where it isn't set, its word isn't ahead
pub record ReadsFlag (word : List ℕ) (is_set : Bool) (all rest : List Placed) : Type 0 where
  pub spelt : SpellsFlag word is_set all rest
  pub unset : is_set ≡ false → (all ≡ rest) × (is_ahead (is_symbol_of word) all ≡ false)

is_word-is : (word : List ℕ) (t : Tok) → is_symbol_of word t ≡ true → t ≡ symbol word
is_word-is word lparen e = absurd cc
is_word-is word rparen e = absurd cc
is_word-is word (symbol text) e = ap symbol ((bytes_eq-Decides text word).0 e)
is_word-is word (integer n) e = absurd cc
is_word-is word at_sign e = absurd cc

abbrev eaten : Tok × List Placed → Option (Bool × List Placed)
eaten x = Some (true, x.1)

set_flag : (word : List ℕ) (all rest : List Placed) (b : Bool) → is_ahead (is_symbol_of word) all ≡ true → (take all >>= eaten) ≡ Some (b, rest) → ReadsFlag word b all rest
set_flag word [] rest b here e = absurd cc
set_flag word (x ∷ xs) rest b here e =
    let is = done_is true b xs rest e in
    let token : x.token ≡ symbol word = is_word-is word x.token here in
    let spelt : SpellsWord word (x ∷ xs) rest = (x.pos, ap (λ (t : Tok). record { pos = x.pos; token = t } ∷ xs) token ∙ ap (λ (r : List Placed). record { pos = x.pos; token = symbol word } ∷ r) is.1) in
    subst (λ (f : Bool). ReadsFlag word f (x ∷ xs) rest) is.0 (record { spelt = spelt; unset = λ f. absurd cc })

pub flag_sound : (word : List ℕ) (all rest : List Placed) (b : Bool) → flag word all ≡ Some (b, rest) → ReadsFlag word b all rest
unfolding flag
flag_sound word all rest b e =
    elim (chosen (is_ahead (is_symbol_of word) all) (take all >>= eaten) (Some (false, all)) (Some (b, rest)) e) [
      | inl h ↦ set_flag word all rest b h.0 h.1
      | inr h ↦
          let is = done_is false b all rest h.1 in
          subst (λ (f : Bool). ReadsFlag word f all rest) is.0 (record { spelt = is.1; unset = λ f. (is.1, h.0) })
    ]

pub flag_complete : (word : List ℕ) (b : Bool) (all rest : List Placed) → (b ≡ false → is_ahead (is_symbol_of word) rest ≡ false) → SpellsFlag word b all rest → flag word all ≡ Some (b, rest)
unfolding flag
flag_complete word true all rest unset h = rw h.1 (rw (same_bytes word) refl)
flag_complete word false all rest unset h = rw h (rw (unset refl) refl)

pub name_ahead : (word : List ℕ) (n : Name) (all rest : List Placed) → SpellsName n all rest → is_ahead (is_symbol_of word) all ≡ bytes_eq n.text word
name_ahead word n all rest h = rw h.1 refl
