-- Integers that are within a type are read as the grammar spells them.
use Rattle.std.proofs.Common.{◌≡◌, ℕ, ◌<◌, true, cond, List, [], ◌∷◌, length, Some, None, refl, sym, ◌∙◌, arith}
use Rattle.std.specs.Prelude.{ℤ, pos, negsuc, ◌^◌}
use Rattle.std.proofs.lemmas.Bool.{lt-ltb, ltb-true}
use Rattle.isle_base_source.specs.declared.pos.Pos.{Pos}
use Rattle.isle_base.specs.Place.{Placed}
use Rattle.isle_base.specs.Token.{Tok, lparen, rparen, symbol, integer, at_sign}
use Rattle.isle_ast_names.specs.Numbers.{IsSigned}
use Rattle.isle_ast_names.specs.Words.{SpellsToken}
use Rattle.isle_ast_names.specs.WritableDeciders.{is_signed}
use Rattle.isle_parser_cursor.specs.Reading.{is_ahead}
use Rattle.isle_parser_cursor.specs.NumberReaders.{integer_within}
use Rattle.isle_parser_cursor.proofs.Readers.{begins_node, bind_some, chosen_some, done, done_is}

-- an integer that a sign and this many bits hold
abbrev pub SpellsSigned : ℕ → ℤ → List Placed → List Placed → Type 0
SpellsSigned bits value all rest = IsSigned bits value × SpellsToken (integer value) all rest

test_signed : (bits : ℕ) (value : ℤ) → is_signed bits value ≡ true → IsSigned bits value
test_signed bits (pos n) e = ltb-true n (2 ^ bits) e
test_signed bits (negsuc n) e = ltb-true n (2 ^ bits) e

signed_test : (bits : ℕ) (value : ℤ) → IsSigned bits value → is_signed bits value ≡ true
signed_test bits (pos n) h = lt-ltb n (2 ^ bits) h
signed_test bits (negsuc n) h = lt-ltb n (2 ^ bits) h

same_integer : {x y : ℤ} → done x ≡ done y → x ≡ y
same_integer e = cc

signed_at : (bits : ℕ) (place : Pos) (t : Tok) (xs rest : List Placed) (value : ℤ) → integer_within bits (record { pos = place; token = t } ∷ xs) ≡ Some (value, rest) → SpellsSigned bits value (record { pos = place; token = t } ∷ xs) rest
unfolding integer_within
signed_at bits place lparen xs rest value e = absurd cc
signed_at bits place rparen xs rest value e = absurd cc
signed_at bits place (symbol t) xs rest value e = absurd cc
signed_at bits place (integer v) xs rest value e =
    let a = bind_some (cond (is_signed bits v) (Some v) None) (λ m. Some (m, xs)) (value, rest) e in
    let c = chosen_some (is_signed bits v) v a.0 a.1 in
    let behind = done_is a.0 value xs rest a.2 in
    let is : v ≡ value = same_integer c.1 ∙ behind.0 in
    rw (sym behind.1, sym is) (test_signed bits v c.0, (place, refl))
signed_at bits place at_sign xs rest value e = absurd cc

pub signed_sound : (bits : ℕ) (all rest : List Placed) (value : ℤ) → integer_within bits all ≡ Some (value, rest) → SpellsSigned bits value all rest
unfolding integer_within
signed_sound bits [] rest value e = absurd cc
signed_sound bits (x ∷ xs) rest value e = signed_at bits x.pos x.token xs rest value e

pub signed_complete : (bits : ℕ) (value : ℤ) (all rest : List Placed) → SpellsSigned bits value all rest → integer_within bits all ≡ Some (value, rest)
unfolding integer_within
signed_complete bits value all rest h = rw (h.1.1, signed_test bits value h.0) refl

pub signed_begins : (bits : ℕ) (value : ℤ) (all rest : List Placed) → SpellsSigned bits value all rest → (is_ahead begins_node all ≡ true) × (length rest < length all)
signed_begins bits value all rest h = (rw h.1.1 refl, rw h.1.1 (omega arith))
