-- A token that stays as it is, before other bytes.
use Rattle.std.proofs.Common.{◌≡◌, ◌⊎◌, inl, inr, ℕ, ℤ, List, [], ◌∷◌, ◌++◌, true, false, Some, refl, sym, ap, subst, ◌∙◌, append_assoc}
use Rattle.isle_base.specs.Literals.{Literal, begins_literal}
use Rattle.isle_base.specs.Skips.{begins_with, in_line, is_blank, opens}
use Rattle.isle_base.specs.Spellings.{Spelling, in_symbol, symbol_here}
use Rattle.isle_base.specs.Token.{Tok, at_sign, integer, lparen, rparen, symbol}
use Rattle.isle_base.proofs.Bytes.{other_byte, symbol_stays}
use Rattle.isle_base.proofs.Minus.{symbol_here_moves}
use Rattle.isle_index_laws.proofs.edits.Behind.{digits}
use Rattle.isle_index_laws.proofs.edits.Numbers.{literal_moves}
use Rattle.isle_index_laws.proofs.KeptNames.{clash}
use Rattle.isle_index_laws.proofs.edits.Alike.{Alike, alike_begins, alike_opens, symbol_closes}

-- bytes after a token begin alike, or a symbol begins at both
abbrev pub Follows : List ℕ → List ℕ → Type 0
Follows rest other = Alike rest other ⊎ ((begins_with in_symbol rest ≡ true) × (begins_with in_symbol other ≡ true))

-- the bytes of a token, which spell it before other bytes too. Those behind an integer begin alike
pub record Stays (text rest : List ℕ) (token : Tok) : Type 0 where
  pub first : ℕ
  pub further : List ℕ
  pub split : text ≡ first ∷ (further ++ rest)
  pub moves : (other : List ℕ) → Follows rest other → ((value : ℤ) → token ≡ integer value → Alike rest other) → Spelling (first ∷ (further ++ other)) token other

still_open : (rest other : List ℕ) → Follows rest other → opens (40 ∷ rest) ≡ false → opens (40 ∷ other) ≡ false
still_open rest other (inl alike) h = sym (alike_opens 40 rest other alike) ∙ h
still_open rest other (inr both) h = symbol_closes other both.1

pub still_stops : (rest other : List ℕ) → Follows rest other → begins_with in_symbol rest ≡ false → begins_with in_symbol other ≡ false
still_stops rest other (inl alike) h = sym (alike_begins in_symbol rest other alike) ∙ h
still_stops rest other (inr both) h = clash (begins_with in_symbol rest) both.0 h

-- a symbol has a byte
symbol_text : (text rest : List ℕ) → Spelling text (symbol []) rest → ⊥
symbol_text [] rest p = let never : false ≡ true = p.0 in absurd (cc)
symbol_text (b ∷ text) rest p =
    clash (begins_with in_symbol rest) (sym (ap (begins_with in_symbol) p.1.split) ∙ symbol_stays b text p.0) p.1.stops

symbol_still : (text name rest : List ℕ) → Spelling text (symbol name) rest → Stays text rest (symbol name)
symbol_still text [] rest p = absurd (symbol_text text rest p)
symbol_still text (b ∷ bs) rest p = record {
  first = b;
  further = bs;
  split = p.1.split;
  moves = λ other f _.
      let stops = still_stops rest other f p.1.stops in (
        symbol_here_moves b bs rest other stops (subst (λ xs. symbol_here xs ≡ true) p.1.split p.0),
        record { split = refl; each = p.1.each; stops = stops },
      );
}

literal_still : (text bytes rest : List ℕ) (value : ℤ) → text ≡ bytes ++ rest → (bytes ≡ [] → ⊥) → Literal text (Some value) rest → Stays text rest (integer value)
literal_still text [] rest value is some l = absurd (some refl)
literal_still text (b ∷ bs) rest value is some l = record {
  first = b;
  further = bs;
  split = is;
  moves = λ other _ number. literal_moves b bs rest other value (number value refl) (subst (λ xs. Literal xs (Some value) rest) is l);
}

no_front : (front run : List ℕ) → (run ≡ [] → ⊥) → front ++ run ≡ [] → ⊥
no_front [] run some e = some e
no_front (b ∷ front) run some e = cc

integer_still : (text rest : List ℕ) (value : ℤ) → Literal text (Some value) rest → Stays text rest (integer value)
integer_still text rest value l =
    let d = digits text rest value l in
    literal_still text (d.front ++ d.run) rest value (d.split ∙ sym (append_assoc d.front d.run rest)) (no_front d.front d.run d.some) l

pub stays : (text rest : List ℕ) (token : Tok) → Spelling text token rest → Stays text rest token
stays text rest lparen p =
    record { first = 40; further = []; split = p.0; moves = λ other f _. (refl, still_open rest other f (sym (ap opens p.0) ∙ p.1)) }
stays text rest rparen p = record { first = 41; further = []; split = p; moves = λ other _ _. refl }
stays text rest at_sign p = record { first = 64; further = []; split = p; moves = λ other _ _. refl }
stays text rest (symbol name) p = symbol_still text name rest p
stays text rest (integer value) p = integer_still text rest value p

-- no token begins with what ends a line

symbol_in_line : (b : ℕ) → in_symbol b ≡ true → in_line b ≡ true
unfolding in_symbol is_blank in_line
symbol_in_line b h =
    let feed = other_byte in_symbol b 10 h refl in
    let return = other_byte in_symbol b 13 h refl in
    rw (feed, return) refl

literal_in_line : (b : ℕ) → begins_literal b ≡ true → in_line b ≡ true
unfolding begins_literal in_line
literal_in_line b h =
    let feed = other_byte begins_literal b 10 h refl in
    let return = other_byte begins_literal b 13 h refl in
    rw (feed, return) refl

open_in_line : in_line 40 ≡ true
unfolding in_line
open_in_line = refl

close_in_line : in_line 41 ≡ true
unfolding in_line
close_in_line = refl

at_in_line : in_line 64 ≡ true
unfolding in_line
at_in_line = refl

pub symbol_line : (xs : List ℕ) → begins_with in_symbol xs ≡ true → begins_with in_line xs ≡ true
symbol_line [] h = let never : false ≡ true = h in absurd (cc)
symbol_line (b ∷ xs) h = symbol_in_line b h

symbol_begins : (xs : List ℕ) → symbol_here xs ≡ true → begins_with in_symbol xs ≡ true
symbol_begins [] h = let never : false ≡ true = h in absurd (cc)
symbol_begins (b ∷ xs) h = symbol_stays b xs h

literal_line : (xs : List ℕ) → begins_with begins_literal xs ≡ true → begins_with in_line xs ≡ true
literal_line [] h = let never : false ≡ true = h in absurd (cc)
literal_line (b ∷ xs) h = literal_in_line b h

pub token_line : (text rest : List ℕ) (token : Tok) → Spelling text token rest → begins_with in_line text ≡ true
token_line text rest lparen p = ap (begins_with in_line) p.0 ∙ open_in_line
token_line text rest rparen p = ap (begins_with in_line) p ∙ close_in_line
token_line text rest at_sign p = ap (begins_with in_line) p ∙ at_in_line
token_line text rest (symbol name) p = symbol_line text (symbol_begins text p.0)
token_line text rest (integer value) p = literal_line text p.begins

pub symbol_first : (text name rest : List ℕ) → Spelling text (symbol name) rest → begins_with in_symbol text ≡ true
symbol_first text name rest p = symbol_begins text p.0
