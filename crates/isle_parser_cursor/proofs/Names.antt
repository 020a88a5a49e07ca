-- Identifiers are read as the grammar spells them.
use Rattle.std.proofs.Common.{◌≡◌, ℕ, cond, List, [], ◌∷◌, length, Some, None, refl, ap, ◌∙◌, arith}
use Rattle.isle_base_source.specs.declared.pos.Pos.{Pos}
use Rattle.isle_base.specs.Place.{Placed}
use Rattle.isle_base.specs.Token.{Tok, lparen, rparen, symbol, integer, at_sign, is_symbol}
use Rattle.isle_ast_names.specs.Words.{SpellsName, SpellsAll, InParentheses}
use Rattle.isle_ast_names.specs.Identifier.{is_identifier}
use Rattle.isle_ast_names.specs.Tree.{Name}
use Rattle.isle_parser_cursor.specs.Reading.{◌>>=◌, at_rparen, pos_ahead, expect, text, symbol_text, many}
use Rattle.isle_parser_cursor.specs.NameReaders.{name, names}
use Rattle.isle_parser_cursor.proofs.Readers.{Sound, Complete, Begins, Shrinks, bind_some, chosen_some, done_is, shrinks, moved, many_sound, many_complete, stopping_closes, parentheses_sound, parentheses_complete}

-- a symbol, at its position
abbrev pub SpellsText : List ℕ → List Placed → List Placed → Type 0
SpellsText t all rest = all ≡ record { pos = pos_ahead all; token = symbol t } ∷ rest

symbol-text : (token : Tok) (t : List ℕ) → symbol_text token ≡ Some t → token ≡ symbol t
symbol-text lparen t e = absurd cc
symbol-text rparen t e = absurd cc
symbol-text (symbol s) t e = cc
symbol-text (integer n) t e = absurd cc
symbol-text at_sign t e = absurd cc

pub text_sound : (all rest : List Placed) (t : List ℕ) → text all ≡ Some (t, rest) → SpellsText t all rest
unfolding text
text_sound [] rest t e = absurd cc
text_sound (x ∷ xs) rest t e =
    let a = bind_some (expect is_symbol (x ∷ xs)) (λ y. symbol_text y.0 >>= λ s. Some (s, y.1)) (t, rest) e in
    let taken = chosen_some (is_symbol x.token) (x.token, xs) a.0 a.1 in
    let same = done_is x.token a.0.0 xs a.0.1 taken.1 in
    let b = bind_some (symbol_text a.0.0) (λ s. Some (s, a.0.1)) (t, rest) a.2 in
    let is = done_is b.0 t a.0.1 rest b.2 in
    let token : x.token ≡ symbol t = same.0 ∙ symbol-text a.0.0 b.0 b.1 ∙ ap symbol is.0 in
    let behind : xs ≡ rest = same.1 ∙ is.1 in
    ap (λ (u : Tok). record { pos = x.pos; token = u } ∷ xs) token ∙ ap (λ (r : List Placed). record { pos = x.pos; token = symbol t } ∷ r) behind

pub text_complete : (pos : Pos) (t : List ℕ) (rest : List Placed) → text (record { pos = pos; token = symbol t } ∷ rest) ≡ Some (t, rest)
unfolding text
text_complete pos t rest = refl

pub name_sound : Sound SpellsName name
unfolding name
name_sound all rest n e =
    let a = bind_some (text all) (λ t. cond (is_identifier t.0) (Some (record { text = t.0; pos = pos_ahead all }, t.1)) None) (n, rest) e in
    let c = chosen_some (is_identifier a.0.0) (record { text = a.0.0; pos = pos_ahead all }, a.0.1) (n, rest) a.2 in
    let made : Name = record { text = a.0.0; pos = pos_ahead all } in
    let is = done_is made n a.0.1 rest c.1 in
    let spelt : SpellsName made all a.0.1 = (c.0, text_sound all a.0.1 a.0.0 a.1) in
    moved SpellsName made n all a.0.1 rest is spelt

-- whatever follows
pub name_read : (n : Name) (all rest : List Placed) → SpellsName n all rest → name all ≡ Some (n, rest)
unfolding name
name_read n all rest h =
    let here : name (record { pos = n.pos; token = symbol n.text } ∷ rest) ≡ Some (n, rest) = rw (text_complete n.pos n.text rest, h.0) refl in
    rw h.1 here

pub name_complete : Complete SpellsName name
name_complete n all rest goes h = name_read n all rest h

pub name_begins : Begins SpellsName
name_begins n all rest h = (rw h.1 refl, rw h.1 (omega arith))

pub name_shrinks : Shrinks name
name_shrinks = shrinks SpellsName name name_sound name_begins

-- ---- identifiers in parentheses

abbrev pub SpellsNames : List Name → List Placed → List Placed → Type 0
SpellsNames ns = InParentheses (SpellsAll SpellsName ns)

list_sound : Sound (SpellsAll SpellsName) (many at_rparen name)
list_sound all rest ns e = (many_sound SpellsName name at_rparen name_sound all rest ns e).0

pub names_sound : Sound SpellsNames names
unfolding names
names_sound = parentheses_sound (SpellsAll SpellsName) (many at_rparen name) list_sound

pub names_complete : Complete SpellsNames names
unfolding names
names_complete ns all rest goes h =
    parentheses_complete (SpellsAll SpellsName) (many at_rparen name) ns all rest (λ inner close lt closed list.
    many_complete SpellsName name at_rparen (length all) (λ n i j below. name_complete n i j) name_begins stopping_closes ns inner close lt list closed) h
