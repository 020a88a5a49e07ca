-- Parts of a shape, and what they spell: before any tokens there are some of which the items are
-- the text, and which spell the part.
use Rattle.std.proofs.Common.{ℤ, List, ◌∷◌, Bool, true, false, refl, ◌≡◌, ◌≢◌, ℕ, [], ◌++◌, map, sym, ap, subst}
use Rattle.std.proofs.lemmas.List.{append_assoc}
use Rattle.std.proofs.lemmas.Slice.Eq.{bytes_eq-Decides}
use Rattle.std.specs.Str.{bytes_eq}
use Rattle.isle_base.specs.Place.{unknown, Placed}
use Rattle.isle_base.specs.Token.{Tok, symbol, integer, lparen, rparen}
use Rattle.isle_ast_names.specs.Numbers.{IsSigned, SpellsInteger}
use Rattle.isle_ast_names.specs.Words.{bool_word, SpellsWord, BeginsAt, SpellsAll, InParentheses, BehindWord, SpellsName, SpellsFlag, SpellsConstant}
use Rattle.isle_printer_layout.specs.ReadBack.{ReadsAs, TokensOf, TokensOfItems, unplaced}
use Rattle.isle_printer_layout.specs.NameShapes.{integer_shape, name_shape, name_shapes, flag_shape, form_shape, constant_shape}
use Rattle.isle_printer_layout.proofs.NumberAtoms.{integer_text-ReadsAs}
use Rattle.isle_printer_layout.proofs.WordSymbols.{word-true, word-false}
use Rattle.isle_ast_names.proofs.IdentifierBytes.{identifier_is_symbol}
use Rattle.isle_ast_names.specs.Identifier.{is_identifier}
use Rattle.isle_ast_names.specs.Tree.{Name}
use Rattle.isle_ast_names.specs.Erased.{erase_name, erase_names}
use Rattle.isle_ast_names.specs.Writable.{IsName, Each}
use Rattle.isle_printer_layout.specs.Sexp.{Sexp, atom, binding, list, sexps, list_of}

pub word-bool : (b : Bool) → ReadsAs (bool_word b) (symbol (bool_word b))
word-bool true = word-true
word-bool false = word-false

-- the tokens of items, as a fact that names the items
pub record ItemTokens (items : List Sexp) (all rest : List Tok) : Type 0 where
  pub are : TokensOfItems (sexps items) all rest

pub record Spelling (items : List Sexp) (Spells : List Placed → List Placed → Type 0) (rest : List Tok) : Type 0 where
  pub all : List Tok
  pub tokens : ItemTokens items all rest
  pub spells : Spells (unplaced all) (unplaced rest)

pub spell-integer : (z : ℤ) → IsSigned 127 z → (rest : List Tok) → Spelling (integer_shape z ∷ []) (SpellsInteger z) rest
spell-integer z fits rest = record {
  all = integer z ∷ rest;
  tokens = record { are = (rest, (integer z, refl, integer_text-ReadsAs z fits, refl), refl) };
  spells = (fits, (unknown, refl));
}

-- items one after another
TokensOfItems-append : (xs ys : List Sexp) (all mid rest : List Tok) → TokensOfItems (sexps xs) all mid → TokensOfItems (sexps ys) mid rest → TokensOfItems (sexps (xs ++ ys)) all rest
TokensOfItems-append [] ys all mid rest t u = subst (λ a. TokensOfItems (sexps ys) a rest) (sym t) u
TokensOfItems-append (x ∷ xs) ys all mid rest t u = (t.0, t.1, TokensOfItems-append xs ys t.0 mid rest t.2 u)

infixl 6 ◌then◌
pub ◌then◌ : {xs ys : List Sexp} {all mid rest : List Tok} → ItemTokens xs all mid → ItemTokens ys mid rest → ItemTokens (xs ++ ys) all rest
◌then◌ {xs} {ys} {all} {mid} {rest} t u = record { are = TokensOfItems-append xs ys all mid rest t.are u.are }

-- the first of these tokens, at the default position
abbrev pub IsAhead : List Tok → Type 0
IsAhead all = BeginsAt unknown (unplaced all)

TokensOf-ahead : (s : Sexp) (all rest : List Tok) → TokensOf s all rest → IsAhead all
TokensOf-ahead (atom text) all rest t = (t.0, unplaced rest, ap unplaced t.3)
TokensOf-ahead (binding name s) all rest t = (t.0, _, ap unplaced t.4)
TokensOf-ahead (list items) all rest t = (lparen, unplaced t.0, ap unplaced t.1)

-- an item stands ahead
pub item-ahead : {x : Sexp} {xs : List Sexp} {all rest : List Tok} → ItemTokens (x ∷ xs) all rest → IsAhead all
item-ahead {x} {xs} {all} {rest} t = TokensOf-ahead x all t.are.0 t.are.1

-- where something stands ahead after items, something stands ahead of them
pub items-ahead : {xs : List Sexp} {all rest : List Tok} → ItemTokens xs all rest → IsAhead rest → IsAhead all
items-ahead {xs} {all} {rest} t h = ahead xs all rest t.are h
  where
    ahead : (xs : List Sexp) (all rest : List Tok) → TokensOfItems (sexps xs) all rest → IsAhead rest → IsAhead all
    ahead [] all rest t h = subst IsAhead (sym t) h
    ahead (x ∷ xs) all rest t h = TokensOf-ahead x all t.0 t.1

-- what stands ahead is at the default position
pub placed : {x : Sexp} {xs : List Sexp} {Spells : List Placed → List Placed → Type 0} {rest : List Tok} → Spelling (x ∷ xs) Spells rest → Spelling (x ∷ xs) (λ all rest. BeginsAt unknown all × Spells all rest) rest
placed s = record { all = s.all; tokens = s.tokens; spells = (item-ahead s.tokens, s.spells) }

-- no items
pub spell-nothing : (rest : List Tok) → Spelling [] (λ all rest. all ≡ rest) rest
spell-nothing rest = record { all = rest; tokens = record { are = refl }; spells = refl }

pub spell-word : (word : List ℕ) → ReadsAs word (symbol word) → (rest : List Tok) → Spelling (atom word ∷ []) (SpellsWord word) rest
spell-word word is rest = record {
  all = symbol word ∷ rest;
  tokens = record { are = (rest, (symbol word, refl, is, refl), refl) };
  spells = (unknown, refl);
}

pub spell-flag : (word : List ℕ) → ReadsAs word (symbol word) → (flag : Bool) (rest : List Tok) → Spelling (flag_shape word flag) (SpellsFlag word flag) rest
spell-flag word is true rest = spell-word word is rest
spell-flag word is false rest = spell-nothing rest

pub spell-name : (n : Name) → IsName n → (rest : List Tok) → Spelling (name_shape n ∷ []) (SpellsName (erase_name n)) rest
spell-name n is rest = record {
  all = symbol n.text ∷ rest;
  tokens = record { are = (rest, (symbol n.text, refl, λ text apart. identifier_is_symbol n.text text is apart, refl), refl) };
  spells = (is, refl);
}

-- one part and then another
abbrev pub InTurn : (List Placed → List Placed → Type 0) → (List Placed → List Placed → Type 0) → List Placed → List Placed → Type 0
InTurn First Second all rest = (mid : List Placed) × First all mid × Second mid rest

pub spell-turn : {xs ys : List Sexp} {First Second : List Placed → List Placed → Type 0} {rest : List Tok}
    → (second : Spelling ys Second rest) → Spelling xs First second.all → Spelling (xs ++ ys) (InTurn First Second) rest
spell-turn second first = record {
  all = first.all;
  tokens = first.tokens then second.tokens;
  spells = (unplaced second.all, first.spells, second.spells);
}

-- elements one after another
pub spell-all : {A B : Type 0} → (shape : A → Sexp) (erased : A → B) (Spells : B → List Placed → List Placed → Type 0) (P : A → Type 0)
    → ((x : A) → P x → (rest : List Tok) → Spelling (shape x ∷ []) (Spells (erased x)) rest)
    → (xs : List A) → Each P xs → (rest : List Tok) → Spelling (map shape xs) (SpellsAll Spells (map erased xs)) rest
spell-all shape erased Spells P one [] each rest = spell-nothing rest
spell-all shape erased Spells P one (x ∷ xs) each rest =
    let behind = spell-all shape erased Spells P one xs each.1 rest in
    spell-turn behind (one x each.0 behind.all)

pub spell-names : (ns : List Name) → Each IsName ns → (rest : List Tok) → Spelling (name_shapes ns) (SpellsAll SpellsName (erase_names ns)) rest
spell-names = spell-all name_shape erase_name SpellsName IsName spell-name

-- items in parentheses
pub spell-list : (items : List Sexp) (Spells : List Placed → List Placed → Type 0) (rest : List Tok) → Spelling items Spells (rparen ∷ rest) → Spelling (list_of items ∷ []) (InParentheses Spells) rest
spell-list items Spells rest s = record {
  all = lparen ∷ s.all;
  tokens = record { are = (rest, (s.all, refl, s.tokens.are), refl) };
  spells = (unplaced s.all, unplaced (rparen ∷ rest), (unknown, refl), s.spells, (unknown, refl));
}

-- items after a word
pub spell-behind : (word : List ℕ) → ReadsAs word (symbol word) → (items : List Sexp) (Spells : List Placed → List Placed → Type 0) (rest : List Tok) → Spelling items Spells rest → Spelling (atom word ∷ items) (BehindWord word Spells) rest
spell-behind word is items Spells rest s = record {
  all = symbol word ∷ s.all;
  tokens = record { are = (s.all, (symbol word, refl, is, refl), s.tokens.are) };
  spells = (unplaced s.all, (unknown, refl), s.spells);
}

-- a word and the items after it, in parentheses
pub spell-form : (word : List ℕ) → ReadsAs word (symbol word)
    → (items : List Sexp) (Spells : List Placed → List Placed → Type 0) (rest : List Tok)
    → Spelling items Spells (rparen ∷ rest) → Spelling (form_shape word items ∷ []) (InParentheses (BehindWord word Spells)) rest
spell-form word is items Spells rest s =
    spell-list (atom word ∷ items) (BehindWord word Spells) rest (spell-behind word is items Spells (rparen ∷ rest) s)

-- a text that isn't this word, as a test
pub differs-test : (text word : List ℕ) (b : Bool) → bytes_eq text word ≡ b → text ≢ word → b ≡ false
differs-test text word true e other = absurd (other ((bytes_eq-Decides text word).0 e))
differs-test text word false e other = refl

-- two groups of items are grouped to the left
pub regrouped : (ys zs : List Sexp) {xs : List Sexp} {all mid rest : List Tok} → ItemTokens xs all mid → ItemTokens (ys ++ zs) mid rest → ItemTokens (xs ++ ys ++ zs) all rest
regrouped ys zs {xs} {all} {mid} {rest} t u = subst (λ items. ItemTokens items all rest) (sym (append_assoc xs ys zs)) (t then u)

pub spell-constant : (name : Name) → is_identifier (36 ∷ name.text) ≡ true → (rest : List Tok) → Spelling (constant_shape name ∷ []) (SpellsConstant (erase_name name)) rest
spell-constant name is rest = record {
  all = symbol (36 ∷ name.text) ∷ rest;
  tokens = record { are = (rest, (symbol (36 ∷ name.text), refl, λ text apart. identifier_is_symbol (36 ∷ name.text) text is apart, refl), refl) };
  spells = (is, refl);
}
