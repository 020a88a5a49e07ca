-- Steps of a reader, taken apart: a choice by the word ahead, a node made of what was read, parentheses and lists.
use Rattle.std.proofs.Common.{◌≡◌, ◌⊎◌, inl, inr, ℕ, ◌<◌, Bool, true, false, cond, List, [], ◌∷◌, length, suc, Option, Some, None, refl, sym, ap, ◌∙◌, arith}
use Rattle.std.specs.Str.{bytes_eq}
use Rattle.std.proofs.lemmas.Slice.Eq.{bytes_eq-Decides}
use Rattle.isle_base_source.specs.declared.pos.Pos.{Pos}
use Rattle.isle_base.specs.Place.{Placed}
use Rattle.isle_base.specs.Token.{Tok, lparen, rparen, symbol, integer, at_sign}
use Rattle.isle_ast_names.specs.Words.{SpellsWord, SpellsAll, InParentheses, SpellsName, BeginsAt, IsNonEmpty}
use Rattle.isle_ast_names.specs.Tree.{Name}
use Rattle.isle_parser_cursor.specs.Reading.{Reader, ◌>>=◌, is_ahead, is_symbol_of, is_lparen, is_rparen, at_rparen, flag, text, pos_ahead, in_parentheses, many}
use Rattle.isle_parser_cursor.proofs.Flags.{ReadsFlag, flag_sound, flag_complete}
use Rattle.isle_parser_cursor.proofs.Names.{text_sound, text_complete}
use Rattle.isle_parser_cursor.proofs.Readers.{Spelling, Sound, Complete, Begins, begins_node, bind_some, chosen, done_is, done, many_sound, many_complete, stopping_closes, parentheses_complete}

-- the parts of a step that gave something
pub bound : {A B : Type 0} {r : Option A} {f : A → Option B} {y : B} → (r >>= f) ≡ Some y → (x : A) × (r ≡ Some x) × (f x ≡ Some y)
bound {A = A} {B = B} {r = r} {f = f} {y = y} e = bind_some r f y e

pub either : {A : Type 0} {b : Bool} {x y z : A} → cond b x y ≡ z → ((b ≡ true) × (x ≡ z)) ⊎ ((b ≡ false) × (y ≡ z))
either {A = A} {b = b} {x = x} {y = y} {z = z} e = chosen b x y z e

pub nothing : {A : Type 0} {x : A} → None ≡ Some x → ⊥
nothing e = cc

pub both : {A : Type 0} {x y : A} {i j : List Placed} → done {A = A × List Placed} (x, i) ≡ done {A = A × List Placed} (y, j) → (x ≡ y) × (i ≡ j)
both {A = A} {x = x} {y = y} {i = i} {j = j} e = done_is x y i j e

-- a node made of what was read
pub made_of : {A B : Type 0} {r : Option (A × List Placed)} (make : A → B) {y : B} {rest : List Placed} → ◌>>=◌ {B = B × List Placed} r (λ x. Some (make x.0, x.1)) ≡ Some (y, rest) → (x : A) × (r ≡ Some (x, rest)) × (make x ≡ y)
made_of {r = None} make e = absurd cc
made_of {A = A} {B = B} {r = Some x} make {y = y} {rest = rest} e =
    let is = both {x = make x.0} {y = y} e in
    (x.0, ap (λ (r : List Placed). Some (x.0, r)) is.1, is.0)

-- ---- words

pub word_is : {w word : List ℕ} {all inner : List Placed} → text all ≡ Some (w, inner) → bytes_eq w word ≡ true → SpellsWord word all inner
word_is {w = w} {word = word} {all = all} {inner = inner} e is =
    (pos_ahead all, text_sound all inner w e ∙ ap (λ (t : List ℕ). record { pos = pos_ahead all; token = symbol t } ∷ inner) ((bytes_eq-Decides w word).0 is))

pub word_read : {word : List ℕ} {all inner : List Placed} → SpellsWord word all inner → text all ≡ Some (word, inner)
word_read {word = word} {all = all} {inner = inner} h = rw h.1 (text_complete h.0 word inner)

pub word_ahead : {word : List ℕ} {all inner : List Placed} → SpellsWord word all inner → (other : List ℕ) → is_ahead (is_symbol_of other) all ≡ bytes_eq word other
word_ahead h other = rw h.1 refl

-- a choice by the word ahead
abbrev pub Chooses : {A : Type 0} → List ℕ → Reader A → Reader A → List Placed → Option (A × List Placed) → Type 0
Chooses word with without all read =
    ((inner : List Placed) × SpellsWord word all inner × (with inner ≡ read)) ⊎ ((is_ahead (is_symbol_of word) all ≡ false) × (without all ≡ read))

flag_chosen : {A : Type 0} (word : List ℕ) (with without : Reader A) (all rest : List Placed) (x : A × List Placed) (b : Bool) → ReadsFlag word b all rest → cond b (with rest) (without rest) ≡ Some x → Chooses word with without all (Some x)
flag_chosen word with without all rest x true f e = inl (rest, f.spelt, e)
flag_chosen word with without all rest x false f e = inr ((f.unset refl).1, ap without (f.unset refl).0 ∙ e)

pub flag_read : (word : List ℕ) (all inner : List Placed) → SpellsWord word all inner → flag word all ≡ Some (true, inner)
flag_read word all inner h = flag_complete word true all inner (λ e. absurd cc) h

pub flag_absent : (word : List ℕ) (all : List Placed) → is_ahead (is_symbol_of word) all ≡ false → flag word all ≡ Some (false, all)
flag_absent word all h = flag_complete word false all all (λ e. h) refl

pub choice : {A : Type 0} (word : List ℕ) (with without : Reader A) (all : List Placed) {x : A × List Placed} → (flag word all >>= λ w. cond w.0 (with w.1) (without w.1)) ≡ Some x → Chooses word with without all (Some x)
choice {A = A} word with without all {x = x} e =
    let w = bind_some (flag word all) (λ w. cond w.0 (with w.1) (without w.1)) x e in
    flag_chosen word with without all w.0.1 x w.0.0 (flag_sound word all w.0.1 w.0.0 w.1) w.2

-- ---- before `)`

-- complete where `)` stands after
abbrev pub CompleteClosed : {A : Type 0} → Spelling A → Reader A → Type 0
CompleteClosed {A = A} R read = (x : A) (all rest : List Placed) → at_rparen rest ≡ true → R x all rest → read all ≡ Some (x, rest)

pub list_sound : {A : Type 0} (R : Spelling A) (read : Reader A) → Sound R read → Sound (SpellsAll R) (many at_rparen read)
list_sound R read sound all rest xs e = (many_sound R read at_rparen sound all rest xs e).0

pub list_complete : {A : Type 0} (R : Spelling A) (read : Reader A) → Complete R read → Begins R → CompleteClosed (SpellsAll R) (many at_rparen read)
list_complete R read complete begins xs all rest closed h =
    many_complete R read at_rparen (suc (length all)) (λ x i j below. complete x i j) begins stopping_closes xs all rest (omega arith) h closed

pub enclosed_complete : {A : Type 0} (R : Spelling A) (read : Reader A) → CompleteClosed R read → (x : A) (all rest : List Placed) → InParentheses (R x) all rest → in_parentheses read all ≡ Some (x, rest)
enclosed_complete R read complete x all rest h = parentheses_complete R read x all rest (λ inner close lt. complete x inner close) h

-- the position of what is ahead
pub position_of : {pos : Pos} {all : List Placed} → BeginsAt pos all → pos_ahead all ≡ pos
position_of h = rw h.2 refl

-- a token is ahead where something is read
pub begins_here : (all : List Placed) → is_ahead begins_node all ≡ true → BeginsAt (pos_ahead all) all
begins_here [] e = absurd cc
begins_here (x ∷ xs) e = (x.token, xs, refl)

pub name_at : (n : Name) (all rest : List Placed) → SpellsName n all rest → BeginsAt (pos_ahead all) all
name_at n all rest h = (symbol n.text, rest, rw h.1 refl)

pub word_at : {word : List ℕ} {all rest : List Placed} → SpellsWord word all rest → BeginsAt (pos_ahead all) all
word_at {word = word} {all = all} {rest = rest} h = (symbol word, rest, rw h.1 refl)

pub opened_at : (R : List Placed → List Placed → Type 0) (all rest : List Placed) → InParentheses R all rest → BeginsAt (pos_ahead all) all
opened_at R all rest h = (lparen, h.0, rw h.2.1 refl)

pub opens : (R : List Placed → List Placed → Type 0) (all rest : List Placed) → InParentheses R all rest → is_ahead is_lparen all ≡ true
opens R all rest h = rw h.2.1 refl

pub word_shorter : (word : List ℕ) (all rest : List Placed) → SpellsWord word all rest → length rest < length all
word_shorter word all rest h = rw h.1 (omega arith)

lparen_open : (t : Tok) → is_lparen t ≡ true → is_rparen t ≡ false
lparen_open lparen e = refl
lparen_open rparen e = absurd cc
lparen_open (symbol s) e = refl
lparen_open (integer n) e = refl
lparen_open at_sign e = refl

-- where `(` is ahead, `)` isn't
pub opens_not_closes : (all : List Placed) → is_ahead is_lparen all ≡ true → at_rparen all ≡ false
opens_not_closes [] e = absurd cc
opens_not_closes (x ∷ xs) e = lparen_open x.token e

-- a list that doesn't end at once has a node
pub list_nonempty : {A : Type 0} (R : Spelling A) (xs : List A) (all rest : List Placed) → SpellsAll R xs all rest → at_rparen rest ≡ true → at_rparen all ≡ false → IsNonEmpty xs
list_nonempty R [] all rest h closed other =
    let same : at_rparen all ≡ true = rw h closed in
    absurd cc
list_nonempty R (x ∷ xs) all rest h closed other = tt

pub list_at : {A : Type 0} (R : Spelling A) → Begins R → (xs : List A) (all rest : List Placed) → IsNonEmpty xs → SpellsAll R xs all rest → BeginsAt (pos_ahead all) all
list_at R begins [] all rest some h = absurd some
list_at R begins (x ∷ xs) all rest some h = begins_here all (begins x all h.0 h.1).0

-- a node in parentheses that keeps its position
pub at_place : {A : Type 0} (R : Spelling A) (at : A → Pos) (x : A) (all rest : List Placed) → InParentheses (λ i j. (at x ≡ pos_ahead all) × R x i j) all rest → BeginsAt (at x) all × InParentheses (R x) all rest
at_place R at x all rest h =
    let is : at x ≡ pos_ahead all = h.3.0 in
    (rw is (opened_at _ all rest h), (h.0, h.1, h.2, h.3.1, h.4))

pub from_place : {A : Type 0} (R : Spelling A) (at : A → Pos) (x : A) (all rest : List Placed) → BeginsAt (at x) all → InParentheses (R x) all rest → InParentheses (λ i j. (at x ≡ pos_ahead all) × R x i j) all rest
from_place R at x all rest p h = (h.0, h.1, h.2, (sym (position_of p), h.3), h.4)
