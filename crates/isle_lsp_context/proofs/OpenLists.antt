-- How many arguments the open lists have: no more than bytes have been read.
use Rattle.std.proofs.Common.{◌≡◌, ◌∙◌, ℕ, ◌<◌, ◌≤◌, List, [], ◌∷◌, Bool, true, false, ◌||◌, Some, ap, drop, map, reverse, arith, refl, subst, sym, if◌then◌else◌}
use Rattle.isle_base.specs.Place.{Placed}
use Rattle.isle_base.specs.Steps.{Rises, first_placed, offset_by}
use Rattle.isle_base.specs.Token.{Ending, Lexeme, Tok, at_sign, integer, lparen, rparen, symbol}
use Rattle.isle_lsp_context.specs.Calls.{AreAtMost, LevelNode, argument_count, awaits_bindings, bindings, call, counted, definition, empty, headless, holder, inside, is_at_sign, level_after, level_of, levels_of, lists_after, nested, other, with_item}
use Rattle.isle_lsp_context.specs.Scanning.{lists_before}
use Rattle.isle_lsp_context.specs.declared.calls.Level.{Level}
use Rattle.isle_lsp_text.specs.Definitions.{begins_definition}

more_arguments : (m n : ℕ) (ls : List LevelNode) → m ≤ n → AreAtMost m ls → AreAtMost n ls
more_arguments m n [] h a = tt
more_arguments m n (l ∷ ls) h a = (omega (arith, a.0), more_arguments m n ls h a.1)

defined_most : (n : ℕ) (has_calls : Bool) → argument_count (if has_calls then holder else other) ≤ n
defined_most n true = omega arith
defined_most n false = omega arith

item_most : (m n : ℕ) (l : LevelNode) → m < n → argument_count l ≤ m → argument_count (with_item l) ≤ n
item_most m n definition h a = omega arith
item_most m n holder h a = omega arith
item_most m n bindings h a = omega arith
item_most m n other h a = omega arith
item_most m n empty h a = omega arith
item_most m n headless h a = omega arith
item_most m n (call c) h a = omega arith

level_most : (m n : ℕ) (t : Tok) (l : LevelNode) → m < n → argument_count l ≤ m → argument_count (level_after t l) ≤ n
level_most m n lparen l h a = omega arith
level_most m n rparen l h a = item_most m n l h a
level_most m n (symbol s) definition h a = defined_most n _
level_most m n (symbol s) holder h a = omega arith
level_most m n (symbol s) bindings h a = omega arith
level_most m n (symbol s) other h a = omega arith
level_most m n (symbol s) empty h a = omega arith
level_most m n (symbol s) headless h a = omega arith
level_most m n (symbol s) (call c) h a = omega arith
level_most m n (integer i) l h a = item_most m n l h a
level_most m n at_sign definition h a = omega arith
level_most m n at_sign holder h a = omega arith
level_most m n at_sign bindings h a = omega arith
level_most m n at_sign other h a = omega arith
level_most m n at_sign empty h a = omega arith
level_most m n at_sign headless h a = omega arith
level_most m n at_sign (call c) h a = omega arith

bindings_most : (m : ℕ) (awaits : Bool) → argument_count (if awaits then bindings else empty) ≤ m
bindings_most m true = omega arith
bindings_most m false = omega arith

-- a list that begins has no arguments
inside_most : (m : ℕ) (l : LevelNode) → argument_count (inside l) ≤ m
inside_most m definition = omega arith
inside_most m holder = omega arith
inside_most m bindings = omega arith
inside_most m other = omega arith
inside_most m empty = omega arith
inside_most m headless = omega arith
inside_most m (call c) = bindings_most m (awaits_bindings c)

nested_most : (m : ℕ) (t : Tok) (ls : List LevelNode) → AreAtMost m ls → AreAtMost m (nested t ls)
nested_most m lparen [] a = (omega arith, tt)
nested_most m lparen (l ∷ ls) a = (inside_most m l, a)
nested_most m rparen [] a = tt
nested_most m rparen (l ∷ ls) a = a.1
nested_most m (symbol s) ls a = a
nested_most m (integer i) ls a = a
nested_most m at_sign ls a = a

counted_most : (m n : ℕ) (t : Tok) (ls : List LevelNode) → m < n → AreAtMost m ls → AreAtMost n (counted t ls)
counted_most m n t [] h a = tt
counted_most m n t (l ∷ ls) h a = (level_most m n t l h a.0, more_arguments m n ls (omega arith) a.1)

chosen_most : (m n : ℕ) (counts : Bool) (t : Tok) (ls : List LevelNode) → m < n → AreAtMost m ls → AreAtMost n (if counts then counted t (nested t ls) else nested t ls)
chosen_most m n true t ls h a = counted_most m n t (nested t ls) h (nested_most m t ls a)
chosen_most m n false t ls h a = more_arguments m n (nested t ls) (omega arith) (nested_most m t ls a)

after_most : (m n : ℕ) (ends_before : Bool) (t : Tok) (ls : List LevelNode) → m < n → AreAtMost m ls → AreAtMost n (lists_after ends_before t ls)
after_most m n ends_before t ls h a = chosen_most m n (ends_before || is_at_sign t) t ls h a

none_or_most : (m : ℕ) (begins : Bool) (ls : List LevelNode) → AreAtMost m ls → AreAtMost m (if begins then [] else ls)
none_or_most m true ls a = tt
none_or_most m false ls a = a

-- there are so few arguments that the next token can end one more
pub record AreFew (ls : List LevelNode) (coming : List Lexeme) : Type 0 where
  pub most : ℕ
  pub are : AreAtMost most ls
  pub rising : Rises most coming

mapped : {A B : Type 0} (f : A → B) (begins : Bool) (xs : List A) → map f (if begins then [] else xs) ≡ (if begins then [] else map f xs)
mapped f true xs = refl
mapped f false xs = refl

-- what a definition that begins leaves of the lists of the code
pub levels_before : (text : List ℕ) (offset : ℕ) (old new : List Level) → reverse new ≡ lists_before text offset (reverse old) → levels_of new ≡ lists_before text offset (levels_of old)
unfolding lists_before
levels_before text offset old new e = ap (map level_of) e ∙ mapped level_of (begins_definition text offset) (reverse old)

-- they stay few where a definition begins
pub few_before : (text : List ℕ) (offset : ℕ) (ls ms : List LevelNode) (coming : List Lexeme) → ms ≡ lists_before text offset ls → AreFew ls coming → AreFew ms coming
unfolding lists_before
few_before text offset ls ms coming e f =
    let here : AreFew (lists_before text offset ls) coming = record { most = f.most; are = none_or_most f.most (begins_definition text offset) ls f.are; rising = f.rising } in
    subst (λ k. AreFew k coming) (sym e) here

-- the token ahead ends behind so many bytes
pub few_end : (file : ℕ) (coming : List Lexeme) (ending : Ending) (size : ℕ) (p : Placed) (most : ℕ) → Some p ≡ first_placed file coming → Rises most coming → most < offset_by coming ending size
few_end file [] ending size p most e r = cc
few_end file (x ∷ xs) ending size p most e r = omega (arith, r.0, r.1)

-- the lists after one more token
pub few_more : (file : ℕ) (coming rest : List Lexeme) (p : Placed) (ends_before : Bool) (ls ms : List LevelNode) → Some p ≡ first_placed file coming → ms ≡ lists_after ends_before p.token ls → rest ≡ drop 1 coming → AreFew ls coming → AreFew ms rest
few_more file [] rest p ends_before ls ms e m r f = cc
few_more file (x ∷ xs) rest p ends_before ls ms e m r f =
    let t : x.token ≡ p.token = cc in
    let same : lists_after ends_before x.token ls ≡ ms = cc in
    let here : AreFew (lists_after ends_before x.token ls) xs = record {
      most = x.after;
      are = after_most f.most x.after ends_before x.token ls (omega (arith, f.rising.0, f.rising.1)) f.are;
      rising = f.rising.2;
    } in
    subst (λ k. AreFew k rest) same (subst (λ k. AreFew (lists_after ends_before x.token ls) k) (sym r) here)
