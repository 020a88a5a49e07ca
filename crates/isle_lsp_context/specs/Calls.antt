-- The call that a place in a text is in, by the tokens of the text.
use Rattle.std.specs.Prelude.{◌≡◌, ℕ, ◌+◌, ◌-◌, ◌≤◌, List, [], ◌∷◌, Bool, ◌&&◌, ◌||◌, ◌==◌, true, false, Option, None, Some, bytes_eq, codes, map, nat_le, nat_lt, reverse, if◌then◌else◌}
use Rattle.isle_base.specs.Lexing.{lexes}
use Rattle.isle_base.specs.Token.{Ending, Lexeme, Tok, at_sign, integer, lparen, rparen, symbol}
use Rattle.isle_lsp_context.specs.Scanning.{is_fault_before, lists_before}
use Rattle.isle_lsp_context.specs.declared.calls.Call.{Call}
use Rattle.isle_lsp_context.specs.declared.calls.Level.{Level}
use Rattle.isle_lsp_context.specs.declared.calls.Level.TheVariants as levels

-- a call: the symbol with which it begins, and how many of its arguments have ended
pub record CallNode : Type 0 where
  pub head : List ℕ
  pub arguments : ℕ

-- A list that is open: a definition with nothing in it yet; a list that is no call, but has calls in it, which is a rule, an extractor or a binding
-- of a `let`; the bindings of a `let`; a list of another definition. In the other lists expressions or patterns stand: such a list with nothing in
-- it yet, with a first item that is no symbol, or with a symbol as its first item.
pub data LevelNode : Type 0 where
  definition : LevelNode
  holder : LevelNode
  bindings : LevelNode
  other : LevelNode
  empty : LevelNode
  headless : LevelNode
  call : CallNode → LevelNode

-- the first argument of a `let` is the list of its bindings
abbrev pub awaits_bindings : CallNode → Bool
awaits_bindings c = bytes_eq c.head (codes "let") && c.arguments == 0

-- a list that begins in this one
abbrev pub inside : LevelNode → LevelNode
inside definition = other
inside holder = empty
inside bindings = holder
inside other = other
inside empty = empty
inside headless = empty
inside (call c) = if awaits_bindings c then bindings else empty

-- open lists and one that begins in them; in no list a definition begins
abbrev pub opened : List LevelNode → List LevelNode
opened [] = definition ∷ []
opened (l ∷ ls) = inside l ∷ l ∷ ls

-- the lists that are open after a token, the innermost first: a `(` opens one, and a `)` closes one
abbrev pub nested : Tok → List LevelNode → List LevelNode
nested lparen ls = opened ls
nested rparen [] = []
nested rparen (l ∷ ls) = ls
nested (symbol _) ls = ls
nested (integer _) ls = ls
nested at_sign ls = ls

-- a list in which one item more has ended
abbrev pub with_item : LevelNode → LevelNode
with_item definition = other
with_item holder = holder
with_item bindings = bindings
with_item other = other
with_item empty = headless
with_item headless = headless
with_item (call c) = call (record { head = c.head; arguments = c.arguments + 1 })

-- a definition after its keyword: calls stand in rules and in extractors alone
abbrev pub defined : List ℕ → LevelNode
defined keyword = if bytes_eq keyword (codes "rule") || bytes_eq keyword (codes "extractor") then holder else other

-- a list in which a symbol has ended
abbrev pub with_symbol : List ℕ → LevelNode → LevelNode
with_symbol name definition = defined name
with_symbol name holder = holder
with_symbol name bindings = bindings
with_symbol name other = other
with_symbol name empty = call (record { head = name; arguments = 0 })
with_symbol name headless = headless
with_symbol name (call c) = with_item (call c)

-- a list in which the last item goes on
abbrev pub joined : LevelNode → LevelNode
joined definition = other
joined holder = holder
joined bindings = bindings
joined other = other
joined empty = headless
joined headless = headless
joined (call c) = call (record { head = c.head; arguments = c.arguments - 1 })

-- A list after one of its tokens: a symbol, an integer and the `)` of a list in it end an item, and after `@` the last item goes on.
abbrev pub level_after : Tok → LevelNode → LevelNode
level_after lparen l = l
level_after rparen l = with_item l
level_after (symbol name) l = with_symbol name l
level_after (integer _) l = with_item l
level_after at_sign l = joined l

-- open lists, after a token of the innermost one
abbrev pub counted : Tok → List LevelNode → List LevelNode
counted t [] = []
counted t (l ∷ ls) = level_after t l ∷ ls

abbrev pub is_at_sign : Tok → Bool
is_at_sign lparen = false
is_at_sign rparen = false
is_at_sign (symbol _) = false
is_at_sign (integer _) = false
is_at_sign at_sign = true

-- open lists after a token, which counts as an item only if it ends before the place; after an `@` the last item goes on at once
abbrev pub lists_after : (ends_before : Bool) → Tok → List LevelNode → List LevelNode
lists_after ends_before t ls = if ends_before || is_at_sign t then counted t (nested t ls) else nested t ls

-- The lists that are open at a place in a text, the innermost first, by the tokens from here on, where these are open before them: the tokens up to
-- the place are read. None are open after a lexical error.
abbrev pub lists_at : List ℕ → (place : ℕ) → Ending → List LevelNode → List Lexeme → List LevelNode
lists_at text place ending ls [] = if is_fault_before place ending then [] else ls
lists_at text place ending ls (x ∷ xs) =
    if nat_le x.after place then lists_at text place ending (lists_after (nat_lt x.after place) x.token (lists_before text x.offset ls)) xs else ls

-- the innermost call of these lists; none where a list that is no call is around the place before any call is
abbrev pub innermost : List LevelNode → Option CallNode
innermost [] = None
innermost (definition ∷ ls) = None
innermost (holder ∷ ls) = None
innermost (bindings ∷ ls) = None
innermost (other ∷ ls) = None
innermost (empty ∷ ls) = innermost ls
innermost (headless ∷ ls) = innermost ls
innermost (call c ∷ ls) = Some c

-- This is the call around a place in a text.
pub record IsCallAround (text : List ℕ) (place : ℕ) (found : Option CallNode) : Type 0 where
  pub tokens : List Lexeme
  pub ending : Ending
  pub lexed : lexes text tokens ending
  pub is : found ≡ innermost (lists_at text place ending [] tokens)

-- ---- of values of the code

abbrev pub call_of : Call → CallNode
call_of c = record { head = c.head.now; arguments = c.arguments }

abbrev pub level_of : Level → LevelNode
level_of levels.Definition = definition
level_of levels.Holder = holder
level_of levels.Bindings = bindings
level_of levels.Other = other
level_of levels.Empty = empty
level_of levels.Headless = headless
level_of (levels.Call c) = call (call_of c)

-- lists of which the last is the innermost
abbrev pub levels_of : List Level → List LevelNode
levels_of ls = map level_of (reverse ls)

abbrev pub argument_count : LevelNode → ℕ
argument_count definition = 0
argument_count holder = 0
argument_count bindings = 0
argument_count other = 0
argument_count empty = 0
argument_count headless = 0
argument_count (call c) = c.arguments

-- none of these lists has more arguments
abbrev pub AreAtMost : (most : ℕ) → List LevelNode → Type 0
AreAtMost most [] = Unit {0}
AreAtMost most (l ∷ ls) = (argument_count l ≤ most) × AreAtMost most ls
