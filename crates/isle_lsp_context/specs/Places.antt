-- What stands next at a place in a text, by the tokens of the text.
use Rattle.std.specs.Prelude.{◌≡◌, ℕ, List, [], ◌∷◌, Bool, false, true, nat_le, nat_lt, if◌then◌else◌}
use Rattle.isle_base.specs.Lexing.{lexes}
use Rattle.isle_base.specs.Token.{Ending, Lexeme, Tok, at_sign, integer, lparen, rparen, symbol}
use Rattle.isle_lsp_context.specs.Scanning.{is_fault_before, lists_before}
use Rattle.isle_lsp_context.specs.Steps.{behind_at, behind_integer, behind_list, behind_symbol, inner}
use Rattle.isle_lsp_context.specs.declared.slot.Slot.{Slot}
use Rattle.isle_lsp_context.specs.declared.slot.Slot.TheVariants as slots

-- ---- The lists that are open, each by what stands next in it, the innermost first.

-- with one more, which stands in the innermost one; one that stands in no other is a definition
abbrev pub opened : List Slot → List Slot
opened [] = slots.Definition ∷ []
opened (l ∷ ls) = inner l ∷ l ∷ ls

-- without the innermost one, which is an item of the next
abbrev pub closed : List Slot → List Slot
closed [] = []
closed (l ∷ []) = []
closed (l ∷ m ∷ ls) = behind_list m ∷ ls

-- behind a symbol
abbrev pub named : List ℕ → List Slot → List Slot
named s [] = []
named s (l ∷ ls) = behind_symbol s l ∷ ls

-- behind an integer
abbrev pub counted : List Slot → List Slot
counted [] = []
counted (l ∷ ls) = behind_integer l ∷ ls

-- behind an `@`
abbrev pub joined : List Slot → List Slot
joined [] = []
joined (l ∷ ls) = behind_at l ∷ ls

-- behind a token
abbrev pub lists_after : Tok → List Slot → List Slot
lists_after lparen ls = opened ls
lists_after rparen ls = closed ls
lists_after (symbol s) ls = named s ls
lists_after (integer _) ls = counted ls
lists_after at_sign ls = joined ls

-- ---- Up to a place.

-- whether a token that ends at a place may go on there
abbrev pub goes_on : Tok → Bool
goes_on lparen = false
goes_on rparen = false
goes_on (symbol _) = true
goes_on (integer _) = true
goes_on at_sign = false

-- whether a token counts that ends here: it is before the place
abbrev pub is_before : (place : ℕ) → Tok → (after : ℕ) → Bool
is_before place t after = if goes_on t then nat_lt after place else nat_le after place

-- what stands next in the innermost list; anything, where no list is open
abbrev pub innermost : List Slot → Slot
innermost [] = slots.Any
innermost (l ∷ ls) = l

-- What stands next at a place, by the tokens from here on, where these lists are open before them. After a lexical error it is anything.
abbrev pub slot_from : (text : List ℕ) (place : ℕ) → Ending → List Slot → List Lexeme → Slot
slot_from text place ending ls [] = if is_fault_before place ending then slots.Any else innermost ls
slot_from text place ending ls (x ∷ xs) =
    if is_before place x.token x.after then slot_from text place ending (lists_after x.token (lists_before text x.offset ls)) xs else innermost ls

-- This stands next at a place in a text.
pub record IsSlotAt (text : List ℕ) (place : ℕ) (found : Slot) : Type 0 where
  pub tokens : List Lexeme
  pub ending : Ending
  pub lexed : lexes text tokens ending
  pub is : found ≡ slot_from text place ending [] tokens
