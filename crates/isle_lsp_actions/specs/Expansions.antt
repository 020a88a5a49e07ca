-- The action that expands a use of an internal extractor: it puts what the use stands for in its place.
use Rattle.std.specs.Prelude.{◌≡◌, ℕ, ◌-◌, List, [], ◌∷◌, ◌++◌, Bool, true, false, not, ◌&&◌, ◌||◌, Option, None, Some, codes, map, nat_le, nat_lt, option_map, slice_get, if◌then◌else◌}
use Rattle.std.specs.List.{list_all}
use Rattle.isle_base.specs.Spellings.{in_symbol}
use Rattle.isle_base.specs.Token.{Tok, lparen, rparen, symbol, integer, at_sign, is_symbol, Lexeme}
use Rattle.isle_lsp_actions.specs.Actions.{Action}
use Rattle.isle_lsp_actions.specs.Extractors.{AreExtractors, Extractor}
use Rattle.isle_lsp_actions.specs.Items.{ListItems, items, texts_of}
use Rattle.isle_lsp_actions.specs.Templates.{IsSubstituted}
use Rattle.isle_lsp_actions.specs.Tokens.{AreTokens, is_opening}
use Rattle.isle_lsp_actions.specs.Told.{is_text}
use Rattle.isle_lsp_actions.specs.declared.actions.ActionKind.TheVariants.{Inlining}
use Rattle.isle_lsp_actions.specs.declared.expansions.Use.{Use as CodeUse}
use Rattle.isle_lsp_context.specs.Places.{IsSlotAt}
use Rattle.isle_lsp_context.specs.declared.slot.Slot.{Slot}
use Rattle.isle_lsp_context.specs.declared.slot.Slot.TheVariants as slots

-- ---- the use at a place

-- a list that begins with a name: its extent, the name, and the items behind it as they are written
pub record Use : Type 0 where
  pub name : List ℕ
  pub from : ℕ
  pub to : ℕ
  pub arguments : List (List ℕ)

-- that of the code
abbrev pub use_of : CodeUse → Use
use_of u = record { name = u.name.now; from = u.from; to = u.to; arguments = map (λ a. a.now) u.arguments.items }

-- whether these tokens begin with a `(` and a name, and a place is not before the one nor behind the other
abbrev pub is_headed_at : (place : ℕ) → List Lexeme → Bool
is_headed_at place [] = false
is_headed_at place (x ∷ []) = false
is_headed_at place (x ∷ y ∷ ys) = is_opening x.token && is_symbol y.token && nat_le x.offset place && nat_le place y.after

-- the tokens from the last such `(` on, if the last one so far is the first of `found`
abbrev pub headed_at : (place : ℕ) → (found : List Lexeme) → List Lexeme → List Lexeme
headed_at place found [] = found
headed_at place found (x ∷ xs) = headed_at place (if is_headed_at place (x ∷ xs) then x ∷ xs else found) xs

abbrev pub use_with : List ℕ → (from : ℕ) → Tok → Option ListItems → Option Use
use_with text from (symbol name) (Some i) = Some (record { name = name; from = from; to = i.to; arguments = texts_of text i.parts })
use_with text from (symbol name) None = None
use_with text from lparen i = None
use_with text from rparen i = None
use_with text from (integer _) i = None
use_with text from at_sign i = None

-- the list that begins with these tokens, if it ends
abbrev pub use_ahead : List ℕ → List Lexeme → Option Use
use_ahead text [] = None
use_ahead text (x ∷ []) = None
use_ahead text (x ∷ y ∷ ys) = use_with text x.offset y.token (items text ys)

-- what may stand here is a pattern, other than the root of a rule
abbrev pub is_pattern : Slot → Bool
is_pattern slots.Pattern = true
is_pattern slots.IfLet = true
is_pattern slot = false

abbrev pub is_in_symbol : Option ℕ → Bool
is_in_symbol None = false
is_in_symbol (Some b) = in_symbol b

-- whether a byte of a symbol or of a number is directly before a part of a text, or directly behind it
abbrev pub is_glued : List ℕ → (from to : ℕ) → Bool
is_glued text from to = (nat_lt 0 from && is_in_symbol (slice_get text (from - 1))) || is_in_symbol (slice_get text to)

-- a list stands where a pattern may stand, and apart from what is around it
abbrev pub IsUseAmong : List ℕ → (list found : Option Use) → Type 0
IsUseAmong text None found = found ≡ None
IsUseAmong text (Some u) found =
    (slot : Slot) × IsSlotAt text u.from slot × (found ≡ (if is_pattern slot && not (is_glued text u.from u.to) then Some u else None))

-- This is the pattern at a place in a text that may be a use of an extractor.
abbrev pub IsUseAt : List ℕ → (place : ℕ) → Option Use → Type 0
IsUseAt text place found = (tokens : List Lexeme) × AreTokens text tokens × IsUseAmong text (use_ahead text (headed_at place [] tokens)) found

-- ---- its expansion

-- the only one of these
abbrev pub only : List (Option Extractor) → Option Extractor
only [] = None
only (e ∷ []) = e
only (e ∷ f ∷ fs) = None

abbrev pub IsExpansionBy : Option Extractor → Use → Option (List ℕ) → Type 0
IsExpansionBy None u new = new ≡ None
IsExpansionBy (Some e) u new = IsSubstituted e u.arguments new

-- This is what a use stands for in a program with these texts: nothing, if the program has not just one extractor with its name.
abbrev pub IsExpansion : (texts : List (List ℕ)) → Use → Option (List ℕ) → Type 0
IsExpansion texts u new = (found : List (Option Extractor)) × AreExtractors texts u.name found × IsExpansionBy (only found) u new

-- the same in each of these programs
abbrev pub AreExpansions : (programs : List (List (List ℕ))) → Use → List (Option (List ℕ)) → Type 0
AreExpansions [] u news = news ≡ []
AreExpansions (p ∷ ps) u news =
    (here : Option (List ℕ)) × (rest : List (Option (List ℕ))) × IsExpansion p u here × AreExpansions ps u rest × (news ≡ here ∷ rest)

abbrev pub agreed_on : Option (List ℕ) → List (Option (List ℕ)) → Option (List ℕ)
agreed_on None news = None
agreed_on (Some new) news = if list_all (is_text new) news then Some new else None

-- what all of these are
abbrev pub agreed : List (Option (List ℕ)) → Option (List ℕ)
agreed [] = None
agreed (new ∷ news) = agreed_on new news

-- ---- the action

-- the action that puts a text in place of a use
abbrev pub expanding : Use → List ℕ → Action
expanding u new = record { title = codes "Expand `" ++ u.name ++ codes "`"; kind = Inlining; from = u.from; to = u.to; new_text = new }

abbrev pub IsExpandingOf : (programs : List (List (List ℕ))) → Option Use → Option Action → Type 0
IsExpandingOf programs None action = action ≡ None
IsExpandingOf programs (Some u) action = (news : List (Option (List ℕ))) × AreExpansions programs u news × (action ≡ option_map (expanding u) (agreed news))

-- This is the action that expands the use at a place in a text, if one is there that stands for the same in each of these programs.
abbrev pub IsExpanding : List ℕ → (programs : List (List (List ℕ))) → (place : ℕ) → Option Action → Type 0
IsExpanding text programs place action = (u : Option Use) × IsUseAt text place u × IsExpandingOf programs u action
