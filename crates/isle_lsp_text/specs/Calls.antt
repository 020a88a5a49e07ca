-- The definitions of an ISLE text that call terms, and the words in them.
use Rattle.std.specs.Prelude.{◌≡◌, ℕ, List, [], ◌∷◌, ◌++◌, Bool, ◌&&◌, ◌||◌, ◌==◌, not, Option, None, Some, bytes_eq, filter, nat_lt, if◌then◌else◌}
use Rattle.std.specs.List.{filter_map, list_any}
use Rattle.isle_base.specs.Lexing.{lexes}
use Rattle.isle_base.specs.Token.{Tok, lparen, rparen, symbol, integer, at_sign, Lexeme, Ending}
use Rattle.isle_lsp_text.specs.Definitions.{begins_definition}
use Rattle.isle_lsp_text.specs.Implementations.{AreImplemented}
use Rattle.isle_lsp_text.specs.Lists.{AreLists, list_around}
use Rattle.isle_lsp_text.specs.declared.calls.Caller.{Caller}
use Rattle.isle_lsp_text.specs.declared.lists.ListSpan.{ListSpan}

-- a list is a definition: it is in no other list, or a definition begins with its `(`, whatever is open before it
unfoldable pub is_definition : List ℕ → ListSpan → Bool
is_definition text l = l.depth == 0 || begins_definition text l.from

-- these are all definitions of a text, in the order in which they end
abbrev pub AreDefinitions : List ℕ → List ListSpan → Type 0
AreDefinitions text definitions = (lists : List ListSpan) × AreLists text lists × (definitions ≡ filter (is_definition text) lists)

abbrev pub caller_of : (name : ℕ) → Option ListSpan → Option Caller
caller_of name None = None
caller_of name (Some l) = Some (record { from = l.from; to = l.to; name = name })

-- the innermost definition around the name at an offset, which it implements
abbrev pub caller_at : List ListSpan → (name : ℕ) → Option Caller
caller_at definitions name = caller_of name (list_around 0 name definitions)

-- These are the definitions of a text that implement names, in the order of the names.
abbrev pub AreCallers : List ℕ → List Caller → Type 0
AreCallers text callers =
    (names : List ℕ) × (definitions : List ListSpan) × AreImplemented text names × AreDefinitions text definitions
    × (callers ≡ filter_map (caller_at definitions) names)

-- whether an offset is in a definition, but not that of the name that it implements
abbrev pub calls_at : (offset : ℕ) → Caller → Bool
calls_at offset c = nat_lt c.from offset && nat_lt offset c.to && not (offset == c.name)

-- a symbol, unless it is among these
abbrev pub new_word : List (List ℕ) → Tok → List (List ℕ)
new_word found lparen = []
new_word found rparen = []
new_word found (symbol word) = if list_any (λ w. bytes_eq w word) found then [] else word ∷ []
new_word found (integer _) = []
new_word found at_sign = []

abbrev pub new_word_at : List Caller → List (List ℕ) → Lexeme → List (List ℕ)
new_word_at callers found x = if list_any (calls_at x.offset) callers then new_word found x.token else []

-- the symbols at which one of these definitions may call, without those that are found, each once
abbrev pub new_words : List Caller → (found : List (List ℕ)) → List Lexeme → List (List ℕ)
new_words callers found [] = []
new_words callers found (x ∷ xs) = let new : List (List ℕ) = new_word_at callers found x in new ++ new_words callers (found ++ new) xs

-- These are the symbols of a text at which one of these definitions may call: of its tokens up to its end, or to a lexical error.
pub record AreWords (text : List ℕ) (callers : List Caller) (words : List (List ℕ)) : Type 0 where
  pub tokens : List Lexeme
  pub ending : Ending
  pub lexed : lexes text tokens ending
  pub are : words ≡ new_words callers [] tokens
