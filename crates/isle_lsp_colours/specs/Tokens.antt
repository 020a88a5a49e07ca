-- The tokens of a text that have a class, and their numbers.
use Rattle.std.specs.Prelude.{◌≡◌, ℕ, ◌+◌, ◌-◌, ◌<◌, ◌≤◌, ◌==◌, ◌&&◌, List, [], ◌∷◌, ◌++◌, Bool, true, Option, None, Some, codes, map, nat_le, nat_lt, slice_get, slice_range, if◌then◌else◌}
use Rattle.std.specs.List.{flat_map}
use Rattle.serde_json.specs.Data.{Data, array, member, no_members, number, object, unsigned}
use Rattle.serde_json.specs.View.{items_of}
use Rattle.isle_base.specs.Lexing.{lexes}
use Rattle.isle_base.specs.Token.{Tok, lparen, rparen, symbol, integer, at_sign, Ending, Lexeme}
use Rattle.isle_lsp_text.specs.Positions.{position, position_at, units}
use Rattle.isle_lsp_text.specs.declared.positions.Position.{Position}
use Rattle.isle_lsp_colours.specs.Classes.{first, modifiers, type_number, used}
use Rattle.isle_lsp_colours.specs.Keywords.{is_keyword}
use Rattle.isle_lsp_colours.specs.declared.classes.Class.{Class}
use Rattle.isle_lsp_colours.specs.declared.classes.TokenKind.TheVariants.{Keyword, Number}
use Rattle.isle_lsp_colours.specs.declared.tokens.Token.{Token}
use Rattle.isle_lsp_text.specs.declared.positions.PositionEncoding.{PositionEncoding}

-- ---- which tokens have which class

abbrev pub keyword_class : List ℕ → Option Class
keyword_class text = if is_keyword text then Some (used Keyword) else None

-- the class of a token, if it has one: that of the name that it is, or else what it is by its text
abbrev pub token_class : (name : Option Class) → Tok → Option Class
token_class name (symbol text) = first name (keyword_class text)
token_class name (integer value) = Some (used Number)
token_class name lparen = None
token_class name rparen = None
token_class name at_sign = None

-- a token, if it has a class
abbrev pub token_if : (from to : ℕ) → Option Class → List Token
token_if from to None = []
token_if from to (Some c) = record { from = from; to = to; class = c } ∷ []

-- an offset is at or after the first of two and before the second, or there are none
abbrev pub is_between : Option (ℕ × ℕ) → ℕ → Bool
is_between None offset = true
is_between (Some ends) offset = nat_le ends.0 offset && nat_lt offset ends.1

abbrev pub token_in : (name : ℕ → Option Class) → Option (ℕ × ℕ) → Lexeme → List Token
token_in name within x = if is_between within x.offset then token_if x.offset x.after (token_class (name x.offset) x.token) else []

-- the tokens that have a class, by the classes of names at offsets, and that begin between these offsets
abbrev pub tokens_of : (name : ℕ → Option Class) → Option (ℕ × ℕ) → List Lexeme → List Token
tokens_of name within xs = flat_map (token_in name within) xs

-- ---- tokens as numbers

-- the start of a text
abbrev pub origin : Position
origin = position 0 0

-- the units on its line before a token, or between it and the one before, if that is on its line
abbrev pub column_after : (before start : Position) → ℕ
column_after before start = if start.line == before.line then start.unit - before.unit else start.unit

-- the numbers of a token: how many lines it is after the one before it, and how many units; its length, its type and its modifiers
abbrev pub numbers : (before start end : Position) → Class → List ℕ
numbers before start end c = (start.line - before.line) ∷ column_after before start ∷ (end.unit - start.unit) ∷ type_number c.kind ∷ modifiers c ∷ []

-- the numbers of tokens, where the one before them begins at this position
abbrev pub encoded : PositionEncoding → List ℕ → (before : Position) → List Token → List ℕ
encoded enc text before [] = []
encoded enc text before (t ∷ ts) =
    numbers before (position_at enc t.from text) (position_at enc t.to text) t.class ++ encoded enc text (position_at enc t.from text) ts

abbrev pub count : ℕ → Data
count n = number (unsigned n)

abbrev pub tokens_data : PositionEncoding → List ℕ → List Token → Data
tokens_data enc text ts = object (member (codes "data") (array (items_of (map count (encoded enc text origin ts)))) no_members)

-- ---- what the numbers tell

-- what a client reads of a token: where it begins, its length, its type and its modifiers
pub record Told : Type 0 where
  pub start : Position
  pub length : ℕ
  pub type : ℕ
  pub modifiers : ℕ

-- where a token begins that is so many lines after the one before it, and so many units
abbrev pub start_after : Position → (lines units : ℕ) → Position
start_after before lines units = if lines == 0 then position before.line (before.unit + units) else position (before.line + lines) units

-- the tokens that numbers tell, where the one before them begins at this position
abbrev pub decoded : (before : Position) → List ℕ → List Told
decoded before (lines ∷ units ∷ len ∷ kind ∷ mods ∷ ns) =
    let start : Position = start_after before lines units in
    record { start = start; length = len; type = kind; modifiers = mods } ∷ decoded start ns
decoded before _ = []

-- what is to be told of a token
abbrev pub told : PositionEncoding → List ℕ → Token → Told
told enc text t = record {
  start = position_at enc t.from text;
  length = (position_at enc t.to text).unit - (position_at enc t.from text).unit;
  type = type_number t.class.kind;
  modifiers = modifiers t.class;
}

-- each token begins at or after the end of the one before it, is not empty, and is in a text of this length
abbrev pub AreInOrder : (size from : ℕ) → List Token → Type 0
AreInOrder size from [] = Unit {0}
AreInOrder size from (t ∷ ts) = (from ≤ t.from) × (t.from < t.to) × (t.to ≤ size) × AreInOrder size t.to ts

-- the bytes between two offsets are on one line: the second one is so many units behind the first as their characters have
abbrev pub IsOnOneLine : PositionEncoding → List ℕ → (from to : ℕ) → Type 0
IsOnOneLine enc text from to =
    position_at enc to text ≡ position (position_at enc from text).line ((position_at enc from text).unit + units enc (slice_range text from to))

-- ---- how they are found

abbrev pub if_there : Option (Option Class) → Option Class
if_there None = None
if_there (Some c) = c

-- the class at an offset, if there is one
abbrev pub entry : List (Option Class) → ℕ → Option Class
entry classes offset = if_there (slice_get classes offset)

-- these are the tokens of a text that have a class, by these classes of names
pub record AreFound (text : List ℕ) (classes : List (Option Class)) (within : Option (ℕ × ℕ)) (found : List Token) : Type 0 where
  pub tokens : List Lexeme
  pub ending : Ending
  pub lexed : lexes text tokens ending
  pub is : found ≡ tokens_of (entry classes) within tokens
