-- What a selection grows to from a position: a word, the lists around it, and the whole text.
use Rattle.std.specs.Prelude.{◌≡◌, ℕ, ◌-◌, List, [], ◌∷◌, ◌++◌, Bool, ◌&&◌, codes, length, map, nat_le, nat_lt, take, if◌then◌else◌}
use Rattle.isle_base.specs.Lexing.{lexes}
use Rattle.isle_base.specs.Token.{Ending, Lexeme, Tok, at_sign, integer, lparen, rparen, symbol}
use Rattle.isle_lsp_protocol.specs.Results.{range_data}
use Rattle.isle_lsp_text.specs.Lists.{AreLists}
use Rattle.isle_lsp_text.specs.Positions.{offset_at}
use Rattle.isle_lsp_text.specs.Ranges.{range_between}
use Rattle.isle_lsp_text.specs.declared.lists.ListSpan.{ListSpan}
use Rattle.isle_lsp_text.specs.declared.positions.Position.{Position}
use Rattle.isle_lsp_text.specs.declared.positions.Range.{Range}
use Rattle.isle_lsp_text.specs.declared.wholes.Part.{Part}
use Rattle.serde_json.specs.Data.{Data, array, member, no_members, object}
use Rattle.serde_json.specs.View.{items_of}
use Rattle.isle_lsp_text.specs.declared.positions.PositionEncoding.{PositionEncoding}

abbrev pub part : (from to : ℕ) → Part
part from to = record { from = from; to = to }

-- the part of a token, if it is a symbol or an integer
abbrev pub word_of : Tok → (from to : ℕ) → List Part
word_of lparen from to = []
word_of rparen from to = []
word_of (symbol _) from to = part from to ∷ []
word_of (integer _) from to = part from to ∷ []
word_of at_sign from to = []

-- the symbols and integers among tokens
abbrev pub words_of : List Lexeme → List Part
words_of [] = []
words_of (x ∷ xs) = word_of x.token x.offset x.after ++ words_of xs

-- These are all words of a text: its symbols and integers up to its end, or to a lexical error.
pub record AreWords (text : List ℕ) (words : List Part) : Type 0 where
  pub tokens : List Lexeme
  pub ending : Ending
  pub lexed : lexes text tokens ending
  pub are : words ≡ words_of tokens

-- whether an offset is at the start of a part, in it or at its end
abbrev pub touches : (offset : ℕ) → Part → Bool
touches offset p = nat_le p.from offset && nat_le offset p.to

-- the first of these words that an offset touches
abbrev pub word_at : (offset : ℕ) → List Part → List Part
word_at offset [] = []
word_at offset (w ∷ ws) = if touches offset w then w ∷ [] else word_at offset ws

abbrev pub list_part : ListSpan → Part
list_part l = part l.from l.to

abbrev pub size : Part → ℕ
size p = p.to - p.from

-- whether a part has all of another one in it, and more
abbrev pub exceeds : (outer inner : Part) → Bool
exceeds outer inner = nat_le outer.from inner.from && nat_le inner.to outer.to && nat_lt (size inner) (size outer)

-- of these parts each one that exceeds the one taken before it, where the whole exceeds them all
abbrev pub grown : (whole inner : Part) → List Part → List Part
grown whole inner [] = []
grown whole inner (p ∷ ps) = if exceeds p inner && exceeds whole p then p ∷ grown whole p ps else grown whole inner ps

-- the most parts of a text that are selected around a position, without the whole text
abbrev pub most : ℕ
most = 100

-- The parts that a selection grows to from an offset, without the whole text: the word that it touches, and the lists around
-- that. Lists come in the order in which they end, so the innermost comes first.
abbrev pub parts_around : List ℕ → (words : List Part) → List ListSpan → (offset : ℕ) → List Part
parts_around text words lists offset =
    take most (grown (part 0 (length text)) (part offset offset) (word_at offset words ++ map list_part lists))

-- a range, and what a selection grows to from it
abbrev pub growing : Range → Data → Data
growing range parent = object (member (codes "parent") parent (member (codes "range") (range_data range) no_members))

-- the innermost of these parts, and around it the others in turn, and around them all the whole text
abbrev pub selection : PositionEncoding → List ℕ → List Part → Data
selection enc text [] = object (member (codes "range") (range_data (range_between enc text 0 (length text))) no_members)
selection enc text (p ∷ ps) = growing (range_between enc text p.from p.to) (selection enc text ps)

abbrev pub selection_at : PositionEncoding → List ℕ → (words : List Part) → List ListSpan → Position → Data
selection_at enc text words lists p = selection enc text (parts_around text words lists (offset_at enc p text))

-- These are the selections from positions in a text, one for each.
pub record AreSelections (enc : PositionEncoding) (text : List ℕ) (positions : List Position) (d : Data) : Type 0 where
  pub words : List Part
  pub lists : List ListSpan
  pub are_words : AreWords text words
  pub are_lists : AreLists text lists
  pub are : d ≡ array (items_of (map (selection_at enc text words lists) positions))
