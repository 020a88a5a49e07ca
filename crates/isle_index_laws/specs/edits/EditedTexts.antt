-- The texts of a program in which a name gets a new text, and their tokens.
use Rattle.std.specs.Prelude.{◌≡◌, ℕ, ◌+◌, ◌-◌, ◌*◌, ◌&&◌, length, nat_lt, List, [], ◌∷◌, ◌++◌, ◌==◌, Bool, true, false, filter, map}
use Rattle.std.specs.List.{AllByRecursion, list_any}
use Rattle.isle_base.specs.Place.{Placed, in_file, placed_at}
use Rattle.isle_base.specs.Token.{Lexeme, Tok, symbol}
use Rattle.isle_base_source.specs.declared.pos.Pos.{Pos}
use Rattle.isle_ast.specs.Erased.{erase}
use Rattle.isle_ast.specs.Spelt.{IsSpelt}
use Rattle.isle_ast.specs.Tree.{Definition}
use Rattle.isle_resolve.specs.Mapped.{map_definitions}
use Rattle.isle_resolve.specs.Names.{NameNode}
use Rattle.isle_index.specs.Renamed.{replaced, same_place}
use Rattle.isle_index.specs.Renaming.{Part, part_text}
use Rattle.isle_index_laws.specs.RenamedTokens.{is_constant, lead, positions, renamed_token}
use Rattle.isle_index_laws.specs.SpeltTexts.{SpeltText}
use Rattle.isle_lsp_text.specs.Numbers.{is_behind_number}
use Rattle.isle_index_laws.specs.edits.Edits.{edited}

-- where in a file the part of a name begins that gets the new text, if the name is at these positions
abbrev pub offsets_in : ℕ → (of_constant : Bool) → Part → List Pos → List ℕ
offsets_in file of_constant part places = map (λ p. p.offset + length (lead of_constant part p)) (filter (λ p. file == p.file) places)

-- the text of a file, with the new text of the name at these positions
abbrev pub edited_text : ℕ → List Pos → NameNode → Part → List ℕ → List ℕ → List ℕ
edited_text file places name part new text = edited (part_text part) new (offsets_in file (is_constant name) part places) text

-- how many of these positions are in the file, before an offset
abbrev pub edits_before : ℕ → List Pos → ℕ → ℕ
edits_before file places offset = length (filter (λ p. (file == p.file) && nat_lt p.offset offset) places)

-- where the byte at an offset of the file is in the edited text. Each edit before it has put the new text in place of the
-- old one
abbrev pub moved : ℕ → List Pos → Part → List ℕ → ℕ → ℕ
moved file places part new offset =
    (offset + edits_before file places offset * length new) - edits_before file places offset * length (part_text part)

-- the tokens of the file in the edited text: each at its new offsets, and those at these positions with the new text
abbrev pub edited_token : ℕ → List Pos → NameNode → Part → List ℕ → Lexeme → Lexeme
edited_token file places name part new x =
    record {
      offset = moved file places part new x.offset;
      token = (renamed_token places (is_constant name) part new (placed_at (in_file file) x)).token;
      after = moved file places part new x.after;
    }

abbrev pub edited_tokens : ℕ → List Pos → NameNode → Part → List ℕ → List Lexeme → List Lexeme
edited_tokens file places name part new xs = map (edited_token file places name part new) xs

-- no text of the name's part directly follows a number
abbrev pub AreNotGlued : ℕ → List Pos → NameNode → Part → List ℕ → Type 0
AreNotGlued file places name part text =
    AllByRecursion (λ offset. is_behind_number text offset ≡ false) (offsets_in file (is_constant name) part places)

-- the token is a symbol that begins with these bytes
abbrev pub BeginsWith : List ℕ → Tok → Type 0
BeginsWith front token = (behind : List ℕ) × (token ≡ symbol (front ++ behind))

-- At each of these positions that is in the file stands one of its tokens, and each token there
-- begins with the name, up to the end of the part.
pub record AreNamed (file : ℕ) (places : List Pos) (name : NameNode) (part : Part) (ts : List Placed) : Type 0 where
  pub stand : AllByRecursion (λ p. p.file ≡ file → list_any (same_place p) (positions ts) ≡ true) places
  pub begin : AllByRecursion (λ t. list_any (same_place t.pos) places ≡ true → BeginsWith (lead (is_constant name) part t.pos ++ part_text part) t.token) ts

-- a text that spells these definitions up to their positions
abbrev pub SpellsUpToPositions : (ℕ → Pos) → List ℕ → List Definition → Type 0
SpellsUpToPositions place text ds = (es : List Definition) × IsSpelt place text es × (erase es ≡ erase ds)

-- each text with the new text of the name at these positions spells its definitions with the new text there, up to
-- positions, unless such a name directly follows a number. The files are numbered from this number on
abbrev pub AreSpeltEdited : List Pos → NameNode → Part → List ℕ → ℕ → List SpeltText → Type 0
AreSpeltEdited places name part new file [] = Unit {0}
AreSpeltEdited places name part new file (t ∷ ts) =
    (AreNotGlued file places name part t.text →
    SpellsUpToPositions (in_file file) (edited_text file places name part new t.text) (map_definitions (replaced places part new) t.definitions))
    × AreSpeltEdited places name part new (file + 1) ts
