-- The edits that turn a text into another line by line, and those of them within a part.
use Rattle.std.specs.Prelude.{◌≡◌, ◌≢◌, ◌⊎◌, ℕ, ◌+◌, ◌<◌, ◌≤◌, List, [], ◌∷◌, Bool, ◌&&◌, ◌==◌, drop, filter, map, nat_le, nat_lt, if◌then◌else◌}
use Rattle.isle_lsp_protocol.specs.Results.{text_edit}
use Rattle.isle_lsp_text.specs.Edits.{IsLineStart, applied, first_line, part}
use Rattle.isle_lsp_text.specs.Positions.{offset_at, position}
use Rattle.isle_lsp_text.specs.Ranges.{range_between}
use Rattle.isle_lsp_text.specs.declared.edits.Edit.{Edit}
use Rattle.isle_lsp_text.specs.declared.positions.Range.{Range}
use Rattle.serde_json.specs.Data.{Data, array}
use Rattle.serde_json.specs.View.{items_of}
use Rattle.isle_lsp_text.specs.declared.positions.PositionEncoding.{PositionEncoding}

-- An edit replaces one line of the old text, or nothing, by other lines of the new text, or by nothing.
pub record IsLineEdit (old new : List ℕ) (e : Edit) : Type 0 where
  pub old_order : e.start ≤ e.end
  pub new_order : e.from ≤ e.to
  pub start : IsLineStart old e.start
  pub end : IsLineStart old e.end
  pub from : IsLineStart new e.from
  pub to : IsLineStart new e.to
  pub one : (e.start ≡ e.end) ⊎ (part old e.start e.end ≡ first_line (drop e.start old))
  pub other : part old e.start e.end ≢ part new e.from e.to

-- each is one of a line at this offset or after it, and behind the one before
abbrev pub AreLineEdits : ℕ → List Edit → (old new : List ℕ) → Type 0
AreLineEdits at [] old new = Unit {0}
AreLineEdits at (e ∷ es) old new = (at ≤ e.start) × IsLineEdit old new e × AreLineEdits e.end es old new

-- They turn the old text into the new one, line by line.
pub record TurnByLines (old new : List ℕ) (es : List Edit) : Type 0 where
  pub gives : applied 0 es old new ≡ new
  pub lines : AreLineEdits 0 es old new

-- whether an edit is within a part of the old text
abbrev pub is_within : (from to : ℕ) → Edit → Bool
is_within from to e = nat_le from e.start && nat_le e.end to

-- These are the edits within a part of the old text, of edits that turn the whole text into the new one line by line.
abbrev pub AreEditsWithin : (old new : List ℕ) → (from to : ℕ) → List Edit → Type 0
AreEditsWithin old new from to within = (es : List Edit) × TurnByLines old new es × (within ≡ filter (is_within from to) es)

-- an edit, at its range of the old text
abbrev pub edit_data : PositionEncoding → (old new : List ℕ) → Edit → Data
edit_data enc old new e = text_edit (range_between enc old e.start e.end) (part new e.from e.to)

abbrev pub edits_data : PositionEncoding → (old new : List ℕ) → List Edit → Data
edits_data enc old new es = array (items_of (map (edit_data enc old new) es))

-- the line after the lines of a range; a range that ends where a line begins, behind the one that it begins on, has nothing of that line
abbrev pub line_after : Range → ℕ
line_after range = if range.end.unit == 0 && nat_lt range.start.line range.end.line then range.end.line else range.end.line + 1

-- where the lines of a range begin and end
abbrev pub lines_start : PositionEncoding → List ℕ → Range → ℕ
lines_start enc text range = offset_at enc (position range.start.line 0) text

abbrev pub lines_end : PositionEncoding → List ℕ → Range → ℕ
lines_end enc text range = offset_at enc (position (line_after range) 0) text

-- These are the edits that format the lines of a range: those within them of the edits that turn the whole text into the new one.
abbrev pub IsRangeFormatting : PositionEncoding → (old new : List ℕ) → Range → Data → Type 0
IsRangeFormatting enc old new range d =
    (es : List Edit) × AreEditsWithin old new (lines_start enc old range) (lines_end enc old range) es × (d ≡ edits_data enc old new es)

-- ---- a walk over the lines of both texts

-- the line of the old text at an offset, if there is one, and what replaces it of the new text from an offset on
pub record IsPair (old new : List ℕ) (at from : ℕ) (e : Edit) : Type 0 where
  pub here : (e.start ≡ at) × (e.from ≡ from)
  pub old_order : e.start ≤ e.end
  pub new_order : e.from ≤ e.to
  pub end : IsLineStart old e.end
  pub to : IsLineStart new e.to
  pub one : (e.start ≡ e.end) ⊎ (part old e.start e.end ≡ first_line (drop e.start old))
  pub on : (e.start < e.end) ⊎ (e.from < e.to)
