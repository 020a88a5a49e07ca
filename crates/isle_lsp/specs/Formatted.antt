-- The edits that format a document.
use Rattle.std.specs.Prelude.{◌≡◌, ◌⊎◌, ℕ, List, [], ◌∷◌, Bool, ◌&&◌, ◌||◌, ◌==◌, true, false, Option, None, Some, drop}
use Rattle.serde_json.specs.Data.{Data, null}
use Rattle.isle_tidy_core.specs.Refused.{HasNoDocument}
use Rattle.isle_tidy_core.specs.Tidied.{IsTidyTextOf}
use Rattle.isle_lsp_ranges.specs.LineEdits.{edits_data}
use Rattle.isle_lsp_text.specs.Edits.{AreEdits, applied}
use Rattle.isle_lsp_text.specs.Positions.{offset_at}
use Rattle.isle_lsp_text.specs.declared.edits.Edit.{Edit}
use Rattle.isle_lsp_text.specs.declared.positions.Range.{Range}
use Rattle.isle_lsp_text.specs.declared.positions.PositionEncoding.{PositionEncoding}

-- The edits turn the old text into the new one, line by line, and there are none between equal texts.
pub record Make (old new : List ℕ) (es : List Edit) : Type 0 where
  pub gives : applied 0 es old new ≡ new
  pub lines : AreEdits 0 es old new
  pub none : old ≡ new → es ≡ []

-- the edits that turn one text into another
abbrev pub IsChange : PositionEncoding → (old new : List ℕ) → Data → Type 0
IsChange enc old new d = (es : List Edit) × Make old new es × (d ≡ edits_data enc old new es)

-- the edits that format a text; null if it cannot be formatted
abbrev pub IsFormatting : PositionEncoding → List ℕ → Data → Type 0
IsFormatting enc text d = (HasNoDocument text × (d ≡ null)) ⊎ ((tidy : List ℕ) × IsTidyTextOf text tidy × IsChange enc text tidy d)

-- whether a line is blank, by the text from its start on
abbrev pub is_blank_line : List ℕ → Bool
is_blank_line [] = true
is_blank_line (b ∷ bs) = b == 10 || b == 13 || ((b == 32 || b == 9) && is_blank_line bs)

-- whether the line at which a range begins is blank
abbrev pub is_blank_at : PositionEncoding → List ℕ → Option Range → Bool
is_blank_at enc text None = false
is_blank_at enc text (Some range) = is_blank_line (drop (offset_at enc range.start text) text)
