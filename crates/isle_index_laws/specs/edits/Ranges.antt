-- Where a text is edited, by lines and units of an encoding.
use Rattle.std.specs.Prelude.{◌≡◌, ℕ, ◌+◌, ◌≤◌, List, [], ◌∷◌, IsUtf8, length}
use Rattle.std.specs.List.{AllByRecursion}
use Rattle.isle_base_source.specs.declared.pos.Pos.{Pos}
use Rattle.isle_resolve.specs.Names.{NameNode}
use Rattle.isle_index.specs.Renaming.{Part, part_text}
use Rattle.isle_index_laws.specs.RenamedTokens.{is_constant}
use Rattle.isle_index_laws.specs.SpeltTexts.{SpeltText}
use Rattle.isle_lsp_text.specs.Positions.{offset_at, position_at}
use Rattle.isle_lsp_text.specs.declared.positions.PositionEncoding.{PositionEncoding}
use Rattle.isle_index_laws.specs.edits.EditedTexts.{offsets_in}

-- so many bytes from an offset on are in the text, and the positions of both their ends have the offsets of these, in each encoding
abbrev pub IsRange : List ℕ → (len offset : ℕ) → Type 0
IsRange text len offset =
    (offset + len ≤ length text)
    × ((enc : PositionEncoding) → offset_at enc (position_at enc offset text) text ≡ offset)
    × ((enc : PositionEncoding) → offset_at enc (position_at enc (offset + len) text) text ≡ offset + len)

-- the text of the name's part is such a range at each of these positions, in each text that is UTF-8. The files are
-- numbered from this number on
abbrev pub AreRanges : List Pos → NameNode → Part → ℕ → List SpeltText → Type 0
AreRanges places name part file [] = Unit {0}
AreRanges places name part file (t ∷ ts) =
    (IsUtf8 t.text → AllByRecursion (IsRange t.text (length (part_text part))) (offsets_in file (is_constant name) part places))
    × AreRanges places name part (file + 1) ts
