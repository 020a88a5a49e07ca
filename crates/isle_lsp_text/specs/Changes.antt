-- Changes of a text.
use Rattle.std.specs.Prelude.{ℕ, List, ◌++◌, Option, None, Some, take, drop, min, max}
use Rattle.isle_lsp_text.specs.Positions.{offset_at}
use Rattle.isle_lsp_text.specs.declared.positions.PositionEncoding.{PositionEncoding}
use Rattle.isle_lsp_text.specs.declared.positions.Range.{Range}

-- a text with other bytes between two offsets
abbrev pub splice : List ℕ → (start end : ℕ) → List ℕ → List ℕ
splice text start end bytes = take start text ++ (bytes ++ drop end text)

-- a text after a change: of what stands in the range, or else of all of it
abbrev pub apply_change : PositionEncoding → List ℕ → Option Range → List ℕ → List ℕ
apply_change enc text None bytes = bytes
apply_change enc text (Some range) bytes =
    splice text (min (offset_at enc range.start text) (offset_at enc range.end text)) (max (offset_at enc range.start text) (offset_at enc range.end text)) bytes
