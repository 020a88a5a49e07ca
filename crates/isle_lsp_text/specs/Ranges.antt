-- Ranges of a text, from the byte offsets of their ends.
use Rattle.std.specs.Prelude.{ℕ, ◌+◌, ◌-◌, List, length, min}
use Rattle.isle_lsp_text.specs.Positions.{position_at}
use Rattle.isle_lsp_text.specs.declared.positions.PositionEncoding.{PositionEncoding}
use Rattle.isle_lsp_text.specs.declared.positions.Range.{Range}

-- the range of `len` bytes from an offset on, cut at the end of the text
abbrev pub range_at : PositionEncoding → List ℕ → (offset len : ℕ) → Range
range_at enc text offset len =
    let start : ℕ = min offset (length text) in
    record { start = position_at enc start text; end = position_at enc (start + min len (length text - start)) text }

-- the range from one offset to another, cut at the end of the text
abbrev pub range_between : PositionEncoding → List ℕ → (from to : ℕ) → Range
range_between enc text from to = record { start = position_at enc from text; end = position_at enc to text }
