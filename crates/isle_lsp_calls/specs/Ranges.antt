-- The ranges of calls.
use Rattle.std.specs.Prelude.{ℕ, List, [], ◌∷◌, Bool, ◌&&◌, ◌==◌, if◌then◌else◌}
use Rattle.std.specs.List.{flat_map, list_any}
use Rattle.isle_index.specs.declared.occurrences.Occurrence.{Occurrence}
use Rattle.isle_lsp_text.specs.Calls.{calls_at}
use Rattle.isle_lsp_text.specs.Ranges.{range_at}
use Rattle.isle_lsp_text.specs.declared.calls.Caller.{Caller}
use Rattle.isle_lsp_text.specs.declared.positions.Range.{Range}
use Rattle.isle_lsp_text.specs.declared.positions.PositionEncoding.{PositionEncoding}

-- an occurrence is in the text with this number
abbrev pub is_in : ℕ → Occurrence → Bool
is_in number o = o.pos.file == number

-- the range of an occurrence, if it is in the text with this number, and one of these definitions calls there
abbrev pub call_in : PositionEncoding → ℕ → (text : List ℕ) → List Caller → Occurrence → List Range
call_in enc number text callers o =
    if is_in number o && list_any (calls_at o.pos.offset) callers then range_at enc text o.pos.offset o.len ∷ [] else []

abbrev pub calls_in : PositionEncoding → ℕ → (text : List ℕ) → List Caller → List Occurrence → List Range
calls_in enc number text callers found = flat_map (call_in enc number text callers) found
