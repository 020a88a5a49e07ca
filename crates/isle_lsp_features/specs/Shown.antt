-- The documentation of a name, as JSON.
use Rattle.std.specs.Prelude.{◌≡◌, ℕ, ◌≤◌, List, ◌++◌, Option, None, Some, codes, slice_get, slice_range, IsCharBoundary}
use Rattle.serde_json.specs.Data.{Data, null}
use Rattle.isle_lsp_features.specs.Programs.{Text}
use Rattle.isle_resolve.specs.Names.{NameNode}
use Rattle.isle_index.specs.Occurrences.{definitions}
use Rattle.isle_resolve.specs.Scopes.{SeenNode}
use Rattle.isle_index.specs.declared.occurrences.Occurrence.{Occurrence}
use Rattle.isle_lsp_protocol.specs.Results as results
use Rattle.isle_lsp_calls.specs.Items.{InOrder, extent_of}
use Rattle.isle_lsp_text.specs.Comments.{IsCommentsStart}
use Rattle.isle_lsp_text.specs.Lists.{AreLists}
use Rattle.isle_lsp_text.specs.Ranges.{range_at}
use Rattle.isle_lsp_text.specs.declared.lists.ListSpan.{ListSpan}
use Rattle.isle_lsp_text.specs.declared.wholes.Part.{Part}
use Rattle.isle_lsp_text.specs.declared.positions.PositionEncoding.{PositionEncoding}

-- the text from one offset to another, unless that splits a character
abbrev pub IsCut : List ℕ → (from to : ℕ) → List ℕ → Type 0
IsCut text from to cut = from ≤ to → IsCharBoundary text from → IsCharBoundary text to → cut ≡ slice_range text from to

-- a part of a text, with the comments above it
abbrev pub IsPart : List ℕ → Part → List ℕ → Type 0
IsPart text p part = (start : ℕ) × IsCommentsStart text p.from start × IsCut text start p.to part

-- the source of a definition, in a block, with the comments above it
abbrev pub IsShown : List ℕ → NameNode → Occurrence → List ℕ → Type 0
IsShown text name o shown =
    (lists : List ListSpan) × (part : List ℕ) × AreLists text lists × IsPart text (extent_of text lists name o) part
    × (shown ≡ codes "```isle\n" ++ part ++ codes "\n```")

-- the documentation of a definition, if its text is in the program
abbrev pub IsShownIn : Option Text → NameNode → Occurrence → Option (List ℕ) → Type 0
IsShownIn None name o shown = shown ≡ None
IsShownIn (Some s) name o shown = (block : List ℕ) × IsShown s.text name o block × (shown ≡ Some block)

abbrev pub IsFirstShown : List Text → NameNode → Option Occurrence → Option (List ℕ) → Type 0
IsFirstShown program name None shown = shown ≡ None
IsFirstShown program name (Some o) shown = IsShownIn (slice_get program o.pos.file) name o shown

-- the documentation of a name: its first definition, if it has one
abbrev pub IsShownOf : List Text → NameNode → List SeenNode → Option (List ℕ) → Type 0
IsShownOf program name all shown =
    (found : List Occurrence) × InOrder (definitions name all) found × IsFirstShown program name (slice_get found 0) shown

-- ---- of an occurrence

abbrev pub hover_data : PositionEncoding → List ℕ → (shown : Option (List ℕ)) → (at : Occurrence) → Data
hover_data enc text None at = null
hover_data enc text (Some shown) at = results.hover shown (range_at enc text at.pos.offset at.len)

-- the hover of an occurrence; null if there is no name
abbrev pub IsHover : PositionEncoding → List Text → List ℕ → Option NameNode → Option Occurrence → List SeenNode → Data → Type 0
IsHover enc program text None at all d = d ≡ null
IsHover enc program text (Some name) None all d = d ≡ null
IsHover enc program text (Some name) (Some at) all d =
    (shown : Option (List ℕ)) × IsShownOf program name all shown × (d ≡ hover_data enc text shown at)

-- ---- of an item of a completion

abbrev pub resolved_data : Data → (shown : Option (List ℕ)) → Data
resolved_data item None = item
resolved_data item (Some shown) = results.with_documentation item shown

-- an item with the documentation of its name; unchanged if there is none
abbrev pub IsResolved : List Text → List SeenNode → Option NameNode → Data → Data → Type 0
IsResolved program all None item d = d ≡ item
IsResolved program all (Some name) item d = (shown : Option (List ℕ)) × IsShownOf program name all shown × (d ≡ resolved_data item shown)
