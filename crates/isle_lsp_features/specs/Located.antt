-- The locations of names, as JSON.
use Rattle.std.specs.Prelude.{◌≡◌, ℕ, ◌+◌, List, [], ◌∷◌, ◌++◌, Bool, ◌&&◌, ◌||◌, ◌==◌, true, not, Option, None, Some, if◌then◌else◌}
use Rattle.std.specs.List.{flat_map}
use Rattle.serde_json.specs.Data.{Data, null, array}
use Rattle.serde_json.specs.View.{items_of}
use Rattle.isle_lsp_calls.specs.Items.{InOrder}
use Rattle.isle_lsp_features.specs.Programs.{Text}
use Rattle.isle_resolve.specs.Names.{NameNode}
use Rattle.isle_index.specs.Occurrences.{definitions, occurrences}
use Rattle.isle_resolve.specs.Scopes.{SeenNode}
use Rattle.isle_index.specs.declared.occurrences.Occurrence.{Occurrence}
use Rattle.isle_lsp_protocol.specs.Results as results
use Rattle.isle_lsp_text.specs.Ranges.{range_at}
use Rattle.isle_lsp_text.specs.declared.positions.PositionEncoding.{PositionEncoding}

-- the location of an occurrence, if it is in the text with this number, unless it is a definition and those are not asked for
abbrev pub location_in : ℕ → Text → Bool → Occurrence → List Data
location_in number s with_definitions o =
    if o.pos.file == number && (with_definitions || not o.is_definition) then results.location s.uri (range_at s.encoding s.text o.pos.offset o.len) ∷ [] else []

-- the locations in texts that are numbered from this number on
abbrev pub locations_from : ℕ → List Text → Bool → List Occurrence → List Data
locations_from number [] with_definitions found = []
locations_from number (s ∷ ss) with_definitions found =
    flat_map (location_in number s with_definitions) found ++ locations_from (number + 1) ss with_definitions found

-- the locations of occurrences, text by text
abbrev pub locations : List Text → Bool → List Occurrence → Data
locations program with_definitions found = array (items_of (locations_from 0 program with_definitions found))

-- the highlight of an occurrence, if it is in the text with this number
abbrev pub highlight_of : PositionEncoding → ℕ → List ℕ → Occurrence → List Data
highlight_of enc file text o = if o.pos.file == file then results.ranged (range_at enc text o.pos.offset o.len) ∷ [] else []

abbrev pub highlights : PositionEncoding → ℕ → List ℕ → List Occurrence → Data
highlights enc file text found = array (items_of (flat_map (highlight_of enc file text) found))

-- the definitions of a name; null if there is none
abbrev pub IsDefinition : List Text → Option NameNode → List SeenNode → Data → Type 0
IsDefinition program None all d = d ≡ null
IsDefinition program (Some name) all d =
    (found : List Occurrence) × InOrder (definitions name all) found × (d ≡ locations program (true) found)

abbrev pub AreReferences : List Text → Bool → Option NameNode → List SeenNode → Data → Type 0
AreReferences program own None all d = d ≡ null
AreReferences program own (Some name) all d =
    (found : List Occurrence) × InOrder (occurrences name all) found × (d ≡ locations program own found)

abbrev pub AreHighlights : PositionEncoding → ℕ → List ℕ → Option NameNode → List SeenNode → Data → Type 0
AreHighlights enc file text None all d = d ≡ null
AreHighlights enc file text (Some name) all d =
    (found : List Occurrence) × InOrder (occurrences name all) found × (d ≡ highlights enc file text found)
