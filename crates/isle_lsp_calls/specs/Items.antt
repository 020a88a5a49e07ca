-- The items of the call hierarchy, as JSON.
use Rattle.std.specs.Prelude.{◌≡◌, ℕ, List, [], ◌∷◌, Bool, true, false, Option, None, Some, length, nat_lt, slice_get, if◌then◌else◌}
use Rattle.std.specs.List.Sorted.{IsPermutation, IsSortedByKey}
use Rattle.serde_json.specs.Data.{Data, null, array}
use Rattle.serde_json.specs.View.{items_of}
use Rattle.isle_base_source.specs.PositionOrder.{position_cmp}
use Rattle.isle_base_source.specs.declared.pos.Pos.{Pos}
use Rattle.isle_index.specs.Occurrences.{definitions, name_at}
use Rattle.isle_index.specs.declared.occurrences.Occurrence.{Occurrence}
use Rattle.isle_lsp_calls.specs.Sources.{Source}
use Rattle.isle_lsp_protocol.specs.Results.{call_item}
use Rattle.isle_lsp_text.specs.Lists.{AreLists}
use Rattle.isle_lsp_text.specs.Ranges.{range_at, range_between}
use Rattle.isle_lsp_text.specs.Wholes.{whole_of}
use Rattle.isle_lsp_text.specs.declared.lists.ListSpan.{ListSpan}
use Rattle.isle_lsp_text.specs.declared.positions.PositionEncoding.{PositionEncoding}
use Rattle.isle_lsp_text.specs.declared.positions.Range.{Range}
use Rattle.isle_lsp_text.specs.declared.wholes.Part.{Part}
use Rattle.isle_resolve.specs.Names.{NameNode, global, variable, name_text}
use Rattle.isle_resolve.specs.Scopes.{SeenNode}
use Rattle.isle_resolve.specs.declared.event.Kind.TheVariants as kinds

abbrev pub pos : (file offset : ℕ) → Pos
pos file offset = record { file = file; offset = offset }

-- these occurrences, each once, in order of position
pub record InOrder (all found : List Occurrence) : Type 0 where
  pub exact : IsPermutation all found
  pub in_order : IsSortedByKey (λ o. o.pos) position_cmp found

abbrev pub is_term : NameNode → Bool
is_term (global kinds.Term text) = true
is_term (global kinds.Type text) = false
is_term (global kinds.Constant text) = false
is_term (variable binder text) = false

abbrev pub only_term : Option NameNode → Option NameNode
only_term None = None
only_term (Some name) = if is_term name then Some name else None

-- the name at a place, if it is that of a term
abbrev pub term_at : Pos → List SeenNode → Option NameNode
term_at place all = only_term (name_at place all)

abbrev pub range_of : PositionEncoding → List ℕ → Part → Range
range_of enc text p = range_between enc text p.from p.to

-- a definition of a name is a variant: it is written shorter than its name, which begins with the name of its type
abbrev pub is_variant : NameNode → Occurrence → Bool
is_variant name o = nat_lt o.len (length (name_text name))

-- the extent of the whole definition of a name, by the lists of its text
abbrev pub extent_of : (text : List ℕ) → List ListSpan → NameNode → Occurrence → Part
extent_of text lists name o = whole_of text lists (is_variant name o) o.pos.offset o.len

-- the item of a definition, by the lists of its text
abbrev pub item_of : Source → List ListSpan → NameNode → Occurrence → Data
item_of s lists name o = call_item (name_text name) s.uri (range_of s.encoding s.text (extent_of s.text lists name o)) (range_at s.encoding s.text o.pos.offset o.len)

abbrev pub IsItemIn : Source → NameNode → Occurrence → Data → Type 0
IsItemIn s name o d = (lists : List ListSpan) × AreLists s.text lists × (d ≡ item_of s lists name o)

-- the item of a definition, if its text is in the program
abbrev pub IsItemAt : Option Source → NameNode → Occurrence → Option Data → Type 0
IsItemAt None name o item = item ≡ None
IsItemAt (Some s) name o item = (d : Data) × IsItemIn s name o d × (item ≡ Some d)

abbrev pub IsFirstItem : List Source → NameNode → Option Occurrence → Option Data → Type 0
IsFirstItem program name None item = item ≡ None
IsFirstItem program name (Some o) item = IsItemAt (slice_get program o.pos.file) name o item

-- the item of a name: that of its first definition, if it has one
abbrev pub IsItem : List Source → NameNode → List SeenNode → Option Data → Type 0
IsItem program name all item =
    (found : List Occurrence) × InOrder (definitions name all) found × IsFirstItem program name (slice_get found 0) item

-- a list of an item; null if there is none
abbrev pub item_list : Option Data → Data
item_list None = null
item_list (Some d) = array (items_of (d ∷ []))

-- the item of a term, in a list; null if there is none
abbrev pub IsPrepared : List Source → (term : Option NameNode) → List SeenNode → Data → Type 0
IsPrepared program None all d = d ≡ null
IsPrepared program (Some term) all d = (item : Option Data) × IsItem program term all item × (d ≡ item_list item)
