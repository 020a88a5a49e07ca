-- The completions at a place, as JSON.
use Rattle.std.specs.Prelude.{◌≡◌, ℕ, ◌-◌, ◌||◌, ◌==◌, List, [], ◌∷◌, ◌++◌, Bool, false, true, Option, None, Some, filter, length, map, min, nat_eq, string_bytes, bytes_eq, if◌then◌else◌}
use Rattle.std.specs.List.{starts_with}
use Rattle.std.specs.Cmp.Lexicographic.{slice_cmp}
use Rattle.std.specs.List.Sorted.{IsPermutation, IsSortedByKey}
use Rattle.std.specs.Ordering.{nat_cmp}
use Rattle.std.specs.declared.cmp.Ordering.{Ordering}
use Rattle.serde_json.specs.Data.{Data, array}
use Rattle.serde_json.specs.View.{items_of}
use Rattle.isle_base_source.specs.declared.pos.Pos.{Pos}
use Rattle.isle_index.specs.Candidates.{CandidateNode, candidates}
use Rattle.isle_resolve.specs.Names.{NameNode, global}
use Rattle.isle_resolve.specs.Scopes.{SeenNode}
use Rattle.isle_index.specs.declared.symbols.SymbolKind.{SymbolKind}
use Rattle.isle_index.specs.declared.symbols.SymbolKind.TheVariants as symbol_kinds
use Rattle.isle_resolve.specs.declared.event.Kind.TheVariants as kinds
use Rattle.isle_lsp_context.specs.Offers.{keywords_of, names_of}
use Rattle.isle_lsp_context.specs.Places.{IsSlotAt}
use Rattle.isle_lsp_context.specs.declared.offers.Names.{Names}
use Rattle.isle_lsp_context.specs.declared.offers.Names.TheVariants as offered
use Rattle.isle_lsp_context.specs.declared.slot.Slot.{Slot}
use Rattle.isle_lsp_features.specs.declared.completion.Word.{Word}
use Rattle.isle_lsp_protocol.specs.Parameters.{kind_of, label_of}
use Rattle.isle_lsp_protocol.specs.Results.{completion_item}
use Rattle.isle_lsp_text.specs.Lists.{AreLists, outer_list}
use Rattle.isle_lsp_text.specs.Names.{name_before}
use Rattle.isle_lsp_text.specs.Ranges.{range_between}
use Rattle.isle_lsp_text.specs.declared.lists.ListSpan.{ListSpan}
use Rattle.isle_lsp_text.specs.declared.positions.Range.{Range}
use Rattle.isle_lsp_text.specs.declared.positions.PositionEncoding.{PositionEncoding}

-- the protocol's number of a kind
abbrev pub number_of : SymbolKind → ℕ
number_of symbol_kinds.Term = 3
number_of symbol_kinds.Type = 22
number_of symbol_kinds.Variant = 20
number_of symbol_kinds.Constant = 21
number_of symbol_kinds.Variable = 6

-- a text that may stand at a place, and the protocol's number of its kind
pub record WordNode : Type 0 where
  pub kind : ℕ
  pub text : List ℕ

abbrev pub word_of : Word → WordNode
word_of w = record { kind = w.kind; text = string_bytes w.text }

-- whether a name of a kind is one of these
abbrev pub is_kind_of : Names → SymbolKind → Bool
is_kind_of offered.All kind = true
is_kind_of offered.Nothing kind = false
is_kind_of offered.Types symbol_kinds.Type = true
is_kind_of offered.Types kind = false
is_kind_of offered.Terms symbol_kinds.Term = true
is_kind_of offered.Terms symbol_kinds.Variant = true
is_kind_of offered.Terms kind = false
is_kind_of offered.Values symbol_kinds.Type = false
is_kind_of offered.Values kind = true

abbrev pub is_of : Names → CandidateNode → Bool
is_of names c = is_kind_of names c.kind

abbrev pub name_word : CandidateNode → WordNode
name_word c = record { kind = number_of c.kind; text = c.text }

abbrev pub keyword_word : List ℕ → WordNode
keyword_word keyword = record { kind = 14; text = keyword }

-- the candidates that may stand in a slot, and its keywords that begin with a prefix
abbrev pub words : Slot → (prefix : List ℕ) → List CandidateNode → List WordNode
words slot prefix cs =
    map name_word (filter (is_of (names_of slot)) cs) ++ map keyword_word (filter (λ text. starts_with nat_eq text prefix) (keywords_of slot))

-- a text that replaces a range
abbrev pub item : Range → WordNode → Data
item range w = completion_item w.text w.kind range

abbrev pub is_again : Option WordNode → WordNode → Bool
is_again None w = false
is_again (Some last) w = bytes_eq last.text w.text

-- those whose text differs from the one before
abbrev pub once : Option WordNode → List WordNode → List WordNode
once last [] = []
once last (w ∷ ws) = if is_again last w then once (Some w) ws else w ∷ once (Some w) ws

abbrev pub items : Range → List WordNode → Data
items range ws = array (items_of (map (item range) (once None ws)))

-- texts by their bytes
abbrev pub text_order : List ℕ → List ℕ → Ordering
text_order = slice_cmp nat_cmp

-- the range of the partly written name right before an offset
abbrev pub range_before : PositionEncoding → List ℕ → (offset : ℕ) → Range
range_before enc text offset = let end : ℕ = min offset (length text) in range_between enc text (end - length (name_before text offset)) end

abbrev pub begins_at : Option ListSpan → (end : ℕ) → ℕ
begins_at None end = end
begins_at (Some l) end = l.from

-- the start of the outermost list around an offset; the end of the text if there is none
abbrev pub outer_start : List ℕ → List ListSpan → (offset : ℕ) → ℕ
outer_start text lists offset = begins_at (outer_list offset lists) (length text)

-- The candidates and keywords that begin with the partly written name right before a place, which they replace, and that may stand there
-- by what stands next in the innermost list around it, each once, sorted by text. The variables among them are those in scope at the last
-- name before the place, if that name is in the outermost list around the place.
abbrev pub AreCompletions : PositionEncoding → Pos → List ℕ → List SeenNode → Data → Type 0
AreCompletions enc place text all d =
    let prefix : List ℕ = name_before text place.offset in
    (lists : List ListSpan) × (slot : Slot) × (found : List Word) × AreLists text lists × IsSlotAt text place.offset slot
    × IsPermutation (words slot prefix (candidates place (outer_start text lists place.offset) prefix all)) (map word_of found)
    × IsSortedByKey (λ w. string_bytes w.text) text_order found × (d ≡ items (range_before enc text place.offset) (map word_of found))

-- ---- the name of an item

-- the constant of a label, which begins with `$`
abbrev pub constant_of : List ℕ → Option NameNode
constant_of [] = None
constant_of (b ∷ name) = if b == 36 then Some (global kinds.Constant name) else None

-- the global name with this label and kind; a variable is not global
abbrev pub labelled : (label : Option (List ℕ)) → (kind : Option ℕ) → Option NameNode
labelled None kind = None
labelled (Some label) None = None
labelled (Some label) (Some kind) =
    if kind == number_of symbol_kinds.Term || kind == number_of symbol_kinds.Variant then Some (global kinds.Term label)
    else (if kind == number_of symbol_kinds.Type then Some (global kinds.Type label)
    else (if kind == number_of symbol_kinds.Constant then constant_of label else None))

abbrev pub item_name : Data → Option NameNode
item_name item = labelled (label_of item) (kind_of item)
