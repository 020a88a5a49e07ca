-- The definitions in texts, as JSON.
use Rattle.std.specs.Prelude.{◌≡◌, ℕ, ◌+◌, List, [], ◌∷◌, ◌++◌, Bool, true, false, Option, None, Some, map, if◌then◌else◌}
use Rattle.std.specs.Char.{eq_ignore_ascii_case}
use Rattle.std.specs.List.{flat_map}
use Rattle.serde_json.specs.Data.{Data, array}
use Rattle.serde_json.specs.View.{items_of}
use Rattle.isle_lsp_calls.specs.Items.{range_of}
use Rattle.isle_lsp_features.specs.Programs.{Text}
use Rattle.isle_resolve.specs.Scopes.{SeenNode}
use Rattle.isle_index.specs.Symbols.{SymbolNode, symbols}
use Rattle.isle_index.specs.declared.symbols.SymbolKind.{SymbolKind}
use Rattle.isle_index.specs.declared.symbols.SymbolKind.TheVariants as kinds
use Rattle.isle_lsp_protocol.specs.Results as results
use Rattle.isle_lsp_text.specs.Lists.{AreLists}
use Rattle.isle_lsp_text.specs.Ranges.{range_at}
use Rattle.isle_lsp_text.specs.Wholes.{whole_of}
use Rattle.isle_lsp_text.specs.declared.lists.ListSpan.{ListSpan}
use Rattle.isle_lsp_text.specs.declared.positions.PositionEncoding.{PositionEncoding}

-- the protocol's number of a kind
abbrev pub number_of : SymbolKind → ℕ
number_of kinds.Term = 12
number_of kinds.Type = 23
number_of kinds.Variant = 22
number_of kinds.Constant = 14
number_of kinds.Variable = 13

abbrev pub is_variant : SymbolKind → Bool
is_variant kinds.Term = false
is_variant kinds.Type = false
is_variant kinds.Variant = true
is_variant kinds.Constant = false
is_variant kinds.Variable = false

-- a definition: its range, and that of its name
unfoldable pub symbol_data : PositionEncoding → List ℕ → List ListSpan → SymbolNode → Data
symbol_data enc text lists s =
    results.document_symbol s.text (number_of s.kind) (range_of enc text (whole_of text lists (is_variant s.kind) s.pos.offset s.len))
    (range_at enc text s.pos.offset s.len)

-- the definitions of a text, by its lists
abbrev pub AreDocumentSymbols : PositionEncoding → List ℕ → List SymbolNode → Data → Type 0
AreDocumentSymbols enc text found d = (lists : List ListSpan) × AreLists text lists × (d ≡ array (items_of (map (symbol_data enc text lists) found)))

-- whether these bytes occur in a name in the same order, but not necessarily side by side; the case of ASCII letters is ignored
abbrev pub has_letters : (letters name : List ℕ) → Bool
has_letters [] name = true
has_letters (l ∷ ls) [] = false
has_letters (l ∷ ls) (b ∷ bs) = if eq_ignore_ascii_case l b then has_letters ls bs else has_letters (l ∷ ls) bs

-- the letters that are still to be found after a byte of a name
abbrev pub letters_left : List ℕ → ℕ → List ℕ
letters_left [] b = []
letters_left (l ∷ ls) b = if eq_ignore_ascii_case l b then ls else l ∷ ls

-- a definition of a file, if its name matches the query
unfoldable pub symbol_in : List ℕ → Text → SymbolNode → List Data
symbol_in letters s x =
    if has_letters letters x.text then results.workspace_symbol x.text (number_of x.kind) s.uri (range_at s.encoding s.text x.pos.offset x.len) ∷ [] else []

-- the definitions of files that are numbered from this number on
abbrev pub symbols_from : ℕ → List ℕ → List Text → List SeenNode → List Data
symbols_from file letters [] all = []
symbols_from file letters (s ∷ ss) all = flat_map (symbol_in letters s) (symbols file all) ++ symbols_from (file + 1) letters ss all

-- the definitions of a program whose names match the query, file by file
abbrev pub workspace_symbols : List ℕ → List Text → List SeenNode → Data
workspace_symbols letters program all = array (items_of (symbols_from 0 letters program all))

abbrev pub letters_of : Option (List ℕ) → List ℕ
letters_of None = []
letters_of (Some letters) = letters
