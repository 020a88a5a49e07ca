-- The parameters of a client's messages.
use Rattle.std.specs.Prelude.{ℕ, ℤ, ◌-◌, List, [], ◌∷◌, ◌++◌, codes, bytes_eq, filter, Bool, false, not, ◌||◌, Option, None, Some, is_some, option_and_then, option_map, option_to_list, if◌then◌else◌}
use Rattle.serde_json.specs.Data.{Data, Items, no_items, item}
use Rattle.serde_json.specs.Find.{get, pointer, as_str, as_bool, as_number, as_object, as_i64, as_u64, as_array}
use Rattle.isle_lsp_frames.specs.Uris.{uri_of as uri_of_path}
use Rattle.isle_lsp_text.specs.Changes.{apply_change}
use Rattle.isle_lsp_text.specs.declared.positions.Position.{Position}
use Rattle.isle_lsp_text.specs.declared.positions.PositionEncoding.{PositionEncoding}
use Rattle.isle_lsp_text.specs.declared.positions.PositionEncoding.TheVariants.{Utf8, Utf16}
use Rattle.isle_lsp_text.specs.declared.positions.Range.{Range}

-- the first of two, if there is one, or else the second
abbrev pub or_else : Option Data → Option Data → Option Data
or_else None second = second
or_else (Some d) second = Some d

-- what is at the first of these paths, or else at the second
abbrev pub at_either : (first second : List ℕ) → Data → Option Data
at_either first second d = or_else (pointer first d) (pointer second d)

-- the URI of the document, or that of the item of the call hierarchy
abbrev pub uri_of : Data → Option (List ℕ)
uri_of d = option_and_then as_str (at_either (codes "/params/textDocument/uri") (codes "/params/item/uri") d)

-- the text of the document that is opened
abbrev pub text_of : Data → Option (List ℕ)
text_of d = option_and_then as_str (pointer (codes "/params/textDocument/text") d)

abbrev pub new_name_of : Data → Option (List ℕ)
new_name_of d = option_and_then as_str (pointer (codes "/params/newName") d)

abbrev pub query_of : Data → Option (List ℕ)
query_of d = option_and_then as_str (pointer (codes "/params/query") d)

abbrev pub number_at : List ℕ → Data → Option ℕ
number_at name d = option_and_then as_u64 (option_and_then as_number (get name d))

abbrev pub if_object : Option Data → Option Data
if_object None = None
if_object (Some d) = if is_some (as_object d) then Some d else None

-- the completion item in a request to resolve it
abbrev pub item_of : Data → Option Data
item_of d = if_object (get (codes "params") d)

-- the label of an item, and the number of its kind
abbrev pub label_of : Data → Option (List ℕ)
label_of d = option_and_then as_str (get (codes "label") d)

abbrev pub kind_of : Data → Option ℕ
kind_of d = number_at (codes "kind") d

abbrev pub is_true : Option Bool → Bool
is_true None = false
is_true (Some b) = b

abbrev pub wants_definitions : Data → Bool
wants_definitions d = is_true (option_and_then as_bool (pointer (codes "/params/context/includeDeclaration") d))

abbrev pub position_with : (line unit : Option ℕ) → Option Position
position_with None unit = None
position_with (Some line) None = None
position_with (Some line) (Some unit) = Some record { line = line; unit = unit }

unfoldable pub position_in : Data → Option Position
position_in d = position_with (number_at (codes "line") d) (number_at (codes "character") d)

abbrev pub position_at : List ℕ → Data → Option Position
position_at name d = option_and_then position_in (get name d)

abbrev pub range_with : (start end : Option Position) → Option Range
range_with None end = None
range_with (Some start) None = None
range_with (Some start) (Some end) = Some record { start = start; end = end }

abbrev pub range_in : Data → Option Range
range_in d = range_with (position_at (codes "start") d) (position_at (codes "end") d)

-- the position of the request, or where the name of the item of the call hierarchy begins
abbrev pub position_of : Data → Option Position
position_of d = option_and_then position_in (at_either (codes "/params/position") (codes "/params/item/selectionRange/start") d)

-- the range of the request
abbrev pub range_of : Data → Option Range
range_of d = option_and_then range_in (pointer (codes "/params/range") d)

abbrev pub is_text : (wanted : List ℕ) → Option (List ℕ) → Bool
is_text wanted None = false
is_text wanted (Some text) = bytes_eq text wanted

-- a line break is typed
abbrev pub breaks_line : Data → Bool
breaks_line d = is_text (codes "\n") (option_and_then as_str (pointer (codes "/params/ch") d))

-- the line before a position, or its own line up to it
abbrev pub typed_line : (breaks : Bool) → Position → Range
typed_line breaks p =
    if breaks then record { start = record { line = p.line - 1; unit = 0 }; end = record { line = p.line; unit = 0 } }
    else record { start = record { line = p.line; unit = 0 }; end = p }

-- the line to format after a character is typed: after a line break the line before
abbrev pub typed_range : Data → Option Range
typed_range d = option_map (typed_line (breaks_line d)) (position_of d)

abbrev pub with_position : Option Position → Option (List Position) → Option (List Position)
with_position None rest = None
with_position (Some p) None = None
with_position (Some p) (Some ps) = Some (p ∷ ps)

-- these positions, if all of them are positions
abbrev pub positions_in : Items → Option (List Position)
positions_in no_items = Some []
positions_in (item d ds) = with_position (position_in d) (positions_in ds)

-- the positions of the request
abbrev pub positions_of : Data → Option (List Position)
positions_of d = option_and_then positions_in (option_and_then as_array (pointer (codes "/params/positions") d))

-- the version of the document
abbrev pub version_of : Data → Option ℤ
version_of d = option_and_then as_i64 (option_and_then as_number (pointer (codes "/params/textDocument/version") d))

-- the client takes edits of documents that have versions
abbrev pub takes_document_changes : Data → Bool
takes_document_changes d = is_true (option_and_then as_bool (pointer (codes "/params/capabilities/workspace/workspaceEdit/documentChanges") d))

-- the client watches the files that a server names
abbrev pub watches_files : Data → Bool
watches_files d = is_true (option_and_then as_bool (pointer (codes "/params/capabilities/workspace/didChangeWatchedFiles/dynamicRegistration") d))

-- one of these is this text
abbrev pub has_text : List ℕ → Items → Bool
has_text text no_items = false
has_text text (item d ds) = is_text text (as_str d) || has_text text ds

abbrev pub encoding_among : (offered : Option Items) → PositionEncoding
encoding_among None = Utf16
encoding_among (Some offered) = if has_text (codes "utf-8") offered then Utf8 else Utf16

-- the encoding of positions: UTF-8 if the client offers it, and else UTF-16, which every client supports
abbrev pub encoding_of : Data → PositionEncoding
encoding_of d = encoding_among (option_and_then as_array (pointer (codes "/params/capabilities/general/positionEncodings") d))

-- ---- folders

-- the URIs of these folders
abbrev pub uris_in : Items → List (List ℕ)
uris_in no_items = []
uris_in (item d ds) = option_to_list (option_and_then as_str (get (codes "uri") d)) ++ uris_in ds

abbrev pub uris_in_any : Option Items → List (List ℕ)
uris_in_any None = []
uris_in_any (Some folders) = uris_in folders

abbrev pub uris_at : List ℕ → Data → List (List ℕ)
uris_at path d = uris_in_any (option_and_then as_array (pointer path d))

-- the one folder of a client that knows no others
abbrev pub one_folder : (uri path : Option (List ℕ)) → List (List ℕ)
one_folder (Some uri) path = uri ∷ []
one_folder None (Some path) = uri_of_path path ∷ []
one_folder None None = []

abbrev pub root_of : Data → List (List ℕ)
root_of d = one_folder (option_and_then as_str (pointer (codes "/params/rootUri") d)) (option_and_then as_str (pointer (codes "/params/rootPath") d))

abbrev pub folders_with : Option Items → Data → List (List ℕ)
folders_with None d = root_of d
folders_with (Some no_items) d = root_of d
folders_with (Some (item f fs)) d = uris_in (item f fs)

-- the URIs of the folders of `initialize`
abbrev pub folders_of : Data → List (List ℕ)
folders_of d = folders_with (option_and_then as_array (pointer (codes "/params/workspaceFolders") d)) d

abbrev pub is_among : List (List ℕ) → List ℕ → Bool
is_among [] uri = false
is_among (known ∷ more) uri = bytes_eq known uri || is_among more uri

abbrev pub without : (removed uris : List (List ℕ)) → List (List ℕ)
without removed uris = filter (λ uri. not (is_among removed uri)) uris

-- these with each of the others that is not there yet
abbrev pub with_all : (uris added : List (List ℕ)) → List (List ℕ)
with_all uris [] = uris
with_all uris (uri ∷ added) = with_all (if is_among uris uri then uris else uris ++ uri ∷ []) added

-- the folders after a message that some were removed and some added
abbrev pub folders_after : Data → List (List ℕ) → List (List ℕ)
folders_after d folders = with_all (without (uris_at (codes "/params/event/removed") d) folders) (uris_at (codes "/params/event/added") d)

-- ---- changes

abbrev pub changed_within : PositionEncoding → Option Range → (text new : List ℕ) → List ℕ
changed_within enc None text new = text
changed_within enc (Some range) text new = apply_change enc text (Some range) new

abbrev pub changed_by : PositionEncoding → (range : Option Data) → (new : Option (List ℕ)) → List ℕ → List ℕ
changed_by enc range None text = text
changed_by enc None (Some new) text = apply_change enc text None new
changed_by enc (Some range) (Some new) text = changed_within enc (range_in range) text new

-- the text after one change; a change that does not follow the protocol is ignored
unfoldable pub text_after_one : PositionEncoding → Data → List ℕ → List ℕ
text_after_one enc d text = changed_by enc (get (codes "range") d) (option_and_then as_str (get (codes "text") d)) text

-- the text after each of these, applied to the text that those before it leave
abbrev pub text_after_all : PositionEncoding → Items → List ℕ → List ℕ
text_after_all enc no_items text = text
text_after_all enc (item d ds) text = text_after_all enc ds (text_after_one enc d text)

abbrev pub text_after_any : PositionEncoding → Option Items → List ℕ → List ℕ
text_after_any enc None text = text
text_after_any enc (Some changes) text = text_after_all enc changes text

-- the text after the changes of a message
unfoldable pub text_after : PositionEncoding → Data → List ℕ → List ℕ
text_after enc d text = text_after_any enc (option_and_then as_array (pointer (codes "/params/contentChanges") d)) text
