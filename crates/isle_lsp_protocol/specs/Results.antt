-- The results of requests and their parts, as JSON.
use Rattle.std.specs.Prelude.{ℕ, ℤ, List, Bool, true, false, codes, Option, None, Some, map}
use Rattle.serde_json.specs.View.{items_of}
use Rattle.serde_json.specs.Data.{Data, null, array, number, unsigned, string, object, Members, member, no_members, put}
use Rattle.serde_json.specs.Find.{of_integer}
use Rattle.isle_lsp_text.specs.declared.positions.Position.{Position}
use Rattle.isle_lsp_text.specs.declared.positions.Range.{Range}

abbrev pub position_data : Position → Data
position_data p = object (member (codes "character") (number (unsigned p.unit)) (member (codes "line") (number (unsigned p.line)) no_members))

abbrev pub range_data : Range → Data
range_data r = object (member (codes "end") (position_data r.end) (member (codes "start") (position_data r.start) no_members))

abbrev pub text_edit : Range → List ℕ → Data
text_edit range text = object (member (codes "newText") (string text) (member (codes "range") (range_data range) no_members))

-- an error has the severity 1, and a warning 2
abbrev pub error_data : Range → List ℕ → Data
error_data range message =
    object (member (codes "message") (string message) (member (codes "range") (range_data range)
    (member (codes "severity") (number (unsigned 1)) (member (codes "source") (string (codes "isle")) no_members))))

abbrev pub warning_data : Range → (code message : List ℕ) → Data
warning_data range code message =
    object (member (codes "code") (string code) (member (codes "message") (string message) (member (codes "range") (range_data range)
    (member (codes "severity") (number (unsigned 2)) (member (codes "source") (string (codes "isle")) no_members)))))

abbrev pub severity : (is_error : Bool) → ℕ
severity true = 1
severity false = 2

-- what the check of a program tells, with the name of its kind
abbrev pub checked_data : Range → (is_error : Bool) → (kind message : List ℕ) → Data
checked_data range is_error kind message =
    object (member (codes "code") (string kind) (member (codes "message") (string message) (member (codes "range") (range_data range)
    (member (codes "severity") (number (unsigned (severity is_error))) (member (codes "source") (string (codes "isle-check")) no_members)))))

abbrev pub location : List ℕ → Range → Data
location uri range = object (member (codes "range") (range_data range) (member (codes "uri") (string uri) no_members))

abbrev pub ranged : Range → Data
ranged range = object (member (codes "range") (range_data range) no_members)

-- a definition in a document: its whole range, and that of its name
abbrev pub document_symbol : (name : List ℕ) → (kind : ℕ) → (range selection : Range) → Data
document_symbol name kind range selection =
    object (member (codes "kind") (number (unsigned kind)) (member (codes "name") (string name)
    (member (codes "range") (range_data range) (member (codes "selectionRange") (range_data selection) no_members))))

abbrev pub workspace_symbol : (name : List ℕ) → (kind : ℕ) → (uri : List ℕ) → Range → Data
workspace_symbol name kind uri range =
    object (member (codes "kind") (number (unsigned kind)) (member (codes "location") (location uri range) (member (codes "name") (string name) no_members)))

abbrev pub markdown : List ℕ → Data
markdown shown = object (member (codes "kind") (string (codes "markdown")) (member (codes "value") (string shown) no_members))

abbrev pub hover : List ℕ → Range → Data
hover shown range = object (member (codes "contents") (markdown shown) (member (codes "range") (range_data range) no_members))

-- a completion item with this documentation in place of its own
abbrev pub with_documentation : Data → List ℕ → Data
with_documentation (object ms) shown = object (put (codes "documentation") (markdown shown) ms)
with_documentation d shown = d

-- a name that replaces a range
abbrev pub completion_item : (name : List ℕ) → (kind : ℕ) → Range → Data
completion_item name kind range =
    object (member (codes "kind") (number (unsigned kind)) (member (codes "label") (string name) (member (codes "textEdit") (text_edit range name) no_members)))

-- a text that is shown at a position; the kind 1 is that of types
abbrev pub inlay_hint : Position → (label : List ℕ) → Data
inlay_hint position label =
    object (member (codes "kind") (number (unsigned 1)) (member (codes "label") (string label) (member (codes "position") (position_data position) no_members)))

-- a definition whose calls may be asked about, with the kind 12 of functions: its whole range, and that of its name
abbrev pub call_item : (name uri : List ℕ) → (range selection : Range) → Data
call_item name uri range selection =
    object (member (codes "kind") (number (unsigned 12)) (member (codes "name") (string name) (member (codes "range") (range_data range)
    (member (codes "selectionRange") (range_data selection) (member (codes "uri") (string uri) no_members)))))

abbrev pub ranges_data : List Range → Data
ranges_data ranges = array (items_of (map range_data ranges))

-- the calls in these ranges, by the item that makes them
abbrev pub incoming_call : Data → List Range → Data
incoming_call from ranges = object (member (codes "from") from (member (codes "fromRanges") (ranges_data ranges) no_members))

-- the calls in these ranges, of this item
abbrev pub outgoing_call : Data → List Range → Data
outgoing_call to ranges = object (member (codes "fromRanges") (ranges_data ranges) (member (codes "to") to no_members))

-- null where the version is not known
abbrev pub version_data : Option ℤ → Data
version_data None = null
version_data (Some version) = number (of_integer version)

-- the document with this URI, in this version
abbrev pub document_identifier : List ℕ → Option ℤ → Data
document_identifier uri version = object (member (codes "uri") (string uri) (member (codes "version") (version_data version) no_members))

abbrev pub document_edits : List ℕ → Option ℤ → Data → Data
document_edits uri version edits = object (member (codes "edits") edits (member (codes "textDocument") (document_identifier uri version) no_members))

abbrev pub workspace_edit : Data → Data
workspace_edit documents = object (member (codes "documentChanges") documents no_members)

-- the edits of each document by its URI
abbrev pub plain_edit : Members → Data
plain_edit changes = object (member (codes "changes") (object changes) no_members)
