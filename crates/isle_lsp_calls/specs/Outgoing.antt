-- The calls by the definitions that implement a term, as JSON.
use Rattle.std.specs.Prelude.{◌≡◌, ℕ, List, [], ◌∷◌, ◌++◌, Bool, ◌&&◌, ◌==◌, Option, None, Some, filter, length, if◌then◌else◌}
use Rattle.std.specs.List.{list_any}
use Rattle.serde_json.specs.Data.{Data, null, array}
use Rattle.serde_json.specs.View.{items_of}
use Rattle.isle_index.specs.Occurrences.{occurrences}
use Rattle.isle_index.specs.declared.occurrences.Occurrence.{Occurrence}
use Rattle.isle_lsp_calls.specs.Items.{InOrder, IsItem}
use Rattle.isle_lsp_calls.specs.Ranges.{calls_in}
use Rattle.isle_lsp_calls.specs.Sources.{Source}
use Rattle.isle_lsp_protocol.specs.Results.{outgoing_call}
use Rattle.isle_lsp_text.specs.Calls.{AreCallers, AreWords}
use Rattle.isle_lsp_text.specs.declared.calls.Caller.{Caller}
use Rattle.isle_lsp_text.specs.declared.positions.Range.{Range}
use Rattle.isle_resolve.specs.Names.{NameNode, global}
use Rattle.isle_resolve.specs.Scopes.{SeenNode}
use Rattle.isle_resolve.specs.declared.event.Kind.TheVariants as kinds
use Rattle.isle_lsp_text.specs.declared.positions.PositionEncoding.{PositionEncoding}

-- a definition implements the name at an offset
abbrev pub is_named : (offset : ℕ) → Caller → Bool
is_named offset c = c.name == offset

-- a definition of the text with this number implements the name at one of these occurrences
abbrev pub implements : ℕ → List Occurrence → Caller → Bool
implements number found c = list_any (λ o. o.pos.file == number && o.pos.offset == c.name) found

-- the definitions that implement a term with these occurrences; if one implements it at the asked one, that alone
abbrev pub asked : ℕ → List Occurrence → (at : Occurrence) → List Caller → List Caller
asked number found at callers =
    if list_any (is_named at.pos.offset) callers then filter (implements number (at ∷ [])) callers else filter (implements number found) callers

abbrev pub AreAsked : ℕ → (text : List ℕ) → List Occurrence → (at : Occurrence) → List Caller → Type 0
AreAsked number text found at callers = (all : List Caller) × AreCallers text all × (callers ≡ asked number found at all)

-- the calls in these ranges, if there are any, of the term with this item
abbrev pub outgoing_to : Data → List Range → List Data
outgoing_to to rs = if length rs == 0 then [] else outgoing_call to rs ∷ []

-- the calls by these definitions of a term, which is defined if it has an item
abbrev pub IsCallTo : PositionEncoding → ℕ → (text : List ℕ) → List Caller → List SeenNode → (term : NameNode) → (item : Option Data) → List Data → Type 0
IsCallTo enc number text callers all term None ds = ds ≡ []
IsCallTo enc number text callers all term (Some to) ds =
    (found : List Occurrence) × InOrder (occurrences term all) found × (ds ≡ outgoing_to to (calls_in enc number text callers found))

abbrev pub IsCallOf : PositionEncoding → List Source → ℕ → (text : List ℕ) → List Caller → List SeenNode → (word : List ℕ) → List Data → Type 0
IsCallOf enc program number text callers all word ds =
    let term : NameNode = global kinds.Term word in
    (item : Option Data) × IsItem program term all item × IsCallTo enc number text callers all term item ds

-- the same of the terms with these names
abbrev pub AreCallsOf : PositionEncoding → List Source → ℕ → (text : List ℕ) → List Caller → List SeenNode → (words : List (List ℕ)) → List Data → Type 0
AreCallsOf enc program number text callers all [] ds = ds ≡ []
AreCallsOf enc program number text callers all (w ∷ ws) ds =
    (here : List Data) × (rest : List Data) × IsCallOf enc program number text callers all w here × AreCallsOf enc program number text callers all ws rest
    × (ds ≡ here ++ rest)

-- the calls by the definitions of a text that implement a term with these occurrences, asked about at this one
abbrev pub IsOutgoingOf : PositionEncoding → List Source → ℕ → (text : List ℕ) → List Occurrence → (at : Occurrence) → List SeenNode → Data → Type 0
IsOutgoingOf enc program number text found at all d =
    (callers : List Caller) × (words : List (List ℕ)) × (ds : List Data) × AreAsked number text found at callers × AreWords text callers words
    × AreCallsOf enc program number text callers all words ds × (d ≡ array (items_of ds))

-- the same of a term at a place; null if there is none
abbrev pub IsOutgoing : PositionEncoding → List Source → ℕ → (text : List ℕ) → (term : Option NameNode) → (at : Option Occurrence) → List SeenNode → Data → Type 0
IsOutgoing enc program number text None at all d = d ≡ null
IsOutgoing enc program number text (Some term) None all d = d ≡ null
IsOutgoing enc program number text (Some term) (Some at) all d =
    (found : List Occurrence) × InOrder (occurrences term all) found × IsOutgoingOf enc program number text found at all d
