-- The calls of a term, as JSON.
use Rattle.std.specs.Prelude.{◌≡◌, ℕ, ◌+◌, List, [], ◌∷◌, ◌++◌, ◌==◌, Option, None, Some, length, if◌then◌else◌}
use Rattle.std.specs.List.{flat_map}
use Rattle.serde_json.specs.Data.{Data, null, array}
use Rattle.serde_json.specs.View.{items_of}
use Rattle.isle_index.specs.Occurrences.{occurrences}
use Rattle.isle_index.specs.declared.occurrences.Occurrence.{Occurrence}
use Rattle.isle_lsp_calls.specs.Items.{InOrder, pos, term_at}
use Rattle.isle_lsp_calls.specs.Ranges.{calls_in}
use Rattle.isle_lsp_calls.specs.Sources.{Source}
use Rattle.isle_lsp_protocol.specs.Results.{call_item, incoming_call}
use Rattle.isle_lsp_text.specs.Calls.{AreCallers}
use Rattle.isle_lsp_text.specs.Ranges.{range_at, range_between}
use Rattle.isle_lsp_text.specs.declared.calls.Caller.{Caller}
use Rattle.isle_lsp_text.specs.declared.positions.Range.{Range}
use Rattle.isle_resolve.specs.Names.{NameNode, name_text}
use Rattle.isle_resolve.specs.Scopes.{SeenNode}

-- the item of a definition that implements this name
abbrev pub caller_item : Source → Caller → (name : List ℕ) → Data
caller_item s c name = call_item name s.uri (range_between s.encoding s.text c.from c.to) (range_at s.encoding s.text c.name (length name))

-- the calls in these ranges by a definition, if it implements a term
abbrev pub by_caller : Source → Caller → (implemented : Option NameNode) → List Range → List Data
by_caller s c None rs = []
by_caller s c (Some term) rs = incoming_call (caller_item s c (name_text term)) rs ∷ []

-- those of the occurrences that are calls by a definition of the text with this number, if there are any
abbrev pub incoming_in : ℕ → Source → List SeenNode → List Occurrence → Caller → List Data
incoming_in number s all found c =
    let rs : List Range = calls_in s.encoding number s.text (c ∷ []) found in
    if length rs == 0 then [] else by_caller s c (term_at (pos number c.name) all) rs

abbrev pub AreIncomingIn : ℕ → Source → List SeenNode → List Occurrence → List Data → Type 0
AreIncomingIn number s all found ds =
    (callers : List Caller) × AreCallers s.text callers × (ds ≡ flat_map (incoming_in number s all found) callers)

-- the same of all texts, which are numbered from this number on
abbrev pub AreIncomingFrom : ℕ → List Source → List SeenNode → List Occurrence → List Data → Type 0
AreIncomingFrom number [] all found ds = ds ≡ []
AreIncomingFrom number (s ∷ ss) all found ds =
    (here : List Data) × (rest : List Data) × AreIncomingIn number s all found here × AreIncomingFrom (number + 1) ss all found rest × (ds ≡ here ++ rest)

-- the calls of a term, by the definition that makes them; null if there is no term
abbrev pub IsIncoming : List Source → (term : Option NameNode) → List SeenNode → Data → Type 0
IsIncoming program None all d = d ≡ null
IsIncoming program (Some term) all d =
    (found : List Occurrence) × (ds : List Data) × InOrder (occurrences term all) found × AreIncomingFrom 0 program all found ds × (d ≡ array (items_of ds))
