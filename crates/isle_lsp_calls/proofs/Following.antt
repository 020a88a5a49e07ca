-- What is found text by text, and word by word.
use Rattle.std.proofs.Common.{◌≡◌, ◌∙◌, ◌+◌, ◌++◌, ◌==◌, ℕ, List, [], ◌∷◌, Bool, true, false, Option, None, Some, ap, filter, if◌then◌else◌, length, refl, slice_get, subst, sym}
use Rattle.std.proofs.lemmas.List.{append_assoc}
use Rattle.serde_json.specs.Data.{Data}
use Rattle.isle_base_source.specs.declared.pos.Pos.{Pos}
use Rattle.isle_index.specs.Occurrences.{occurrences}
use Rattle.isle_index.specs.declared.occurrences.Occurrence.{Occurrence}
use Rattle.isle_lsp_calls.proofs.Defining.{defined_in_order}
use Rattle.isle_lsp_calls.specs.Incoming.{AreIncomingFrom, AreIncomingIn, by_caller, caller_item}
use Rattle.isle_lsp_calls.specs.Items.{InOrder, IsFirstItem, pos}
use Rattle.isle_lsp_calls.specs.Outgoing.{AreCallsOf, IsCallOf, IsCallTo, outgoing_to}
use Rattle.isle_lsp_calls.specs.Ranges.{calls_in}
use Rattle.isle_lsp_calls.specs.Sources.{Source}
use Rattle.isle_lsp_protocol.specs.Results.{incoming_call, outgoing_call}
use Rattle.isle_lsp_text.specs.declared.calls.Caller.{Caller}
use Rattle.isle_lsp_text.specs.declared.positions.Range.{Range}
use Rattle.isle_resolve.specs.Names.{NameNode, global, name_text}
use Rattle.isle_resolve.specs.Scopes.{SeenNode}
use Rattle.isle_resolve.specs.declared.event.Kind.TheVariants as kinds
use Rattle.isle_lsp_text.specs.declared.positions.PositionEncoding.{PositionEncoding}

-- a position is its file and its offset
pub is_pos : (p : Pos) (file offset : ℕ) → p.file ≡ file → p.offset ≡ offset → p ≡ pos file offset
is_pos p file offset in_file at = rw (← in_file, ← at) refl

-- the calls by a definition that implements a term
pub called_by : (s : Source) (c : Caller) (implemented : Option NameNode) (term : NameNode) (rs : List Range) (item call : Data)
    → implemented ≡ Some term → item ≡ caller_item s c (name_text term) → call ≡ incoming_call item rs → call ∷ [] ≡ by_caller s c implemented rs
called_by s c implemented term rs item call is itself made = rw (is, made, itself) refl

-- the calls by a text, behind those of the texts before it
pub next_text : (left next program : List Source) (s : Source) (number : ℕ) (all : List SeenNode) (found : List Occurrence) (old new here : List Data)
    → left ≡ s ∷ next → AreIncomingIn number s all found here → new ≡ old ++ here
    → ((rest : List Data) → AreIncomingFrom number left all found rest → AreIncomingFrom 0 program all found (old ++ rest))
    → (rest : List Data) → AreIncomingFrom (number + 1) next all found rest → AreIncomingFrom 0 program all found (new ++ rest)
next_text left next program s number all found old new here e is grown so_far rest others =
    let first : AreIncomingFrom number (s ∷ next) all found (here ++ rest) = (here, rest, is, others, refl) in
    let more = so_far (here ++ rest) (subst (λ ss. AreIncomingFrom number ss all found (here ++ rest)) (sym e) first) in
    subst (AreIncomingFrom 0 program all found) (sym (ap (λ ds. ds ++ rest) grown ∙ append_assoc old here rest)) more

-- the calls of a word, behind those of the words before it
pub next_word : (enc : PositionEncoding) (left next words : List (List ℕ)) (w : List ℕ) (program : List Source) (number : ℕ) (text : List ℕ) (callers : List Caller) (all : List SeenNode) (old new here : List Data)
    → left ≡ w ∷ next → IsCallOf enc program number text callers all w here → new ≡ old ++ here
    → ((rest : List Data) → AreCallsOf enc program number text callers all left rest → AreCallsOf enc program number text callers all words (old ++ rest))
    → (rest : List Data) → AreCallsOf enc program number text callers all next rest → AreCallsOf enc program number text callers all words (new ++ rest)
next_word enc left next words w program number text callers all old new here e is grown so_far rest others =
    let first : AreCallsOf enc program number text callers all (w ∷ next) (here ++ rest) = (here, rest, is, others, refl) in
    let more = so_far (here ++ rest) (subst (λ ws. AreCallsOf enc program number text callers all ws (here ++ rest)) (sym e) first) in
    subst (AreCallsOf enc program number text callers all words) (sym (ap (λ ds. ds ++ rest) grown ∙ append_assoc old here rest)) more

-- the calls of a term that has an item, if it has one, in these ranges
abbrev pub calls_to : (item : Option Data) → List Range → List Data
calls_to None rs = []
calls_to (Some to) rs = outgoing_to to rs

given : (to call : Data) (rs : List Range) (none : Bool) → none ≡ false → call ≡ outgoing_call to rs → call ∷ [] ≡ (if none then [] else outgoing_call to rs ∷ [])
given to call rs true some is = absurd (cc some)
given to call rs false some is = ap (λ d. d ∷ []) is

pub given_to : (to call : Data) (rs read : List Range) → read ≡ rs → (length read == 0) ≡ false → call ≡ outgoing_call to read → call ∷ [] ≡ outgoing_to to rs
given_to to call rs read same some is = subst (λ r. call ∷ [] ≡ outgoing_to to r) same (given to call read (length read == 0) some is)

to_item : (enc : PositionEncoding) (number : ℕ) (text : List ℕ) (callers : List Caller) (all : List SeenNode) (term : NameNode) (found : List Occurrence) (item : Option Data)
    → InOrder (occurrences term all) found → IsCallTo enc number text callers all term item (calls_to item (calls_in enc number text callers found))
to_item enc number text callers all term found None order = refl
to_item enc number text callers all term found (Some to) order = (found, order, refl)

-- the calls of a term, whose definitions are among its occurrences
pub call_of : (enc : PositionEncoding) (program : List Source) (number : ℕ) (text : List ℕ) (callers : List Caller) (all : List SeenNode) (word spelled : List ℕ) (found : List Occurrence) (item : Option Data)
    → spelled ≡ word → InOrder (occurrences (global kinds.Term spelled) all) found
    → IsFirstItem program (global kinds.Term spelled) (slice_get (filter (λ o. o.is_definition) found) 0) item
    → IsCallOf enc program number text callers all word (calls_to item (calls_in enc number text callers found))
call_of enc program number text callers all word spelled found item same order first =
    let term : NameNode = global kinds.Term spelled in
    subst (λ w. IsCallOf enc program number text callers all w (calls_to item (calls_in enc number text callers found))) same
    (item, (filter (λ o. o.is_definition) found, defined_in_order term all found order, first), to_item enc number text callers all term found item order)
