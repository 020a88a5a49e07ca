-- How deep the answers about names nest.
use Rattle.std.proofs.Common.{ℕ, ◌≤◌, ◌+◌, ◌-◌, min, length, inl, inr, List, [], ◌∷◌, Bool, true, false, Option, None, Some, Result, Ok, Err, if◌then◌else◌, filter, flat_map, map, nat_lt, slice_get, arith, subst, sym}
use Rattle.std.specs.Global.{Vec}
use Rattle.serde_json.specs.Data.{Data, Members, array, depth, members_depth, no_members}
use Rattle.serde_json.specs.View.{items_of}
use Rattle.isle_base_source.specs.declared.pos.Pos.{Pos}
use Rattle.isle_resolve.specs.Names.{NameNode, name_text}
use Rattle.isle_index.specs.Occurrences.{name_at, occurrence_at}
use Rattle.isle_resolve.specs.Scopes.{SeenNode}
use Rattle.isle_index.specs.Renaming.{Part, part_of}
use Rattle.isle_index.specs.Symbols.{SymbolNode, symbols}
use Rattle.isle_index.specs.declared.occurrences.Occurrence.{Occurrence}
use Rattle.isle_index.specs.declared.rename.Refusal.{Refusal}
use Rattle.isle_lsp_text.specs.Ranges.{range_at}
use Rattle.isle_lsp_text.specs.Wholes.{whole_of}
use Rattle.isle_lsp_text.specs.declared.lists.ListSpan.{ListSpan}
use Rattle.isle_lsp_text.specs.declared.positions.Range.{Range}
use Rattle.isle_lsp_protocol.proofs.Depths.{AreShallow, IsAtMost, IsWithin, append_shallow, at_most, completion_depth, document_edits_depth, documented_depth, edits_depth, flat_map_shallow, hover_depth, item_at_most, items_shallow, location_depth, map_shallow, put_depth, range_depth, ranged_depth, symbol_depth, within, workspace_symbol_depth}
use Rattle.isle_lsp_protocol.specs.declared.machine.Request as requests
use Rattle.isle_lsp_protocol.specs.declared.machine.Request.TheVariants.{Definition as AskDefinition, Implementation, References, DocumentHighlight, DocumentSymbol, WorkspaceSymbol, Hover, SignatureHelp, Completion, ResolveCompletion, PrepareRename, Rename, InlayHint, CodeAction, PrepareCallHierarchy, IncomingCalls, OutgoingCalls, Initialize, Shutdown, Document, Unknown}
use Rattle.isle_lsp_protocol.specs.Items.{edits_data}
use Rattle.isle_lsp_protocol.specs.Parameters.{item_of, new_name_of, query_of, wants_definitions}
use Rattle.isle_lsp_protocol.specs.Replies.{Outcome, done, failed}
use Rattle.isle_lsp_features.specs.Answers.{AreSymbols, FindsAt, IsAnswer, IsAnswerOf, IsFoundAt, IsRenamingAt, IsRenamingBy, IsRenamingOf, IsResolution, refused}
use Rattle.isle_lsp_calls.proofs.Depths as calls
use Rattle.isle_lsp_calls.specs.Items.{is_term, range_of, term_at}
use Rattle.isle_lsp_features.specs.Called.{source_in}
use Rattle.isle_lsp_features.specs.Completed.{AreCompletions, item_name, once, range_before, word_of}
use Rattle.isle_lsp_features.specs.Defined.{AreDocumentSymbols, is_variant, letters_of, number_of, symbol_data, symbol_in, symbols_from, workspace_symbols}
use Rattle.isle_lsp_features.specs.Implemented.{AreImplementations, AreImplementationsFrom, AreImplementationsIn, AreImplementationsOf, is_implementation}
use Rattle.isle_lsp_features.specs.Located.{AreHighlights, AreReferences, IsDefinition, highlight_of, location_in, locations_from}
use Rattle.isle_lsp_features.specs.Places.{File, Place, file_in, place_in}
use Rattle.isle_lsp_features.specs.Programs.{Question, Text}
use Rattle.isle_lsp_features.specs.Renamed as renamed
use Rattle.isle_lsp_features.specs.Signatures.{IsFirstSignature, IsSignature, IsSignatureIn, IsSignatureOf, called}
use Rattle.isle_lsp_context.proofs.Depths.{signature_depth}
use Rattle.isle_lsp_context.specs.Calls.{CallNode}
use Rattle.isle_lsp_features.specs.Shown.{IsHover, IsResolved, hover_data, resolved_data}
use Rattle.isle_lsp_text.specs.declared.positions.PositionEncoding.{PositionEncoding}

array_depth : (n : ℕ) (ds : List Data) → AreShallow n ds → depth (array (items_of ds)) ≤ n + 1
array_depth n ds s = omega (arith, items_shallow n ds s)

-- one of them, if there is one
one_shallow : (n : ℕ) (b : Bool) (d : Data) → depth d ≤ n → AreShallow n (if b then d ∷ [] else [])
one_shallow n true d h = (h, tt)
one_shallow n false d h = tt

-- ---- places

location_shallow : (number : ℕ) (s : Text) (own : Bool) (o : Occurrence) → AreShallow 4 (location_in number s own o)
location_shallow number s own o = one_shallow 4 _ _ (location_depth s.uri (range_at s.encoding s.text o.pos.offset o.len))

locations_shallow : (number : ℕ) (program : List Text) (own : Bool) (found : List Occurrence) → AreShallow 4 (locations_from number program own found)
locations_shallow number [] own found = tt
locations_shallow number (s ∷ ss) own found =
    append_shallow 4 (flat_map (location_in number s own) found) (locations_from (number + 1) ss own found)
    (flat_map_shallow 4 (location_in number s own) found (location_shallow number s own))
    (locations_shallow (number + 1) ss own found)

definition_depth : (program : List Text) (name : Option NameNode) (all : List SeenNode) (d : Data) → IsDefinition program name all d → depth d ≤ 5
definition_depth program None all d h = at_most 5 _ _ h (omega arith)
definition_depth program (Some name) all d h = at_most 5 _ _ h.2 (array_depth 4 _ (locations_shallow 0 program true h.0))

here_shallow : (number : ℕ) (s : Text) (found : List Occurrence) (ds : List Data) → AreImplementationsIn number s found ds → AreShallow 4 ds
here_shallow number s found ds (marks, are, is) =
    let kept = filter (is_implementation number marks) found in
    subst (AreShallow 4) (sym is) (flat_map_shallow 4 (location_in number s true) kept (location_shallow number s true))

implementations_shallow : (number : ℕ) (program : List Text) (found : List Occurrence) (ds : List Data) → AreImplementationsFrom number program found ds → AreShallow 4 ds
implementations_shallow number [] found ds h = subst (AreShallow 4) (sym h) tt
implementations_shallow number (s ∷ ss) found ds (here, rest, first, others, is) =
    subst (AreShallow 4) (sym is)
    (append_shallow 4 here rest (here_shallow number s found here first) (implementations_shallow (number + 1) ss found rest others))

of_shallow : (is_term : Bool) (program : List Text) (name : NameNode) (all : List SeenNode) (ds : List Data) → AreImplementationsOf is_term program name all ds → AreShallow 4 ds
of_shallow true program name all ds (found, order, are) = implementations_shallow 0 program found ds are
of_shallow false program name all ds h = subst (AreShallow 4) (sym h) tt

implementations_depth : (program : List Text) (name : Option NameNode) (all : List SeenNode) (d : Data) → AreImplementations program name all d → depth d ≤ 5
implementations_depth program None all d h = at_most 5 _ _ h (omega arith)
implementations_depth program (Some name) all d (ds, are, is) = at_most 5 _ _ is (array_depth 4 ds (of_shallow (is_term name) program name all ds are))

references_depth : (program : List Text) (own : Bool) (name : Option NameNode) (all : List SeenNode) (d : Data) → AreReferences program own name all d → depth d ≤ 5
references_depth program own None all d h = at_most 5 _ _ h (omega arith)
references_depth program own (Some name) all d h = at_most 5 _ _ h.2 (array_depth 4 _ (locations_shallow 0 program own h.0))

highlight_shallow : (enc : PositionEncoding) (file : ℕ) (text : List ℕ) (o : Occurrence) → AreShallow 4 (highlight_of enc file text o)
highlight_shallow enc file text o = one_shallow 4 _ _ (ranged_depth (range_at enc text o.pos.offset o.len))

highlights_depth : (enc : PositionEncoding) (file : ℕ) (text : List ℕ) (name : Option NameNode) (all : List SeenNode) (d : Data) → AreHighlights enc file text name all d → depth d ≤ 5
highlights_depth enc file text None all d h = at_most 5 _ _ h (omega arith)
highlights_depth enc file text (Some name) all d h = at_most 5 _ _ h.2 (array_depth 4 _ (flat_map_shallow 4 (highlight_of enc file text) h.0 (highlight_shallow enc file text)))

completions_depth : (enc : PositionEncoding) (place : Pos) (text : List ℕ) (all : List SeenNode) (d : Data) → AreCompletions enc place text all d → depth d ≤ 6
completions_depth enc place text all d (lists, slot, found, spans, stands, all_of_them, in_order, is) =
    at_most 6 _ _ is (array_depth 5 _ (map_shallow 5 _ (once None (map word_of found)) (λ w. completion_depth w.text w.kind (range_before enc text place.offset))))

-- ---- definitions

symbol_data_depth : (enc : PositionEncoding) (text : List ℕ) (lists : List ListSpan) (s : SymbolNode) → depth (symbol_data enc text lists s) ≤ 4
unfolding symbol_data
symbol_data_depth enc text lists s = symbol_depth s.text (number_of s.kind) (range_of enc text (whole_of text lists (is_variant s.kind) s.pos.offset s.len)) (range_at enc text s.pos.offset s.len)

symbols_depth : (enc : PositionEncoding) (text : List ℕ) (found : List SymbolNode) (d : Data) → AreDocumentSymbols enc text found d → depth d ≤ 5
symbols_depth enc text found d h =
    at_most 5 _ _ h.2 (array_depth 4 _ (map_shallow 4 (symbol_data enc text h.0) found (symbol_data_depth enc text h.0)))

symbol_shallow : (letters : List ℕ) (s : Text) (x : SymbolNode) → AreShallow 5 (symbol_in letters s x)
unfolding symbol_in
symbol_shallow letters s x = one_shallow 5 _ _ (workspace_symbol_depth x.text (number_of x.kind) s.uri (range_at s.encoding s.text x.pos.offset x.len))

symbols_shallow : (file : ℕ) (letters : List ℕ) (program : List Text) (all : List SeenNode) → AreShallow 5 (symbols_from file letters program all)
symbols_shallow file letters [] all = tt
symbols_shallow file letters (s ∷ ss) all =
    append_shallow 5 (flat_map (symbol_in letters s) (symbols file all)) (symbols_from (file + 1) letters ss all)
    (flat_map_shallow 5 (symbol_in letters s) (symbols file all) (symbol_shallow letters s))
    (symbols_shallow (file + 1) letters ss all)

workspace_depth : (letters : List ℕ) (program : List Text) (all : List SeenNode) → depth (workspace_symbols letters program all) ≤ 6
workspace_depth letters program all = array_depth 5 _ (symbols_shallow 0 letters program all)

-- ---- documentation

hovered_depth : (enc : PositionEncoding) (text : List ℕ) (shown : Option (List ℕ)) (at : Occurrence) → depth (hover_data enc text shown at) ≤ 4
hovered_depth enc text None at = omega arith
hovered_depth enc text (Some shown) at = hover_depth shown (range_at enc text at.pos.offset at.len)

shown_depth : (enc : PositionEncoding) (program : List Text) (text : List ℕ) (name : Option NameNode) (at : Option Occurrence) (all : List SeenNode) (d : Data) → IsHover enc program text name at all d → depth d ≤ 4
shown_depth enc program text None at all d h = at_most 4 _ _ h (omega arith)
shown_depth enc program text (Some name) None all d h = at_most 4 _ _ h (omega arith)
shown_depth enc program text (Some name) (Some at) all d h = at_most 4 _ _ h.2 (hovered_depth enc text h.0 at)

item_depth : (n : ℕ) (it : Data) (shown : Option (List ℕ)) → depth it ≤ n → 3 ≤ n → depth (resolved_data it shown) ≤ n
item_depth n it None h l = h
item_depth n it (Some shown) h l = documented_depth n it shown h l

resolved_depth : (n : ℕ) (program : List Text) (all : List SeenNode) (name : Option NameNode) (it d : Data) → IsResolved program all name it d → depth it ≤ n → 3 ≤ n → depth d ≤ n
resolved_depth n program all None it d r h l = at_most n _ _ r h
resolved_depth n program all (Some name) it d r h l = at_most n _ _ r.2 (item_depth n it r.0 h l)

-- ---- renaming

prepared_depth : (enc : PositionEncoding) (text : List ℕ) (all : List SeenNode) (name : Option NameNode) (o : Option Occurrence) → depth (renamed.prepared enc text all name o) ≤ 3
prepared_depth enc text all None o = omega arith
prepared_depth enc text all (Some name) None = omega arith
prepared_depth enc text all (Some name) (Some o) = range_depth (renamed.part_range enc text name (part_of name all) o.pos)

change_shallow : (s : Text) (new : List ℕ) (ranges : List Range) → AreShallow 7 (renamed.document_change s new ranges)
change_shallow s new [] = tt
change_shallow s new (r ∷ rs) = (document_edits_depth s.uri s.version new (r ∷ rs), tt)

changes_shallow : (file : ℕ) (program : List Text) (name : NameNode) (part : Part) (new : List ℕ) (places : List Pos) → AreShallow 7 (renamed.changes_from file program name part new places)
changes_shallow file [] name part new places = tt
changes_shallow file (s ∷ ss) name part new places =
    append_shallow 7 (renamed.change_in file s name part new places) (renamed.changes_from (file + 1) ss name part new places)
    (change_shallow s new _)
    (changes_shallow (file + 1) ss name part new places)

put_change_depth : (s : Text) (new : List ℕ) (ranges : List Range) (changes : Members) → members_depth changes ≤ 5 → members_depth (renamed.with_change s new ranges changes) ≤ 5
put_change_depth s new [] changes h = h
put_change_depth s new (r ∷ rs) changes h = put_depth 5 s.uri (edits_data new (r ∷ rs)) changes (edits_depth new (r ∷ rs)) h

put_changes_depth : (file : ℕ) (program : List Text) (name : NameNode) (part : Part) (new : List ℕ) (places : List Pos) (changes : Members) → members_depth changes ≤ 5
    → members_depth (renamed.with_changes file program name part new places changes) ≤ 5
put_changes_depth file [] name part new places changes h = h
put_changes_depth file (s ∷ ss) name part new places changes h =
    put_changes_depth (file + 1) ss name part new places _ (put_change_depth s new _ changes h)

changes_depth : (takes : Bool) (program : List Text) (name : NameNode) (part : Part) (new : List ℕ) (places : List Pos) → depth (renamed.changes takes program name part new places) ≤ 9
changes_depth true program name part new places = omega (arith, array_depth 7 _ (changes_shallow 0 program name part new places))
changes_depth false program name part new places = omega (arith, put_changes_depth 0 program name part new places no_members (omega arith))

either_within : (n : ℕ) (b : Bool) (x y : Outcome) → IsWithin n x → IsWithin n y → IsWithin n (if b then x else y)
either_within n true x y h k = h
either_within n false x y h k = k

renaming_within : (takes : Bool) (program : List Text) (name : NameNode) (part : Part) (new : List ℕ) (answer : Result (Vec Pos) Refusal) (a : Outcome) → IsRenamingBy takes program name part new answer a → IsWithin 9 a
renaming_within takes program name part new (Ok places) a h =
    let made : Outcome = done (renamed.changes takes program name part new places.items) in
    let glued : Outcome = refused renamed.glued_reason in
    let are_glued : Bool = renamed.are_glued program name part places.items in
    let safe : IsWithin 9 (if are_glued then glued else made) = either_within 9 are_glued glued made tt (changes_depth takes program name part new places.items) in
    within 9 a _ h (either_within 9 (renamed.are_shared program places.items) (refused renamed.shared_reason) (if are_glued then glued else made) tt safe)
renaming_within takes program name part new (Err why) a h = within 9 a _ h tt

renaming_of_within : (takes : Bool) (program : List Text) (all : List SeenNode) (name : Option NameNode) (new : Option (List ℕ)) (a : Outcome) → IsRenamingOf takes program all name new a → IsWithin 9 a
renaming_of_within takes program all None None a h = within 9 a _ h tt
renaming_of_within takes program all None (Some new) a h = within 9 a _ h tt
renaming_of_within takes program all (Some name) None a h = within 9 a _ h tt
renaming_of_within takes program all (Some name) (Some new) a h = renaming_within takes program name (part_of name all) new h.0 a h.2

renaming_at_within : (q : Question) (program : List Text) (all : List SeenNode) (p : Option Place) (a : Outcome) → IsRenamingAt q program all p a → IsWithin 9 a
renaming_at_within q program all None a h = within 9 a _ h tt
renaming_at_within q program all (Some p) a h = renaming_of_within q.takes_document_changes program all (name_at p.pos all) (new_name_of q.message) a h

-- ---- signatures

declared_depth : (s : Option Text) (name : NameNode) (o : Occurrence) (argument : ℕ) (d : Data) → IsSignatureIn s name o argument d → depth d ≤ 6
declared_depth None name o argument d h = at_most 6 _ _ h (omega arith)
declared_depth (Some s) name o argument d (lists, are, help) =
    let is_variant : Bool = nat_lt o.len (length (name_text name)) in
    signature_depth s.text (whole_of s.text lists is_variant o.pos.offset o.len) is_variant argument d help

first_depth : (program : List Text) (name : NameNode) (o : Option Occurrence) (argument : ℕ) (d : Data) → IsFirstSignature program name o argument d → depth d ≤ 6
first_depth program name None argument d h = at_most 6 _ _ h (omega arith)
first_depth program name (Some o) argument d h = declared_depth (slice_get program o.pos.file) name o argument d h

called_depth : (program : List Text) (all : List SeenNode) (call : Option CallNode) (d : Data) → IsSignatureOf program all call d → depth d ≤ 6
called_depth program all None d h = at_most 6 _ _ h (omega arith)
called_depth program all (Some c) d (found, order, first) = first_depth program (called c) (slice_get found 0) c.arguments d first

signature_help_depth : (program : List Text) (text : List ℕ) (offset : ℕ) (all : List SeenNode) (d : Data) → IsSignature program text offset all d → depth d ≤ 6
signature_help_depth program text offset all d (call, around, of) = called_depth program all call d of

-- ---- all answers

wider : (n m : ℕ) (a : Outcome) → n ≤ m → IsWithin n a → IsWithin m a
wider n m (done d) h w = omega (arith, w)
wider n m (failed c reason) h w = tt

found_within : (request : requests.Request) (program : List Text) (all : List SeenNode) (p : Option Place) (message : Data) (a : Outcome)
    → ((x : Place) (d : Data) → FindsAt request program all x message d → depth d ≤ 6) → IsFoundAt request program all p message a → IsWithin 126 a
found_within request program all None message a f h = within 126 a _ h tt
found_within request program all (Some p) message a f h = within 126 a _ h.2 (omega (arith, f p h.0 h.1))

file_within : (all : List SeenNode) (f : Option File) (a : Outcome) → AreSymbols all f a → IsWithin 126 a
file_within all None a h = within 126 a _ h tt
file_within all (Some f) a h = within 126 a _ h.2 (omega (arith, symbols_depth f.encoding f.text (symbols f.number all) h.0 h.1))

resolution_within : (program : List Text) (all : List SeenNode) (it : Option Data) (a : Outcome) → IsAtMost 126 it → IsResolution program all it a → IsWithin 126 a
resolution_within program all None a m h = within 126 a _ h tt
resolution_within program all (Some it) a m h = within 126 a _ h.2 (resolved_depth 126 program all (item_name it) it h.0 h.1 m (omega arith))

-- the request is about names
abbrev pub IsAboutNames : requests.Request → Type 0
IsAboutNames DocumentSymbol = Unit {0}
IsAboutNames AskDefinition = Unit {0}
IsAboutNames Implementation = Unit {0}
IsAboutNames References = Unit {0}
IsAboutNames DocumentHighlight = Unit {0}
IsAboutNames PrepareRename = Unit {0}
IsAboutNames Rename = Unit {0}
IsAboutNames Hover = Unit {0}
IsAboutNames SignatureHelp = Unit {0}
IsAboutNames Completion = Unit {0}
IsAboutNames ResolveCompletion = Unit {0}
IsAboutNames WorkspaceSymbol = Unit {0}
IsAboutNames PrepareCallHierarchy = Unit {0}
IsAboutNames IncomingCalls = Unit {0}
IsAboutNames OutgoingCalls = Unit {0}
IsAboutNames _ = ⊥

answer_of_within : (request : requests.Request) (q : Question) (program : List Text) (all : List SeenNode) (a : Outcome) → IsAboutNames request → depth q.message ≤ 127
    → IsAnswerOf request q program all a → IsWithin 126 a
answer_of_within DocumentSymbol q program all a n m h = file_within all (file_in q program) a h
answer_of_within AskDefinition q program all a n m h =
    found_within AskDefinition program all (place_in q program) q.message a (λ x d f. omega (arith, definition_depth program (name_at x.pos all) all d f)) h
answer_of_within Implementation q program all a n m h =
    found_within Implementation program all (place_in q program) q.message a (λ x d f. omega (arith, implementations_depth program (name_at x.pos all) all d f)) h
answer_of_within References q program all a n m h =
    found_within References program all (place_in q program) q.message a (λ x d f. omega (arith, references_depth program (wants_definitions q.message) (name_at x.pos all) all d f)) h
answer_of_within DocumentHighlight q program all a n m h =
    found_within DocumentHighlight program all (place_in q program) q.message a (λ x d f. omega (arith, highlights_depth x.encoding x.pos.file x.text (name_at x.pos all) all d f)) h
answer_of_within PrepareRename q program all a n m h =
    found_within PrepareRename program all (place_in q program) q.message a
    (λ x d f. at_most 6 d _ f (omega (arith, prepared_depth x.encoding x.text all (renamed.renamable (name_at x.pos all) all) (occurrence_at x.pos all)))) h
answer_of_within Rename q program all a n m h = wider 9 126 a (omega arith) (renaming_at_within q program all (place_in q program) a h)
answer_of_within Hover q program all a n m h =
    found_within Hover program all (place_in q program) q.message a
    (λ x d f. omega (arith, shown_depth x.encoding program x.text (name_at x.pos all) (occurrence_at x.pos all) all d f)) h
answer_of_within SignatureHelp q program all a n m h =
    found_within SignatureHelp program all (place_in q program) q.message a (λ x d f. signature_help_depth program x.text x.pos.offset all d f) h
answer_of_within Completion q program all a n m h =
    found_within Completion program all (place_in q program) q.message a (λ x d f. completions_depth x.encoding x.pos x.text all d f) h
answer_of_within ResolveCompletion q program all a n m h = resolution_within program all (item_of q.message) a (item_at_most 127 q.message m) h
answer_of_within WorkspaceSymbol q program all a n m h = within 126 a _ h (omega (arith, workspace_depth (letters_of (query_of q.message)) program all))
answer_of_within PrepareCallHierarchy q program all a n m h =
    found_within PrepareCallHierarchy program all (place_in q program) q.message a
    (λ x d f. calls.prepared_depth (map source_in program) (term_at x.pos all) all d f) h
answer_of_within IncomingCalls q program all a n m h =
    found_within IncomingCalls program all (place_in q program) q.message a
    (λ x d f. calls.incoming_depth (map source_in program) (term_at x.pos all) all d f) h
answer_of_within OutgoingCalls q program all a n m h =
    found_within OutgoingCalls program all (place_in q program) q.message a
    (λ x d f. calls.outgoing_depth x.encoding (map source_in program) x.pos.file x.text (term_at x.pos all) (occurrence_at x.pos all) all d f) h
answer_of_within InlayHint q program all a n m h = absurd n
answer_of_within CodeAction q program all a n m h = absurd n
answer_of_within Initialize q program all a n m h = absurd n
answer_of_within Shutdown q program all a n m h = absurd n
answer_of_within (Document alone) q program all a n m h = absurd n
answer_of_within Unknown q program all a n m h = absurd n

-- an answer about names leaves room for the response around it
pub answer_within : (q : Question) (program : List Text) (a : Outcome) → IsAboutNames q.request → depth q.message ≤ 127 → IsAnswer q program a → IsWithin 126 a
answer_within q program a n m (inl h) = within 126 a _ h.is tt
answer_within q program a n m (inr (all, index, h)) = answer_of_within q.request q program all a n m h
