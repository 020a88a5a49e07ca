-- No response nests deeper than JSON is read, so each reads back as it is defined.
use Rattle.std.proofs.Common.{◌≡◌, ℕ, ◌≤◌, inl, inr, Bool, true, false, List, Option, None, Some, arith}
use Rattle.serde_json.specs.Data.{Data, depth}
use Rattle.serde_json.specs.Read.{read}
use Rattle.serde_json.proofs.Nesting.{depth-read}
use Rattle.isle_lsp_actions.proofs.Depths.{answer_depth}
use Rattle.isle_lsp_colours.proofs.Depths.{tokens_shallow}
use Rattle.isle_lsp_colours.specs.Coloured.{AreTokens}
use Rattle.isle_lsp_files.specs.Disks.{View}
use Rattle.isle_lsp_files.specs.Documents.{Document}
use Rattle.isle_lsp_files.specs.Texts.{programs_of}
use Rattle.isle_lsp_diagnostics.proofs.HintDepths.{hints_depth, typed_depth}
use Rattle.isle_lsp_protocol.specs.declared.machine.DocumentRequest.{DocumentRequest}
use Rattle.isle_lsp_protocol.specs.declared.machine.DocumentRequest.TheVariants.{Formatting, RangeFormatting, OnTypeFormatting, FoldingRange, SelectionRange, SemanticTokens, SemanticTokensRange}
use Rattle.isle_lsp_protocol.specs.Parameters.{position_of, positions_of, range_of as asked_range, typed_range}
use Rattle.isle_lsp_ranges.proofs.Depths.{foldings_depth, selections_depth}
use Rattle.isle_lsp_ranges.proofs.Depths as ranges
use Rattle.isle_lsp_ranges.specs.Foldings.{AreFoldings}
use Rattle.isle_lsp_ranges.specs.Selections.{AreSelections}
use Rattle.isle_lsp_text.specs.declared.positions.Position.{Position}
use Rattle.isle_lsp_text.specs.declared.positions.Range.{Range}
use Rattle.isle_lsp_protocol.specs.Decoding.{Decodes}
use Rattle.isle_lsp_protocol.specs.Replies.{IsTextOf, Outcome, done, error_response, failed, reply, reply_id}
use Rattle.isle_lsp_protocol.specs.declared.machine.ErrorCode.{ErrorCode}
use Rattle.isle_lsp_protocol.specs.declared.machine.Request as requests
use Rattle.isle_lsp_protocol.specs.declared.machine.Request.TheVariants.{Initialize, Shutdown, Document as Alone, DocumentSymbol, WorkspaceSymbol, Definition, Implementation, References, DocumentHighlight, Hover, SignatureHelp, Completion, ResolveCompletion, PrepareRename, Rename, InlayHint, CodeAction, PrepareCallHierarchy, IncomingCalls, OutgoingCalls, Unknown}
use Rattle.isle_lsp_protocol.proofs.Depths.{IsWithin, at_most, initialized_depth, reply_depth, within}
use Rattle.isle_lsp_features.proofs.Depths.{IsAboutNames, answer_within}
use Rattle.isle_lsp.specs.Alone.{FormatsUnless, Gives, GivesAt, GivesWithin, IsAlone, IsFormattingWithin, IsOfDocument}
use Rattle.isle_lsp.specs.Formatted.{IsFormatting, is_blank_at}
use Rattle.isle_lsp.specs.Serving.{AreDocumentActions, AreViewHints, GivesActions, Held, IsHover, IsNamed, IsResult, IsResultOf, IsShallow, IsTyped, document_in, named_range, question, texts_of}
use Rattle.isle_lsp_text.specs.declared.positions.PositionEncoding.{PositionEncoding}

-- what was decoded nests no deeper than JSON is read
pub decoded : (body : List ℕ) (json : Option Data) → Decodes body json → IsShallow json
decoded body None d = tt
decoded body (Some x) d = omega (arith, depth-read _ x d.1)

formatting_depth : (enc : PositionEncoding) (text : List ℕ) (d : Data) → IsFormatting enc text d → depth d ≤ 126
formatting_depth enc text d (inl h) = at_most 126 _ _ h.1 (omega arith)
formatting_depth enc text d (inr (tidy, is_tidy, change)) = at_most 126 _ _ change.2 (omega (arith, ranges.edits_depth enc text tidy change.0))

lines_depth : (enc : PositionEncoding) (text : List ℕ) (range : Range) (d : Data) → IsFormattingWithin enc text range d → depth d ≤ 126
lines_depth enc text range d (inl h) = at_most 126 _ _ h.1 (omega arith)
lines_depth enc text range d (inr (tidy, is_tidy, edits)) = omega (arith, ranges.formatting_depth enc text tidy range d edits)

gives_within : (Is : Data → Type 0) (o : Outcome) → ((d : Data) → Is d → depth d ≤ 126) → Gives Is o → IsWithin 126 o
gives_within Is o shallow h = within 126 o _ h.2 (shallow h.0 h.1)

range_within : (Is : Range → Data → Type 0) (range : Option Range) (o : Outcome) → ((r : Range) (d : Data) → Is r d → depth d ≤ 126) → GivesWithin Is range o → IsWithin 126 o
range_within Is None o shallow h = within 126 o _ h tt
range_within Is (Some r) o shallow h = gives_within (Is r) o (shallow r) h

line_within : (enc : PositionEncoding) (blank : Bool) (text : List ℕ) (range : Option Range) (o : Outcome) → FormatsUnless enc blank text range o → IsWithin 126 o
line_within enc true text range o h = within 126 o _ h (omega arith)
line_within enc false text range o h = range_within (IsFormattingWithin enc text) range o (lines_depth enc text) h

positions_within : (Is : List Position → Data → Type 0) (positions : Option (List Position)) (o : Outcome) → ((ps : List Position) (d : Data) → Is ps d → depth d ≤ 126)
    → GivesAt Is positions o → IsWithin 126 o
positions_within Is None o shallow h = within 126 o _ h tt
positions_within Is (Some ps) o shallow h = gives_within (Is ps) o (shallow ps) h

tokens_depth : (enc : PositionEncoding) (text : List ℕ) (range : Option Range) (d : Data) → AreTokens enc text range d → depth d ≤ 126
tokens_depth enc text range d h = omega (arith, tokens_shallow enc text range d h)

document_within : (enc : PositionEncoding) (request : DocumentRequest) (d : Data) (document : Document) (o : Outcome) → IsOfDocument enc request d document o → IsWithin 126 o
document_within enc Formatting d document o h = gives_within (IsFormatting enc document.text) o (formatting_depth enc document.text) h
document_within enc RangeFormatting d document o h = range_within (IsFormattingWithin enc document.text) (asked_range d) o (lines_depth enc document.text) h
document_within enc OnTypeFormatting d document o h = line_within enc (is_blank_at enc document.text (typed_range d)) document.text (typed_range d) o h
document_within enc FoldingRange d document o h = gives_within (AreFoldings document.text) o (λ x f. omega (arith, foldings_depth document.text x f)) h
document_within enc SelectionRange d document o h =
    positions_within (AreSelections enc document.text) (positions_of d) o (λ ps x f. omega (arith, selections_depth enc document.text ps x f)) h
document_within enc SemanticTokens d document o h = gives_within (AreTokens enc document.text None) o (tokens_depth enc document.text None) h
document_within enc SemanticTokensRange d document o h =
    range_within (λ range. AreTokens enc document.text (Some range)) (asked_range d) o (λ range. tokens_depth enc document.text (Some range)) h

alone_within : (enc : PositionEncoding) (request : DocumentRequest) (d : Data) (document : Option Document) (o : Outcome) → IsAlone enc request d document o → IsWithin 126 o
alone_within enc request d None o h = within 126 o _ h tt
alone_within enc request d (Some document) o h = document_within enc request d document o h

actions_within : (d : Data) (held : Held) (view : View) (document : Option Document) (o : Outcome) → GivesActions d held view document o → IsWithin 126 o
actions_within d held view None o h = within 126 o _ h tt
actions_within d held view (Some document) o h =
    gives_within (AreDocumentActions d held view document) o
    (λ x f. omega (arith, answer_depth held.encoding held.takes_document_changes document.uri document.version document.text (texts_of (programs_of held.encoding held.documents view view.file)) d x f)) h

named_within : (request : requests.Request) (d : Data) (held : Held) (view : View) (o : Outcome) → IsAboutNames request → depth d ≤ 127 → IsNamed request d held view o → IsWithin 126 o
named_within request d held view o n m h = answer_within (question request d held view) _ o n m h

typed_within : (d : Data) (held : Held) (view : View) (plain o : Outcome) → IsWithin 126 plain → IsTyped d held view plain o → IsWithin 126 o
typed_within d held view (done hover) o w (typed, is_typed, is) =
    within 126 o _ is (typed_depth 126 (programs_of held.encoding held.documents view view.file) view.file (position_of d) hover typed (omega arith) w is_typed)
typed_within d held view (failed c reason) o w is = within 126 o _ is tt

hover_within : (d : Data) (held : Held) (view : View) (o : Outcome) → depth d ≤ 127 → IsHover d held view o → IsWithin 126 o
hover_within d held view o m (plain, named, typed) = typed_within d held view plain o (named_within Hover d held view plain tt m named) typed

result_within : (request : requests.Request) (d : Data) (held : Held) (view : View) (o : Outcome) → depth d ≤ 127 → IsResult request d held view o → IsWithin 126 o
result_within Initialize d held view o m h = within 126 o _ h (omega (arith, initialized_depth held.encoding))
result_within Shutdown d held view o m h = within 126 o _ h (omega arith)
result_within (Alone request) d held view o m h = alone_within held.encoding request d (document_in d held.documents) o h
result_within InlayHint d held view o m h =
    range_within (AreViewHints held.encoding held.documents view) (named_range d) o (λ range x f. omega (arith, hints_depth (programs_of held.encoding held.documents view view.file) view.file range x f)) h
result_within CodeAction d held view o m h = actions_within d held view (document_in d held.documents) o h
result_within Unknown d held view o m h = within 126 o _ h tt
result_within DocumentSymbol d held view o m h = named_within DocumentSymbol d held view o tt m h
result_within WorkspaceSymbol d held view o m h = named_within WorkspaceSymbol d held view o tt m h
result_within Definition d held view o m h = named_within Definition d held view o tt m h
result_within Implementation d held view o m h = named_within Implementation d held view o tt m h
result_within References d held view o m h = named_within References d held view o tt m h
result_within DocumentHighlight d held view o m h = named_within DocumentHighlight d held view o tt m h
result_within Hover d held view o m h = hover_within d held view o m h
result_within SignatureHelp d held view o m h = named_within SignatureHelp d held view o tt m h
result_within Completion d held view o m h = named_within Completion d held view o tt m h
result_within ResolveCompletion d held view o m h = named_within ResolveCompletion d held view o tt m h
result_within PrepareRename d held view o m h = named_within PrepareRename d held view o tt m h
result_within Rename d held view o m h = named_within Rename d held view o tt m h
result_within PrepareCallHierarchy d held view o m h = named_within PrepareCallHierarchy d held view o tt m h
result_within IncomingCalls d held view o m h = named_within IncomingCalls d held view o tt m h
result_within OutgoingCalls d held view o m h = named_within OutgoingCalls d held view o tt m h

outcome_within : (request : requests.Request) (d : Option Data) (held : Held) (view : View) (o : Outcome) → IsShallow d → IsResultOf request d held view o → IsWithin 126 o
outcome_within request None held view o m h = within 126 o _ h tt
outcome_within request (Some d) held view o m h = result_within request d held view o m h

-- a reply reads back as it is defined
pub reply_reads : (request : requests.Request) (json : Option Data) (held : Held) (view : View) (o : Outcome) (text : List ℕ) → IsShallow json
    → IsResultOf request json held view o → IsTextOf (reply (reply_id json) o) text → read text ≡ Some (reply (reply_id json) o)
reply_reads request json held view o text shallow result is =
    is (reply_depth json o 126 (omega arith) (outcome_within request json held view o shallow result))

-- and so does a rejection
pub rejection_reads : (json : Option Data) (c : ErrorCode) (reason text : List ℕ) → IsTextOf (error_response (reply_id json) c reason) text
    → read text ≡ Some (error_response (reply_id json) c reason)
rejection_reads json c reason text is = is (omega (arith, reply_depth json (failed c reason) 2 (omega arith) tt))
