-- The outcomes of requests that are answered from an open document alone.
use Rattle.std.specs.Prelude.{◌≡◌, ◌⊎◌, ℕ, List, Bool, true, false, Option, None, Some}
use Rattle.serde_json.specs.Data.{Data, null}
use Rattle.isle_tidy_core.specs.Refused.{HasNoDocument}
use Rattle.isle_tidy_core.specs.Tidied.{IsTidyTextOf}
use Rattle.isle_lsp_colours.specs.Coloured.{AreTokens}
use Rattle.isle_lsp_files.specs.Documents.{Document}
use Rattle.isle_lsp_protocol.specs.declared.machine.DocumentRequest.{DocumentRequest}
use Rattle.isle_lsp_protocol.specs.declared.machine.DocumentRequest.TheVariants.{Formatting, RangeFormatting, OnTypeFormatting, FoldingRange, SelectionRange, SemanticTokens, SemanticTokensRange}
use Rattle.isle_lsp_protocol.specs.declared.machine.ErrorCode.TheVariants.{InvalidParams}
use Rattle.isle_lsp_protocol.specs.Parameters.{positions_of, range_of, typed_range}
use Rattle.isle_lsp_protocol.specs.Replies.{Outcome, done, error_outcome}
use Rattle.isle_lsp_ranges.specs.Foldings.{AreFoldings}
use Rattle.isle_lsp_ranges.specs.LineEdits.{IsRangeFormatting}
use Rattle.isle_lsp_ranges.specs.Selections.{AreSelections}
use Rattle.isle_lsp_text.specs.declared.positions.Position.{Position}
use Rattle.isle_lsp_text.specs.declared.positions.Range.{Range}
use Rattle.isle_lsp.specs.Formatted.{IsFormatting, is_blank_at}
use Rattle.isle_lsp_text.specs.declared.positions.PositionEncoding.{PositionEncoding}

-- the edits that format the lines of a range of a text; null if the text cannot be formatted
abbrev pub IsFormattingWithin : PositionEncoding → List ℕ → Range → Data → Type 0
IsFormattingWithin enc text range d =
    (HasNoDocument text × (d ≡ null)) ⊎ ((tidy : List ℕ) × IsTidyTextOf text tidy × IsRangeFormatting enc text tidy range d)

-- the result is such data
abbrev pub Gives : (Data → Type 0) → Outcome → Type 0
Gives Is o = (d : Data) × Is d × (o ≡ done d)

-- the same of a range in the message, which may lack it
abbrev pub GivesWithin : (Range → Data → Type 0) → Option Range → Outcome → Type 0
GivesWithin Is None o = o ≡ error_outcome InvalidParams
GivesWithin Is (Some range) o = Gives (Is range) o

-- the same of the positions in the message
abbrev pub GivesAt : (List Position → Data → Type 0) → Option (List Position) → Outcome → Type 0
GivesAt Is None o = o ≡ error_outcome InvalidParams
GivesAt Is (Some positions) o = Gives (Is positions) o

-- The edits that format a line in which a character was typed. Of a blank line there are none: they would remove the line that has just been made.
abbrev pub FormatsUnless : PositionEncoding → (blank : Bool) → List ℕ → Option Range → Outcome → Type 0
FormatsUnless enc true text range o = o ≡ done null
FormatsUnless enc false text range o = GivesWithin (IsFormattingWithin enc text) range o

abbrev pub IsLineFormatting : PositionEncoding → List ℕ → Option Range → Outcome → Type 0
IsLineFormatting enc text range o = FormatsUnless enc (is_blank_at enc text range) text range o

-- the outcome of a request with this message about a document
abbrev pub IsOfDocument : PositionEncoding → DocumentRequest → (message : Data) → Document → Outcome → Type 0
IsOfDocument enc Formatting message document o = Gives (IsFormatting enc document.text) o
IsOfDocument enc RangeFormatting message document o = GivesWithin (IsFormattingWithin enc document.text) (range_of message) o
IsOfDocument enc OnTypeFormatting message document o = IsLineFormatting enc document.text (typed_range message) o
IsOfDocument enc FoldingRange message document o = Gives (AreFoldings document.text) o
IsOfDocument enc SelectionRange message document o = GivesAt (AreSelections enc document.text) (positions_of message) o
IsOfDocument enc SemanticTokens message document o = Gives (AreTokens enc document.text None) o
IsOfDocument enc SemanticTokensRange message document o = GivesWithin (λ range. AreTokens enc document.text (Some range)) (range_of message) o

-- the same of the document that the message names, which may not be open
abbrev pub IsAlone : PositionEncoding → DocumentRequest → (message : Data) → Option Document → Outcome → Type 0
IsAlone enc request message None o = o ≡ error_outcome InvalidParams
IsAlone enc request message (Some document) o = IsOfDocument enc request message document o
