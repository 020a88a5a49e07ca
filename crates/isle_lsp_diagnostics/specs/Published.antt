-- The diagnostics of a document.
use Rattle.std.specs.Prelude.{◌≡◌, ℕ, ℤ, List, codes, map, Option, None, Some}
use Rattle.serde_json.specs.Data.{Data, Members, array, member, no_items, no_members, number, object, string}
use Rattle.serde_json.specs.Find.{of_integer}
use Rattle.serde_json.specs.Read.{read}
use Rattle.serde_json.specs.View.{items_of}
use Rattle.isle_lint_core.specs.Lint.{name}
use Rattle.isle_lsp_diagnostics.specs.Diagnostics.{AreMarks}
use Rattle.isle_lsp_diagnostics.specs.Marks.{Finder, Mark, check, lint, parser}
use Rattle.isle_lsp_features.specs.Programs.{Text}
use Rattle.isle_lsp_protocol.specs.Results.{checked_data, error_data, warning_data}
use Rattle.isle_lsp_text.specs.Positions.{position_at}
use Rattle.isle_lsp_text.specs.declared.positions.Range.{Range}
use Rattle.isle_lsp_text.specs.declared.positions.PositionEncoding.{PositionEncoding}

-- the range between two offsets
abbrev pub range_of : PositionEncoding → List ℕ → (start end : ℕ) → Range
range_of enc text start end = record { start = position_at enc start text; end = position_at enc end text }

abbrev pub diagnostic_data_at : Range → Finder → List ℕ → Data
diagnostic_data_at range parser message = error_data range message
diagnostic_data_at range (lint it) message = warning_data range (name it) message
diagnostic_data_at range (check is_error kind) message = checked_data range is_error kind message

-- a diagnostic, at its range
abbrev pub mark_data : PositionEncoding → List ℕ → Mark → Data
mark_data enc text m = diagnostic_data_at (range_of enc text m.start m.end) m.finder m.message

abbrev pub diagnostics_data : PositionEncoding → List ℕ → List Mark → Data
diagnostics_data enc text marks = array (items_of (map (mark_data enc text) marks))

-- the diagnostics of a text, which is this file of the programs; without a text there are none
abbrev pub AreDiagnostics : PositionEncoding → (programs : List (List Text)) → (file : List ℕ) → Option (List ℕ) → Data → Type 0
AreDiagnostics enc programs file None d = d ≡ array no_items
AreDiagnostics enc programs file (Some text) d = (marks : List Mark) × AreMarks programs file text marks × (d ≡ diagnostics_data enc text marks)

-- the version of a document, if it is known
abbrev pub version_member : Option ℤ → Members
version_member None = no_members
version_member (Some version) = member (codes "version") (number (of_integer version)) no_members

-- the parameters of the notification with the diagnostics of a document
abbrev pub parameters_data : (uri : List ℕ) → (version : Option ℤ) → Data → Data
parameters_data uri version diagnostics = object (member (codes "diagnostics") diagnostics (member (codes "uri") (string uri) (version_member version)))

abbrev pub publishing : (uri : List ℕ) → (version : Option ℤ) → Data → Data
publishing uri version diagnostics =
    object (member (codes "jsonrpc") (string (codes "2.0")) (member (codes "method") (string (codes "textDocument/publishDiagnostics"))
    (member (codes "params") (parameters_data uri version diagnostics) no_members)))

-- the notification for a document, which is this file of the programs, with its version, if that is known, and its text, or for one that is not open
abbrev pub IsPublished : PositionEncoding → (uri : List ℕ) → (version : Option ℤ) → (programs : List (List Text)) → (file : List ℕ) → Option (List ℕ) → List ℕ → Type 0
IsPublished enc uri version programs file text sent = (d : Data) × AreDiagnostics enc programs file text d × (read sent ≡ Some (publishing uri version d))
