-- Tokens that were written for diagnostics are read back as these.
use Rattle.std.proofs.Common.{◌≡◌, ℕ, ℤ, ◌^◌, ◌<◌, min, List, [], ◌∷◌, Option, None, Some, SFits, w64, length, map, refl, subst, arith}
use Rattle.serde_json.proofs.Numbers.{number_of-decimal}
use Rattle.serde_json.specs.Read.{of_items}
use Rattle.serde_json.specs.View.{items_of}
use Rattle.serde_json.specs.Written.{items_outline}
use Rattle.isle_lint_core.specs.Lint.{name}
use Rattle.isle_lsp_diagnostics.specs.Marks.{Finder, Mark, check, lint, parser}
use Rattle.isle_lsp_protocol.proofs.Ids.{integer_reads}
use Rattle.isle_lsp_protocol.proofs.Readings.{checked_reads, error_reads, position_reads, range_reads, warning_reads}
use Rattle.isle_lsp_protocol.specs.Results.{position_data, range_data}
use Rattle.isle_lsp_protocol.specs.Written.{Reads}
use Rattle.isle_lsp_text.proofs.Places.{clamped, few_lines, few_units_on}
use Rattle.isle_lsp_text.specs.Positions.{position_at}
use Rattle.isle_lsp_text.specs.declared.positions.Range.{Range}
use Rattle.isle_lsp_diagnostics.specs.Published.{diagnostics_data, mark_data, diagnostic_data_at, publishing, range_of}
use Rattle.isle_lsp_diagnostics.specs.Versions.{VersionReads}
use Rattle.isle_lsp_text.specs.declared.positions.PositionEncoding.{PositionEncoding}

told_reads : (r : Range) (finder : Finder) (message : List ℕ) → Reads (range_data r) → Reads (diagnostic_data_at r finder message)
told_reads r parser message h = error_reads r message h
told_reads r (lint it) message h = warning_reads r (name it) message h
told_reads r (check is_error kind) message h = checked_reads r is_error kind message h

-- the lines and units before an offset are fewer than twice the text's bytes
place_reads : (enc : PositionEncoding) (text : List ℕ) (offset : ℕ) → length text < 2 ^ 63 → Reads (position_data (position_at enc offset text))
place_reads enc text offset small =
    let last : ℕ = min offset (length text) in
    let unit : (position_at enc last text).unit < 2 ^ 64 = omega (arith, few_units_on enc 0 0 last text, small) in
    let line : (position_at enc last text).line < 2 ^ 64 = omega (arith, few_lines enc 0 0 last text, small) in
    subst (λ p. Reads (position_data p)) (clamped enc text offset) (position_reads (position_at enc last text) (number_of-decimal _ unit) (number_of-decimal _ line))

mark_reads : (enc : PositionEncoding) (text : List ℕ) → length text < 2 ^ 63 → (m : Mark) → Reads (mark_data enc text m)
mark_reads enc text small m = told_reads _ m.finder m.message (range_reads (range_of enc text m.start m.end) (place_reads enc text m.start small) (place_reads enc text m.end small))

items_read : (enc : PositionEncoding) (text : List ℕ) → length text < 2 ^ 63 → (ms : List Mark) → of_items (items_outline (items_of (map (mark_data enc text) ms))) ≡ Some (items_of (map (mark_data enc text) ms))
items_read enc text small [] = refl
items_read enc text small (m ∷ ms) = rw (mark_reads enc text small m) (rw (items_read enc text small ms) refl)

diagnostics_read : (enc : PositionEncoding) (text : List ℕ) → length text < 2 ^ 63 → (ms : List Mark) → Reads (diagnostics_data enc text ms)
diagnostics_read enc text small ms = rw (items_read enc text small ms) refl

pub version_reads : (version : ℤ) → SFits w64 version → VersionReads (Some version)
version_reads version fits = integer_reads version fits

pub publishing_reads : (enc : PositionEncoding) (uri : List ℕ) (version : Option ℤ) (text : List ℕ) → length text < 2 ^ 63 → (ms : List Mark) → VersionReads version
    → Reads (publishing uri version (diagnostics_data enc text ms))
publishing_reads enc uri None text small ms h = rw (diagnostics_read enc text small ms) refl
publishing_reads enc uri (Some version) text small ms h = rw (diagnostics_read enc text small ms) (rw h refl)
