-- How deep the diagnostics of a document nest.
use Rattle.std.proofs.Common.{ℕ, ℤ, ◌≤◌, List, None, Option, Some, arith}
use Rattle.serde_json.specs.Data.{Data, depth}
use Rattle.isle_lsp_text.specs.declared.positions.Range.{Range}
use Rattle.isle_lint_core.specs.Lint.{name}
use Rattle.isle_lsp_protocol.proofs.Depths.{checked_depth, error_depth, items_shallow, map_shallow, warning_depth}
use Rattle.isle_lsp_diagnostics.specs.Marks.{Finder, Mark, check, lint, parser}
use Rattle.isle_lsp_diagnostics.specs.Published.{diagnostic_data_at, diagnostics_data, mark_data, publishing}
use Rattle.isle_lsp_text.specs.declared.positions.PositionEncoding.{PositionEncoding}

finding_depth : (range : Range) (finder : Finder) (message : List ℕ) → depth (diagnostic_data_at range finder message) ≤ 4
finding_depth range parser message = error_depth range message
finding_depth range (lint it) message = warning_depth range (name it) message
finding_depth range (check is_error kind) message = checked_depth range is_error kind message

told_depth : (enc : PositionEncoding) (text : List ℕ) (marks : List Mark) → depth (diagnostics_data enc text marks) ≤ 5
told_depth enc text marks = omega (arith, items_shallow 4 _ (map_shallow 4 (mark_data enc text) marks (λ m. finding_depth _ m.finder m.message)))

publishing_depth : (uri : List ℕ) (version : Option ℤ) (d : Data) → depth d ≤ 10 → depth (publishing uri version d) ≤ 12
publishing_depth uri None d h = omega (arith, h)
publishing_depth uri (Some version) d h = omega (arith, h)

pub published_depth : (enc : PositionEncoding) (uri : List ℕ) (version : Option ℤ) (text : List ℕ) (marks : List Mark) → depth (publishing uri version (diagnostics_data enc text marks)) ≤ 127
published_depth enc uri version text marks = omega (arith, publishing_depth uri version (diagnostics_data enc text marks) (omega (arith, told_depth enc text marks)))
