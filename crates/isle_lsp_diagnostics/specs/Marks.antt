-- The marks of a text.
use Rattle.std.specs.Prelude.{ℕ, List, Bool, ◌&&◌, ◌==◌, string_bytes}
use Rattle.std.specs.Str.{bytes_eq}
use Rattle.isle_lint_core.specs.declared.lint.Lint.{Lint}
use Rattle.isle_lsp_diagnostics.specs.declared.diagnostics.Diagnostic.{Diagnostic}
use Rattle.isle_lsp_diagnostics.specs.declared.diagnostics.Finder.{Finder as CodeFinder}
use Rattle.isle_lsp_diagnostics.specs.declared.diagnostics.Finder.TheVariants as finders

-- who finds what a mark tells: the parser, a lint, or the check of a program, of an error or a warning of this kind
pub data Finder : Type 0 where
  parser : Finder
  lint : Lint → Finder
  check : (is_error : Bool) → (kind : List ℕ) → Finder

abbrev pub finder_of : CodeFinder → Finder
finder_of finders.Parser = parser
finder_of (finders.Lint it) = lint it
finder_of (finders.Check is_error kind) = check is_error kind.now

-- a diagnostic of a part of a text
pub record Mark : Type 0 where
  pub start : ℕ
  pub end : ℕ
  pub finder : Finder
  pub message : List ℕ

abbrev pub mark_of : Diagnostic → Mark
mark_of d = record { start = d.start; end = d.end; finder = finder_of d.finder; message = string_bytes d.message }

-- two marks tell one message of one place
abbrev pub is_same : Mark → Mark → Bool
is_same m n = m.start == n.start && bytes_eq m.message n.message
