-- The diagnostics of a text, on its own and in its programs.
use Rattle.std.specs.Prelude.{◌≡◌, ℕ, ◌+◌, ◌-◌, ◌⊎◌, Bool, true, false, List, [], ◌∷◌, ◌++◌, filter, length, map, min, not, codes, string_bytes}
use Rattle.std.specs.List.{flat_map}
use Rattle.std.specs.List.Sorted.{IsPermutation, IsSortedByKey}
use Rattle.isle_ast.specs.Tree.{Definition}
use Rattle.isle_base_source.specs.PositionOrder.{position_cmp}
use Rattle.isle_base_source.specs.declared.error.Error as errors
use Rattle.isle_base_source.specs.declared.error.Error.TheVariants.{ParseError}
use Rattle.isle_lint_core.specs.Finding.{Found, finding_of, message_of}
use Rattle.isle_lint_core.specs.Findings.{findings_in}
use Rattle.isle_lint_core.specs.Lint.{all_lints, is_default}
use Rattle.isle_lint_core.specs.declared.finding.Finding.{Finding}
use Rattle.isle_program.specs.Allowances.{Allowance, AreAllowances, is_allowed}
use Rattle.isle_lsp_features.specs.Pieces.{AreRefusals}
use Rattle.isle_lsp_features.specs.Programs.{Text}
use Rattle.isle_lsp_features.specs.declared.pieces.Refusal.{Refusal}
use Rattle.isle_lsp_features.specs.declared.pieces.Refusal.TheVariants as refused
use Rattle.isle_lsp_diagnostics.specs.Checked.{AreChecked, HasTree, IsRefusedText, all_added}
use Rattle.isle_lsp_diagnostics.specs.Marks.{Mark, lint, parser}

-- the diagnostic of a finding, at its name, cut at the end of the text
abbrev pub found_mark : List ℕ → Found → Mark
found_mark text f =
    let start : ℕ = min f.pos.offset (length text) in
    record { start = start; end = start + min (length f.name) (length text - start); finder = lint f.lint; message = message_of f }

-- the diagnostic of a text that spells no tree
abbrev pub error_mark : List ℕ → errors.Error → List Mark
error_mark text (ParseError msg span) =
    record { start = min span.from.offset (length text); end = min span.to.offset (length text); finder = parser; message = string_bytes msg } ∷ []
error_mark text _ = []

-- the findings that no comment allows
abbrev pub shown : List Allowance → List Found → List Found
shown allowances fs = filter (λ f. not (is_allowed allowances f)) fs

-- The marks are those of the findings of the default lints in the definitions, in order of position, except those that comments allow.
pub record AreMarksOf (text : List ℕ) (ds : List Definition) (told : List Mark) : Type 0 where
  pub found : List Finding
  pub exact : IsPermutation (findings_in (filter is_default all_lints) ds) (map finding_of found)
  pub in_order : IsSortedByKey (λ f. f.pos) position_cmp found
  pub allowances : List Allowance
  pub allowing : AreAllowances text allowances
  pub marks : told ≡ map (found_mark text) (shown allowances (map finding_of found))

-- the marks of what lints find in the tree of a text, as the file of any number: marks have no file, and one text has one tree but for it
pub record AreLintMarks (text : List ℕ) (marks : List Mark) : Type 0 where
  pub number : ℕ
  pub definitions : List Definition
  pub tree : HasTree number text definitions
  pub are : AreMarksOf text definitions marks

-- the marks of a text that spells a tree: of what the check of the programs that have it finds in it, and then of lints
pub record AreTreeMarks (programs : List (List Text)) (file text : List ℕ) (marks : List Mark) : Type 0 where
  pub checks : List Mark
  pub lints : List Mark
  pub checked : AreChecked programs file text [] checks
  pub linted : AreLintMarks text lints
  pub are : marks ≡ checks ++ lints

-- the diagnostic of a text that nests too deeply, at the first token that does
abbrev pub deep_mark : List ℕ → ℕ → Mark
deep_mark text offset =
    let start : ℕ = min offset (length text) in
    record {
      start = start;
      end = start + min 1 (length text - start);
      finder = parser;
      message = codes "more than 500 lists in one another, or '@' in one definition";
    }

-- why a piece of a text is refused
abbrev pub refusal_marks : List ℕ → Refusal → List Mark
refusal_marks text (refused.Error e) = error_mark text e
refusal_marks text (refused.Deep offset) = deep_mark text offset ∷ []

-- the marks of why the pieces of a text are refused, one after another, each once
abbrev pub AreRefusedMarks : List ℕ → List Mark → Type 0
AreRefusedMarks text marks = (rs : List Refusal) × AreRefusals text rs × (marks ≡ all_added [] (flat_map (refusal_marks text) rs))

-- the marks of a text by itself: of why it is refused, if it is, or else of what lints find
abbrev pub AreOwnMarks : List ℕ → (is_refused : Bool) → List Mark → Type 0
AreOwnMarks text true marks = IsRefusedText text × AreRefusedMarks text marks
AreOwnMarks text false marks = AreLintMarks text marks

-- the marks of any text, which is this file of the programs: of its tree, or why its pieces are refused
abbrev pub AreMarks : (programs : List (List Text)) → (file text : List ℕ) → List Mark → Type 0
AreMarks programs file text marks = AreTreeMarks programs file text marks ⊎ (IsRefusedText text × AreRefusedMarks text marks)
