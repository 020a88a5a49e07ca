-- What is sent of a document, from what is told of its text.
use Rattle.std.proofs.Common.{◌≡◌, ℕ, ℤ, List, Option, Some, map, refl, subst, sym}
use Rattle.isle_lsp_diagnostics.specs.Diagnostics.{AreMarks}
use Rattle.isle_lsp_diagnostics.specs.Marks.{mark_of}
use Rattle.isle_lsp_diagnostics.specs.declared.diagnostics.Diagnostic.{Diagnostic}
use Rattle.isle_lsp_features.specs.Programs.{Text}
use Rattle.serde_json.specs.Read.{read}
use Rattle.isle_lsp_diagnostics.specs.Published.{IsPublished, diagnostics_data, publishing}
use Rattle.isle_lsp_text.specs.declared.positions.PositionEncoding.{PositionEncoding}

pub told_published : (enc : PositionEncoding) (programs : List (List Text)) (file uri : List ℕ) (version : Option ℤ) (text sent : List ℕ) (given told : List Diagnostic) → given ≡ told
    → AreMarks programs file text (map mark_of told) → read sent ≡ Some (publishing uri version (diagnostics_data enc text (map mark_of given)))
    → IsPublished enc uri version programs file (Some text) sent
told_published enc programs file uri version text sent given told same marks is =
    let Of : List Diagnostic → Type 0 = λ ds. AreMarks programs file text (map mark_of ds) in
    (diagnostics_data enc text (map mark_of given), (map mark_of given, subst Of (sym same) marks, refl), is)
