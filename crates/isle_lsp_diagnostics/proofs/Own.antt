-- What is found in a text by itself.
use Rattle.std.proofs.Common.{◌≡◌, ℕ, List, Bool, true, subst, sym}
use Rattle.isle_lsp_diagnostics.specs.Checked.{IsRefusedText}
use Rattle.isle_lsp_diagnostics.specs.Diagnostics.{AreOwnMarks, AreRefusedMarks}
use Rattle.isle_lsp_diagnostics.specs.Marks.{Mark}

-- of a text that is refused, it is why
pub refused_marks : (text : List ℕ) (is_refused : Bool) (marks : List Mark) → is_refused ≡ true → IsRefusedText text →
    AreRefusedMarks text marks → AreOwnMarks text is_refused marks
refused_marks text is_refused marks is refused are = subst (λ b. AreOwnMarks text b marks) (sym is) (refused, are)
