-- The number of lines in a text, and its minimum for layouts.
use Rattle.std.specs.Prelude.{ℕ, ◌≤◌, List, count_by, ◌==◌}
use Rattle.isle_base.specs.Bytes.{line_feed}
use Rattle.isle_printer_layout.specs.Choices.{Choice, Fits, render}
use Rattle.isle_printer_layout.specs.Sexp.{Sexp}

abbrev pub line_end_count : List ℕ → ℕ
line_end_count text = count_by (λ b. b == line_feed) text

-- no choice of broken lists that fits the width has fewer lines
abbrev pub HasFewestLines : ℕ → Sexp → List ℕ → Type 0
HasFewestLines width s text = (c : Choice s) → Fits width s c → line_end_count text ≤ line_end_count (render s c 0)
