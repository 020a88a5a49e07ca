-- The number of lines of printed texts.
use Rattle.std.specs.Prelude.{ℕ, ◌≤◌, List}
use Rattle.isle_ast.specs.Tree.{Definition}
use Rattle.isle_printer.specs.Printed.{IsPrinted}
use Rattle.isle_printer_layout.specs.Lines.{line_end_count}

-- at no greater width the printed text has more lines
abbrev pub WiderHasNoMoreLines : ℕ → List Definition → List ℕ → Type 0
WiderHasNoMoreLines width ds text =
    (wide : ℕ) (other : List ℕ) → width ≤ wide → IsPrinted wide ds other → line_end_count other ≤ line_end_count text
