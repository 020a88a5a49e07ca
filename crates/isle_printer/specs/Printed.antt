-- The printed text of definitions at a width: the layout of each one and a LF, with one more LF
-- between two. A definition that contains a macro argument has no print. As a relation, and as a
-- function.
use Rattle.std.specs.Prelude.{◌≡◌, ℕ, List, [], ◌∷◌, ◌++◌, false}
use Rattle.isle_base.specs.Bytes.{line_feed}
use Rattle.isle_ast.specs.Tree.{Definition}
use Rattle.isle_ast.specs.MacroArgs.{definition_has_macro_arg}
use Rattle.isle_printer_layout.specs.Choices.{IsLayout}
use Rattle.isle_printer_layout.specs.Layout.{layout}
use Rattle.isle_printer.specs.DefinitionShapes.{definition_shape}

-- a definition's lines
abbrev pub ArePrintedLines : ℕ → Definition → List ℕ → Type 0
ArePrintedLines width d text =
    (definition_has_macro_arg d ≡ false)
    × (lines : List ℕ) × IsLayout width (definition_shape d) lines × (text ≡ lines ++ line_feed ∷ [])

-- the text of the definitions after the first one
abbrev pub IsPrintedBehind : ℕ → List Definition → List ℕ → Type 0
IsPrintedBehind width [] text = text ≡ []
IsPrintedBehind width (d ∷ ds) text =
    (lines behind : List ℕ) × ArePrintedLines width d lines × IsPrintedBehind width ds behind × (text ≡ line_feed ∷ lines ++ behind)

abbrev pub IsPrinted : ℕ → List Definition → List ℕ → Type 0
IsPrinted width [] text = text ≡ []
IsPrinted width (d ∷ ds) text =
    (lines behind : List ℕ) × ArePrintedLines width d lines × IsPrintedBehind width ds behind × (text ≡ lines ++ behind)

-- the same as a function, over the layout by rules

abbrev pub definition_text : ℕ → Definition → List ℕ
definition_text width d = layout width (definition_shape d) ++ line_feed ∷ []

abbrev pub behind_text : ℕ → List Definition → List ℕ
behind_text width [] = []
behind_text width (d ∷ ds) = line_feed ∷ definition_text width d ++ behind_text width ds

abbrev pub printed_text : ℕ → List Definition → List ℕ
printed_text width [] = []
printed_text width (d ∷ ds) = definition_text width d ++ behind_text width ds
