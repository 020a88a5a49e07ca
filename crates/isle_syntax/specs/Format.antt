-- The results of `format`.
use Rattle.std.specs.Prelude.{◌≡◌, ◌↔◌, ℕ, ◌≤◌, List}
use Rattle.isle_base_source.specs.declared.pos.Pos.{Pos}
use Rattle.isle_base.specs.Place.{nowhere}
use Rattle.isle_ast.specs.Tree.{Definition}
use Rattle.isle_ast.specs.Erased.{erase}
use Rattle.isle_ast.specs.Spelt.{IsSpelt}
use Rattle.isle_printer.specs.Lines.{WiderHasNoMoreLines}
use Rattle.isle_printer.specs.Printed.{IsPrinted}
use Rattle.isle_printer.specs.ReadBack.{HaveSameTokens}
use Rattle.isle_printer_layout.specs.ShortLines.{HasShortLines}

-- the text spells a tree
abbrev pub SpellsTree : List ℕ → Type 0
SpellsTree text = (tree : List Definition) × IsSpelt nowhere text tree

-- a property of the tree that the text spells, positions erased
abbrev pub OfItsTree : List ℕ → (List Definition → Type 0) → Type 0
OfItsTree text P = (tree : List Definition) → IsSpelt nowhere text tree → P tree

-- The text spells no other tree. Trees are compared erased, and a text spells a tree at any
-- positions of its tokens.
abbrev pub IsOnlyTree : List ℕ → List Definition → Type 0
IsOnlyTree text tree = (place : ℕ → Pos) (ds : List Definition) → IsSpelt place text ds → erase ds ≡ tree

-- the print of another text's tree is this text exactly if that tree is this one
abbrev pub HasPrintOfItsOwn : ℕ → List ℕ → List Definition → Type 0
HasPrintOfItsOwn width answer tree =
    (place : ℕ → Pos) (other : List ℕ) (ds : List Definition) → IsSpelt place other ds
    → IsPrinted width ds answer ↔ (erase ds ≡ tree)

-- at every other width, the print of the tree spells it too, with the same tokens, offsets aside
abbrev pub ReadsBackAtOtherWidths : List ℕ → List Definition → Type 0
ReadsBackAtOtherWidths answer tree =
    (other : ℕ) (print : List ℕ) → IsPrinted other tree print
    → IsSpelt nowhere print tree × HaveSameTokens answer print

-- The result is the print, at this width, of the one tree that the text spells.
pub record IsFormatted (width : ℕ) (text answer : List ℕ) : Type 0 where
  pub tree : List Definition
  -- the text spells the tree, and no other one
  pub spelt : IsSpelt nowhere text tree
  pub only : IsOnlyTree text tree
  -- the result is its print, which is accepted and prints as itself
  pub printed : IsPrinted width tree answer
  pub read_back : IsSpelt nowhere answer tree
  pub equal_prints : HasPrintOfItsOwn width answer tree
  -- a line that contains a whole list is within the width, apart from its indentation and its empty
  -- lists
  pub short_lines : 1 ≤ width → HasShortLines width answer
  -- at no greater width the print of the tree has more lines
  pub fewer_lines : WiderHasNoMoreLines width tree answer
  pub other_widths : ReadsBackAtOtherWidths answer tree

-- the text spells no tree
abbrev pub IsRefused : List ℕ → Type 0
IsRefused text = (place : ℕ → Pos) (ds : List Definition) → IsSpelt place text ds → ⊥
