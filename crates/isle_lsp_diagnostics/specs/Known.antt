-- What is known of a text.
use Rattle.std.specs.Prelude.{◌≡◌, ℕ, List, Bool, true, Option, None, Some, IfSome}
use Rattle.isle_ast.specs.Tree.{Definition}
use Rattle.isle_ast.specs.TreeView.{definitions_of}
use Rattle.isle_lsp_diagnostics.specs.Checked.{HasTree, IsRefusedText}
use Rattle.isle_lsp_diagnostics.specs.Diagnostics.{AreOwnMarks}
use Rattle.isle_lsp_diagnostics.specs.Marks.{Mark}
use Rattle.isle_lsp_diagnostics.specs.declared.texts.Tree.{Tree}

abbrev pub tree_of : Tree → List Definition
tree_of t = definitions_of t.defs.items

-- what comes of parsing a text as the file of this number: its tree, or none if it is refused
abbrev pub IsRead : (number : ℕ) → List ℕ → Option (List Definition) → Type 0
IsRead number text (Some ds) = HasTree number text ds
IsRead number text None = IsRefusedText text

-- a text, its number in a program, and whether it is known to be refused
pub record KnownText : Type 0 where
  pub number : ℕ
  pub text : List ℕ
  pub is_refused : Bool

-- what is known of a text is so: that it is refused, its tree if that is kept, and the marks of it by itself if they are
pub record IsKnown (number : ℕ) (text : List ℕ) (is_refused : Bool) (tree : Option (List Definition)) (marks : Option (List Mark)) : Type 0 where
  pub refused : is_refused ≡ true → IsRefusedText text
  pub spelt : IfSome tree (HasTree number text)
  pub own : IfSome marks (AreOwnMarks text is_refused)
