-- What is gathered of the terms of a tree.
use Rattle.std.specs.Prelude.{ℕ, List, [], ◌∷◌, Bool, Option, None, Some}
use Rattle.std.specs.Str.{bytes_eq}
use Rattle.isle_base_source.specs.declared.pos.Pos.{Pos}
use Rattle.isle_ast_names.specs.Tree.{Name}

-- the position of the last term, if there is one
abbrev pub last_pos : List (Pos × Name) → Option Pos
last_pos [] = None
last_pos (head ∷ []) = Some head.0
last_pos (_ ∷ next ∷ others) = last_pos (next ∷ others)

-- a term of this symbol
abbrev pub is_of_symbol : List ℕ → Pos × Name → Bool
is_of_symbol symbol head = bytes_eq head.1.text symbol
