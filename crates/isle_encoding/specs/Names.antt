-- The encoding of texts, positions and names.
use Rattle.std.specs.Prelude.{ℕ, List, ◌++◌, length}
use Rattle.isle_base_source.specs.declared.pos.Pos.{Pos}
use Rattle.isle_ast_names.specs.Tree.{Name}
use Rattle.isle_encoding.specs.Numbers.{list, number}

-- its length in bytes, and its bytes
abbrev pub text : List ℕ → List ℕ
text bytes = number (length bytes) ++ bytes

abbrev pub position : Pos → List ℕ
position p = number p.file ++ number p.offset

abbrev pub name : Name → List ℕ
name n = text n.text ++ position n.pos

abbrev pub names : List Name → List ℕ
names = list name
