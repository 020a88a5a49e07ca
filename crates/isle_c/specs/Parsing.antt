-- What is written of the tree of a text, definition by definition.
use Rattle.std.specs.Prelude.{◌≡◌, ℕ, List, ◌++◌, flat_map, false}
use Rattle.isle_ast.specs.Spelt.{IsSpelt}
use Rattle.isle_ast.specs.Tree.{Definition}
use Rattle.isle_base.specs.Lexing.{lexes}
use Rattle.isle_base.specs.Place.{in_file}
use Rattle.isle_base.specs.Steps.{is_failed}
use Rattle.isle_encoding.specs.Encoded.{definition, encoded}
use Rattle.isle_parser.specs.declared.parser.Parser.{Parser}
use Rattle.isle_syntax.specs.Streaming.{IsRead}

-- The text spells one tree, whose positions are in this file. These bytes are its encoding.
pub record IsEncodedTree (file : ℕ) (text answer : List ℕ) : Type 0 where
  pub tree : List Definition
  pub spelt : IsSpelt (in_file file) text tree
  pub only : (ds : List Definition) → IsSpelt (in_file file) text ds → ds ≡ tree
  pub written : answer ≡ encoded tree

-- a parser of a whole text, whose file has this number, at its start, with positions
pub record IsAtStartIn (number : ℕ) (text : List ℕ) (start : Parser) : Type 0 where
  pub file : start.cursor.scanner.file ≡ number
  pub live : is_failed start.cursor.scanner ≡ false
  pub lexed : lexes text start.cursor.scanner.coming start.cursor.scanner.ending
  pub positions : start.cursor.disable_pos ≡ false

-- the next definition is read, and its bytes are put
pub record IsPutNext (old new : Parser) (before after : List ℕ) : Type 0 where
  pub read : IsRead old new
  pub written : after ≡ before ++ definition read.definition

-- the bytes of each definition of the text's one tree are put
pub record ArePut (file : ℕ) (text before after : List ℕ) : Type 0 where
  pub tree : List Definition
  pub spelt : IsSpelt (in_file file) text tree
  pub only : (ds : List Definition) → IsSpelt (in_file file) text ds → ds ≡ tree
  pub written : after ≡ before ++ flat_map definition tree
