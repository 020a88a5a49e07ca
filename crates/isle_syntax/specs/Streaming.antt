-- Formatting one definition after another: single steps, and their start.
use Rattle.std.specs.Prelude.{◌≡◌, ℕ, List, [], ◌∷◌, ◌++◌, length, false, true}
use Rattle.isle_ast.specs.Grammar.{SpellsDefinition}
use Rattle.isle_ast.specs.Tree.{Definition}
use Rattle.isle_base.specs.Lexing.{lexes}
use Rattle.isle_base.specs.Steps.{is_at_end, is_failed}
use Rattle.isle_base_source.specs.declared.error.Error.{Error}
use Rattle.isle_parser.specs.NextDefinition.{has_failed}
use Rattle.isle_parser.specs.declared.parser.Parser.{Parser}
use Rattle.isle_parser_cursor.specs.Outcomes.{source, tokens}
use Rattle.isle_base.specs.Refusal.{RefusesIn}
use Rattle.isle_printer.specs.Printed.{printed_text}
use Rattle.isle_syntax.specs.Format.{IsRefused}

-- a parser of a whole text, which is file 0, at its start, with positions
pub record IsAtStart (text : List ℕ) (start : Parser) : Type 0 where
  pub file : start.cursor.scanner.file ≡ 0
  pub size : start.cursor.scanner.size ≡ length text
  pub live : is_failed start.cursor.scanner ≡ false
  pub lexed : lexes text start.cursor.scanner.coming start.cursor.scanner.ending
  pub positions : start.cursor.disable_pos ≡ false

-- the next definition is read
pub record IsRead (old new : Parser) : Type 0 where
  pub definition : Definition
  pub spelt : SpellsDefinition definition (tokens old.cursor) (tokens new.cursor)
  pub same : source new.cursor ≡ source old.cursor
  pub live : has_failed new ≡ false

-- no definition is left
pub record IsDone (old new : Parser) : Type 0 where
  pub at_end : is_at_end old.cursor.scanner ≡ true
  pub same : new ≡ old

-- the next definition is read, and its print is appended to those of the definitions before it
pub record IsPut (width : ℕ) (old new : Parser) (before after : List ℕ) : Type 0 where
  pub definition : Definition
  pub spelt : SpellsDefinition definition (tokens old.cursor) (tokens new.cursor)
  pub same : source new.cursor ≡ source old.cursor
  pub live : has_failed new ≡ false
  pub written : (ds : List Definition) → before ≡ printed_text width ds → after ≡ printed_text width (ds ++ definition ∷ [])

-- the text is rejected, with an error in it
abbrev pub IsRefusedWith : List ℕ → Error → Type 0
IsRefusedWith text e = IsRefused text × RefusesIn 0 (length text) e
