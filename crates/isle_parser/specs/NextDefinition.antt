-- The results of asking a parser for one definition, by the rest of its lexer's input.
use Rattle.std.specs.Prelude.{◌≡◌, ◌⊎◌, ◌||◌, List, [], Bool, false, Option, Result, IfOk, IfSome}
use Rattle.isle_ast.specs.Grammar.{SpellsDefinition}
use Rattle.isle_ast.specs.Tree.{Definition}
use Rattle.isle_ast.specs.TreeView.{definition_of}
use Rattle.isle_ast.specs.declared.ast.Def.{Def}
use Rattle.isle_base_source.specs.declared.error.Error.{Error}
use Rattle.isle_base.specs.declared.fault.Fault.{Fault}
use Rattle.isle_base.specs.Place.{Placed}
use Rattle.isle_base.specs.Steps.{is_at_end, is_failed}
use Rattle.isle_parser.specs.declared.parser.Parser.{Parser}
use Rattle.isle_parser_cursor.specs.declared.cursor.Cursor.{Cursor}
use Rattle.isle_parser_cursor.specs.Outcomes.{StandsAtFault, source, tokens}
use Rattle.isle_base.specs.Refusal.{RefusesIn}

-- whether the lexer had failed, or an earlier call of the parser returned an error
abbrev pub has_failed : Parser → Bool
has_failed p = is_failed p.cursor.scanner || p.refused

-- a property of the definition that is returned, if there is one
abbrev pub IfFound : Result (Option Def) Fault → (Definition → Type 0) → Type 0
IfFound r P = IfOk r (λ found. IfSome found (λ def. P (definition_of def)))

-- no prefix of these tokens spells a definition
abbrev pub SpellsNoDefinition : List Placed → Type 0
SpellsNoDefinition all = (d : Definition) (rest : List Placed) → SpellsDefinition d all rest → ⊥

-- each prefix of these tokens that spells a definition is all of them
abbrev pub LeavesNone : List Placed → Type 0
LeavesNone all = (d : Definition) (rest : List Placed) → SpellsDefinition d all rest → rest ≡ []

-- Either no prefix of the remaining tokens spells a definition, or the error is at the fault that
-- ends them, and a prefix that spells a definition is all of them. The error is in the text, and
-- something remained.
pub record RefusesNext (old : Cursor) (e : Error) : Type 0 where
  pub because : SpellsNoDefinition (tokens old) ⊎ (StandsAtFault (source old) e × LeavesNone (tokens old))
  pub stands : RefusesIn old.scanner.file old.scanner.size e
  pub before_end : is_at_end old.scanner ≡ false
