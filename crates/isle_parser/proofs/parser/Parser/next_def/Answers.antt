use Rattle.std.proofs.Common.{◌≡◌, Some}
use Rattle.isle_ast.specs.TreeView.{definition_of}
use Rattle.isle_parser.specs.DefinitionReaders.{definition}
use Rattle.isle_parser_cursor.specs.Outcomes.{tokens}
use Rattle.isle_parser.proofs.NextDefinition.{next_known, next_no_macro_arg, next_only, next_positions, next_spelt}
use Rattle.isle_parser.proofs.parser.Parser.next_def.Goals.{In_ok-read}
use Rattle.isle_parser.proofs.parser.Parser.next_def.Goals as goal

-- the definition that is returned is read
read : (c : In_ok-read) → definition (tokens c.args.self.now.cursor) ≡ Some (definition_of c.in_ok-read.field-0, tokens c.read_def-read.new.cursor)
read c = rw c.in_ok-read.was at c.read_def-read.ensures.read

pub returns-clause-spelt : goal.returns-clause-spelt
returns-clause-spelt c = next_spelt c.args.self.now.cursor c.read_def-read.new.cursor (definition_of c.in_ok-read.field-0) (read c)

pub returns-clause-only : goal.returns-clause-only
returns-clause-only c = next_only c.args.self.now.cursor c.read_def-read.new.cursor (definition_of c.in_ok-read.field-0) (read c)

pub returns-clause-positions : goal.returns-clause-positions
returns-clause-positions c = next_positions c.args.self.now.cursor c.read_def-read.new.cursor (definition_of c.in_ok-read.field-0) (read c)

pub returns-clause-known : goal.returns-clause-known
returns-clause-known c = next_known c.args.self.now.cursor c.read_def-read.new.cursor (definition_of c.in_ok-read.field-0) c.if-has_failed.ensures.rising (read c)

pub returns-clause-no_macro_arg : goal.returns-clause-no_macro_arg
returns-clause-no_macro_arg c = next_no_macro_arg c.args.self.now.cursor c.read_def-read.new.cursor (definition_of c.in_ok-read.field-0) (read c)
