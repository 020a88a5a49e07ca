-- Readers of models of a type or a constant, after the keyword `model`.
use Rattle.std.specs.Prelude.{Some, None, if◌then◌else◌, codes}
use Rattle.isle_ast.specs.Tree.{ModelContent, type_model, const_model, ModelDefinition}
use Rattle.isle_parser_cursor.specs.Reading.{Reader, ◌>>=◌, in_parentheses, flag}
use Rattle.isle_parser_cursor.specs.NameReaders.{name}
use Rattle.isle_parser_verification.specs.ModelReaders.{model_type}
use Rattle.isle_parser_verification.specs.SpecReaders.{spec_expression}

-- a model of a type that is a spec expression
unfoldable pub const_inside : Reader ModelContent
const_inside all = do
  word ← flag (codes "const") all
  if word.0 then (spec_expression word.1 >>= λ x. Some (const_model x.0, x.1)) else None

-- `type` and a model, or `const` and a spec expression
unfoldable pub model_content_inside : Reader ModelContent
model_content_inside all = do
  word ← flag (codes "type") all
  if word.0 then (model_type word.1 >>= λ ty. Some (type_model ty.0, ty.1)) else const_inside word.1

unfoldable pub model_definition : Reader ModelDefinition
model_definition all = do
  n ← name all
  val ← in_parentheses model_content_inside n.1
  Some (record { name = n.0; val = val.0 }, val.1)
