-- Structs in models, as code reads them: a field is appended to its list before the struct that is
-- its model is read.
use Rattle.std.specs.Prelude.{◌≡◌, ◌<◌, Bool, true, false, List, [], ◌∷◌, ◌++◌, map, length, Option, Some, None, Result, Ok, Err, if◌then◌else◌, codes}
use Rattle.isle_base.specs.Place.{Placed}
use Rattle.isle_base.specs.Token.{Tok}
use Rattle.isle_ast_names.specs.declared.Ident.{Ident}
use Rattle.isle_ast_names.specs.Tree.{Name}
use Rattle.isle_ast_names.specs.TreeView.{name_of}
use Rattle.isle_ast_verification.specs.declared.ModelField.{ModelField}
use Rattle.isle_ast_verification.specs.declared.ModelType.{ModelType}
use Rattle.isle_ast_verification.specs.Tree.{TypeModel, bit_vector_model, struct_model}
use Rattle.isle_ast_verification.specs.TreeView.{type_model_of}
use Rattle.isle_parser_cursor.specs.declared.cursor.Cursor.{Cursor}
use Rattle.isle_parser_cursor.specs.declared.cursor.Stop.{Stop}
use Rattle.isle_parser_cursor.specs.Outcomes.{Stops, left, source}
use Rattle.isle_parser_cursor.specs.Reading.{Reader, ◌>>=◌, at_rparen, expect, flag, in_parentheses, is_ahead, is_lparen, is_rparen, many}
use Rattle.isle_parser_cursor.specs.NameReaders.{name}
use Rattle.isle_parser_verification.specs.ModelReaders.{model_field_inside, model_fields, model_type, model_word, named_inside, width}

-- a field of a struct
abbrev pub field : Reader (Name × TypeModel)
field = in_parentheses (model_field_inside model_type)

abbrev pub field_of : ModelField → Name × TypeModel
field_of f = (name_of f.name, type_model_of f.ty)

-- `)` twice
unfoldable pub both_closed : Reader Tok
both_closed all = do
  inner ← expect is_rparen all
  expect is_rparen inner.1

-- ---- a model up to `(struct`

-- a model that `read` reads, and `)`
unfoldable pub whole : Reader TypeModel → Reader (Option TypeModel)
whole read all = do
  ty ← read all
  rest ← expect is_rparen ty.1
  Some (Some ty.0, rest.1)

unfoldable pub bit_vector : Reader TypeModel
bit_vector all = width all >>= λ n. Some (bit_vector_model n.0, n.1)

unfoldable pub struct_front : Reader (Option TypeModel)
struct_front all = do
  word ← flag (codes "struct") all
  if word.0 then Some (None, word.1) else whole named_inside word.1

unfoldable pub inside_front : Reader (Option TypeModel)
inside_front all = do
  word ← flag (codes "bv") all
  if word.0 then whole bit_vector word.1 else struct_front word.1

-- a model that is not a struct, or `(struct`, for which there is none
unfoldable pub model_front : Reader (Option TypeModel)
model_front all =
    if is_ahead is_lparen all
    then (expect is_lparen all >>= λ inside. inside_front inside.1)
    else (model_word all >>= λ ty. Some (Some ty.0, ty.1))

-- ---- the rest after it

-- the fields of a struct, and `)`
unfoldable pub struct_rest : Reader TypeModel
struct_rest all = do
  fs ← many at_rparen field all
  rest ← expect is_rparen fs.1
  Some (struct_model (model_fields fs.0), rest.1)

-- nothing for a model that is complete, and the whole struct after `(struct`
abbrev pub model_rest : Option TypeModel → Reader TypeModel
model_rest None all = struct_rest all
model_rest (Some ty) all = Some (ty, all)

-- a field: its name and the front of its model first
unfoldable pub field_in_parts : Reader (Name × TypeModel)
field_in_parts all = do
  inside ← expect is_lparen all
  n ← name inside.1
  front ← model_front n.1
  ty ← model_rest front.0 front.1
  rest ← expect is_rparen ty.1
  Some ((n.0, ty.0), rest.1)

-- the fields of the struct that is this field's model, and `)` twice
unfoldable pub field_rest : Name → Reader (Name × TypeModel)
field_rest n all = do
  fs ← many at_rparen field all
  rest ← both_closed fs.1
  Some ((n, struct_model (model_fields fs.0)), rest.1)

-- nothing for a field that is complete, and else the rest after `(struct`
abbrev pub begun_rest : Bool → ModelField → Reader (Name × TypeModel)
begun_rest false f all = Some (field_of f, all)
begun_rest true f all = field_rest (name_of f.name) all

-- ---- the list of fields

-- One more field is in the list. The reader's result is that of the rest, after the field.
abbrev pub BeginsField : Result Bool Stop → List ModelField → List Placed → List ModelField → Cursor → Type 0
BeginsField (Ok is_open) before all after new =
    (f : ModelField)
    × (after ≡ before ++ f ∷ [])
    × (field all ≡ begun_rest is_open f (left new))
    × (length (left new) < length all)
BeginsField (Err e) before all after new = Stops (field all) (source new) e

-- One more field is in the list, and it is the one that was read.
abbrev pub AppendsField : {X : Type 0} → Result X Stop → List ModelField → List Placed → List ModelField → Cursor → Type 0
AppendsField (Ok _) before all after new =
    (f : Name × TypeModel)
    × (field all ≡ Some (f, left new))
    × (map field_of after ≡ map field_of before ++ f ∷ [])
AppendsField (Err e) before all after new = Stops (field all) (source new) e

abbrev pub field_with : Ident → ModelType → ModelField
field_with n ty = record { name = n; ty = ty }

-- the last field has this model now
abbrev pub HasModel : List ModelField → List ModelField → ModelType → Type 0
HasModel before after ty =
    (front : List ModelField) (f : ModelField)
    → before ≡ front ++ f ∷ []
    → after ≡ front ++ field_with f.name ty ∷ []

-- a struct of these fields
abbrev pub struct_of : List ModelField → TypeModel
struct_of fs = struct_model (model_fields (map field_of fs))

-- the last field's model is now the struct of these fields
abbrev pub HasStruct : List ModelField → List ModelField → List ModelField → Type 0
HasStruct before after inner =
    (front : List ModelField) (f : ModelField)
    → before ≡ front ++ f ∷ []
    → map field_of after ≡ map field_of front ++ (name_of f.name, struct_of inner) ∷ []
