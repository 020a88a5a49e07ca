-- Readers of models of types.
use Rattle.std.specs.Prelude.{[], ℕ, zero, suc, ◌^◌, ℤ, pos, negsuc, List, ◌∷◌, length, Option, Some, None, nat_lt, if◌then◌else◌, codes}
use Rattle.std.specs.Str.{bytes_eq}
use Rattle.isle_base.specs.Place.{Placed}
use Rattle.isle_base.specs.Token.{Tok, lparen, rparen, symbol, integer, at_sign, is_int}
use Rattle.isle_ast_names.specs.Tree.{Name}
use Rattle.isle_ast_verification.specs.Tree.{TypeModel, unspecified_model, auto_model, int_model, bool_model, unit_model, bit_vector_model, struct_model, named_model, ModelFieldList, no_model_field, model_field}
use Rattle.isle_parser_cursor.specs.Reading.{Reader, ◌>>=◌, is_lparen, is_ahead, expect, text, token_ahead, flag, at_rparen, in_parentheses, many}
use Rattle.isle_parser_cursor.specs.NameReaders.{name}

-- the number of a token, if it fits a `usize`
abbrev pub number_of_integer : ℤ → Option ℕ
number_of_integer (pos n) = if nat_lt n (2 ^ 64) then Some n else None
number_of_integer (negsuc n) = None

abbrev pub number_of_token : Tok → Option ℕ
number_of_token lparen = None
number_of_token rparen = None
number_of_token (symbol _) = None
number_of_token (integer value) = number_of_integer value
number_of_token at_sign = None

unfoldable pub number : Reader ℕ
number all = do
  x ← expect is_int all
  n ← number_of_token x.0
  Some (n, x.1)

-- a number, or none before `)`
unfoldable pub width : Reader (Option ℕ)
width all = if at_rparen all then Some (None, all) else (number all >>= λ n. Some (Some n.0, n.1))

-- the fields of a struct, from a list
abbrev pub model_fields : List (Name × TypeModel) → ModelFieldList
model_fields [] = no_model_field
model_fields (f ∷ fs) = model_field f.0 f.1 (model_fields fs)

-- a name and a model, read by `read`
unfoldable pub model_field_inside : Reader TypeModel → Reader (Name × TypeModel)
model_field_inside read all = do
  n ← name all
  ty ← read n.1
  Some ((n.0, ty.0), ty.1)

unfoldable pub named_inside : Reader TypeModel
named_inside all = do
  word ← flag (codes "named") all
  if word.0 then (name word.1 >>= λ n. Some (named_model n.0, n.1)) else None

unfoldable pub struct_inside : Reader TypeModel → Reader TypeModel
struct_inside read all = do
  word ← flag (codes "struct") all
  if word.0
      then (many at_rparen (in_parentheses (model_field_inside read)) word.1 >>= λ fs. Some (struct_model (model_fields fs.0), fs.1))
      else named_inside word.1

-- `bv`, `struct` or `named`, and the rest of the model
unfoldable pub model_inside : Reader TypeModel → Reader TypeModel
model_inside read all = do
  word ← flag (codes "bv") all
  if word.0 then (width word.1 >>= λ n. Some (bit_vector_model n.0, n.1)) else struct_inside read word.1

-- the model of a symbol
abbrev pub model_of_word : List ℕ → Option TypeModel
model_of_word word =
    if bytes_eq word (codes "!") then Some unspecified_model
    else (if bytes_eq word (codes "_") then Some auto_model
    else (if bytes_eq word (codes "Bool") then Some bool_model
    else (if bytes_eq word (codes "Int") then Some int_model
    else (if bytes_eq word (codes "Unit") then Some unit_model
    else None))))

abbrev pub model_of_token : Tok → Option TypeModel
model_of_token lparen = None
model_of_token rparen = None
model_of_token (symbol word) = model_of_word word
model_of_token (integer _) = None
model_of_token at_sign = None

abbrev pub model_of_ahead : Option Tok → Option TypeModel
model_of_ahead None = None
model_of_ahead (Some token) = model_of_token token

-- the model of the word ahead
abbrev pub model_ahead : List Placed → Option TypeModel
model_ahead all = model_of_ahead (token_ahead all)

unfoldable pub model_word : Reader TypeModel
model_word all = do
  word ← text all
  m ← model_of_word word.0
  Some (m, word.1)

-- one layer of a model, whose parts `read` reads
unfoldable pub model_step : Reader TypeModel → Reader TypeModel
model_step read all = if is_ahead is_lparen all then in_parentheses (model_inside read) all else model_word all

-- a model of at most this many layers
unfoldable pub model_within : ℕ → Reader TypeModel
model_within zero all = None
model_within (suc n) all = model_step (model_within n) all

unfoldable pub model_type : Reader TypeModel
model_type all = model_within (suc (length all)) all

-- `(`, this word, models, `)`
unfoldable pub tagged_inside : List ℕ → Reader (List TypeModel)
tagged_inside tag all = do
  word ← flag tag all
  if word.0 then many at_rparen model_type word.1 else None

unfoldable pub tagged_types : List ℕ → Reader (List TypeModel)
tagged_types tag = in_parentheses (tagged_inside tag)

-- `(`, this word, a model, `)`
unfoldable pub tagged_one_inside : List ℕ → Reader TypeModel
tagged_one_inside tag all = do
  word ← flag tag all
  if word.0 then model_type word.1 else None

unfoldable pub tagged_type : List ℕ → Reader TypeModel
tagged_type tag = in_parentheses (tagged_one_inside tag)
