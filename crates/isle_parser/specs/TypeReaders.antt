-- Readers of types, after the keyword `type`.
use Rattle.std.specs.Prelude.{ℕ, ◌+◌, List, [], ◌∷◌, Bool, not, ◌||◌, Some, None, if◌then◌else◌, codes}
use Rattle.std.specs.List.{list_any}
use Rattle.isle_base_source.specs.declared.pos.Pos.{Pos}
use Rattle.isle_base.specs.Place.{Placed}
use Rattle.isle_base.specs.Token.{is_symbol}
use Rattle.isle_ast_names.specs.Tree.{Name}
use Rattle.isle_ast.specs.Tree.{NamedField, IndexedField, FieldList, unit_fields, struct_fields, tuple_fields, EnumVariant, TypeContent, primitive_type, enum_type, struct_type, TypeDefinition}
use Rattle.isle_ast.specs.TypeGrammar.{is_extern_word, is_nodebug_word}
use Rattle.isle_parser_cursor.specs.Reading.{Reader, ◌>>=◌, is_lparen, is_ahead, text, flag, pos_ahead, at_rparen, in_parentheses, many}
use Rattle.isle_parser_cursor.specs.NameReaders.{name}

-- the name and the type of a field, at this position
unfoldable pub field_inside : Pos → Reader NamedField
field_inside place all = do
  n ← name all
  ty ← name n.1
  Some (record { name = n.0; ty = ty.0; pos = place }, ty.1)

unfoldable pub named_field : Reader NamedField
named_field all = in_parentheses (field_inside (pos_ahead all)) all

-- a positional field, at the position of its type
abbrev pub indexed : ℕ → Name → IndexedField
indexed index ty = record { index = index; ty = ty; pos = ty.pos }

-- the types of positional fields, counted from this index
abbrev pub numbered : ℕ → List Name → List IndexedField
numbered index [] = []
numbered index (ty ∷ tys) = indexed index ty ∷ numbered (index + 1) tys

-- named fields, at the position of the first
abbrev pub named_fields : Reader FieldList
named_fields all = many at_rparen named_field all >>= λ fs. Some (struct_fields fs.0 (pos_ahead all), fs.1)

-- positional fields, at the position of the first
abbrev pub indexed_fields : Reader FieldList
indexed_fields all = many at_rparen name all >>= λ tys. Some (tuple_fields (numbered 0 tys.0) (pos_ahead all), tys.1)

unfoldable pub fields : Reader FieldList
fields all =
    if at_rparen all then Some (unit_fields, all)
    else (if is_ahead is_lparen all
    then (many at_rparen named_field all >>= λ fs. Some (struct_fields fs.0 (pos_ahead all), fs.1))
    else (many at_rparen name all >>= λ tys. Some (tuple_fields (numbered 0 tys.0) (pos_ahead all), tys.1)))

-- the name and the fields of a variant, at this position
unfoldable pub variant_inside : Pos → Reader EnumVariant
variant_inside place all = do
  n ← name all
  fs ← fields n.1
  Some (record { name = n.0; fields = fs.0; pos = place }, fs.1)

-- a bare name, or a variant in parentheses
unfoldable pub variant : Reader EnumVariant
variant all =
    if is_ahead is_symbol all
    then (name all >>= λ n. Some (record { name = n.0; fields = unit_fields; pos = pos_ahead all }, n.1))
    else in_parentheses (variant_inside (pos_ahead all)) all

unfoldable pub struct_content : Pos → Reader TypeContent
struct_content place all = do
  word ← flag (codes "struct") all
  if word.0 then (fields word.1 >>= λ fs. Some (struct_type fs.0 place, fs.1)) else None

unfoldable pub enum_content : Pos → Reader TypeContent
enum_content place all = do
  word ← flag (codes "enum") all
  if word.0 then (many at_rparen variant word.1 >>= λ vs. Some (enum_type vs.0 place, vs.1)) else struct_content place word.1

-- `primitive`, `enum` or `struct`, and the rest after the word
unfoldable pub content_inside : Pos → Reader TypeContent
content_inside place all = do
  word ← flag (codes "primitive") all
  if word.0 then (name word.1 >>= λ n. Some (primitive_type n.0 place, n.1)) else enum_content place word.1

unfoldable pub type_content : Reader TypeContent
type_content all = in_parentheses (content_inside (pos_ahead all)) all

-- one modifier
unfoldable pub modifier : Reader (List ℕ)
modifier all = do
  word ← text all
  if is_extern_word word.0 || is_nodebug_word word.0 then Some word else None

-- no symbol is ahead
abbrev pub no_symbol : List Placed → Bool
no_symbol all = not (is_ahead is_symbol all)

unfoldable pub modifiers : Reader (List (List ℕ))
modifiers = many no_symbol modifier

-- whether `extern` and `nodebug` are among the modifiers
abbrev pub modifier_flags : Reader (Bool × Bool)
modifier_flags all = modifiers all >>= λ words. Some ((list_any is_extern_word words.0, list_any is_nodebug_word words.0), words.1)

unfoldable pub type_definition : Reader TypeDefinition
type_definition all = do
  n ← name all
  words ← modifiers n.1
  content ← type_content words.1
  Some (
    record {
      name = n.0;
      is_extern = list_any is_extern_word words.0;
      is_nodebug = list_any is_nodebug_word words.0;
      ty = content.0;
      pos = pos_ahead all;
    },
    content.1,
  )
