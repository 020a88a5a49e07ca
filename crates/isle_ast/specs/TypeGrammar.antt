-- The definitions of types: `type`.
use Rattle.std.specs.Prelude.{◌≡◌, ℕ, ◌+◌, List, [], ◌∷◌, Bool, true, ◌||◌, ◌⊎◌, codes}
use Rattle.std.specs.List.{list_all, list_any}
use Rattle.std.specs.Str.{bytes_eq}
use Rattle.isle_base.specs.Place.{Placed}
use Rattle.isle_ast.specs.Tree.{NamedField, IndexedField, FieldList, unit_fields, struct_fields, tuple_fields, EnumVariant, TypeContent, primitive_type, enum_type, struct_type, TypeDefinition}
use Rattle.isle_ast_names.specs.Words.{SpellsWord, BeginsAt, SpellsAll, InParentheses, BehindWord, SpellsName, IsNonEmpty}

-- `(name type)`
abbrev pub SpellsNamedField : NamedField → List Placed → List Placed → Type 0
SpellsNamedField f all rest =
    BeginsAt f.pos all
    × InParentheses (λ inner close. (mid : List Placed) × SpellsName f.name inner mid × SpellsName f.ty mid close) all rest

-- the types of positional fields, counted from this index
abbrev pub SpellsIndexedFields : ℕ → List IndexedField → List Placed → List Placed → Type 0
SpellsIndexedFields index [] all rest = all ≡ rest
SpellsIndexedFields index (f ∷ fs) all rest =
    (f.index ≡ index) × BeginsAt f.pos all
    × (mid : List Placed) × SpellsName f.ty all mid × SpellsIndexedFields (index + 1) fs mid rest

-- Nothing, one or more named fields, or one or more positional fields. Their position is that of
-- the first token of the first field.
abbrev pub SpellsFields : FieldList → List Placed → List Placed → Type 0
SpellsFields unit_fields all rest = all ≡ rest
SpellsFields (struct_fields fields pos) all rest =
    IsNonEmpty fields × BeginsAt pos all × SpellsAll SpellsNamedField fields all rest
SpellsFields (tuple_fields fields pos) all rest =
    IsNonEmpty fields × BeginsAt pos all × SpellsIndexedFields 0 fields all rest

-- `(name fields..)`, or the bare name of a variant without fields
abbrev pub SpellsVariant : EnumVariant → List Placed → List Placed → Type 0
SpellsVariant v all rest =
    BeginsAt v.pos all
    × ((SpellsName v.name all rest × (v.fields ≡ unit_fields))
    ⊎ InParentheses (λ inner close. (mid : List Placed) × SpellsName v.name inner mid × SpellsFields v.fields mid close) all rest)

-- `(primitive I)`, `(enum VARIANT..)` or `(struct FIELDS)`, at the position of its `(`
abbrev pub SpellsTypeContent : TypeContent → List Placed → List Placed → Type 0
SpellsTypeContent (primitive_type name pos) all rest =
    BeginsAt pos all × InParentheses (BehindWord (codes "primitive") (SpellsName name)) all rest
SpellsTypeContent (enum_type variants pos) all rest =
    BeginsAt pos all × InParentheses (BehindWord (codes "enum") (SpellsAll SpellsVariant variants)) all rest
SpellsTypeContent (struct_type fields pos) all rest =
    BeginsAt pos all × InParentheses (BehindWord (codes "struct") (SpellsFields fields)) all rest

abbrev pub is_extern_word : List ℕ → Bool
is_extern_word word = bytes_eq word (codes "extern")

abbrev pub is_nodebug_word : List ℕ → Bool
is_nodebug_word word = bytes_eq word (codes "nodebug")

-- The words `extern` and `nodebug`, any number of times and in any order. Each sets its flag.
pub record SpellsModifiers (is_extern is_nodebug : Bool) (all rest : List Placed) : Type 0 where
  pub words : List (List ℕ)
  pub each : list_all (λ word. is_extern_word word || is_nodebug_word word) words ≡ true
  pub extern_set : list_any is_extern_word words ≡ is_extern
  pub nodebug_set : list_any is_nodebug_word words ≡ is_nodebug
  pub spelt : SpellsAll SpellsWord words all rest

-- the name, the modifiers, the content
pub record SpellsTypeDefinition (t : TypeDefinition) (all rest : List Placed) : Type 0 where
  pub position : BeginsAt t.pos all
  pub behind_name : List Placed
  pub name : SpellsName t.name all behind_name
  pub behind_modifiers : List Placed
  pub modifiers : SpellsModifiers t.is_extern t.is_nodebug behind_name behind_modifiers
  pub ty : SpellsTypeContent t.ty behind_modifiers rest
