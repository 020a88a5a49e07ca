-- The relations of models of types keep the laws.
use Rattle.std.proofs.Common.{◌≡◌, ℕ, pos, ◌<◌, ◌^◌, List, codes, map, Option, None, Some, refl}
use Rattle.isle_base_source.specs.declared.pos.Pos.{Pos}
use Rattle.isle_base.specs.Place.{Placed}
use Rattle.isle_base.specs.Token.{integer}
use Rattle.isle_ast_names.specs.Numbers.{SpellsNumber}
use Rattle.isle_ast_names.specs.Tree.{Name}
use Rattle.isle_ast_verification.specs.Tree.{TypeModel, unspecified_model, auto_model, int_model, bool_model, unit_model, bit_vector_model, struct_model, named_model, ModelFieldList, no_model_field, model_field}
use Rattle.isle_ast_names.specs.Words.{SpellsWord, SpellsAll, InParentheses, BehindWord, SpellsName, SpellsOptional}
use Rattle.isle_ast_names.specs.Erased.{erase_name}
use Rattle.isle_ast_verification.specs.Erased.{erase_model, erase_model_fields}
use Rattle.isle_ast_verification.specs.TypeModelGrammar.{SpellsTypeModel, SpellsModelFields}
use Rattle.isle_ast_names.proofs.Lawful.{Plain, Lawful, Then, token_plain, word_plain, nothing_plain, then_plain, parentheses_plain, where_plain, plain_lawful, name_lawful, pair_lawful, made_lawful, parentheses_lawful, word_lawful}

-- models of types

is_unspecified : (y : TypeModel) → unspecified_model ≡ erase_model y → unspecified_model ≡ y
is_unspecified unspecified_model same = refl
is_unspecified _ same = cc

is_auto : (y : TypeModel) → auto_model ≡ erase_model y → auto_model ≡ y
is_auto auto_model same = refl
is_auto _ same = cc

is_int : (y : TypeModel) → int_model ≡ erase_model y → int_model ≡ y
is_int int_model same = refl
is_int _ same = cc

is_bool : (y : TypeModel) → bool_model ≡ erase_model y → bool_model ≡ y
is_bool bool_model same = refl
is_bool _ same = cc

is_unit : (y : TypeModel) → unit_model ≡ erase_model y → unit_model ≡ y
is_unit unit_model same = refl
is_unit _ same = cc

is_bit_vector : (width : Option ℕ) (y : TypeModel) → bit_vector_model width ≡ erase_model y → bit_vector_model width ≡ y
is_bit_vector width (bit_vector_model w) same = same
is_bit_vector width _ same = cc

is_struct : (fs : ModelFieldList) (y : TypeModel) → struct_model (erase_model_fields fs) ≡ erase_model y →
    (z : ModelFieldList) × (y ≡ struct_model z) × (erase_model_fields fs ≡ erase_model_fields z)
is_struct fs (struct_model gs) same = (gs, refl, cc)
is_struct fs _ same = cc

is_named : (name : Name) (y : TypeModel) → named_model (erase_name name) ≡ erase_model y →
    (z : Name) × (y ≡ named_model z) × (erase_name name ≡ erase_name z)
is_named name (named_model n) same = (n, refl, cc)
is_named name _ same = cc

is_no_field : (y : ModelFieldList) → no_model_field ≡ erase_model_fields y → no_model_field ≡ y
is_no_field no_model_field same = refl
is_no_field _ same = cc

abbrev FieldNode : Type 0
FieldNode = (Name × TypeModel) × ModelFieldList

abbrev erase_part : Name × TypeModel → Name × TypeModel
erase_part p = (erase_name p.0, erase_model p.1)

abbrev erase_field_node : FieldNode → FieldNode
erase_field_node p = (erase_part p.0, erase_model_fields p.1)

abbrev field_list : FieldNode → ModelFieldList
field_list p = model_field p.0.0 p.0.1 p.1

abbrev Part : Name × TypeModel → List Placed → List Placed → Type 0
Part p = Then (SpellsName p.0) (SpellsTypeModel p.1)

abbrev FieldList : FieldNode → List Placed → List Placed → Type 0
FieldList p = Then (InParentheses (Part p.0)) (SpellsModelFields p.1)

is_field : (name : Name) (ty : TypeModel) (fields : ModelFieldList) (y : ModelFieldList) →
    model_field (erase_name name) (erase_model ty) (erase_model_fields fields) ≡ erase_model_fields y →
    (z : FieldNode) × (y ≡ field_list z) × (erase_field_node ((name, ty), fields) ≡ erase_field_node z)
is_field name ty fields (model_field n t fs) same =
    let names : erase_name name ≡ erase_name n = cc in
    let types : erase_model ty ≡ erase_model t = cc in
    let lists : erase_model_fields fields ≡ erase_model_fields fs = cc in
    (((n, t), fs), refl, λ i. ((names i, types i), lists i))
is_field name ty fields _ same = cc

number_plain : (n : ℕ) → Plain (SpellsNumber n)
number_plain n = where_plain (n < 2 ^ 64) _ (token_plain (integer (pos n)))

width_plain : (width : Option ℕ) → Plain (SpellsOptional SpellsNumber width)
width_plain None = nothing_plain
width_plain (Some n) = number_plain n

word_of : (model : TypeModel) → erase_model model ≡ model → ((y : TypeModel) → erase_model model ≡ erase_model y → model ≡ y) →
    Plain (SpellsTypeModel model) → Lawful SpellsTypeModel erase_model model
word_of model still only plain = plain_lawful SpellsTypeModel erase_model model still only plain

mutual
  pub model_lawful : (model : TypeModel) → Lawful SpellsTypeModel erase_model model
  model_lawful unspecified_model = word_of unspecified_model refl is_unspecified (word_plain (codes "!"))
  model_lawful auto_model = word_of auto_model refl is_auto (word_plain (codes "_"))
  model_lawful int_model = word_of int_model refl is_int (word_plain (codes "Int"))
  model_lawful bool_model = word_of bool_model refl is_bool (word_plain (codes "Bool"))
  model_lawful unit_model = word_of unit_model refl is_unit (word_plain (codes "Unit"))
  model_lawful (bit_vector_model width) =
      word_of (bit_vector_model width) refl (is_bit_vector width)
      (parentheses_plain (BehindWord (codes "bv") (SpellsOptional SpellsNumber width))
      (then_plain (SpellsWord (codes "bv")) (SpellsOptional SpellsNumber width) (word_plain (codes "bv")) (width_plain width)))
  model_lawful (struct_model fields) =
      made_lawful SpellsTypeModel erase_model (λ fs. InParentheses (BehindWord (codes "struct") (SpellsModelFields fs))) erase_model_fields struct_model
      (λ y all rest h. h) (λ y all rest h. h) (λ y. refl) fields (is_struct fields)
      (parentheses_lawful (λ fs. BehindWord (codes "struct") (SpellsModelFields fs)) erase_model_fields fields
      (word_lawful (codes "struct") SpellsModelFields erase_model_fields fields (model_fields_lawful fields)))
  model_lawful (named_model name) =
      made_lawful SpellsTypeModel erase_model (λ n. InParentheses (BehindWord (codes "named") (SpellsName n))) erase_name named_model
      (λ y all rest h. h) (λ y all rest h. h) (λ y. refl) name (is_named name)
      (parentheses_lawful (λ n. BehindWord (codes "named") (SpellsName n)) erase_name name
      (word_lawful (codes "named") SpellsName erase_name name (name_lawful name)))

  model_fields_lawful : (fields : ModelFieldList) → Lawful SpellsModelFields erase_model_fields fields
  model_fields_lawful no_model_field = plain_lawful SpellsModelFields erase_model_fields no_model_field refl is_no_field nothing_plain
  model_fields_lawful (model_field name ty fields) =
      made_lawful SpellsModelFields erase_model_fields FieldList erase_field_node field_list
      (λ y all rest h. h) (λ y all rest h. h) (λ y. refl) ((name, ty), fields) (is_field name ty fields)
      (pair_lawful (λ p. InParentheses (Part p)) erase_part SpellsModelFields erase_model_fields (name, ty) fields
      (parentheses_lawful Part erase_part (name, ty)
      (pair_lawful SpellsName erase_name SpellsTypeModel erase_model name ty (name_lawful name) (model_lawful ty)))
      (model_fields_lawful fields))

-- signatures

abbrev pub Args : List TypeModel → List Placed → List Placed → Type 0
Args args = InParentheses (BehindWord (codes "args") (SpellsAll SpellsTypeModel args))

abbrev pub Ret : TypeModel → List Placed → List Placed → Type 0
Ret ret = InParentheses (BehindWord (codes "ret") (SpellsTypeModel ret))

abbrev pub SignatureNode : Type 0
SignatureNode = Pos × (List TypeModel × TypeModel)

abbrev pub erase_parts : List TypeModel × TypeModel → List TypeModel × TypeModel
erase_parts p = (map erase_model p.0, erase_model p.1)
