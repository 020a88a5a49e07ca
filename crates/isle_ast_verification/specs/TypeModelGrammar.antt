-- The models of types.
use Rattle.std.specs.Prelude.{◌≡◌, List, codes}
use Rattle.isle_base.specs.Place.{Placed}
use Rattle.isle_ast_names.specs.Numbers.{SpellsNumber}
use Rattle.isle_ast_verification.specs.Tree.{TypeModel, unspecified_model, auto_model, int_model, bool_model, unit_model, bit_vector_model, struct_model, named_model, ModelFieldList, no_model_field, model_field}
use Rattle.isle_ast_names.specs.Words.{SpellsWord, InParentheses, BehindWord, SpellsName, SpellsOptional}

-- `!`, `_`, `Int`, `Bool`, `Unit`, `(bv)` or `(bv N)`, `(struct (I MODEL)..)`, `(named I)`
abbrev mutual
  pub SpellsTypeModel : TypeModel → List Placed → List Placed → Type 0
  SpellsTypeModel unspecified_model all rest = SpellsWord (codes "!") all rest
  SpellsTypeModel auto_model all rest = SpellsWord (codes "_") all rest
  SpellsTypeModel int_model all rest = SpellsWord (codes "Int") all rest
  SpellsTypeModel bool_model all rest = SpellsWord (codes "Bool") all rest
  SpellsTypeModel unit_model all rest = SpellsWord (codes "Unit") all rest
  SpellsTypeModel (bit_vector_model width) all rest =
      InParentheses (BehindWord (codes "bv") (SpellsOptional SpellsNumber width)) all rest
  SpellsTypeModel (struct_model fields) all rest =
      InParentheses (BehindWord (codes "struct") (SpellsModelFields fields)) all rest
  SpellsTypeModel (named_model name) all rest = InParentheses (BehindWord (codes "named") (SpellsName name)) all rest

  pub SpellsModelFields : ModelFieldList → List Placed → List Placed → Type 0
  SpellsModelFields no_model_field all rest = all ≡ rest
  SpellsModelFields (model_field name ty fields) all rest =
      (mid : List Placed)
      × InParentheses (λ inner close. (behind : List Placed) × SpellsName name inner behind × SpellsTypeModel ty behind close) all mid
      × SpellsModelFields fields mid rest
