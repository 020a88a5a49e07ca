-- The positions in models of types are those of their tokens.
use Rattle.std.proofs.Common.{ℕ, List, Option, None, Some}
use Rattle.std.specs.Prelude.{codes}
use Rattle.std.specs.List.{AllByRecursion}
use Rattle.isle_base_source.specs.declared.pos.Pos.{Pos}
use Rattle.isle_base.specs.Place.{Placed}
use Rattle.isle_ast_names.specs.Numbers.{SpellsNumber}
use Rattle.isle_ast_verification.specs.Tree.{TypeModel, unspecified_model, auto_model, int_model, bool_model, unit_model, bit_vector_model, struct_model, named_model, ModelFieldList, no_model_field, model_field}
use Rattle.isle_ast_names.specs.Words.{SpellsName, SpellsOptional, SpellsAll}
use Rattle.isle_ast_verification.specs.TypeModelGrammar.{SpellsTypeModel, SpellsModelFields}
use Rattle.isle_parser_cursor.specs.Positions.{OfName}
use Rattle.isle_parser_verification.specs.Positions.{OfModel, OfModelFields}
use Rattle.isle_parser_cursor.proofs.Stands.{Into, token_stands, same_stands, name_stands, tagged_stands, Stands, list_stands}

width_stands : (w : Option ℕ) (all rest : List Placed) → SpellsOptional SpellsNumber w all rest → (P : Pos → Type 0) → Into all P → Into rest P
width_stands None all rest h P into = same_stands h P into
width_stands (Some n) all rest h P into = token_stands h.1 P into

mutual
  pub type_model_stands : (m : TypeModel) (all rest : List Placed) → SpellsTypeModel m all rest → (P : Pos → Type 0) → Into all P → OfModel P m × Into rest P
  type_model_stands unspecified_model all rest h P into = (tt, token_stands h P into)
  type_model_stands auto_model all rest h P into = (tt, token_stands h P into)
  type_model_stands int_model all rest h P into = (tt, token_stands h P into)
  type_model_stands bool_model all rest h P into = (tt, token_stands h P into)
  type_model_stands unit_model all rest h P into = (tt, token_stands h P into)
  type_model_stands (bit_vector_model w) all rest h P into =
      (tt, token_stands h.4 P (width_stands w h.3.0 h.1 h.3.2 P (token_stands h.3.1 P (token_stands h.2 P into))))
  type_model_stands (struct_model fs) all rest h P into =
      let inner = model_fields_stand fs h.3.0 h.1 h.3.2 P (token_stands h.3.1 P (token_stands h.2 P into)) in
      (inner.0, token_stands h.4 P inner.1)
  type_model_stands (named_model n) all rest h P into = tagged_stands (codes "named") SpellsName OfName name_stands n all rest h P into

  model_fields_stand : (fs : ModelFieldList) (all rest : List Placed) → SpellsModelFields fs all rest → (P : Pos → Type 0) → Into all P → OfModelFields P fs × Into rest P
  model_fields_stand no_model_field all rest h P into = (tt, same_stands h P into)
  model_fields_stand (model_field n ty fs) all rest h P into =
      let one = h.1 in
      let name = name_stands n one.0 one.3.0 one.3.1 P (token_stands one.2 P into) in
      let model = type_model_stands ty one.3.0 one.1 one.3.2 P name.1 in
      let others = model_fields_stand fs h.0 rest h.2 P (token_stands one.4 P model.1) in
      ((name.0, model.0, others.0), others.1)

-- ---- models

pub models_stand : Stands (SpellsAll SpellsTypeModel) (λ P ms. AllByRecursion (OfModel P) ms)
models_stand = list_stands SpellsTypeModel OfModel type_model_stands
