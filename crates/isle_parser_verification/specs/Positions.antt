-- The positions in models of types, in spec expressions and in the definitions made of them.
use Rattle.std.specs.List.{AllByRecursion}
use Rattle.isle_base_source.specs.declared.pos.Pos.{Pos}
use Rattle.isle_ast_verification.specs.Tree.{TypeModel, unspecified_model, auto_model, int_model, bool_model, unit_model, bit_vector_model, struct_model, named_model, ModelFieldList, no_model_field}
use Rattle.isle_ast_verification.specs.Tree.{model_field, ModifiedState, SpecDefinition, SpecMacroDefinition, StateDefinition, SpecNode, int_spec, bit_vector_spec, bool_spec, var_spec, as_spec}
use Rattle.isle_ast_verification.specs.Tree.{field_spec, discriminator_spec, op_spec, match_spec, let_spec, with_spec, macro_spec, expand_spec, pair_spec, enum_spec, struct_spec, SpecList, no_spec}
use Rattle.isle_ast_verification.specs.Tree.{more_spec, ArmList, no_arm, more_arm, SpecLetList, no_spec_let, more_spec_let, FieldInitList, no_field_init, more_field_init}
use Rattle.isle_parser_cursor.specs.Positions.{OfName, OfNames, OfOptionalName}

-- a model of a type has only the positions of its names
abbrev mutual
  pub OfModel : (Pos → Type 0) → TypeModel → Type 0
  OfModel P unspecified_model = Unit {0}
  OfModel P auto_model = Unit {0}
  OfModel P int_model = Unit {0}
  OfModel P bool_model = Unit {0}
  OfModel P unit_model = Unit {0}
  OfModel P (bit_vector_model width) = Unit {0}
  OfModel P (struct_model fields) = OfModelFields P fields
  OfModel P (named_model name) = OfName P name

  pub OfModelFields : (Pos → Type 0) → ModelFieldList → Type 0
  OfModelFields P no_model_field = Unit {0}
  OfModelFields P (model_field name ty fields) = OfName P name × OfModel P ty × OfModelFields P fields

abbrev mutual
  pub OfSpec : (Pos → Type 0) → SpecNode → Type 0
  OfSpec P (int_spec val pos) = P pos
  OfSpec P (bit_vector_spec val width pos) = P pos
  OfSpec P (bool_spec val pos) = P pos
  OfSpec P (var_spec var pos) = P pos × OfName P var
  OfSpec P (as_spec x ty pos) = P pos × OfSpec P x × OfModel P ty
  OfSpec P (field_spec field x pos) = P pos × OfName P field × OfSpec P x
  OfSpec P (discriminator_spec variant x pos) = P pos × OfName P variant × OfSpec P x
  OfSpec P (op_spec operator args pos) = P pos × OfSpecs P args
  OfSpec P (match_spec x arms pos) = P pos × OfSpec P x × OfArms P arms
  OfSpec P (let_spec defs body pos) = P pos × OfSpecLets P defs × OfSpec P body
  OfSpec P (with_spec decls body pos) = P pos × OfNames P decls × OfSpec P body
  OfSpec P (macro_spec params body pos) = P pos × OfNames P params × OfSpec P body
  OfSpec P (expand_spec name args pos) = P pos × OfName P name × OfSpecs P args
  OfSpec P (pair_spec l r pos) = P pos × OfSpec P l × OfSpec P r
  OfSpec P (enum_spec name variant args pos) = P pos × OfName P name × OfName P variant × OfSpecs P args
  OfSpec P (struct_spec fields pos) = P pos × OfFieldInits P fields

  pub OfSpecs : (Pos → Type 0) → SpecList → Type 0
  OfSpecs P no_spec = Unit {0}
  OfSpecs P (more_spec x xs) = OfSpec P x × OfSpecs P xs

  pub OfArms : (Pos → Type 0) → ArmList → Type 0
  OfArms P no_arm = Unit {0}
  OfArms P (more_arm variant args body pos arms) =
      P pos × OfName P variant × OfNames P args × OfSpec P body × OfArms P arms

  pub OfSpecLets : (Pos → Type 0) → SpecLetList → Type 0
  OfSpecLets P no_spec_let = Unit {0}
  OfSpecLets P (more_spec_let name value lets) = OfName P name × OfSpec P value × OfSpecLets P lets

  pub OfFieldInits : (Pos → Type 0) → FieldInitList → Type 0
  OfFieldInits P no_field_init = Unit {0}
  OfFieldInits P (more_field_init name value pos fields) = P pos × OfName P name × OfSpec P value × OfFieldInits P fields

abbrev pub OfModified : (Pos → Type 0) → ModifiedState → Type 0
OfModified P m = OfName P m.state × OfOptionalName P m.cond

abbrev pub OfSpecDefinition : (Pos → Type 0) → SpecDefinition → Type 0
OfSpecDefinition P s =
    P s.pos × OfName P s.term × OfNames P s.args × AllByRecursion (OfSpec P) s.provides
    × AllByRecursion (OfSpec P) s.requires_ × AllByRecursion (OfSpec P) s.matches × AllByRecursion (OfModified P) s.modifies

abbrev pub OfSpecMacro : (Pos → Type 0) → SpecMacroDefinition → Type 0
OfSpecMacro P m = P m.pos × OfName P m.name × OfNames P m.params × OfSpec P m.body

abbrev pub OfState : (Pos → Type 0) → StateDefinition → Type 0
OfState P s = P s.pos × OfName P s.name × OfModel P s.ty × OfSpec P s.default
