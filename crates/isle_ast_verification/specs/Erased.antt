-- Models of types and specs erased: each position becomes the default one.
use Rattle.std.specs.Prelude.{map}
use Rattle.isle_ast_verification.specs.Tree.{TypeModel, unspecified_model, auto_model, int_model, bool_model, unit_model, bit_vector_model, struct_model, named_model, ModelFieldList, no_model_field, model_field, SpecNode, int_spec, bit_vector_spec, bool_spec, var_spec, as_spec, field_spec, discriminator_spec, op_spec, match_spec, let_spec, with_spec, macro_spec, expand_spec, pair_spec, enum_spec, struct_spec, SpecList, no_spec, more_spec, ArmList, no_arm, more_arm, SpecLetList, no_spec_let, more_spec_let, FieldInitList, no_field_init, more_field_init, ModifiedState, SpecDefinition, SpecMacroDefinition, StateDefinition}
use Rattle.isle_ast_names.specs.Erased.{erase_name, erase_names, erase_optional}
use Rattle.isle_base.specs.Place.{unknown}

abbrev mutual
  pub erase_model : TypeModel → TypeModel
  erase_model unspecified_model = unspecified_model
  erase_model auto_model = auto_model
  erase_model int_model = int_model
  erase_model bool_model = bool_model
  erase_model unit_model = unit_model
  erase_model (bit_vector_model width) = bit_vector_model width
  erase_model (struct_model fields) = struct_model (erase_model_fields fields)
  erase_model (named_model name) = named_model (erase_name name)

  pub erase_model_fields : ModelFieldList → ModelFieldList
  erase_model_fields no_model_field = no_model_field
  erase_model_fields (model_field name ty fields) =
      model_field (erase_name name) (erase_model ty) (erase_model_fields fields)

abbrev mutual
  pub erase_spec : SpecNode → SpecNode
  erase_spec (int_spec val _) = int_spec val unknown
  erase_spec (bit_vector_spec val width _) = bit_vector_spec val width unknown
  erase_spec (bool_spec val _) = bool_spec val unknown
  erase_spec (var_spec var _) = var_spec (erase_name var) unknown
  erase_spec (as_spec x ty _) = as_spec (erase_spec x) (erase_model ty) unknown
  erase_spec (field_spec field x _) = field_spec (erase_name field) (erase_spec x) unknown
  erase_spec (discriminator_spec variant x _) = discriminator_spec (erase_name variant) (erase_spec x) unknown
  erase_spec (op_spec op args _) = op_spec op (erase_specs args) unknown
  erase_spec (match_spec x arms _) = match_spec (erase_spec x) (erase_arms arms) unknown
  erase_spec (let_spec defs body _) = let_spec (erase_spec_lets defs) (erase_spec body) unknown
  erase_spec (with_spec decls body _) = with_spec (erase_names decls) (erase_spec body) unknown
  erase_spec (macro_spec params body _) = macro_spec (erase_names params) (erase_spec body) unknown
  erase_spec (expand_spec name args _) = expand_spec (erase_name name) (erase_specs args) unknown
  erase_spec (pair_spec l r _) = pair_spec (erase_spec l) (erase_spec r) unknown
  erase_spec (enum_spec name variant args _) = enum_spec (erase_name name) (erase_name variant) (erase_specs args) unknown
  erase_spec (struct_spec fields _) = struct_spec (erase_field_inits fields) unknown

  pub erase_specs : SpecList → SpecList
  erase_specs no_spec = no_spec
  erase_specs (more_spec x xs) = more_spec (erase_spec x) (erase_specs xs)

  pub erase_arms : ArmList → ArmList
  erase_arms no_arm = no_arm
  erase_arms (more_arm variant args body _ arms) =
      more_arm (erase_name variant) (erase_names args) (erase_spec body) unknown (erase_arms arms)

  pub erase_spec_lets : SpecLetList → SpecLetList
  erase_spec_lets no_spec_let = no_spec_let
  erase_spec_lets (more_spec_let name value lets) =
      more_spec_let (erase_name name) (erase_spec value) (erase_spec_lets lets)

  pub erase_field_inits : FieldInitList → FieldInitList
  erase_field_inits no_field_init = no_field_init
  erase_field_inits (more_field_init name value _ fields) =
      more_field_init (erase_name name) (erase_spec value) unknown (erase_field_inits fields)

abbrev pub erase_modified : ModifiedState → ModifiedState
erase_modified m = record { state = erase_name m.state; cond = erase_optional m.cond }

abbrev pub erase_spec_definition : SpecDefinition → SpecDefinition
erase_spec_definition s =
    record {
      term = erase_name s.term;
      args = erase_names s.args;
      provides = map erase_spec s.provides;
      requires_ = map erase_spec s.requires_;
      matches = map erase_spec s.matches;
      modifies = map erase_modified s.modifies;
      pos = unknown;
    }

abbrev pub erase_spec_macro : SpecMacroDefinition → SpecMacroDefinition
erase_spec_macro m =
    record { name = erase_name m.name; params = erase_names m.params; body = erase_spec m.body; pos = unknown }

abbrev pub erase_state : StateDefinition → StateDefinition
erase_state s =
    record { name = erase_name s.name; ty = erase_model s.ty; default = erase_spec s.default; pos = unknown }
