-- The conditions on writable models of types and specs, as tests.
use Rattle.std.specs.Prelude.{ℕ, ◌^◌, nat_lt, Bool, true, ◌&&◌, Option, None, Some, nat_le, false, not}
use Rattle.std.specs.List.{list_all}
use Rattle.isle_ast_verification.specs.TreeView.{SingleModelField, SingleArm, SingleFieldInit, spec_list_of}
use Rattle.isle_ast_verification.specs.Tree.{TypeModel, unspecified_model, auto_model, int_model, bool_model, unit_model, bit_vector_model, struct_model, named_model, ModelFieldList, no_model_field, model_field, SpecNode, int_spec, bit_vector_spec, bool_spec, var_spec, as_spec, field_spec, discriminator_spec, op_spec, match_spec, let_spec, with_spec, macro_spec, expand_spec, pair_spec, enum_spec, struct_spec, SpecList, no_spec, more_spec, ArmList, no_arm, more_arm, SpecLetList, no_spec_let, more_spec_let, FieldInitList, no_field_init, more_field_init, ModifiedState, SpecDefinition, SpecMacroDefinition, StateDefinition}
use Rattle.isle_ast_names.specs.WritableDeciders.{is_name, are_names, is_optional_name, is_bool_name, is_signed, is_writable_variant_name}
use Rattle.isle_ast_verification.specs.declared.spec.SpecOp.{SpecOp}
use Rattle.isle_ast_names.specs.Tree.{Name}
use Rattle.isle_ast_verification.specs.declared.spec.SpecOp.TheVariants as op

abbrev pub is_optional_width : Option ℕ → Bool
is_optional_width None = true
is_optional_width (Some n) = nat_lt n (2 ^ 64)

abbrev mutual
  pub is_writable_model : TypeModel → Bool
  is_writable_model unspecified_model = true
  is_writable_model auto_model = true
  is_writable_model int_model = true
  is_writable_model bool_model = true
  is_writable_model unit_model = true
  is_writable_model (bit_vector_model width) = is_optional_width width
  is_writable_model (struct_model fields) = are_writable_model_fields fields
  is_writable_model (named_model name) = is_name name

  pub are_writable_model_fields : ModelFieldList → Bool
  are_writable_model_fields no_model_field = true
  are_writable_model_fields (model_field name ty fields) = (is_name name && is_writable_model ty) && are_writable_model_fields fields

-- the same of one field, by itself
abbrev pub is_writable_single_model_field : SingleModelField → Bool
is_writable_single_model_field f = is_name f.name && is_writable_model f.ty

abbrev pub is_spec_variable : Name → Bool
is_spec_variable n = is_name n && not (is_bool_name n)

-- at least one bit, and a value that fits
abbrev pub is_writable_bit_vector : ℕ → ℕ → Bool
is_writable_bit_vector val width =
    (nat_le 1 width && nat_lt val (2 ^ width)) && (nat_lt val (2 ^ 128) && nat_lt width (2 ^ 64))

-- a `switch` has cases, and any other operator has arguments
abbrev pub by_operator : SpecOp → Bool → Bool → Bool
by_operator op.Switch cases arguments = cases
by_operator _ cases arguments = arguments

abbrev mutual
  pub is_writable_spec : SpecNode → Bool
  is_writable_spec (int_spec val _) = is_signed 127 val
  is_writable_spec (bit_vector_spec val width _) = is_writable_bit_vector val width
  is_writable_spec (bool_spec _ _) = true
  is_writable_spec (var_spec var _) = is_spec_variable var
  is_writable_spec (as_spec x ty _) = is_writable_spec x && is_writable_model ty
  is_writable_spec (field_spec field x _) = is_name field && is_writable_spec x
  is_writable_spec (discriminator_spec variant x _) = is_name variant && is_writable_spec x
  is_writable_spec (op_spec operator args _) = by_operator operator (are_writable_cases args) (are_writable_specs args)
  is_writable_spec (match_spec x arms _) = is_writable_spec x && are_writable_arms arms
  is_writable_spec (let_spec defs body _) = are_writable_spec_lets defs && is_writable_spec body
  is_writable_spec (with_spec decls body _) = are_names decls && is_writable_spec body
  is_writable_spec (macro_spec params body _) = are_names params && is_writable_spec body
  is_writable_spec (expand_spec name args _) = is_name name && are_writable_specs args
  is_writable_spec (pair_spec _ _ _) = false
  is_writable_spec (enum_spec name variant args _) = is_writable_variant_name name variant && are_writable_specs args
  is_writable_spec (struct_spec fields _) = are_writable_field_inits fields

  pub are_writable_specs : SpecList → Bool
  are_writable_specs no_spec = true
  are_writable_specs (more_spec x xs) = is_writable_spec x && are_writable_specs xs

  pub are_writable_cases : SpecList → Bool
  are_writable_cases no_spec = false
  are_writable_cases (more_spec x cases) = is_writable_spec x && are_writable_pairs cases

  pub is_writable_pair : SpecNode → Bool
  is_writable_pair (pair_spec l r _) = is_writable_spec l && is_writable_spec r
  is_writable_pair _ = false

  pub are_writable_pairs : SpecList → Bool
  are_writable_pairs no_spec = true
  are_writable_pairs (more_spec x pairs) = is_writable_pair x && are_writable_pairs pairs

  pub are_writable_arms : ArmList → Bool
  are_writable_arms no_arm = true
  are_writable_arms (more_arm variant args body _ arms) =
      ((is_name variant && are_names args) && is_writable_spec body) && are_writable_arms arms

  pub are_writable_spec_lets : SpecLetList → Bool
  are_writable_spec_lets no_spec_let = true
  are_writable_spec_lets (more_spec_let name value lets) =
      (is_name name && is_writable_spec value) && are_writable_spec_lets lets

  pub are_writable_field_inits : FieldInitList → Bool
  are_writable_field_inits no_field_init = true
  are_writable_field_inits (more_field_init name value _ fields) =
      (is_name name && is_writable_spec value) && are_writable_field_inits fields

-- the same of one arm and of one field, each by itself

abbrev pub is_writable_single_arm : SingleArm → Bool
is_writable_single_arm a = (is_name a.variant && are_names a.args) && is_writable_spec a.body

abbrev pub is_writable_single_field_init : SingleFieldInit → Bool
is_writable_single_field_init f = is_name f.name && is_writable_spec f.value

abbrev pub is_writable_modified : ModifiedState → Bool
is_writable_modified m = is_name m.state && is_optional_name m.cond

abbrev pub is_writable_spec_definition : SpecDefinition → Bool
is_writable_spec_definition s =
    is_name s.term && are_names s.args && are_writable_specs (spec_list_of s.provides)
    && are_writable_specs (spec_list_of s.requires_) && are_writable_specs (spec_list_of s.matches)
    && list_all is_writable_modified s.modifies

abbrev pub is_writable_spec_macro : SpecMacroDefinition → Bool
is_writable_spec_macro m = is_name m.name && are_names m.params && is_writable_spec m.body

abbrev pub is_writable_state : StateDefinition → Bool
is_writable_state s = is_name s.name && is_writable_model s.ty && is_writable_spec s.default
