-- The models of types and the specs of code, as pure values.
use Rattle.std.specs.Prelude.{List, ◌∷◌, map, []}
use Rattle.isle_ast_verification.specs.declared.ModelType.{ModelType}
use Rattle.isle_ast_verification.specs.declared.ModelType.TheOpen.{ModelType-F, ModelField-F}
use Rattle.isle_ast_verification.specs.declared.ModelType.TheFolds.{fold-ModelType, fold-ModelField}
use Rattle.isle_ast_verification.specs.declared.ModelField.{ModelField}
use Rattle.isle_ast_names.specs.Tree.{Name}
use Rattle.isle_ast_verification.specs.Tree.{TypeModel, unspecified_model, auto_model, int_model, bool_model, unit_model, bit_vector_model, struct_model, named_model, ModelFieldList, no_model_field, model_field, SpecNode, int_spec, bit_vector_spec, bool_spec, var_spec, as_spec, field_spec, discriminator_spec, op_spec, match_spec, let_spec, with_spec, macro_spec, expand_spec, pair_spec, enum_spec, struct_spec, SpecList, no_spec, more_spec, ArmList, no_arm, more_arm, SpecLetList, no_spec_let, more_spec_let, FieldInitList, no_field_init, more_field_init, ModifiedState, SpecDefinition, SpecMacroDefinition, StateDefinition}
use Rattle.isle_ast_names.specs.TreeView.{name_of, names_of, optional_name_of}
use Rattle.isle_base_source.specs.declared.pos.Pos.{Pos}
use Rattle.isle_ast_names.specs.declared.Ident.{Ident}
use Rattle.isle_ast_verification.specs.declared.spec.SpecExpr.{SpecExpr}
use Rattle.isle_ast_verification.specs.declared.spec.SpecExpr.TheOpen.{SpecExpr-F, Arm-F, FieldInit-F}
use Rattle.isle_ast_verification.specs.declared.spec.SpecExpr.TheFolds.{fold-SpecExpr, fold-Arm, fold-FieldInit}
use Rattle.isle_ast_verification.specs.declared.spec.Arm.{Arm}
use Rattle.isle_ast_verification.specs.declared.spec.FieldInit.{FieldInit}
use Rattle.isle_ast_verification.specs.declared.spec.Modifies.{Modifies}
use Rattle.isle_ast_verification.specs.declared.spec.Spec.{Spec}
use Rattle.isle_ast_verification.specs.declared.spec.SpecMacro.{SpecMacro}
use Rattle.isle_ast_verification.specs.declared.spec.State.{State}

-- a field of a struct model, by itself
pub record SingleModelField : Type 0 where
  pub name : Name
  pub ty : TypeModel

abbrev pub model_list_of : List SingleModelField → ModelFieldList
model_list_of [] = no_model_field
model_list_of (f ∷ fs) = model_field f.name f.ty (model_list_of fs)

-- one node, with its parts as pure values
abbrev pub model_type_step : ModelType-F TypeModel SingleModelField → TypeModel
model_type_step ModelType-F.Unspecified = unspecified_model
model_type_step ModelType-F.Auto = auto_model
model_type_step ModelType-F.Int = int_model
model_type_step ModelType-F.Bool = bool_model
model_type_step ModelType-F.Unit = unit_model
model_type_step (ModelType-F.BitVec width) = bit_vector_model width
model_type_step (ModelType-F.Struct fs) = struct_model (model_list_of fs.items)
model_type_step (ModelType-F.Named name) = named_model (name_of name)

abbrev pub model_field_step : ModelField-F TypeModel SingleModelField → SingleModelField
model_field_step f = record { name = name_of f.name; ty = f.ty }

abbrev pub type_model_of : ModelType → TypeModel
type_model_of = fold-ModelType TypeModel SingleModelField model_type_step model_field_step

abbrev pub single_model_field_of : ModelField → SingleModelField
single_model_field_of = fold-ModelField TypeModel SingleModelField model_type_step model_field_step

abbrev pub single_model_fields_of : List ModelField → List SingleModelField
single_model_fields_of fs = map single_model_field_of fs

-- an arm of a `match`, by itself
pub record SingleArm : Type 0 where
  pub variant : Name
  pub args : List Name
  pub body : SpecNode
  pub pos : Pos

-- a field of a `struct`, by itself
pub record SingleFieldInit : Type 0 where
  pub name : Name
  pub value : SpecNode
  pub pos : Pos

abbrev pub spec_list_of : List SpecNode → SpecList
spec_list_of [] = no_spec
spec_list_of (x ∷ xs) = more_spec x (spec_list_of xs)

abbrev pub arm_list_of : List SingleArm → ArmList
arm_list_of [] = no_arm
arm_list_of (a ∷ others) = more_arm a.variant a.args a.body a.pos (arm_list_of others)

abbrev pub field_init_list_of : List SingleFieldInit → FieldInitList
field_init_list_of [] = no_field_init
field_init_list_of (f ∷ fs) = more_field_init f.name f.value f.pos (field_init_list_of fs)

abbrev pub spec_let_list_of : List (Name × SpecNode) → SpecLetList
spec_let_list_of [] = no_spec_let
spec_let_list_of (d ∷ ds) = more_spec_let d.0 d.1 (spec_let_list_of ds)

abbrev pub spec_let_of : Ident × SpecNode → Name × SpecNode
spec_let_of d = (name_of d.0, d.1)

-- one node, with its parts as pure values
abbrev pub spec_step : SpecExpr-F SpecNode SingleArm SingleFieldInit → SpecNode
spec_step (SpecExpr-F.ConstInt val place) = int_spec val place
spec_step (SpecExpr-F.ConstBitVec val width place) = bit_vector_spec val width place
spec_step (SpecExpr-F.ConstBool val place) = bool_spec val place
spec_step (SpecExpr-F.Var var place) = var_spec (name_of var) place
spec_step (SpecExpr-F.As x ty place) = as_spec x.value (type_model_of ty) place
spec_step (SpecExpr-F.Field field x place) = field_spec (name_of field) x.value place
spec_step (SpecExpr-F.Discriminator variant x place) = discriminator_spec (name_of variant) x.value place
spec_step (SpecExpr-F.Op op args place) = op_spec op (spec_list_of args.items) place
spec_step (SpecExpr-F.Match x arms place) = match_spec x.value (arm_list_of arms.items) place
spec_step (SpecExpr-F.Let defs body place) = let_spec (spec_let_list_of (map spec_let_of defs.items)) body.value place
spec_step (SpecExpr-F.With decls body place) = with_spec (names_of decls.items) body.value place
spec_step (SpecExpr-F.Macro params body place) = macro_spec (names_of params.items) body.value place
spec_step (SpecExpr-F.Expand name args place) = expand_spec (name_of name) (spec_list_of args.items) place
spec_step (SpecExpr-F.Pair l r place) = pair_spec l.value r.value place
spec_step (SpecExpr-F.Enum name variant args place) = enum_spec (name_of name) (name_of variant) (spec_list_of args.items) place
spec_step (SpecExpr-F.Struct fields place) = struct_spec (field_init_list_of fields.items) place

abbrev pub arm_step : Arm-F SpecNode SingleArm SingleFieldInit → SingleArm
arm_step a = record { variant = name_of a.variant; args = names_of a.args.items; body = a.body; pos = a.pos }

abbrev pub field_init_step : FieldInit-F SpecNode SingleArm SingleFieldInit → SingleFieldInit
field_init_step f = record { name = name_of f.name; value = f.value.value; pos = f.pos }

abbrev pub spec_of : SpecExpr → SpecNode
spec_of = fold-SpecExpr SpecNode SingleArm SingleFieldInit spec_step arm_step field_init_step

abbrev pub single_arm_of : Arm → SingleArm
single_arm_of = fold-Arm SpecNode SingleArm SingleFieldInit spec_step arm_step field_init_step

abbrev pub single_field_init_of : FieldInit → SingleFieldInit
single_field_init_of = fold-FieldInit SpecNode SingleArm SingleFieldInit spec_step arm_step field_init_step

abbrev pub specs_of : List SpecExpr → List SpecNode
specs_of xs = map spec_of xs

abbrev pub single_arms_of : List Arm → List SingleArm
single_arms_of arms = map single_arm_of arms

abbrev pub single_field_inits_of : List FieldInit → List SingleFieldInit
single_field_inits_of fields = map single_field_init_of fields

abbrev pub single_spec_let_of : Ident × SpecExpr → Name × SpecNode
single_spec_let_of d = (name_of d.0, spec_of d.1)

abbrev pub single_spec_lets_of : List (Ident × SpecExpr) → List (Name × SpecNode)
single_spec_lets_of ds = map single_spec_let_of ds

abbrev pub modified_of : Modifies → ModifiedState
modified_of m = record { state = name_of m.state; cond = optional_name_of m.cond }

abbrev pub spec_definition_of : Spec → SpecDefinition
spec_definition_of s =
    record {
      term = name_of s.term;
      args = names_of s.args.items;
      provides = specs_of s.provides.items;
      requires_ = specs_of s.requires_.items;
      matches = specs_of s.matches.items;
      modifies = map modified_of s.modifies.items;
      pos = s.pos;
    }

abbrev pub spec_macro_of : SpecMacro → SpecMacroDefinition
spec_macro_of m = record { name = name_of m.name; params = names_of m.params.items; body = spec_of m.body; pos = m.pos }

abbrev pub state_of : State → StateDefinition
state_of s = record { name = name_of s.name; ty = type_model_of s.ty; default = spec_of s.default; pos = s.pos }
