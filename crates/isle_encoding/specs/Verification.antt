-- The encoding of models of types, specs and spec expressions: a byte for the kind of node, and its
-- parts in order.
use Rattle.std.specs.Prelude.{ℕ, suc, List, [], ◌∷◌, ◌++◌}
use Rattle.isle_ast_names.specs.Tree.{Name}
use Rattle.isle_ast_verification.specs.Tree.{TypeModel, unspecified_model, auto_model, int_model, bool_model, unit_model, bit_vector_model, struct_model, named_model, ModelFieldList, no_model_field, model_field, SpecNode, int_spec, bit_vector_spec, bool_spec, var_spec, as_spec, field_spec, discriminator_spec, op_spec, match_spec, let_spec, with_spec, macro_spec, expand_spec, pair_spec, enum_spec, struct_spec, SpecList, no_spec, more_spec, ArmList, no_arm, more_arm, SpecLetList, no_spec_let, more_spec_let, FieldInitList, no_field_init, more_field_init, ModifiedState, SpecDefinition, SpecMacroDefinition, StateDefinition}
use Rattle.isle_ast_verification.specs.TreeView.{SingleArm, SingleFieldInit, SingleModelField}
use Rattle.isle_encoding.specs.Numbers.{flag, integer, list, number, option}
use Rattle.isle_encoding.specs.Names.{name, names, position}
use Rattle.isle_encoding.specs.Operators.{operator}

abbrev pub model_field_count : ModelFieldList → ℕ
model_field_count no_model_field = 0
model_field_count (model_field field ty fields) = suc (model_field_count fields)

abbrev mutual
  pub type_model : TypeModel → List ℕ
  type_model unspecified_model = 0 ∷ []
  type_model auto_model = 1 ∷ []
  type_model int_model = 2 ∷ []
  type_model bool_model = 3 ∷ []
  type_model unit_model = 4 ∷ []
  type_model (bit_vector_model width) = 5 ∷ option number width
  type_model (struct_model fields) = 6 ∷ number (model_field_count fields) ++ model_fields fields
  type_model (named_model model) = 7 ∷ name model

  pub model_fields : ModelFieldList → List ℕ
  model_fields no_model_field = []
  model_fields (model_field field ty fields) = (name field ++ type_model ty) ++ model_fields fields

abbrev pub model_field_list : ModelFieldList → List ℕ
model_field_list fields = number (model_field_count fields) ++ model_fields fields

-- a field of a struct model, by itself
abbrev pub single_model_field : SingleModelField → List ℕ
single_model_field f = name f.name ++ type_model f.ty

abbrev pub spec_count : SpecList → ℕ
spec_count no_spec = 0
spec_count (more_spec x xs) = suc (spec_count xs)

abbrev pub arm_count : ArmList → ℕ
arm_count no_arm = 0
arm_count (more_arm variant args body place arms) = suc (arm_count arms)

abbrev pub spec_let_count : SpecLetList → ℕ
spec_let_count no_spec_let = 0
spec_let_count (more_spec_let var value lets) = suc (spec_let_count lets)

abbrev pub field_init_count : FieldInitList → ℕ
field_init_count no_field_init = 0
field_init_count (more_field_init field value place fields) = suc (field_init_count fields)

abbrev mutual
  pub spec : SpecNode → List ℕ
  spec (int_spec val place) = 0 ∷ integer val ++ position place
  spec (bit_vector_spec val width place) = 1 ∷ number val ++ number width ++ position place
  spec (bool_spec val place) = 2 ∷ flag val ++ position place
  spec (var_spec var place) = 3 ∷ name var ++ position place
  spec (as_spec x ty place) = 4 ∷ spec x ++ type_model ty ++ position place
  spec (field_spec field x place) = 5 ∷ name field ++ spec x ++ position place
  spec (discriminator_spec variant x place) = 6 ∷ name variant ++ spec x ++ position place
  spec (op_spec op args place) = 7 ∷ operator op ++ (number (spec_count args) ++ specs args) ++ position place
  spec (match_spec x cases place) = 8 ∷ spec x ++ (number (arm_count cases) ++ arms cases) ++ position place
  spec (let_spec defs body place) = 9 ∷ (number (spec_let_count defs) ++ spec_lets defs) ++ spec body ++ position place
  spec (with_spec decls body place) = 10 ∷ names decls ++ spec body ++ position place
  spec (macro_spec params body place) = 11 ∷ names params ++ spec body ++ position place
  spec (expand_spec macro args place) = 12 ∷ name macro ++ (number (spec_count args) ++ specs args) ++ position place
  spec (pair_spec l r place) = 13 ∷ spec l ++ spec r ++ position place
  spec (enum_spec enum variant args place) = 14 ∷ name enum ++ name variant ++ (number (spec_count args) ++ specs args) ++ position place
  spec (struct_spec fields place) = 15 ∷ (number (field_init_count fields) ++ field_inits fields) ++ position place

  pub specs : SpecList → List ℕ
  specs no_spec = []
  specs (more_spec x xs) = spec x ++ specs xs

  pub arms : ArmList → List ℕ
  arms no_arm = []
  arms (more_arm variant args body place others) = (name variant ++ names args ++ spec body ++ position place) ++ arms others

  pub spec_lets : SpecLetList → List ℕ
  spec_lets no_spec_let = []
  spec_lets (more_spec_let var value lets) = (name var ++ spec value) ++ spec_lets lets

  pub field_inits : FieldInitList → List ℕ
  field_inits no_field_init = []
  field_inits (more_field_init field value place fields) = (name field ++ spec value ++ position place) ++ field_inits fields

abbrev pub spec_list : SpecList → List ℕ
spec_list xs = number (spec_count xs) ++ specs xs

abbrev pub arm_list : ArmList → List ℕ
arm_list cases = number (arm_count cases) ++ arms cases

abbrev pub spec_let_list : SpecLetList → List ℕ
spec_let_list defs = number (spec_let_count defs) ++ spec_lets defs

abbrev pub field_init_list : FieldInitList → List ℕ
field_init_list fields = number (field_init_count fields) ++ field_inits fields

-- an arm and a field of a struct, each by itself

abbrev pub single_arm : SingleArm → List ℕ
single_arm a = name a.variant ++ names a.args ++ spec a.body ++ position a.pos

abbrev pub single_field_init : SingleFieldInit → List ℕ
single_field_init f = name f.name ++ spec f.value ++ position f.pos

abbrev pub modified : ModifiedState → List ℕ
modified m = name m.state ++ option name m.cond

abbrev pub spec_definition : SpecDefinition → List ℕ
spec_definition s =
    name s.term ++ names s.args ++ list spec s.provides ++ list spec s.requires_ ++ list spec s.matches ++ list modified s.modifies ++ position s.pos

abbrev pub spec_macro : SpecMacroDefinition → List ℕ
spec_macro m = name m.name ++ names m.params ++ spec m.body ++ position m.pos

abbrev pub state : StateDefinition → List ℕ
state s = name s.name ++ type_model s.ty ++ spec s.default ++ position s.pos
