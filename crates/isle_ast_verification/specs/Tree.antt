-- Models of types and specs as pure values. The fields are those of the types in code.
use Rattle.std.specs.Prelude.{ℕ, ℤ, List, Bool, Option}
use Rattle.isle_base_source.specs.declared.pos.Pos.{Pos}
use Rattle.isle_ast_verification.specs.declared.spec.SpecOp.{SpecOp}
use Rattle.isle_ast_names.specs.Tree.{Name}

-- a model of a type, for verification
mutual
  pub data TypeModel : Type 0 where
    unspecified_model : TypeModel
    auto_model : TypeModel
    int_model : TypeModel
    bool_model : TypeModel
    unit_model : TypeModel
    bit_vector_model : Option ℕ → TypeModel
    struct_model : ModelFieldList → TypeModel
    named_model : Name → TypeModel

  -- the fields of a struct, each a name and its model
  pub data ModelFieldList : Type 0 where
    no_model_field : ModelFieldList
    model_field : Name → TypeModel → ModelFieldList → ModelFieldList

-- a spec expression and its parts
mutual
  pub data SpecNode : Type 0 where
    int_spec : (val : ℤ) → Pos → SpecNode
    bit_vector_spec : (val width : ℕ) → Pos → SpecNode
    bool_spec : (val : Bool) → Pos → SpecNode
    var_spec : (var : Name) → Pos → SpecNode
    as_spec : (x : SpecNode) → (ty : TypeModel) → Pos → SpecNode
    field_spec : (field : Name) → (x : SpecNode) → Pos → SpecNode
    discriminator_spec : (variant : Name) → (x : SpecNode) → Pos → SpecNode
    op_spec : (op : SpecOp) → (args : SpecList) → Pos → SpecNode
    match_spec : (x : SpecNode) → (arms : ArmList) → Pos → SpecNode
    let_spec : (defs : SpecLetList) → (body : SpecNode) → Pos → SpecNode
    with_spec : (decls : List Name) → (body : SpecNode) → Pos → SpecNode
    macro_spec : (params : List Name) → (body : SpecNode) → Pos → SpecNode
    expand_spec : (name : Name) → (args : SpecList) → Pos → SpecNode
    pair_spec : (l r : SpecNode) → Pos → SpecNode
    enum_spec : (name variant : Name) → (args : SpecList) → Pos → SpecNode
    struct_spec : (fields : FieldInitList) → Pos → SpecNode

  -- spec expressions in order
  pub data SpecList : Type 0 where
    no_spec : SpecList
    more_spec : SpecNode → SpecList → SpecList

  -- the arms of a `match`, each a variant, names of its fields, a body and a position
  pub data ArmList : Type 0 where
    no_arm : ArmList
    more_arm : (variant : Name) → (args : List Name) → (body : SpecNode) → Pos → ArmList → ArmList

  -- the definitions of a `let`, each a name and its value
  pub data SpecLetList : Type 0 where
    no_spec_let : SpecLetList
    more_spec_let : Name → SpecNode → SpecLetList → SpecLetList

  -- the fields of a `struct`, each a name, its value and a position
  pub data FieldInitList : Type 0 where
    no_field_init : FieldInitList
    more_field_init : (name : Name) → (value : SpecNode) → Pos → FieldInitList → FieldInitList

-- a state that a term modifies, with the condition if there is one
pub record ModifiedState : Type 0 where
  pub state : Name
  pub cond : Option Name

-- the specification of a term
pub record SpecDefinition : Type 0 where
  pub term : Name
  pub args : List Name
  pub provides : List SpecNode
  pub requires_ : List SpecNode
  pub matches : List SpecNode
  pub modifies : List ModifiedState
  pub pos : Pos

-- a named spec expression with parameters
pub record SpecMacroDefinition : Type 0 where
  pub name : Name
  pub params : List Name
  pub body : SpecNode
  pub pos : Pos

-- a state of specs
pub record StateDefinition : Type 0 where
  pub name : Name
  pub ty : TypeModel
  pub default : SpecNode
  pub pos : Pos
