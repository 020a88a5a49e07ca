-- The models of types and specs that can be written as text and read back: the conditions on each
-- node.
use Rattle.std.specs.Prelude.{◌≡◌, ◌≢◌, ℕ, ◌^◌, ◌<◌, ◌≤◌, List, ◌∷◌, ◌++◌, false, ◌⊎◌, IfSome, codes}
use Rattle.isle_base.specs.Bytes.{dot}
use Rattle.isle_ast_names.specs.Numbers.{IsSigned}
use Rattle.isle_ast_verification.specs.Operators.{is_operator_text}
use Rattle.isle_ast_names.specs.Tree.{Name}
use Rattle.isle_ast_verification.specs.Tree.{SpecNode, int_spec, bit_vector_spec, bool_spec, var_spec, as_spec, field_spec, discriminator_spec, op_spec, match_spec, let_spec, with_spec, macro_spec, expand_spec, pair_spec, enum_spec, struct_spec, SpecList, no_spec, more_spec, ArmList, no_arm, more_arm, SpecLetList, no_spec_let, more_spec_let, FieldInitList, no_field_init, more_field_init, ModifiedState, SpecDefinition, SpecMacroDefinition, StateDefinition, TypeModel, unspecified_model, auto_model, int_model, bool_model, unit_model, bit_vector_model, struct_model, named_model, ModelFieldList, no_model_field, model_field}
use Rattle.isle_ast_names.specs.Writable.{IsName, IsNot, Each}
use Rattle.isle_ast_verification.specs.declared.spec.SpecOp.TheVariants as op

-- a variable isn't `true` or `false`
abbrev pub IsSpecVariable : Name → Type 0
IsSpecVariable n = IsName n × IsNot n (codes "true") × IsNot n (codes "false")

-- A bit vector has at least one bit, and its value fits. Value and width fit their types.
pub record IsWritableBitVector (val width : ℕ) : Type 0 where
  pub some : 1 ≤ width
  pub within : val < 2 ^ width
  pub value : val < 2 ^ 128
  pub bits : width < 2 ^ 64

-- the name of an enum has no dot, and with the variant's name it is no operator
pub record IsWritableVariantName (enum case : Name) : Type 0 where
  pub name : IsName enum
  pub variant : IsName case
  pub no_dot : (before behind : List ℕ) → enum.text ≢ before ++ dot ∷ behind
  pub no_operator : is_operator_text (enum.text ++ dot ∷ case.text) ≡ false

-- a width fits its type
abbrev mutual
  pub IsWritableModel : TypeModel → Type 0
  IsWritableModel unspecified_model = Unit {0}
  IsWritableModel auto_model = Unit {0}
  IsWritableModel int_model = Unit {0}
  IsWritableModel bool_model = Unit {0}
  IsWritableModel unit_model = Unit {0}
  IsWritableModel (bit_vector_model width) = IfSome width (λ n. n < 2 ^ 64)
  IsWritableModel (struct_model fields) = AreWritableModelFields fields
  IsWritableModel (named_model name) = IsName name

  pub AreWritableModelFields : ModelFieldList → Type 0
  AreWritableModelFields no_model_field = Unit {0}
  AreWritableModelFields (model_field name ty fields) = IsName name × IsWritableModel ty × AreWritableModelFields fields

-- A `switch` has a subject and then pairs, which are nowhere else. No other operator has a
-- condition.
abbrev mutual
  pub IsWritableSpec : SpecNode → Type 0
  IsWritableSpec (int_spec val _) = IsSigned 127 val
  IsWritableSpec (bit_vector_spec val width _) = IsWritableBitVector val width
  IsWritableSpec (bool_spec _ _) = Unit {0}
  IsWritableSpec (var_spec var _) = IsSpecVariable var
  IsWritableSpec (as_spec x ty _) = IsWritableSpec x × IsWritableModel ty
  IsWritableSpec (field_spec field x _) = IsName field × IsWritableSpec x
  IsWritableSpec (discriminator_spec variant x _) = IsName variant × IsWritableSpec x
  IsWritableSpec (op_spec operator args _) =
      (operator ≡ op.Switch) × AreWritableCases args ⊎ (operator ≢ op.Switch) × AreWritableSpecs args
  IsWritableSpec (match_spec x arms _) = IsWritableSpec x × AreWritableArms arms
  IsWritableSpec (let_spec defs body _) = AreWritableSpecLets defs × IsWritableSpec body
  IsWritableSpec (with_spec decls body _) = Each IsName decls × IsWritableSpec body
  IsWritableSpec (macro_spec params body _) = Each IsName params × IsWritableSpec body
  IsWritableSpec (expand_spec name args _) = IsName name × AreWritableSpecs args
  IsWritableSpec (pair_spec _ _ _) = ⊥
  IsWritableSpec (enum_spec name variant args _) = IsWritableVariantName name variant × AreWritableSpecs args
  IsWritableSpec (struct_spec fields _) = AreWritableFieldInits fields

  pub AreWritableSpecs : SpecList → Type 0
  AreWritableSpecs no_spec = Unit {0}
  AreWritableSpecs (more_spec x xs) = IsWritableSpec x × AreWritableSpecs xs

  pub AreWritableCases : SpecList → Type 0
  AreWritableCases no_spec = ⊥
  AreWritableCases (more_spec x cases) = IsWritableSpec x × AreWritablePairs cases

  pub AreWritablePairs : SpecList → Type 0
  AreWritablePairs no_spec = Unit {0}
  AreWritablePairs (more_spec (pair_spec l r _) pairs) = IsWritableSpec l × IsWritableSpec r × AreWritablePairs pairs
  AreWritablePairs (more_spec _ _) = ⊥

  pub AreWritableArms : ArmList → Type 0
  AreWritableArms no_arm = Unit {0}
  AreWritableArms (more_arm variant args body _ arms) =
      IsName variant × Each IsName args × IsWritableSpec body × AreWritableArms arms

  pub AreWritableSpecLets : SpecLetList → Type 0
  AreWritableSpecLets no_spec_let = Unit {0}
  AreWritableSpecLets (more_spec_let name value lets) = IsName name × IsWritableSpec value × AreWritableSpecLets lets

  pub AreWritableFieldInits : FieldInitList → Type 0
  AreWritableFieldInits no_field_init = Unit {0}
  AreWritableFieldInits (more_field_init name value _ fields) =
      IsName name × IsWritableSpec value × AreWritableFieldInits fields

abbrev pub IsWritableModified : ModifiedState → Type 0
IsWritableModified m = IsName m.state × IfSome m.cond IsName

pub record IsWritableSpecDefinition (s : SpecDefinition) : Type 0 where
  pub term : IsName s.term
  pub args : Each IsName s.args
  pub provides : Each IsWritableSpec s.provides
  pub requires_ : Each IsWritableSpec s.requires_
  pub matches : Each IsWritableSpec s.matches
  pub modifies : Each IsWritableModified s.modifies

abbrev pub IsWritableSpecMacro : SpecMacroDefinition → Type 0
IsWritableSpecMacro m = IsName m.name × Each IsName m.params × IsWritableSpec m.body

abbrev pub IsWritableState : StateDefinition → Type 0
IsWritableState s = IsName s.name × IsWritableModel s.ty × IsWritableSpec s.default
