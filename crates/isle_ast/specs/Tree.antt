-- Definitions as pure values, apart from their memory. The fields are those of the types in code.
use Rattle.std.specs.Prelude.{ℕ, List, Bool, Option}
use Rattle.isle_base_source.specs.declared.pos.Pos.{Pos}
use Rattle.isle_ast_names.specs.Tree.{Name}
use Rattle.isle_ast_verification.specs.Tree.{TypeModel, SpecNode, SpecDefinition, SpecMacroDefinition, StateDefinition}
use Rattle.isle_ast_rules.specs.Tree.{RuleDefinition, ExtractorDefinition}

-- a declaration of a term
pub record Declaration : Type 0 where
  pub term : Name
  pub arg_tys : List Name
  pub ret_ty : Name
  pub pure : Bool
  pub multi : Bool
  pub partial : Bool
  pub rec : Bool
  pub pos : Pos

-- a conversion between two types
pub record Conversion : Type 0 where
  pub term : Name
  pub inner_ty : Name
  pub outer_ty : Name
  pub pos : Pos

-- a named field
pub record NamedField : Type 0 where
  pub name : Name
  pub ty : Name
  pub pos : Pos

-- a positional field
pub record IndexedField : Type 0 where
  pub index : ℕ
  pub ty : Name
  pub pos : Pos

pub data FieldList : Type 0 where
  unit_fields : FieldList
  struct_fields : List NamedField → Pos → FieldList
  tuple_fields : List IndexedField → Pos → FieldList

pub record EnumVariant : Type 0 where
  pub name : Name
  pub fields : FieldList
  pub pos : Pos

pub data TypeContent : Type 0 where
  primitive_type : Name → Pos → TypeContent
  enum_type : List EnumVariant → Pos → TypeContent
  struct_type : FieldList → Pos → TypeContent

-- a type definition
pub record TypeDefinition : Type 0 where
  pub name : Name
  pub is_extern : Bool
  pub is_nodebug : Bool
  pub ty : TypeContent
  pub pos : Pos

pub data AttributeTarget : Type 0 where
  term_target : Name → AttributeTarget
  rule_target : Name → AttributeTarget

pub data AttributeKind : Type 0 where
  chain_kind : AttributeKind
  priority_kind : AttributeKind
  tag_kind : Name → AttributeKind

-- attributes of a term or a rule
pub record Attribute : Type 0 where
  pub target : AttributeTarget
  pub kinds : List AttributeKind
  pub pos : Pos

-- the models of the arguments and of the result
pub record TermSignature : Type 0 where
  pub args : List TypeModel
  pub ret : TypeModel
  pub pos : Pos

-- named signatures
pub record FormDefinition : Type 0 where
  pub name : Name
  pub signatures : List TermSignature
  pub pos : Pos

-- signatures of a term: its own, or those of a form, under tags
pub record TermInstantiation : Type 0 where
  pub term : Name
  pub form : Option Name
  pub signatures : List TermSignature
  pub tags : List Name
  pub pos : Pos

pub data ModelContent : Type 0 where
  type_model : TypeModel → ModelContent
  const_model : SpecNode → ModelContent

-- the model of a type
pub record ModelDefinition : Type 0 where
  pub name : Name
  pub val : ModelContent

-- an external extractor, constructor or constant
pub data ExternDefinition : Type 0 where
  extern_extractor : (term func : Name) → Pos → (infallible : Bool) → ExternDefinition
  extern_constructor : (term func : Name) → Pos → ExternDefinition
  extern_const : (name ty : Name) → Pos → ExternDefinition

pub data Definition : Type 0 where
  type_def : TypeDefinition → Definition
  rule : RuleDefinition → Definition
  extractor : ExtractorDefinition → Definition
  decl : Declaration → Definition
  attr : Attribute → Definition
  spec : SpecDefinition → Definition
  spec_macro : SpecMacroDefinition → Definition
  model : ModelDefinition → Definition
  state : StateDefinition → Definition
  form : FormDefinition → Definition
  instantiation : TermInstantiation → Definition
  external : ExternDefinition → Definition
  converter : Conversion → Definition
