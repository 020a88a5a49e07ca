-- What the errors of types and of constants say of a program.
use Rattle.std.specs.Prelude.{◌≡◌, List, true, Contains, map}
use Rattle.isle_base_source.specs.declared.pos.Pos.{Pos}
use Rattle.isle_ast_names.specs.Tree.{Name}
use Rattle.isle_ast.specs.Tree.{Definition, EnumVariant, IndexedField, NamedField, TypeDefinition, struct_fields, tuple_fields}
use Rattle.isle_check_declarations.specs.Faults as kinds
use Rattle.isle_check_declarations.specs.TermFaults.{variants_of}
use Rattle.isle_check_declarations.specs.TypeFaults.{field_name, variant_name}
use Rattle.isle_check_environment.specs.Parts.{ConstantNode, constants_in, types_in}
use Rattle.isle_check_environment.specs.Types.{is_built_in}
use Rattle.isle_check_laws.specs.Named.{HasFields, IsNameOf, IsPrimitive, IsTypeName, IsUnknownType, StandsBehind}

-- by the kind of an error and its position
pub data IsBrokenType (ds : List Definition) : kinds.KindNode → Pos → Type 0 where
  -- at a type: it has the name of a built-in type, or of a type before it
  type_again : (t : TypeDefinition) (before : List TypeDefinition) → StandsBehind (types_in ds) before t → IsTypeName before t.name.text →
      IsBrokenType ds (kinds.type_again t.name) t.pos
  -- at a type: it has the name of a built-in type
  type_built_in : (t : TypeDefinition) → Contains (types_in ds) t → is_built_in t.name.text ≡ true →
      IsBrokenType ds (kinds.type_built_in t.name) t.pos
  -- at a type: it is primitive, and is `nodebug`
  primitive_nodebug : (t : TypeDefinition) → Contains (types_in ds) t → IsPrimitive t.ty → t.is_nodebug ≡ true →
      IsBrokenType ds kinds.primitive_nodebug t.pos
  -- at a type: it is primitive, and is `extern`
  primitive_extern : (t : TypeDefinition) → Contains (types_in ds) t → IsPrimitive t.ty → t.is_extern ≡ true →
      IsBrokenType ds kinds.primitive_extern t.pos
  -- at a type: it is not primitive, and is both `extern` and `nodebug`
  extern_nodebug : (t : TypeDefinition) → Contains (types_in ds) t → (IsPrimitive t.ty → ⊥) → t.is_extern ≡ true → t.is_nodebug ≡ true →
      IsBrokenType ds kinds.extern_nodebug t.pos
  -- at a variant: it has the name of a variant before it
  variant_again : (t : TypeDefinition) (v : EnumVariant) (before : List EnumVariant) → Contains (types_in ds) t →
      StandsBehind (variants_of t.ty) before v → IsNameOf (map variant_name before) v.name.text →
      IsBrokenType ds (kinds.variant_again v.name) v.pos
  -- at a field: it has the name of a field before it
  field_again : (t : TypeDefinition) (owner : Name) (fs : List NamedField) (place : Pos) (f : NamedField) (before : List NamedField) →
      Contains (types_in ds) t → HasFields t.ty t.name owner (struct_fields fs place) →
      StandsBehind fs before f → IsNameOf (map field_name before) f.name.text →
      IsBrokenType ds (kinds.field_again f.name owner) f.pos
  -- at the type of a named field: it is unknown
  field_type_unknown : (t : TypeDefinition) (owner : Name) (fs : List NamedField) (place : Pos) (f : NamedField) →
      Contains (types_in ds) t → HasFields t.ty t.name owner (struct_fields fs place) → Contains fs f → IsUnknownType ds f.ty.text →
      IsBrokenType ds (kinds.field_type_unknown f.ty f.name owner) f.ty.pos
  -- at the type of a positional field: it is unknown
  index_type_unknown : (t : TypeDefinition) (owner : Name) (fs : List IndexedField) (place : Pos) (f : IndexedField) →
      Contains (types_in ds) t → HasFields t.ty t.name owner (tuple_fields fs place) → Contains fs f → IsUnknownType ds f.ty.text →
      IsBrokenType ds (kinds.index_type_unknown f.ty f.index owner) f.ty.pos
  -- at a constant: its type is unknown
  constant_type_unknown : (c : ConstantNode) → Contains (constants_in ds) c → IsUnknownType ds c.ty.text →
      IsBrokenType ds kinds.constant_type_unknown c.pos
