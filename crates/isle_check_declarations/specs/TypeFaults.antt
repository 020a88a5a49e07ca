-- The errors of types and of constants. `known` says which types are known, by their names.
use Rattle.std.specs.Prelude.{ℕ, List, [], ◌∷◌, ◌++◌, Bool, ◌&&◌, Option, None, Some, if◌then◌else◌}
use Rattle.std.specs.List.{flat_map}
use Rattle.isle_ast_names.specs.Tree.{Name}
use Rattle.isle_ast.specs.Tree.{NamedField, IndexedField, FieldList, unit_fields, struct_fields, tuple_fields, EnumVariant, TypeContent, primitive_type, enum_type, struct_type, TypeDefinition, Definition}
use Rattle.isle_check_environment.specs.Names.{has}
use Rattle.isle_check_environment.specs.Parts.{ConstantNode, constants_in, type_names, types_in}
use Rattle.isle_check_environment.specs.Types.{is_built_in, is_type}
use Rattle.isle_check_declarations.specs.Faults.{FaultNode, fault, first_of, optional, type_again, type_built_in, primitive_nodebug, primitive_extern, extern_nodebug, variant_again, field_again, field_type_unknown, index_type_unknown, constant_type_unknown}

-- a type has the name neither of a built-in type nor of an earlier one
abbrev pub doubled_type : List Name → TypeDefinition → List FaultNode
doubled_type earlier t =
    if is_built_in t.name.text then fault (type_again t.name) t.pos ∷ fault (type_built_in t.name) t.pos ∷ []
    else if has earlier t.name.text then fault (type_again t.name) t.pos ∷ []
    else []

abbrev pub doubled_types : List Name → List TypeDefinition → List FaultNode
doubled_types earlier [] = []
doubled_types earlier (t ∷ ts) = doubled_type earlier t ++ doubled_types (earlier ++ t.name ∷ []) ts

abbrev pub field_name : NamedField → Name
field_name f = f.name

abbrev pub variant_name : EnumVariant → Name
variant_name v = v.name

-- the first fault of the fields of a variant: each has a name of its own and a known type
abbrev pub named_fields_fault : (List ℕ → Bool) → (variant : Name) → (earlier : List Name) → List NamedField → Option FaultNode
named_fields_fault known variant earlier [] = None
named_fields_fault known variant earlier (f ∷ fs) =
    if has earlier f.name.text then Some (fault (field_again f.name variant) f.pos)
    else if known f.ty.text then named_fields_fault known variant (earlier ++ f.name ∷ []) fs
    else Some (fault (field_type_unknown f.ty f.name variant) f.ty.pos)

abbrev pub indexed_fields_fault : (List ℕ → Bool) → (variant : Name) → List IndexedField → Option FaultNode
indexed_fields_fault known variant [] = None
indexed_fields_fault known variant (f ∷ fs) =
    if known f.ty.text then indexed_fields_fault known variant fs
    else Some (fault (index_type_unknown f.ty f.index variant) f.ty.pos)

abbrev pub fields_fault : (List ℕ → Bool) → (variant : Name) → FieldList → Option FaultNode
fields_fault known variant unit_fields = None
fields_fault known variant (struct_fields fs _) = named_fields_fault known variant [] fs
fields_fault known variant (tuple_fields fs _) = indexed_fields_fault known variant fs

-- the first fault of the variants of a type: each has a name of its own, and right fields
abbrev pub variants_fault : (List ℕ → Bool) → (earlier : List Name) → List EnumVariant → Option FaultNode
variants_fault known earlier [] = None
variants_fault known earlier (v ∷ vs) =
    if has earlier v.name.text then Some (fault (variant_again v.name) v.pos)
    else first_of (fields_fault known v.name v.fields) (variants_fault known (earlier ++ v.name ∷ []) vs)

-- a primitive type is neither `nodebug` nor `extern`
abbrev pub primitive_fault : TypeDefinition → Option FaultNode
primitive_fault t =
    if t.is_nodebug then Some (fault primitive_nodebug t.pos)
    else if t.is_extern then Some (fault primitive_extern t.pos)
    else None

-- the first fault of a type. One that is not primitive isn't both `extern` and `nodebug`
abbrev pub content_fault : (List ℕ → Bool) → TypeDefinition → TypeContent → Option FaultNode
content_fault known t (primitive_type _ _) = primitive_fault t
content_fault known t (enum_type vs _) =
    if t.is_extern && t.is_nodebug then Some (fault extern_nodebug t.pos) else variants_fault known [] vs
content_fault known t (struct_type fs _) =
    if t.is_extern && t.is_nodebug then Some (fault extern_nodebug t.pos) else fields_fault known t.name fs

abbrev pub wrong_type : (List ℕ → Bool) → TypeDefinition → List FaultNode
wrong_type known t = optional (content_fault known t t.ty)

-- the first fault of each type
abbrev pub wrong_types : (List ℕ → Bool) → List TypeDefinition → List FaultNode
wrong_types known ts = flat_map (wrong_type known) ts

-- the type of a constant is known
abbrev pub wrong_constant : (List ℕ → Bool) → ConstantNode → List FaultNode
wrong_constant known c = if known c.ty.text then [] else fault constant_type_unknown c.pos ∷ []

abbrev pub wrong_constants : (List ℕ → Bool) → List ConstantNode → List FaultNode
wrong_constants known cs = flat_map (wrong_constant known) cs

abbrev pub type_faults_of : (List ℕ → Bool) → List TypeDefinition → List ConstantNode → List FaultNode
type_faults_of known ts cs = doubled_types [] ts ++ (wrong_types known ts ++ wrong_constants known cs)

-- the errors of the types of a program: doubled names, then wrong types, then wrong constants
abbrev pub type_faults : List Definition → List FaultNode
type_faults ds = type_faults_of (is_type (type_names (types_in ds))) (types_in ds) (constants_in ds)
