-- What stands in a program, and under which names. No word here says how errors are found.
use Rattle.std.specs.Prelude.{◌≡◌, ℕ, List, ◌∷◌, ◌++◌, true, Contains, ◌⊎◌}
use Rattle.isle_ast_names.specs.Tree.{Name}
use Rattle.isle_ast.specs.Roots.{full_name}
use Rattle.isle_ast.specs.Tree.{Declaration, Definition, EnumVariant, FieldList, TypeContent, TypeDefinition, enum_type, primitive_type, struct_type}
use Rattle.isle_check_declarations.specs.TermFaults.{variants_of}
use Rattle.isle_check_environment.specs.Parts.{decls_in, type_names, types_in}
use Rattle.isle_check_environment.specs.Types.{is_built_in}

-- x is one of xs, and these stand before it
abbrev pub StandsBehind : {A : Type 0} → (xs before : List A) → A → Type 0
StandsBehind {A = A} xs before x = (behind : List A) × (xs ≡ before ++ x ∷ behind)

-- one of these names has this text
abbrev pub IsNameOf : List Name → List ℕ → Type 0
IsNameOf names text = (name : Name) × Contains names name × (name.text ≡ text)

-- it is a built-in type's name, or that of one of these types
abbrev pub IsTypeName : List TypeDefinition → List ℕ → Type 0
IsTypeName ts text = (is_built_in text ≡ true) ⊎ IsNameOf (type_names ts) text

-- no type of the program has this name, nor a built-in one
abbrev pub IsUnknownType : List Definition → List ℕ → Type 0
IsUnknownType ds text = IsTypeName (types_in ds) text → ⊥

abbrev pub IsPrimitive : TypeContent → Type 0
IsPrimitive (primitive_type _ _) = Unit {0}
IsPrimitive (enum_type _ _) = ⊥
IsPrimitive (struct_type _ _) = ⊥

-- these are the fields of a variant of this name, or of a struct of this name
abbrev pub HasFields : TypeContent → (type owner : Name) → FieldList → Type 0
HasFields (primitive_type _ _) type owner fields = ⊥
HasFields (enum_type vs _) type owner fields = (v : EnumVariant) × Contains vs v × (v.name ≡ owner) × (v.fields ≡ fields)
HasFields (struct_type fs _) type owner fields = (type ≡ owner) × (fs ≡ fields)

-- one of these is a declaration of the term of this name
abbrev pub HasDeclaration : List Declaration → List ℕ → Type 0
HasDeclaration ds text = (d : Declaration) × Contains ds d × (d.term.text ≡ text)

-- one of these variants of an enum has this name as a term
abbrev pub HasVariant : (enum : Name) → List EnumVariant → List ℕ → Type 0
HasVariant enum vs text = (v : EnumVariant) × Contains vs v × ((full_name enum v.name).text ≡ text)

-- one of these types has a variant of this name
abbrev pub HasVariantOf : List TypeDefinition → List ℕ → Type 0
HasVariantOf ts text = (t : TypeDefinition) × Contains ts t × HasVariant t.name (variants_of t.ty) text

-- the program declares a term of this name
abbrev pub IsDeclared : List Definition → List ℕ → Type 0
IsDeclared ds text = HasDeclaration (decls_in ds) text

-- it declares none, and a variant has this name
abbrev pub IsOnlyVariant : List Definition → List ℕ → Type 0
IsOnlyVariant ds text = HasVariantOf (types_in ds) text × (IsDeclared ds text → ⊥)

-- it declares none, and no variant has this name
abbrev pub IsUnknownTerm : List Definition → List ℕ → Type 0
IsUnknownTerm ds text = IsDeclared ds text ⊎ HasVariantOf (types_in ds) text → ⊥
