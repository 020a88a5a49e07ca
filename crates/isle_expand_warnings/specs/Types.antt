-- The types of terms, as far as definitions say them: those of a declaration, and of the variants of an enum.
use Rattle.std.specs.Prelude.{ℕ, List, Option, None, Some, if◌then◌else◌, slice_get}
use Rattle.std.specs.Option.{option_map}
use Rattle.std.specs.Str.{bytes_eq}
use Rattle.isle_ast.specs.Tree.{FieldList, unit_fields, struct_fields, tuple_fields, EnumVariant, TypeContent, enum_type, TypeDefinition, Definition, type_def, decl}
use Rattle.isle_expand_warnings.specs.Variants.{has_variant, is_variant}
use Rattle.isle_expand_warnings.specs.First.{first}

-- the type of a term's value, if a definition says it
abbrev pub value_type_in : List ℕ → Definition → Option (List ℕ)
value_type_in text (decl d) = if bytes_eq d.term.text text then Some d.ret_ty.text else None
value_type_in text (type_def t) = if has_variant text t t.ty then Some t.name.text else None
value_type_in text d = None

abbrev pub value_type : List Definition → List ℕ → Option (List ℕ)
value_type ds text = first (value_type_in text) ds

-- the type of a field by its number
abbrev pub field_type : ℕ → FieldList → Option (List ℕ)
field_type number unit_fields = None
field_type number (struct_fields fs _) = option_map (λ f. f.ty.text) (slice_get fs number)
field_type number (tuple_fields fs _) = option_map (λ f. f.ty.text) (slice_get fs number)

abbrev pub variant_type : List ℕ → ℕ → TypeDefinition → EnumVariant → Option (List ℕ)
variant_type text number t v = if is_variant text t v then field_type number v.fields else None

abbrev pub content_type : List ℕ → ℕ → TypeDefinition → TypeContent → Option (List ℕ)
content_type text number t (enum_type variants _) = first (variant_type text number t) variants
content_type text number t content = None

-- the type of a term's argument by its number, if a definition says it
abbrev pub argument_type_in : List ℕ → ℕ → Definition → Option (List ℕ)
argument_type_in text number (decl d) = if bytes_eq d.term.text text then option_map (λ n. n.text) (slice_get d.arg_tys number) else None
argument_type_in text number (type_def t) = content_type text number t t.ty
argument_type_in text number d = None

abbrev pub argument_type : List Definition → List ℕ → ℕ → Option (List ℕ)
argument_type ds text number = first (argument_type_in text number) ds
