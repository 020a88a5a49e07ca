-- What single definitions declare: constants, terms, templates and names.
use Rattle.std.specs.Prelude.{ℕ, List, [], ◌∷◌, Bool, true, false, map}
use Rattle.isle_ast_names.specs.Tree.{Name}
use Rattle.isle_ast_rules.specs.Templates.{replace}
use Rattle.isle_ast_rules.specs.Tree.{PatternNode, macro_arg_pattern}
use Rattle.isle_ast.specs.Roots.{full_name}
use Rattle.isle_ast.specs.Tree.{Declaration, NamedField, IndexedField, FieldList, unit_fields, struct_fields, tuple_fields, EnumVariant, TypeContent, primitive_type, enum_type, ExternDefinition, extern_extractor, extern_constructor, extern_const, Definition, type_def, extractor, decl, external}
use Rattle.isle_check_environment.specs.signatures.Entries.{Entry, entry}

abbrev pub text_of : Name → List ℕ
text_of n = n.text

abbrev pub texts : List Name → List (List ℕ)
texts ns = map text_of ns

-- the type of a constant
abbrev pub constant_of_extern : ExternDefinition → List (Entry (List ℕ))
constant_of_extern (extern_const name ty _) = entry name.text ty.text ∷ []
constant_of_extern _ = []

abbrev pub constant_entry : Definition → List (Entry (List ℕ))
constant_entry (external e) = constant_of_extern e
constant_entry _ = []

-- a term: the types of its arguments and of its result, and how it may be used
pub record TermNode : Type 0 where
  pub args : List (List ℕ)
  pub ret : List ℕ
  pub pure : Bool
  pub multi : Bool
  pub partial : Bool
  pub is_variant : Bool

abbrev pub declared_term : Declaration → TermNode
declared_term d =
    record {
      args = texts d.arg_tys;
      ret = d.ret_ty.text;
      pure = d.pure;
      multi = d.multi;
      partial = d.partial;
      is_variant = false;
    }

abbrev pub declared_entry : Definition → List (Entry TermNode)
declared_entry (decl d) = entry d.term.text (declared_term d) ∷ []
declared_entry _ = []

abbrev pub named_types : List NamedField → List (List ℕ)
named_types fs = map (λ f. f.ty.text) fs

abbrev pub indexed_types : List IndexedField → List (List ℕ)
indexed_types fs = map (λ f. f.ty.text) fs

abbrev pub field_types : FieldList → List (List ℕ)
field_types unit_fields = []
field_types (struct_fields fs _) = named_types fs
field_types (tuple_fields fs _) = indexed_types fs

-- a variant takes its fields and gives its type
abbrev pub variant_term : (enum : Name) → EnumVariant → TermNode
variant_term enum v =
    record {
      args = field_types v.fields;
      ret = enum.text;
      pure = false;
      multi = false;
      partial = false;
      is_variant = true;
    }

abbrev pub variant_entry : (enum : Name) → EnumVariant → Entry TermNode
variant_entry enum v = entry (full_name enum v.name).text (variant_term enum v)

abbrev pub variants_entries : (enum : Name) → List EnumVariant → List (Entry TermNode)
variants_entries enum [] = []
variants_entries enum (v ∷ vs) = variant_entry enum v ∷ variants_entries enum vs

abbrev pub content_entries : (enum : Name) → TypeContent → List (Entry TermNode)
content_entries enum (enum_type vs _) = variants_entries enum vs
content_entries enum _ = []

-- the variants of a type, as terms
abbrev pub variant_entries : Definition → List (Entry TermNode)
variant_entries (type_def t) = content_entries t.name t.ty
variant_entries _ = []

-- the template of an internal extractor, with macro arguments in the places of the parameters
abbrev pub template_entry : Definition → List (Entry PatternNode)
template_entry (extractor e) = entry e.term.text (replace e.template e.args macro_arg_pattern) ∷ []
template_entry _ = []

abbrev pub primitive_of_content : Name → TypeContent → List Name
primitive_of_content name (primitive_type _ _) = name ∷ []
primitive_of_content name _ = []

-- the name of a primitive type
abbrev pub primitive_name : Definition → List Name
primitive_name (type_def t) = primitive_of_content t.name t.ty
primitive_name _ = []

abbrev pub constructor_of_extern : ExternDefinition → List Name
constructor_of_extern (extern_constructor term _ _) = term ∷ []
constructor_of_extern _ = []

-- the term of an external constructor
abbrev pub constructor_name : Definition → List Name
constructor_name (external e) = constructor_of_extern e
constructor_name _ = []

abbrev pub extractor_of_extern : ExternDefinition → List Name
extractor_of_extern (extern_extractor term _ _ _) = term ∷ []
extractor_of_extern _ = []

-- the term of an external extractor
abbrev pub extractor_name : Definition → List Name
extractor_name (external e) = extractor_of_extern e
extractor_name _ = []
