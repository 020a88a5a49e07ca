-- The conditions on each node of a writable tree, as tests.
use Rattle.std.specs.Prelude.{[], ℕ, List, Bool, not, ◌+◌, ◌∷◌, true, false, ◌&&◌, ◌==◌, Option, None, Some, codes}
use Rattle.std.specs.List.{list_all}
use Rattle.isle_ast_names.specs.Tree.{Name}
use Rattle.isle_ast_names.specs.WritableDeciders.{is_word, is_name, are_names, is_constant_name}
use Rattle.isle_ast_names.specs.Words.{demands}
use Rattle.isle_ast.specs.TermGrammar.{term_is_no_flag}
use Rattle.isle_ast.specs.Tree.{Declaration, Conversion, NamedField, IndexedField, FieldList, unit_fields, struct_fields, tuple_fields, EnumVariant, TypeContent, primitive_type, enum_type, struct_type, TypeDefinition, AttributeTarget, term_target, rule_target, AttributeKind, chain_kind, priority_kind, tag_kind, Attribute, TermSignature, FormDefinition, TermInstantiation, ModelContent, type_model, const_model, ModelDefinition, ExternDefinition, extern_extractor, extern_constructor, extern_const, Definition, type_def, rule, extractor, decl, attr, spec, spec_macro, model, state, form, instantiation, external, converter}
use Rattle.isle_ast_verification.specs.WritableDeciders.{is_writable_model, is_writable_spec, is_writable_spec_definition, is_writable_spec_macro, is_writable_state}
use Rattle.isle_ast_rules.specs.WritableDeciders.{is_writable_rule, is_writable_extractor}

-- there is no element
abbrev pub is_empty : {A : Type 0} → List A → Bool
is_empty [] = true
is_empty (_ ∷ _) = false

abbrev pub is_writable_declaration : Declaration → Bool
is_writable_declaration d = is_name d.term && are_names d.arg_tys && is_name d.ret_ty && term_is_no_flag d

abbrev pub is_writable_conversion : Conversion → Bool
is_writable_conversion c = is_name c.term && is_name c.inner_ty && is_name c.outer_ty

abbrev pub is_writable_named_field : NamedField → Bool
is_writable_named_field f = is_name f.name && is_name f.ty

-- the index of each field is its place
abbrev pub are_writable_indexed_fields : ℕ → List IndexedField → Bool
are_writable_indexed_fields place [] = true
are_writable_indexed_fields place (f ∷ fs) =
    (f.index == place && is_name f.ty) && are_writable_indexed_fields (place + 1) fs

abbrev pub are_writable_fields : FieldList → Bool
are_writable_fields unit_fields = true
are_writable_fields (struct_fields fields _) = not (is_empty fields) && list_all is_writable_named_field fields
are_writable_fields (tuple_fields fields _) = not (is_empty fields) && are_writable_indexed_fields 0 fields

abbrev pub is_writable_variant : EnumVariant → Bool
is_writable_variant v = is_name v.name && are_writable_fields v.fields

abbrev pub is_writable_type_content : TypeContent → Bool
is_writable_type_content (primitive_type name _) = is_name name
is_writable_type_content (enum_type variants _) = list_all is_writable_variant variants
is_writable_type_content (struct_type fields _) = are_writable_fields fields

abbrev pub is_writable_type : TypeDefinition → Bool
is_writable_type t = is_name t.name && is_writable_type_content t.ty

-- a term as the target is not named `rule`
abbrev pub is_writable_target : AttributeTarget → Bool
is_writable_target (term_target name) = not (is_word (codes "rule") name) && is_name name
is_writable_target (rule_target name) = is_name name

abbrev pub is_writable_kind : AttributeKind → Bool
is_writable_kind chain_kind = true
is_writable_kind priority_kind = true
is_writable_kind (tag_kind name) = is_name name

abbrev pub is_writable_attribute : Attribute → Bool
is_writable_attribute a = is_writable_target a.target && list_all is_writable_kind a.kinds

abbrev pub is_writable_signature : TermSignature → Bool
is_writable_signature s = list_all is_writable_model s.args && is_writable_model s.ret

abbrev pub is_writable_form : FormDefinition → Bool
is_writable_form f = is_name f.name && list_all is_writable_signature f.signatures

-- with a form no signatures; without one some, and no tags
abbrev pub are_writable_instances : Option Name → List TermSignature → List Name → Bool
are_writable_instances (Some name) signatures tags = is_name name && is_empty signatures && are_names tags
are_writable_instances None signatures tags =
    not (is_empty signatures) && list_all is_writable_signature signatures && is_empty tags

abbrev pub is_writable_instantiation : TermInstantiation → Bool
is_writable_instantiation i = is_name i.term && are_writable_instances i.form i.signatures i.tags

abbrev pub is_writable_model_content : ModelContent → Bool
is_writable_model_content (type_model ty) = is_writable_model ty
is_writable_model_content (const_model value) = is_writable_spec value

abbrev pub is_writable_model_definition : ModelDefinition → Bool
is_writable_model_definition m = is_name m.name && is_writable_model_content m.val

abbrev pub is_writable_extern : ExternDefinition → Bool
is_writable_extern (extern_extractor term func _ infallible) =
    is_name term && is_name func && demands term.text (codes "infallible") infallible
is_writable_extern (extern_constructor term func _) = is_name term && is_name func
is_writable_extern (extern_const name ty _) = is_constant_name name && is_name ty

abbrev pub is_writable : Definition → Bool
is_writable (type_def t) = is_writable_type t
is_writable (rule r) = is_writable_rule r
is_writable (extractor e) = is_writable_extractor e
is_writable (decl d) = is_writable_declaration d
is_writable (attr a) = is_writable_attribute a
is_writable (spec s) = is_writable_spec_definition s
is_writable (spec_macro m) = is_writable_spec_macro m
is_writable (model m) = is_writable_model_definition m
is_writable (state s) = is_writable_state s
is_writable (form f) = is_writable_form f
is_writable (instantiation i) = is_writable_instantiation i
is_writable (external e) = is_writable_extern e
is_writable (converter c) = is_writable_conversion c

abbrev pub are_writable : List Definition → Bool
are_writable ds = list_all is_writable ds
