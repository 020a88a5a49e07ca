-- Definitions erased: each position becomes the default one, which stands for an unknown position.
use Rattle.std.specs.Prelude.{List, map}
use Rattle.isle_base.specs.Place.{unknown}
use Rattle.isle_ast_verification.specs.Erased.{erase_spec, erase_spec_definition, erase_spec_macro, erase_state, erase_model}
use Rattle.isle_ast.specs.Tree.{Declaration, Conversion, NamedField, IndexedField, FieldList, unit_fields, struct_fields, tuple_fields, EnumVariant, TypeContent, primitive_type, enum_type, struct_type, TypeDefinition, AttributeTarget, term_target, rule_target, AttributeKind, chain_kind, priority_kind, tag_kind, Attribute, TermSignature, FormDefinition, TermInstantiation, ModelContent, type_model, const_model, ModelDefinition, ExternDefinition, extern_extractor, extern_constructor, extern_const, Definition, type_def, rule, extractor, decl, attr, spec, spec_macro, model, state, form, instantiation, external, converter}
use Rattle.isle_ast_names.specs.Erased.{erase_name, erase_names, erase_optional}
use Rattle.isle_ast_rules.specs.Erased.{erase_rule, erase_extractor}

abbrev pub erase_declaration : Declaration → Declaration
erase_declaration d =
    record d {
      term = erase_name d.term;
      arg_tys = erase_names d.arg_tys;
      ret_ty = erase_name d.ret_ty;
      pos = unknown;
    }

abbrev pub erase_conversion : Conversion → Conversion
erase_conversion c =
    record {
      term = erase_name c.term;
      inner_ty = erase_name c.inner_ty;
      outer_ty = erase_name c.outer_ty;
      pos = unknown;
    }

abbrev pub erase_named_field : NamedField → NamedField
erase_named_field f = record { name = erase_name f.name; ty = erase_name f.ty; pos = unknown }

abbrev pub erase_indexed_field : IndexedField → IndexedField
erase_indexed_field f = record { index = f.index; ty = erase_name f.ty; pos = unknown }

abbrev pub erase_fields : FieldList → FieldList
erase_fields unit_fields = unit_fields
erase_fields (struct_fields fields _) = struct_fields (map erase_named_field fields) unknown
erase_fields (tuple_fields fields _) = tuple_fields (map erase_indexed_field fields) unknown

abbrev pub erase_variant : EnumVariant → EnumVariant
erase_variant v = record { name = erase_name v.name; fields = erase_fields v.fields; pos = unknown }

abbrev pub erase_type_content : TypeContent → TypeContent
erase_type_content (primitive_type name _) = primitive_type (erase_name name) unknown
erase_type_content (enum_type variants _) = enum_type (map erase_variant variants) unknown
erase_type_content (struct_type fields _) = struct_type (erase_fields fields) unknown

abbrev pub erase_type : TypeDefinition → TypeDefinition
erase_type t = record t { name = erase_name t.name; ty = erase_type_content t.ty; pos = unknown }

abbrev pub erase_target : AttributeTarget → AttributeTarget
erase_target (term_target name) = term_target (erase_name name)
erase_target (rule_target name) = rule_target (erase_name name)

abbrev pub erase_kind : AttributeKind → AttributeKind
erase_kind chain_kind = chain_kind
erase_kind priority_kind = priority_kind
erase_kind (tag_kind name) = tag_kind (erase_name name)

abbrev pub erase_attribute : Attribute → Attribute
erase_attribute a = record { target = erase_target a.target; kinds = map erase_kind a.kinds; pos = unknown }

abbrev pub erase_signature : TermSignature → TermSignature
erase_signature s = record { args = map erase_model s.args; ret = erase_model s.ret; pos = unknown }

abbrev pub erase_form : FormDefinition → FormDefinition
erase_form f =
    record { name = erase_name f.name; signatures = map erase_signature f.signatures; pos = unknown }

abbrev pub erase_instantiation : TermInstantiation → TermInstantiation
erase_instantiation i =
    record {
      term = erase_name i.term;
      form = erase_optional i.form;
      signatures = map erase_signature i.signatures;
      tags = erase_names i.tags;
      pos = unknown;
    }

abbrev pub erase_model_content : ModelContent → ModelContent
erase_model_content (type_model ty) = type_model (erase_model ty)
erase_model_content (const_model value) = const_model (erase_spec value)

abbrev pub erase_model_definition : ModelDefinition → ModelDefinition
erase_model_definition m = record { name = erase_name m.name; val = erase_model_content m.val }

abbrev pub erase_extern : ExternDefinition → ExternDefinition
erase_extern (extern_extractor term func _ infallible) =
    extern_extractor (erase_name term) (erase_name func) unknown infallible
erase_extern (extern_constructor term func _) = extern_constructor (erase_name term) (erase_name func) unknown
erase_extern (extern_const name ty _) = extern_const (erase_name name) (erase_name ty) unknown

abbrev pub erase_definition : Definition → Definition
erase_definition (type_def t) = type_def (erase_type t)
erase_definition (rule r) = rule (erase_rule r)
erase_definition (extractor e) = extractor (erase_extractor e)
erase_definition (decl d) = decl (erase_declaration d)
erase_definition (attr a) = attr (erase_attribute a)
erase_definition (spec s) = spec (erase_spec_definition s)
erase_definition (spec_macro m) = spec_macro (erase_spec_macro m)
erase_definition (model m) = model (erase_model_definition m)
erase_definition (state s) = state (erase_state s)
erase_definition (form f) = form (erase_form f)
erase_definition (instantiation i) = instantiation (erase_instantiation i)
erase_definition (external e) = external (erase_extern e)
erase_definition (converter c) = converter (erase_conversion c)

abbrev pub erase : List Definition → List Definition
erase ds = map erase_definition ds
