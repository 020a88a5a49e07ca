-- The tests of definitions tell which of them are writable.
use Rattle.std.proofs.Common.{[], ◌≡◌, ℕ, List, not, Decides, refl, ◌+◌, ◌∷◌, ◌==◌, Option, None, Some, codes}
use Rattle.std.proofs.lemmas.Bool.{false≢true}
use Rattle.std.specs.List.{list_all}
use Rattle.std.proofs.lemmas.Bool.Decides.{Decides-and, Decides-eqb}
use Rattle.isle_ast_names.specs.Tree.{Name}
use Rattle.isle_ast_names.specs.WritableDeciders.{is_word, is_name, are_names, is_constant_name}
use Rattle.isle_ast.specs.WritableDeciders.{is_empty, is_writable_declaration, is_writable_conversion, is_writable_named_field, are_writable_indexed_fields, are_writable_fields, is_writable_variant, is_writable_type_content, is_writable_type, is_writable_target, is_writable_kind, is_writable_attribute, is_writable_signature, is_writable_form, are_writable_instances, is_writable_instantiation, is_writable_model_content, is_writable_model_definition, is_writable_extern, is_writable, are_writable}
use Rattle.isle_ast_names.proofs.Writable.Decided.{always, never, true_decided, three, each_decided, name_decided, names_decided}
use Rattle.isle_ast.specs.Tree.{Declaration, Conversion, NamedField, IndexedField, FieldList, unit_fields, struct_fields, tuple_fields, EnumVariant, TypeContent, primitive_type, enum_type, struct_type, TypeDefinition, AttributeTarget, term_target, rule_target, AttributeKind, chain_kind, priority_kind, tag_kind, Attribute, TermSignature, FormDefinition, TermInstantiation, ModelContent, type_model, const_model, ModelDefinition, ExternDefinition, extern_extractor, extern_constructor, extern_const, Definition, type_def, rule, extractor, decl, attr, spec, spec_macro, model, state, form, instantiation, external, converter}
use Rattle.isle_ast_names.specs.Words.{IsNonEmpty, demands}
use Rattle.isle_ast.specs.TermGrammar.{term_is_no_flag}
use Rattle.isle_ast_verification.specs.WritableDeciders.{is_writable_model}
use Rattle.isle_ast_rules.proofs.Writable.Decided.{not_word_decided, constant_name_decided, rule_decided, extractor_decided}
use Rattle.isle_ast_verification.proofs.Writable.Decided.{model_decided, spec_decided, spec_definition_decided, spec_macro_decided, state_decided}
use Rattle.isle_ast_names.specs.Writable.{Each}
use Rattle.isle_ast_verification.specs.Writable.{IsWritableModel}
use Rattle.isle_ast.specs.Writable.{IsWritableDeclaration, IsWritableConversion, IsWritableNamedField, AreWritableIndexedFields, AreWritableFields, IsWritableVariant, IsWritableTypeContent, IsWritableType, IsWritableTarget, IsWritableKind, IsWritableAttribute, IsWritableSignature, IsWritableForm, AreWritableInstances, IsWritableInstantiation, IsWritableModelContent, IsWritableModelDefinition, IsWritableExtern, IsWritable, AreWritable}

-- lists that have elements, and lists that have none

empty_decided : {A : Type 0} (xs : List A) → Decides (is_empty xs) (xs ≡ [])
empty_decided [] = (λ _. refl, λ _. refl)
empty_decided (x ∷ xs) = (λ e. absurd (false≢true e), λ e. cc)

non_empty_decided : {A : Type 0} (xs : List A) → Decides (not (is_empty xs)) (IsNonEmpty xs)
non_empty_decided [] = never
non_empty_decided (x ∷ xs) = always

-- declarations and conversions

declaration_decided : (d : Declaration) → Decides (is_writable_declaration d) (IsWritableDeclaration d)
declaration_decided d =
    let whole = Decides-and _ _ (Decides-and _ _ (Decides-and _ _ (name_decided d.term) (names_decided d.arg_tys)) (name_decided d.ret_ty))
    (true_decided (term_is_no_flag d)) in (
      λ e. let h = whole.0 e in
          record { term = h.0.0.0; arg_tys = h.0.0.1; ret_ty = h.0.1; term_is_no_flag = h.1 },
      λ h. whole.1 (((h.term, h.arg_tys), h.ret_ty), h.term_is_no_flag),
    )

conversion_decided : (c : Conversion) → Decides (is_writable_conversion c) (IsWritableConversion c)
conversion_decided c =
    three (is_name c.term) (is_name c.inner_ty) (is_name c.outer_ty) (name_decided c.term) (name_decided c.inner_ty) (name_decided c.outer_ty)

-- types

named_field_decided : (f : NamedField) → Decides (is_writable_named_field f) (IsWritableNamedField f)
named_field_decided f = Decides-and (is_name f.name) (is_name f.ty) (name_decided f.name) (name_decided f.ty)

indexed_fields_decided : (place : ℕ) (fs : List IndexedField) → Decides (are_writable_indexed_fields place fs) (AreWritableIndexedFields place fs)
indexed_fields_decided place [] = always
indexed_fields_decided place (f ∷ fs) =
    three (f.index == place) (is_name f.ty) (are_writable_indexed_fields (place + 1) fs)
    (Decides-eqb f.index place) (name_decided f.ty) (indexed_fields_decided (place + 1) fs)

fields_decided : (fs : FieldList) → Decides (are_writable_fields fs) (AreWritableFields fs)
fields_decided unit_fields = always
fields_decided (struct_fields fields _) =
    Decides-and (not (is_empty fields)) (list_all is_writable_named_field fields) (non_empty_decided fields)
    (each_decided is_writable_named_field IsWritableNamedField named_field_decided fields)
fields_decided (tuple_fields fields _) =
    Decides-and (not (is_empty fields)) (are_writable_indexed_fields 0 fields) (non_empty_decided fields) (indexed_fields_decided 0 fields)

variant_decided : (v : EnumVariant) → Decides (is_writable_variant v) (IsWritableVariant v)
variant_decided v = Decides-and (is_name v.name) (are_writable_fields v.fields) (name_decided v.name) (fields_decided v.fields)

type_content_decided : (t : TypeContent) → Decides (is_writable_type_content t) (IsWritableTypeContent t)
type_content_decided (primitive_type name _) = name_decided name
type_content_decided (enum_type variants _) = each_decided is_writable_variant IsWritableVariant variant_decided variants
type_content_decided (struct_type fields _) = fields_decided fields

type_decided : (t : TypeDefinition) → Decides (is_writable_type t) (IsWritableType t)
type_decided t = Decides-and (is_name t.name) (is_writable_type_content t.ty) (name_decided t.name) (type_content_decided t.ty)

-- attributes

target_decided : (t : AttributeTarget) → Decides (is_writable_target t) (IsWritableTarget t)
target_decided (term_target name) =
    Decides-and (not (is_word (codes "rule") name)) (is_name name) (not_word_decided (codes "rule") name) (name_decided name)
target_decided (rule_target name) = name_decided name

kind_decided : (k : AttributeKind) → Decides (is_writable_kind k) (IsWritableKind k)
kind_decided chain_kind = always
kind_decided priority_kind = always
kind_decided (tag_kind name) = name_decided name

attribute_decided : (a : Attribute) → Decides (is_writable_attribute a) (IsWritableAttribute a)
attribute_decided a =
    Decides-and (is_writable_target a.target) (list_all is_writable_kind a.kinds) (target_decided a.target)
    (each_decided is_writable_kind IsWritableKind kind_decided a.kinds)

-- models, forms and instantiations

signature_decided : (s : TermSignature) → Decides (is_writable_signature s) (IsWritableSignature s)
signature_decided s =
    Decides-and (list_all is_writable_model s.args) (is_writable_model s.ret)
    (each_decided is_writable_model IsWritableModel model_decided s.args) (model_decided s.ret)

signatures_decided : (ss : List TermSignature) → Decides (list_all is_writable_signature ss) (Each IsWritableSignature ss)
signatures_decided ss = each_decided is_writable_signature IsWritableSignature signature_decided ss

form_decided : (f : FormDefinition) → Decides (is_writable_form f) (IsWritableForm f)
form_decided f =
    Decides-and (is_name f.name) (list_all is_writable_signature f.signatures) (name_decided f.name) (signatures_decided f.signatures)

instances_decided : (f : Option Name) (ss : List TermSignature) (tags : List Name) → Decides (are_writable_instances f ss tags) (AreWritableInstances f ss tags)
instances_decided (Some name) ss tags =
    three (is_name name) (is_empty ss) (are_names tags) (name_decided name) (empty_decided ss) (names_decided tags)
instances_decided None ss tags =
    three (not (is_empty ss)) (list_all is_writable_signature ss) (is_empty tags) (non_empty_decided ss) (signatures_decided ss) (empty_decided tags)

instantiation_decided : (i : TermInstantiation) → Decides (is_writable_instantiation i) (IsWritableInstantiation i)
instantiation_decided i =
    Decides-and (is_name i.term) (are_writable_instances i.form i.signatures i.tags) (name_decided i.term)
    (instances_decided i.form i.signatures i.tags)

model_content_decided : (c : ModelContent) → Decides (is_writable_model_content c) (IsWritableModelContent c)
model_content_decided (type_model ty) = model_decided ty
model_content_decided (const_model value) = spec_decided value

model_definition_decided : (m : ModelDefinition) → Decides (is_writable_model_definition m) (IsWritableModelDefinition m)
model_definition_decided m =
    Decides-and (is_name m.name) (is_writable_model_content m.val) (name_decided m.name) (model_content_decided m.val)

-- terms and constants that are defined outside

extern_decided : (e : ExternDefinition) → Decides (is_writable_extern e) (IsWritableExtern e)
extern_decided (extern_extractor term func _ infallible) =
    three (is_name term) (is_name func) (demands term.text (codes "infallible") infallible)
    (name_decided term) (name_decided func) (true_decided (demands term.text (codes "infallible") infallible))
extern_decided (extern_constructor term func _) = Decides-and (is_name term) (is_name func) (name_decided term) (name_decided func)
extern_decided (extern_const name ty _) = Decides-and (is_constant_name name) (is_name ty) (constant_name_decided name) (name_decided ty)

-- definitions

pub definition_decided : (d : Definition) → Decides (is_writable d) (IsWritable d)
definition_decided (type_def t) = type_decided t
definition_decided (rule r) = rule_decided r
definition_decided (extractor e) = extractor_decided e
definition_decided (decl d) = declaration_decided d
definition_decided (attr a) = attribute_decided a
definition_decided (spec s) = spec_definition_decided s
definition_decided (spec_macro m) = spec_macro_decided m
definition_decided (model m) = model_definition_decided m
definition_decided (state s) = state_decided s
definition_decided (form f) = form_decided f
definition_decided (instantiation i) = instantiation_decided i
definition_decided (external e) = extern_decided e
definition_decided (converter c) = conversion_decided c

pub definitions_decided : (ds : List Definition) → Decides (are_writable ds) (AreWritable ds)
definitions_decided ds = each_decided is_writable IsWritable definition_decided ds
