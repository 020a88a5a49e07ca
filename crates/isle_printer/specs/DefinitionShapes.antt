-- The S-expressions of definitions, and of the parts of those other than specs and rules.
use Rattle.std.specs.Prelude.{[], List, ◌∷◌, ◌++◌, Option, None, Some, map, codes}
use Rattle.isle_ast.specs.Tree.{Definition, type_def, rule, extractor, decl, attr, spec, spec_macro, model, state, form, instantiation, external, converter, Declaration, Conversion, NamedField}
use Rattle.isle_ast.specs.Tree.{IndexedField, FieldList, unit_fields, struct_fields, tuple_fields, EnumVariant, TypeContent, primitive_type, enum_type, struct_type, TypeDefinition, AttributeTarget}
use Rattle.isle_ast.specs.Tree.{term_target, rule_target, AttributeKind, chain_kind, priority_kind, tag_kind, Attribute, TermSignature, FormDefinition, TermInstantiation, ExternDefinition}
use Rattle.isle_ast.specs.Tree.{extern_extractor, extern_constructor, extern_const, ModelContent, type_model, const_model, ModelDefinition}
use Rattle.isle_printer.specs.RuleShapes.{rule_shape, extractor_shape}
use Rattle.isle_printer_layout.specs.Sexp.{Sexp, atom, list_of}
use Rattle.isle_printer_verification.specs.SpecShapes.{spec_definition_shape, spec_macro_shape, state_shape, model_shape, spec_shape}
use Rattle.isle_ast_names.specs.Tree.{Name}
use Rattle.isle_printer_layout.specs.NameShapes.{name_shape, name_shapes, flag_shape, form_shape, constant_shape}

-- `(decl pure multi partial rec term (args..) ret)`, with the flags that are set
abbrev pub declaration_shape : Declaration → Sexp
declaration_shape d =
    list_of
    (atom (codes "decl") ∷ []
    ++ flag_shape (codes "pure") d.pure
    ++ flag_shape (codes "multi") d.multi
    ++ flag_shape (codes "partial") d.partial
    ++ flag_shape (codes "rec") d.rec
    ++ name_shape d.term ∷ []
    ++ list_of (name_shapes d.arg_tys) ∷ []
    ++ name_shape d.ret_ty ∷ [])

-- `(convert inner outer term)`
abbrev pub conversion_shape : Conversion → Sexp
conversion_shape c =
    list_of
    (atom (codes "convert") ∷ []
    ++ name_shape c.inner_ty ∷ []
    ++ name_shape c.outer_ty ∷ []
    ++ name_shape c.term ∷ [])

-- `(name type)`
abbrev pub named_field_shape : NamedField → Sexp
named_field_shape f = list_of (name_shape f.name ∷ name_shape f.ty ∷ [])

-- only the type
abbrev pub indexed_field_shape : IndexedField → Sexp
indexed_field_shape f = name_shape f.ty

-- the fields, which add no item if there are none
abbrev pub field_shapes : FieldList → List Sexp
field_shapes unit_fields = []
field_shapes (struct_fields fields _) = map named_field_shape fields
field_shapes (tuple_fields fields _) = map indexed_field_shape fields

-- `(name fields..)`, always in parentheses
abbrev pub variant_shape : EnumVariant → Sexp
variant_shape v = list_of (name_shape v.name ∷ field_shapes v.fields)

-- `(primitive name)`, `(enum variant..)`, `(struct fields..)`
abbrev pub type_content_shape : TypeContent → Sexp
type_content_shape (primitive_type name _) = form_shape (codes "primitive") (name_shape name ∷ [])
type_content_shape (enum_type variants _) = form_shape (codes "enum") (map variant_shape variants)
type_content_shape (struct_type fields _) = form_shape (codes "struct") (field_shapes fields)

-- `(type name extern nodebug content)`, with the flags that are set
abbrev pub type_shape : TypeDefinition → Sexp
type_shape t =
    list_of
    (atom (codes "type") ∷ []
    ++ name_shape t.name ∷ []
    ++ flag_shape (codes "extern") t.is_extern
    ++ flag_shape (codes "nodebug") t.is_nodebug
    ++ type_content_shape t.ty ∷ [])

-- the name of a term, or `rule` and the name of a rule
abbrev pub target_shape : AttributeTarget → List Sexp
target_shape (term_target name) = name_shape name ∷ []
target_shape (rule_target name) = atom (codes "rule") ∷ name_shape name ∷ []

abbrev pub tag_shape : Name → Sexp
tag_shape name = form_shape (codes "tag") (name_shape name ∷ [])

-- `(veri chain)`, `(veri priority)`, `(tag name)`
abbrev pub kind_shape : AttributeKind → Sexp
kind_shape chain_kind = form_shape (codes "veri") (atom (codes "chain") ∷ [])
kind_shape priority_kind = form_shape (codes "veri") (atom (codes "priority") ∷ [])
kind_shape (tag_kind name) = tag_shape name

-- `(attr target kind..)`
abbrev pub attribute_shape : Attribute → Sexp
attribute_shape a = list_of (atom (codes "attr") ∷ [] ++ target_shape a.target ++ map kind_shape a.kinds)

-- `((args model..) (ret model))`
abbrev pub signature_shape : TermSignature → Sexp
signature_shape s =
    list_of
    (form_shape (codes "args") (map model_shape s.args)
    ∷ form_shape (codes "ret") (model_shape s.ret ∷ [])
    ∷ [])

-- `(form name signature..)`
abbrev pub form_definition_shape : FormDefinition → Sexp
form_definition_shape f =
    list_of (atom (codes "form") ∷ [] ++ name_shape f.name ∷ [] ++ map signature_shape f.signatures)

-- the form if there is one, else the signatures
abbrev pub instance_shapes : Option Name → List TermSignature → List Sexp
instance_shapes None signatures = map signature_shape signatures
instance_shapes (Some name) signatures = name_shape name ∷ []

-- `(instantiate term form tag..)` or `(instantiate term signature.. tag..)`
abbrev pub instantiation_shape : TermInstantiation → Sexp
instantiation_shape i =
    list_of
    (atom (codes "instantiate") ∷ []
    ++ name_shape i.term ∷ []
    ++ instance_shapes i.form i.signatures
    ++ map tag_shape i.tags)

-- `(extern extractor infallible term func)`, with the flag if it is set,
-- `(extern constructor term func)`, `(extern const $name type)`
abbrev pub extern_shape : ExternDefinition → Sexp
extern_shape (extern_extractor term func _ infallible) =
    list_of
    (atom (codes "extern") ∷ []
    ++ atom (codes "extractor") ∷ []
    ++ flag_shape (codes "infallible") infallible
    ++ name_shape term ∷ []
    ++ name_shape func ∷ [])
extern_shape (extern_constructor term func _) =
    list_of
    (atom (codes "extern") ∷ []
    ++ atom (codes "constructor") ∷ []
    ++ name_shape term ∷ []
    ++ name_shape func ∷ [])
extern_shape (extern_const name ty _) =
    list_of
    (atom (codes "extern") ∷ []
    ++ atom (codes "const") ∷ []
    ++ constant_shape name ∷ []
    ++ name_shape ty ∷ [])

-- `(type model)` or `(const X)`
abbrev pub model_content_shape : ModelContent → Sexp
model_content_shape (type_model ty) = form_shape (codes "type") (model_shape ty ∷ [])
model_content_shape (const_model value) = form_shape (codes "const") (spec_shape value ∷ [])

-- `(model name content)`
abbrev pub model_definition_shape : ModelDefinition → Sexp
model_definition_shape m =
    list_of (atom (codes "model") ∷ [] ++ name_shape m.name ∷ [] ++ model_content_shape m.val ∷ [])

abbrev pub definition_shape : Definition → Sexp
definition_shape (type_def t) = type_shape t
definition_shape (rule r) = rule_shape r
definition_shape (extractor e) = extractor_shape e
definition_shape (decl d) = declaration_shape d
definition_shape (attr a) = attribute_shape a
definition_shape (spec s) = spec_definition_shape s
definition_shape (spec_macro m) = spec_macro_shape m
definition_shape (model m) = model_definition_shape m
definition_shape (state s) = state_shape s
definition_shape (form f) = form_definition_shape f
definition_shape (instantiation i) = instantiation_shape i
definition_shape (external e) = extern_shape e
definition_shape (converter c) = conversion_shape c
