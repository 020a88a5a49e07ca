-- Positions play no part in the shapes of definitions, nor in whether one holds the argument of a
-- macro.
use Rattle.std.proofs.Common.{◌≡◌, List, [], ◌∷◌, ◌++◌, map, codes, Option, None, Some, refl, ap, ◌∙◌}
use Rattle.isle_ast_names.specs.Erased.{erase_name, erase_names, erase_optional}
use Rattle.isle_ast_names.specs.Tree.{Name}
use Rattle.isle_ast_verification.specs.Erased.{erase_model}
use Rattle.isle_ast.specs.Erased.{erase_named_field, erase_indexed_field, erase_fields, erase_variant, erase_type_content, erase_target, erase_kind, erase_signature, erase_model_content, erase_definition, erase}
use Rattle.isle_ast.specs.MacroArgs.{definition_has_macro_arg, definitions_have_macro_arg}
use Rattle.isle_ast.specs.Tree.{FieldList, unit_fields, struct_fields, tuple_fields, EnumVariant, TypeContent, primitive_type, enum_type, struct_type, AttributeTarget, term_target, rule_target}
use Rattle.isle_ast.specs.Tree.{AttributeKind, chain_kind, priority_kind, tag_kind, TermSignature, ModelContent, type_model, const_model, extern_extractor, extern_constructor, extern_const}
use Rattle.isle_ast.specs.Tree.{Definition, type_def, rule, extractor, decl, attr, spec, spec_macro, model, state, form, instantiation, external, converter}
use Rattle.isle_printer_layout.proofs.Erased.Names.{shapes-erased, names-erased}
use Rattle.isle_printer_layout.specs.NameShapes.{name_shape, flag_shape, form_shape}
use Rattle.isle_printer_layout.specs.Sexp.{atom, list_of}
use Rattle.isle_printer.proofs.Erased.Rules.{any-erased, macro_arg-erased, rule_macro_arg-erased, rule-erased, extractor-erased}
use Rattle.isle_printer_verification.proofs.Erased.Specs.{model-erased, spec-erased, spec_definition-erased, spec_macro-erased, state-erased}
use Rattle.isle_printer_verification.specs.SpecShapes.{model_shape}
use Rattle.isle_printer.specs.DefinitionShapes.{definition_shape, named_field_shape, indexed_field_shape, field_shapes, variant_shape, type_content_shape, target_shape, tag_shape, kind_shape}
use Rattle.isle_printer.specs.DefinitionShapes.{signature_shape, instance_shapes, model_content_shape}

fields-erased : (fields : FieldList) → field_shapes (erase_fields fields) ≡ field_shapes fields
fields-erased unit_fields = refl
fields-erased (struct_fields fields _) = shapes-erased named_field_shape erase_named_field (λ f. refl) fields
fields-erased (tuple_fields fields _) = shapes-erased indexed_field_shape erase_indexed_field (λ f. refl) fields

variant-erased : (v : EnumVariant) → variant_shape (erase_variant v) ≡ variant_shape v
variant-erased v = ap (λ ss. list_of (name_shape v.name ∷ ss)) (fields-erased v.fields)

type_content-erased : (t : TypeContent) → type_content_shape (erase_type_content t) ≡ type_content_shape t
type_content-erased (primitive_type name _) = refl
type_content-erased (enum_type variants _) =
    ap (λ ss. form_shape (codes "enum") ss) (shapes-erased variant_shape erase_variant variant-erased variants)
type_content-erased (struct_type fields _) = ap (λ ss. form_shape (codes "struct") ss) (fields-erased fields)

target-erased : (t : AttributeTarget) → target_shape (erase_target t) ≡ target_shape t
target-erased (term_target name) = refl
target-erased (rule_target name) = refl

kind-erased : (k : AttributeKind) → kind_shape (erase_kind k) ≡ kind_shape k
kind-erased chain_kind = refl
kind-erased priority_kind = refl
kind-erased (tag_kind name) = refl

signature-erased : (g : TermSignature) → signature_shape (erase_signature g) ≡ signature_shape g
signature-erased g =
    ap (λ ss. list_of (form_shape (codes "args") ss ∷ form_shape (codes "ret") (model_shape (erase_model g.ret) ∷ []) ∷ []))
    (shapes-erased model_shape erase_model model-erased g.args)
    ∙ ap (λ s. list_of (form_shape (codes "args") (map model_shape g.args) ∷ form_shape (codes "ret") (s ∷ []) ∷ [])) (model-erased g.ret)

instances-erased : (o : Option Name) (gs : List TermSignature) → instance_shapes (erase_optional o) (map erase_signature gs) ≡ instance_shapes o gs
instances-erased None gs = shapes-erased signature_shape erase_signature signature-erased gs
instances-erased (Some name) gs = refl

model_content-erased : (m : ModelContent) → model_content_shape (erase_model_content m) ≡ model_content_shape m
model_content-erased (type_model ty) = ap (λ s. form_shape (codes "type") (s ∷ [])) (model-erased ty)
model_content-erased (const_model value) = ap (λ s. form_shape (codes "const") (s ∷ [])) (spec-erased value)

pub definition_shape-erased : (d : Definition) → definition_shape (erase_definition d) ≡ definition_shape d
definition_shape-erased (type_def t) =
    ap
    (λ s. list_of (atom (codes "type") ∷ [] ++ name_shape t.name ∷ [] ++ flag_shape (codes "extern") t.is_extern ++ flag_shape (codes "nodebug") t.is_nodebug ++ s ∷ []))
    (type_content-erased t.ty)
definition_shape-erased (rule r) = rule-erased r
definition_shape-erased (extractor e) = extractor-erased e
definition_shape-erased (decl d) =
    ap
    (λ args. list_of (atom (codes "decl") ∷ []
    ++ flag_shape (codes "pure") d.pure
    ++ flag_shape (codes "multi") d.multi
    ++ flag_shape (codes "partial") d.partial
    ++ flag_shape (codes "rec") d.rec
    ++ name_shape d.term ∷ []
    ++ list_of args ∷ []
    ++ name_shape d.ret_ty ∷ []))
    (names-erased d.arg_tys)
definition_shape-erased (attr a) =
    ap (λ t. list_of (atom (codes "attr") ∷ [] ++ t ++ map kind_shape (map erase_kind a.kinds))) (target-erased a.target)
    ∙ ap (λ ks. list_of (atom (codes "attr") ∷ [] ++ target_shape a.target ++ ks)) (shapes-erased kind_shape erase_kind kind-erased a.kinds)
definition_shape-erased (spec s) = spec_definition-erased s
definition_shape-erased (spec_macro m) = spec_macro-erased m
definition_shape-erased (model m) =
    ap (λ s. list_of (atom (codes "model") ∷ [] ++ name_shape m.name ∷ [] ++ s ∷ [])) (model_content-erased m.val)
definition_shape-erased (state s) = state-erased s
definition_shape-erased (form f) =
    ap (λ ss. list_of (atom (codes "form") ∷ [] ++ name_shape f.name ∷ [] ++ ss)) (shapes-erased signature_shape erase_signature signature-erased f.signatures)
definition_shape-erased (instantiation i) =
    ap (λ ss. list_of (atom (codes "instantiate") ∷ [] ++ name_shape i.term ∷ [] ++ ss ++ map tag_shape (erase_names i.tags))) (instances-erased i.form i.signatures)
    ∙ ap (λ ts. list_of (atom (codes "instantiate") ∷ [] ++ name_shape i.term ∷ [] ++ instance_shapes i.form i.signatures ++ ts)) (shapes-erased tag_shape erase_name (λ n. refl) i.tags)
definition_shape-erased (external (extern_extractor term func _ infallible)) = refl
definition_shape-erased (external (extern_constructor term func _)) = refl
definition_shape-erased (external (extern_const name ty _)) = refl
definition_shape-erased (converter c) = refl

-- a macro argument

definition_macro_arg-erased : (d : Definition) → definition_has_macro_arg (erase_definition d) ≡ definition_has_macro_arg d
definition_macro_arg-erased (type_def _) = refl
definition_macro_arg-erased (rule r) = rule_macro_arg-erased r
definition_macro_arg-erased (extractor e) = macro_arg-erased e.template
definition_macro_arg-erased (decl _) = refl
definition_macro_arg-erased (attr _) = refl
definition_macro_arg-erased (spec _) = refl
definition_macro_arg-erased (spec_macro _) = refl
definition_macro_arg-erased (model _) = refl
definition_macro_arg-erased (state _) = refl
definition_macro_arg-erased (form _) = refl
definition_macro_arg-erased (instantiation _) = refl
definition_macro_arg-erased (external _) = refl
definition_macro_arg-erased (converter _) = refl

pub macro_args-erased : (ds : List Definition) → definitions_have_macro_arg (erase ds) ≡ definitions_have_macro_arg ds
macro_args-erased = any-erased definition_has_macro_arg erase_definition definition_macro_arg-erased
