-- Positions play no part in which definitions are writable.
use Rattle.std.proofs.Common.{◌≡◌, ℕ, ◌+◌, List, [], ◌∷◌, map, Option, None, Some, refl, ◌↔◌}
use Rattle.isle_ast_names.specs.Tree.{Name}
use Rattle.isle_ast.specs.Tree.{Declaration, IndexedField, FieldList, unit_fields, struct_fields, tuple_fields, EnumVariant, TypeContent, primitive_type, enum_type, struct_type, AttributeTarget, term_target, rule_target, AttributeKind, chain_kind, priority_kind, tag_kind, TermSignature, ModelContent, type_model, const_model, ExternDefinition, extern_extractor, extern_constructor, extern_const, Definition, type_def, rule, extractor, decl, attr, spec, spec_macro, model, state, form, instantiation, external, converter}
use Rattle.isle_ast_names.specs.Words.{IsNonEmpty}
use Rattle.isle_ast_names.proofs.Writable.Erased.{unchanged, each-erased, names-erased}
use Rattle.isle_ast_verification.proofs.Writable.Erased.{model-erased, spec-erased, spec_definition-erased, spec_macro-erased, state-erased}
use Rattle.isle_ast_names.specs.Erased.{erase_name, erase_names, erase_optional}
use Rattle.isle_ast.specs.Erased.{erase_declaration, erase_named_field, erase_indexed_field, erase_fields, erase_variant, erase_type_content, erase_target, erase_kind, erase_signature, erase_model_content, erase_extern, erase_definition, erase}
use Rattle.isle_ast_verification.specs.Erased.{erase_model}
use Rattle.isle_ast_names.specs.Writable.{Each}
use Rattle.isle_ast_verification.specs.Writable.{IsWritableModel}
use Rattle.isle_ast.specs.Writable.{IsWritableDeclaration, IsWritableNamedField, AreWritableIndexedFields, AreWritableFields, IsWritableVariant, IsWritableTypeContent, IsWritableTarget, IsWritableKind, IsWritableSignature, AreWritableInstances, IsWritableModelContent, IsWritableExtern, IsWritable, AreWritable}
use Rattle.isle_ast_rules.proofs.Writable.Erased.{rule-erased, extractor-erased}

-- there is an element of a list exactly if there is an erased one
non_empty-erased : {A : Type 0} (erased : A → A) (xs : List A) → IsNonEmpty (map erased xs) ↔ IsNonEmpty xs
non_empty-erased erased [] = unchanged
non_empty-erased erased (x ∷ xs) = unchanged

-- a list is empty exactly if the erased one is
empty-erased : {A : Type 0} (erased : A → A) (xs : List A) → (map erased xs ≡ []) ↔ (xs ≡ [])
empty-erased erased [] = (λ e. refl, λ e. refl)
empty-erased erased (x ∷ xs) = (λ e. absurd (cc e), λ e. absurd (cc e))

declaration-erased : (d : Declaration) → IsWritableDeclaration (erase_declaration d) ↔ IsWritableDeclaration d
declaration-erased d =
    let args = names-erased d.arg_tys in (
      λ h. record {
        term = h.term;
        arg_tys = args.0 h.arg_tys;
        ret_ty = h.ret_ty;
        term_is_no_flag = h.term_is_no_flag;
      },
      λ h. record {
        term = h.term;
        arg_tys = args.1 h.arg_tys;
        ret_ty = h.ret_ty;
        term_is_no_flag = h.term_is_no_flag;
      },
    )

indexed_fields-erased : (place : ℕ) (fields : List IndexedField) → AreWritableIndexedFields place (map erase_indexed_field fields) ↔ AreWritableIndexedFields place fields
indexed_fields-erased place [] = unchanged
indexed_fields-erased place (f ∷ fields) =
    let behind = indexed_fields-erased (place + 1) fields in
    (λ h. (h.0, h.1, behind.0 h.2), λ h. (h.0, h.1, behind.1 h.2))

fields-erased : (fields : FieldList) → AreWritableFields (erase_fields fields) ↔ AreWritableFields fields
fields-erased unit_fields = unchanged
fields-erased (struct_fields fields _) =
    let some = non_empty-erased erase_named_field fields in
    let list = each-erased IsWritableNamedField erase_named_field (λ f. unchanged) fields in
    (λ h. (some.0 h.0, list.0 h.1), λ h. (some.1 h.0, list.1 h.1))
fields-erased (tuple_fields fields _) =
    let some = non_empty-erased erase_indexed_field fields in
    let list = indexed_fields-erased 0 fields in
    (λ h. (some.0 h.0, list.0 h.1), λ h. (some.1 h.0, list.1 h.1))

variant-erased : (v : EnumVariant) → IsWritableVariant (erase_variant v) ↔ IsWritableVariant v
variant-erased v =
    let fields = fields-erased v.fields in
    (λ h. (h.0, fields.0 h.1), λ h. (h.0, fields.1 h.1))

type_content-erased : (t : TypeContent) → IsWritableTypeContent (erase_type_content t) ↔ IsWritableTypeContent t
type_content-erased (primitive_type name _) = unchanged
type_content-erased (enum_type variants _) = each-erased IsWritableVariant erase_variant variant-erased variants
type_content-erased (struct_type fields _) = fields-erased fields

target-erased : (t : AttributeTarget) → IsWritableTarget (erase_target t) ↔ IsWritableTarget t
target-erased (term_target name) = unchanged
target-erased (rule_target name) = unchanged

kind-erased : (k : AttributeKind) → IsWritableKind (erase_kind k) ↔ IsWritableKind k
kind-erased chain_kind = unchanged
kind-erased priority_kind = unchanged
kind-erased (tag_kind name) = unchanged

signature-erased : (s : TermSignature) → IsWritableSignature (erase_signature s) ↔ IsWritableSignature s
signature-erased s =
    let args = each-erased IsWritableModel erase_model model-erased s.args in
    let ret = model-erased s.ret in
    (λ h. (args.0 h.0, ret.0 h.1), λ h. (args.1 h.0, ret.1 h.1))

signatures-erased : (signatures : List TermSignature) → Each IsWritableSignature (map erase_signature signatures) ↔ Each IsWritableSignature signatures
signatures-erased = each-erased IsWritableSignature erase_signature signature-erased

instances-erased : (o : Option Name) (signatures : List TermSignature) (tags : List Name) → AreWritableInstances (erase_optional o) (map erase_signature signatures) (erase_names tags) ↔ AreWritableInstances o signatures tags
instances-erased (Some name) signatures tags =
    let empty = empty-erased erase_signature signatures in
    let names = names-erased tags in
    (λ h. (h.0, empty.0 h.1, names.0 h.2), λ h. (h.0, empty.1 h.1, names.1 h.2))
instances-erased None signatures tags =
    let some = non_empty-erased erase_signature signatures in
    let list = signatures-erased signatures in
    let empty = empty-erased erase_name tags in
    (λ h. (some.0 h.0, list.0 h.1, empty.0 h.2), λ h. (some.1 h.0, list.1 h.1, empty.1 h.2))

model_content-erased : (m : ModelContent) → IsWritableModelContent (erase_model_content m) ↔ IsWritableModelContent m
model_content-erased (type_model ty) = model-erased ty
model_content-erased (const_model value) = spec-erased value

extern-erased : (e : ExternDefinition) → IsWritableExtern (erase_extern e) ↔ IsWritableExtern e
extern-erased (extern_extractor term func _ infallible) = unchanged
extern-erased (extern_constructor term func _) = unchanged
extern-erased (extern_const name ty _) = unchanged

definition-erased : (d : Definition) → IsWritable (erase_definition d) ↔ IsWritable d
definition-erased (type_def t) =
    let content = type_content-erased t.ty in
    (λ h. (h.0, content.0 h.1), λ h. (h.0, content.1 h.1))
definition-erased (rule r) = rule-erased r
definition-erased (extractor e) = extractor-erased e
definition-erased (decl d) = declaration-erased d
definition-erased (attr a) =
    let target = target-erased a.target in
    let kinds = each-erased IsWritableKind erase_kind kind-erased a.kinds in
    (λ h. (target.0 h.0, kinds.0 h.1), λ h. (target.1 h.0, kinds.1 h.1))
definition-erased (spec s) = spec_definition-erased s
definition-erased (spec_macro m) = spec_macro-erased m
definition-erased (model m) =
    let content = model_content-erased m.val in
    (λ h. (h.0, content.0 h.1), λ h. (h.0, content.1 h.1))
definition-erased (state s) = state-erased s
definition-erased (form f) =
    let list = signatures-erased f.signatures in
    (λ h. (h.0, list.0 h.1), λ h. (h.0, list.1 h.1))
definition-erased (instantiation i) =
    let instances = instances-erased i.form i.signatures i.tags in
    (λ h. (h.0, instances.0 h.1), λ h. (h.0, instances.1 h.1))
definition-erased (external e) = extern-erased e
definition-erased (converter c) = unchanged

-- Definitions are writable exactly if they are once erased.
pub writable-erased : (ds : List Definition) → AreWritable (erase ds) ↔ AreWritable ds
writable-erased = each-erased IsWritable erase_definition definition-erased
