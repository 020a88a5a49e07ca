-- The shape of a writable definition is tidy, and so the print of writable definitions has short
-- lines.
use Rattle.std.proofs.Common.{ℕ, ◌+◌, ◌≤◌, List, [], ◌∷◌, ◌++◌, map, codes, Option, None, Some, refl, sym, subst}
use Rattle.std.proofs.lemmas.List.{append_assoc}
use Rattle.isle_ast_names.specs.Tree.{Name}
use Rattle.isle_ast.specs.Tree.{Declaration, NamedField, IndexedField, FieldList, unit_fields, struct_fields, tuple_fields, EnumVariant, TypeContent, primitive_type, enum_type, struct_type}
use Rattle.isle_ast.specs.Tree.{AttributeTarget, term_target, rule_target, AttributeKind, chain_kind, priority_kind, tag_kind, TermSignature, ModelContent, type_model, const_model, ExternDefinition}
use Rattle.isle_ast.specs.Tree.{extern_extractor, extern_constructor, extern_const, Definition, type_def, rule, extractor, decl, attr, spec, spec_macro, model, state, form, instantiation, external}
use Rattle.isle_ast.specs.Tree.{converter}
use Rattle.isle_ast_names.specs.Writable.{IsName, Each}
use Rattle.isle_ast_verification.specs.Writable.{IsWritableModel}
use Rattle.isle_ast.specs.Writable.{IsWritableNamedField, AreWritableIndexedFields, AreWritableFields, IsWritableVariant, IsWritableTypeContent, IsWritableTarget, IsWritableKind, IsWritableSignature}
use Rattle.isle_ast.specs.Writable.{AreWritableInstances, IsWritableModelContent, IsWritableExtern, IsWritableDeclaration, IsWritable, AreWritable}
use Rattle.isle_printer.specs.DefinitionShapes.{definition_shape, declaration_shape, named_field_shape, indexed_field_shape, field_shapes, variant_shape, type_content_shape, target_shape, tag_shape}
use Rattle.isle_printer.specs.DefinitionShapes.{kind_shape, signature_shape, instance_shapes, extern_shape, model_content_shape}
use Rattle.isle_printer_layout.specs.Layout.{layout}
use Rattle.isle_printer.specs.Printed.{IsPrinted, definition_text, behind_text, printed_text}
use Rattle.isle_printer_verification.specs.SpecShapes.{model_shape}
use Rattle.isle_printer_layout.specs.NameShapes.{constant_shape}
use Rattle.isle_printer_layout.specs.ShortLines.{HasShortLines}
use Rattle.isle_printer.proofs.Printing.{IsPrinted-text}
use Rattle.isle_printer_layout.proofs.ShortLines.Layout.{IsTidy, layout-short, HasShortLines-empty}
use Rattle.isle_printer_layout.proofs.ShortLines.Parts.{TidyItems, ◌then◌, tidy-nothing, tidy-item, tidy-word, tidy-flag, tidy-name, tidy-all, tidy-list, tidy-form, tidy-form_item, tidy-names_item}
use Rattle.isle_printer.proofs.ShortLines.Rules.{tidy-constant, tidy-rule, tidy-extractor}
use Rattle.isle_printer_verification.proofs.ShortLines.Specs.{tidy-model, tidy-spec, tidy-spec_definition, tidy-spec_macro, tidy-state}

-- types

tidy-named_field : (f : NamedField) → IsWritableNamedField f → IsTidy (named_field_shape f)
tidy-named_field f is = tidy-list _ tt (tidy-name f.name is.0 then tidy-name f.ty is.1)

tidy-indexed_fields : (place : ℕ) (fields : List IndexedField) → AreWritableIndexedFields place fields → TidyItems (map indexed_field_shape fields)
tidy-indexed_fields place [] are = tidy-nothing
tidy-indexed_fields place (f ∷ fs) are = tidy-name f.ty are.1 then tidy-indexed_fields (place + 1) fs are.2

tidy-fields : (fields : FieldList) → AreWritableFields fields → TidyItems (field_shapes fields)
tidy-fields unit_fields are = tidy-nothing
tidy-fields (struct_fields fields _) are = tidy-all named_field_shape IsWritableNamedField tidy-named_field fields are.1
tidy-fields (tuple_fields fields _) are = tidy-indexed_fields 0 fields are.1

tidy-variant : (v : EnumVariant) → IsWritableVariant v → IsTidy (variant_shape v)
tidy-variant v is = tidy-list _ tt (tidy-name v.name is.0 then tidy-fields v.fields is.1)

tidy-type_content : (t : TypeContent) → IsWritableTypeContent t → TidyItems (type_content_shape t ∷ [])
tidy-type_content (primitive_type name _) is = tidy-form_item (codes "primitive") refl _ (tidy-name name is)
tidy-type_content (enum_type variants _) is =
    tidy-form_item (codes "enum") refl _ (tidy-all variant_shape IsWritableVariant tidy-variant variants is)
tidy-type_content (struct_type fields _) is = tidy-form_item (codes "struct") refl _ (tidy-fields fields is)

-- attributes and signatures

tidy-target : (t : AttributeTarget) → IsWritableTarget t → TidyItems (target_shape t)
tidy-target (term_target name) is = tidy-name name is.1
tidy-target (rule_target name) is = tidy-word (codes "rule") refl then tidy-name name is

tidy-tag : (n : Name) → IsName n → IsTidy (tag_shape n)
tidy-tag n is = tidy-form (codes "tag") refl _ (tidy-name n is)

tidy-kind : (k : AttributeKind) → IsWritableKind k → IsTidy (kind_shape k)
tidy-kind chain_kind is = tidy-form (codes "veri") refl _ (tidy-word (codes "chain") refl)
tidy-kind priority_kind is = tidy-form (codes "veri") refl _ (tidy-word (codes "priority") refl)
tidy-kind (tag_kind name) is = tidy-tag name is

tidy-signature : (g : TermSignature) → IsWritableSignature g → IsTidy (signature_shape g)
tidy-signature g is =
    tidy-list _ tt
    (tidy-form_item (codes "args") refl _ (tidy-all model_shape IsWritableModel tidy-model g.args is.0)
    then tidy-form_item (codes "ret") refl _ (tidy-item (tidy-model g.ret is.1)))

tidy-signatures : (gs : List TermSignature) → Each IsWritableSignature gs → TidyItems (map signature_shape gs)
tidy-signatures = tidy-all signature_shape IsWritableSignature tidy-signature

tidy-instances : (o : Option Name) (gs : List TermSignature) (tags : List Name) → AreWritableInstances o gs tags → TidyItems (instance_shapes o gs ++ map tag_shape tags)
tidy-instances None gs tags are = tidy-signatures gs are.1 then subst (λ ts. TidyItems (map tag_shape ts)) (sym are.2) tidy-nothing
tidy-instances (Some name) gs tags are = tidy-name name are.0 then tidy-all tag_shape IsName tidy-tag tags are.2

tidy-model_content : (m : ModelContent) → IsWritableModelContent m → TidyItems (model_content_shape m ∷ [])
tidy-model_content (type_model ty) is = tidy-form_item (codes "type") refl _ (tidy-item (tidy-model ty is))
tidy-model_content (const_model value) is = tidy-form_item (codes "const") refl _ (tidy-item (tidy-spec value is))

-- definitions

tidy-declaration : (d : Declaration) → IsWritableDeclaration d → IsTidy (declaration_shape d)
tidy-declaration d is =
    tidy-list _ tt
    (tidy-word (codes "decl") refl
    then tidy-flag (codes "pure") refl d.pure
    then tidy-flag (codes "multi") refl d.multi
    then tidy-flag (codes "partial") refl d.partial
    then tidy-flag (codes "rec") refl d.rec
    then tidy-name d.term is.term
    then tidy-names_item d.arg_tys is.arg_tys
    then tidy-name d.ret_ty is.ret_ty)

tidy-extern : (e : ExternDefinition) → IsWritableExtern e → IsTidy (extern_shape e)
tidy-extern (extern_extractor term func _ infallible) is =
    tidy-list _ tt
    (tidy-word (codes "extern") refl
    then tidy-word (codes "extractor") refl
    then tidy-flag (codes "infallible") refl infallible
    then tidy-name term is.0
    then tidy-name func is.1)
tidy-extern (extern_constructor term func _) is =
    tidy-list _ tt
    (tidy-word (codes "extern") refl
    then tidy-word (codes "constructor") refl
    then tidy-name term is.0
    then tidy-name func is.1)
tidy-extern (extern_const name ty _) is =
    tidy-list _ tt
    (tidy-word (codes "extern") refl
    then tidy-word (codes "const") refl
    then tidy-item {s = constant_shape name} (tidy-constant name is.0)
    then tidy-name ty is.1)

tidy-definition : (d : Definition) → IsWritable d → IsTidy (definition_shape d)
tidy-definition (type_def t) is =
    tidy-list _ tt
    (tidy-word (codes "type") refl
    then tidy-name t.name is.0
    then tidy-flag (codes "extern") refl t.is_extern
    then tidy-flag (codes "nodebug") refl t.is_nodebug
    then tidy-type_content t.ty is.1)
tidy-definition (rule r) is = tidy-rule r is
tidy-definition (extractor e) is = tidy-extractor e is
tidy-definition (decl d) is = tidy-declaration d is
tidy-definition (attr a) is =
    tidy-list _ tt
    (tidy-word (codes "attr") refl then tidy-target a.target is.0 then tidy-all kind_shape IsWritableKind tidy-kind a.kinds is.1)
tidy-definition (spec s) is = tidy-spec_definition s is
tidy-definition (spec_macro m) is = tidy-spec_macro m is
tidy-definition (model m) is =
    tidy-list _ tt (tidy-word (codes "model") refl then tidy-name m.name is.0 then tidy-model_content m.val is.1)
tidy-definition (state s) is = tidy-state s is
tidy-definition (form f) is =
    tidy-list _ tt (tidy-word (codes "form") refl then tidy-name f.name is.0 then tidy-signatures f.signatures is.1)
tidy-definition (instantiation i) is =
    tidy-list _ tt
    (tidy-word (codes "instantiate") refl
    then tidy-name i.term is.0
    then tidy-instances i.form i.signatures i.tags is.1)
tidy-definition (external e) is = tidy-extern e is
tidy-definition (converter c) is =
    tidy-list _ tt
    (tidy-word (codes "convert") refl
    then tidy-name c.inner_ty is.1
    then tidy-name c.outer_ty is.2
    then tidy-name c.term is.0)

-- the print

definition_text-short : (width : ℕ) → 1 ≤ width → (d : Definition) (rest : List ℕ) → IsWritable d → HasShortLines width rest → HasShortLines width (definition_text width d ++ rest)
definition_text-short width some d rest is behind =
    subst (HasShortLines width) (sym (append_assoc (layout width (definition_shape d)) (10 ∷ []) rest))
    (layout-short width some (definition_shape d) rest (tidy-definition d is) behind)

behind_text-short : (width : ℕ) → 1 ≤ width → (ds : List Definition) → AreWritable ds → HasShortLines width (behind_text width ds)
behind_text-short width some [] are = tt
behind_text-short width some (d ∷ ds) are =
    HasShortLines-empty width (definition_text width d ++ behind_text width ds)
    (definition_text-short width some d (behind_text width ds) are.0 (behind_text-short width some ds are.1))

-- The print of writable definitions, at any width from 1, has short lines.
printed_text-short : (width : ℕ) → 1 ≤ width → (ds : List Definition) → AreWritable ds → HasShortLines width (printed_text width ds)
printed_text-short width some [] are = tt
printed_text-short width some (d ∷ ds) are =
    definition_text-short width some d (behind_text width ds) are.0 (behind_text-short width some ds are.1)

pub IsPrinted-HasShortLines : (width : ℕ) (ds : List Definition) (text : List ℕ) → 1 ≤ width → AreWritable ds → IsPrinted width ds text → HasShortLines width text
IsPrinted-HasShortLines width ds text some are is =
    subst (HasShortLines width) (sym (IsPrinted-text width ds text is)) (printed_text-short width some ds are)
