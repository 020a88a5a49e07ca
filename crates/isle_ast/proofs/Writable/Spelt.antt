-- A spelt tree is writable.
use Rattle.std.proofs.Common.{ℕ, ◌+◌, List, [], ◌∷◌, Option, None, Some, codes, inl, inr, sym, subst}
use Rattle.isle_base.specs.Place.{Placed}
use Rattle.isle_ast_names.specs.Tree.{Name}
use Rattle.isle_ast.specs.Tree.{Declaration, IndexedField, FieldList, unit_fields, struct_fields, tuple_fields, EnumVariant, TypeContent, primitive_type, enum_type, struct_type, AttributeTarget, term_target, rule_target, AttributeKind, chain_kind, priority_kind, tag_kind, TermSignature, ModelContent, type_model, const_model, ExternDefinition, extern_extractor, extern_constructor, extern_const, Definition, type_def, rule, extractor, decl, attr, spec, spec_macro, model, state, form, instantiation, external, converter}
use Rattle.isle_ast.specs.Grammar.{SpellsDefinition, SpellsDefinitions}
use Rattle.isle_ast_verification.specs.TypeModelGrammar.{SpellsTypeModel}
use Rattle.isle_ast.specs.ModelGrammar.{SpellsSignature, SpellsInstances, SpellsTag, SpellsModelContent}
use Rattle.isle_ast.specs.TermGrammar.{SpellsDeclaration, SpellsAttributeKind, SpellsAttributeTarget, SpellsExtern}
use Rattle.isle_ast.specs.TypeGrammar.{SpellsNamedField, SpellsIndexedFields, SpellsFields, SpellsVariant, SpellsTypeContent}
use Rattle.isle_ast_names.specs.Writable.{IsName}
use Rattle.isle_ast.specs.Writable.{IsWritableDeclaration, IsWritableNamedField, AreWritableIndexedFields, AreWritableFields, IsWritableVariant, IsWritableTypeContent, IsWritableTarget, IsWritableKind, IsWritableSignature, AreWritableInstances, IsWritableModelContent, IsWritableExtern, IsWritable, AreWritable}
use Rattle.isle_ast_verification.specs.Writable.{IsWritableModel}
use Rattle.isle_ast_names.proofs.SpeltWords.{Each-spelt, names-spelt, differs}
use Rattle.isle_ast_verification.proofs.Writable.Spelt.{model-spelt, spec-spelt, spec_definition-spelt, spec_macro-spelt, state-spelt}
use Rattle.isle_ast_rules.proofs.Writable.Spelt.{rule-spelt, extractor-spelt}

declaration-spelt : (d : Declaration) (all rest : List Placed) → SpellsDeclaration d all rest → IsWritableDeclaration d
declaration-spelt d all rest s = record {
  term = s.term.0;
  arg_tys = names-spelt d.arg_tys s.arg_tys.0 s.arg_tys.1 s.arg_tys.3;
  ret_ty = s.ret_ty.0;
  term_is_no_flag = s.term_is_no_flag;
}

indexed_fields-spelt : (place : ℕ) (fs : List IndexedField) (all rest : List Placed) → SpellsIndexedFields place fs all rest → AreWritableIndexedFields place fs
indexed_fields-spelt place [] all rest s = tt
indexed_fields-spelt place (f ∷ fs) all rest s = (s.0, s.3.0, indexed_fields-spelt (place + 1) fs s.2 rest s.4)

fields-spelt : (fields : FieldList) (all rest : List Placed) → SpellsFields fields all rest → AreWritableFields fields
fields-spelt unit_fields all rest s = tt
fields-spelt (struct_fields fields _) all rest s =
    (s.0, Each-spelt IsWritableNamedField SpellsNamedField (λ f all rest s. (s.1.3.1.0, s.1.3.2.0)) fields all rest s.2)
fields-spelt (tuple_fields fields _) all rest s = (s.0, indexed_fields-spelt 0 fields all rest s.2)

variant-spelt : (v : EnumVariant) (all rest : List Placed) → SpellsVariant v all rest → IsWritableVariant v
variant-spelt v all rest s =
    elim s.1 [
      | inl bare ↦ (bare.0.0, subst AreWritableFields (sym bare.1) tt)
      | inr whole ↦ (whole.3.1.0, fields-spelt v.fields whole.3.0 whole.1 whole.3.2)
    ]

type_content-spelt : (t : TypeContent) (all rest : List Placed) → SpellsTypeContent t all rest → IsWritableTypeContent t
type_content-spelt (primitive_type name _) all rest s = s.1.3.2.0
type_content-spelt (enum_type variants _) all rest s =
    Each-spelt IsWritableVariant SpellsVariant variant-spelt variants s.1.3.0 s.1.1 s.1.3.2
type_content-spelt (struct_type fields _) all rest s = fields-spelt fields s.1.3.0 s.1.1 s.1.3.2

target-spelt : (t : AttributeTarget) (all rest : List Placed) → SpellsAttributeTarget t all rest → IsWritableTarget t
target-spelt (term_target name) all rest s = (differs name.text (codes "rule") s.0, s.1.0)
target-spelt (rule_target name) all rest s = s.2.0

kind-spelt : (k : AttributeKind) (all rest : List Placed) → SpellsAttributeKind k all rest → IsWritableKind k
kind-spelt chain_kind all rest s = tt
kind-spelt priority_kind all rest s = tt
kind-spelt (tag_kind name) all rest s = s.3.2.0

signature-spelt : (g : TermSignature) (all rest : List Placed) → SpellsSignature g all rest → IsWritableSignature g
signature-spelt g all rest s =
    let args = s.3.2 in
    let ret = s.3.3 in (
      Each-spelt IsWritableModel SpellsTypeModel model-spelt g.args args.3.0 args.1 args.3.2,
      model-spelt g.ret ret.3.0 ret.1 ret.3.2,
    )

instances-spelt : (o : Option Name) (signatures : List TermSignature) (tags : List Name) (all rest : List Placed) → SpellsInstances o signatures tags all rest → AreWritableInstances o signatures tags
instances-spelt None signatures tags all rest s =
    (s.0, Each-spelt IsWritableSignature SpellsSignature signature-spelt signatures all rest s.2, s.1)
instances-spelt (Some name) signatures tags all rest s =
    (s.2.0, s.0, Each-spelt IsName SpellsTag (λ n all rest s. s.3.2.0) tags s.1 rest s.3)

model_content-spelt : (m : ModelContent) (all rest : List Placed) → SpellsModelContent m all rest → IsWritableModelContent m
model_content-spelt (type_model ty) all rest s = model-spelt ty s.3.0 s.1 s.3.2
model_content-spelt (const_model value) all rest s = spec-spelt value s.3.0 s.1 s.3.2

extern-spelt : (e : ExternDefinition) (all rest : List Placed) → SpellsExtern e all rest → IsWritableExtern e
extern-spelt (extern_extractor term func _ infallible) all rest s =
    (s.2.2.2.1.0, s.2.2.2.2.0, s.0)
extern-spelt (extern_constructor term func _) all rest s = (s.1.2.1.0, s.1.2.2.0)
extern-spelt (extern_const name ty _) all rest s = (s.1.2.1.0, s.1.2.2.0)

pub definition-spelt : (d : Definition) (all rest : List Placed) → SpellsDefinition d all rest → IsWritable d
definition-spelt (type_def t) all rest s =
    let body = s.3.2 in
    (body.name.0, type_content-spelt t.ty body.behind_modifiers s.1 body.ty)
definition-spelt (rule r) all rest s = rule-spelt r s.3.0 s.1 s.3.2
definition-spelt (extractor e) all rest s = extractor-spelt e s.3.0 s.1 s.3.2
definition-spelt (decl d) all rest s = declaration-spelt d s.3.0 s.1 s.3.2
definition-spelt (attr a) all rest s =
    let body = s.3.2 in (
      target-spelt a.target s.3.0 body.behind_target body.target,
      Each-spelt IsWritableKind SpellsAttributeKind kind-spelt a.kinds body.behind_target s.1 body.kinds,
    )
definition-spelt (spec d) all rest s = spec_definition-spelt d s.3.0 s.1 s.3.2
definition-spelt (spec_macro m) all rest s = spec_macro-spelt m s.3.0 s.1 s.3.2
definition-spelt (model m) all rest s =
    let body = s.3.2 in
    (body.name.0, model_content-spelt m.val body.behind_name s.1 body.val)
definition-spelt (state d) all rest s = state-spelt d s.3.0 s.1 s.3.2
definition-spelt (form f) all rest s =
    let body = s.3.2 in
    (body.name.0, Each-spelt IsWritableSignature SpellsSignature signature-spelt f.signatures body.behind_name s.1 body.signatures)
definition-spelt (instantiation i) all rest s =
    let body = s.3.2 in
    (body.term.0, instances-spelt i.form i.signatures i.tags body.behind_term s.1 body.instances)
definition-spelt (external e) all rest s = extern-spelt e s.3.0 s.1 s.3.2
definition-spelt (converter c) all rest s =
    let body = s.3.2 in
    (body.term.0, body.inner_ty.0, body.outer_ty.0)

-- A spelt tree is writable.
pub spelt_is_writable : (ds : List Definition) (all : List Placed) → SpellsDefinitions ds all → AreWritable ds
spelt_is_writable ds all s = Each-spelt IsWritable SpellsDefinition definition-spelt ds all [] s
