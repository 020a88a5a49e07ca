-- Where the encodings of definitions and of whole trees end.
use Rattle.std.proofs.Common.{◌≡◌, ℕ, suc, List, [], ◌∷◌, ◌++◌, Option, get_or, length, map, refl, ap, sym, ◌∙◌, arith}
use Rattle.isle_base_source.specs.declared.pos.Pos.{Pos}
use Rattle.isle_ast_names.specs.Tree.{Name}
use Rattle.isle_encoding.specs.Numbers.{flag, integer, list, number, option}
use Rattle.isle_encoding.specs.Names.{name, names, position}
use Rattle.isle_ast.specs.Tree.{Declaration, Conversion, NamedField, IndexedField, FieldList, unit_fields, struct_fields, tuple_fields, EnumVariant, TypeContent, primitive_type, enum_type}
use Rattle.isle_ast.specs.Tree.{struct_type, TypeDefinition, AttributeTarget, term_target, rule_target, AttributeKind, chain_kind, priority_kind, tag_kind, Attribute, TermSignature, FormDefinition}
use Rattle.isle_ast.specs.Tree.{TermInstantiation, ModelContent, type_model, const_model, ModelDefinition, ExternDefinition, extern_extractor, extern_constructor, extern_const, Definition, type_def}
use Rattle.isle_ast.specs.Tree.{rule, extractor, decl, attr, spec, spec_macro, model, state, form, instantiation, external, converter}
use Rattle.isle_encoding.specs.Rules as rules
use Rattle.isle_encoding.specs.Verification as verification
use Rattle.isle_encoding.specs.Encoded.{named_field, indexed_field, fields, variant, type_content, type_definition, declaration, conversion, attribute_target, attribute_kind, attribute, signature}
use Rattle.isle_encoding.specs.Encoded.{form_definition, term_instantiation, model_content, model_definition, extern_definition, definition, definitions, encoded}
use Rattle.isle_encoding.proofs.Ends.{apart, counted, flag_ends, integer_ends, list_ends, number_ends, option_ends, parts_2, parts_3, parts_4, parts_5, parts_6, parts_7, parts_8, regroup, rest}
use Rattle.isle_encoding.proofs.NameEnds.{name_ends, names_end, position_ends}
use Rattle.isle_encoding.proofs.RuleEnds.{extractor_ends, rule_ends}
use Rattle.isle_encoding.proofs.VerificationEnds.{spec_definition_ends, spec_ends, spec_macro_ends, state_ends, type_model_ends}

pub named_field_ends : (x y : NamedField) (r s : List ℕ) → named_field x ++ r ≡ named_field y ++ s → (x ≡ y) × (r ≡ s)
named_field_ends x y r s same =
    let parts = parts_3 (name x.name) (name x.ty) (position x.pos) (name y.name) (name y.ty) (position y.pos)
    r s same in
    let v0 = name_ends x.name y.name _ _ parts in
    let v1 = name_ends x.ty y.ty _ _ v0.1 in
    let v2 = position_ends x.pos y.pos _ _ v1.1 in
    ((λ i. record { name = v0.0 i; ty = v1.0 i; pos = v2.0 i }), v2.1)

pub indexed_field_ends : (x y : IndexedField) (r s : List ℕ) → indexed_field x ++ r ≡ indexed_field y ++ s → (x ≡ y) × (r ≡ s)
indexed_field_ends x y r s same =
    let parts = parts_3 (number x.index) (name x.ty) (position x.pos) (number y.index) (name y.ty) (position y.pos)
    r s same in
    let v0 = number_ends x.index y.index _ _ parts in
    let v1 = name_ends x.ty y.ty _ _ v0.1 in
    let v2 = position_ends x.pos y.pos _ _ v1.1 in
    ((λ i. record { index = v0.0 i; ty = v1.0 i; pos = v2.0 i }), v2.1)

pub fields_end : (x y : FieldList) (r s : List ℕ) → fields x ++ r ≡ fields y ++ s → (x ≡ y) × (r ≡ s)
fields_end unit_fields unit_fields r s same = (refl, rest 0 0 _ _ same)
fields_end (struct_fields x0 x1) (struct_fields y0 y1) r s same =
    let parts = parts_2 (list named_field x0) (position x1) (list named_field y0) (position y1)
    r s (rest 1 1 _ _ same) in
    let v0 = list_ends named_field named_field_ends x0 y0 _ _ parts in
    let v1 = position_ends x1 y1 _ _ v0.1 in
    ((λ i. struct_fields (v0.0 i) (v1.0 i)), v1.1)
fields_end (tuple_fields x0 x1) (tuple_fields y0 y1) r s same =
    let parts = parts_2 (list indexed_field x0) (position x1) (list indexed_field y0) (position y1)
    r s (rest 2 2 _ _ same) in
    let v0 = list_ends indexed_field indexed_field_ends x0 y0 _ _ parts in
    let v1 = position_ends x1 y1 _ _ v0.1 in
    ((λ i. tuple_fields (v0.0 i) (v1.0 i)), v1.1)
fields_end _ _ r s same = absurd (apart _ _ _ _ same refl)

pub variant_ends : (x y : EnumVariant) (r s : List ℕ) → variant x ++ r ≡ variant y ++ s → (x ≡ y) × (r ≡ s)
variant_ends x y r s same =
    let parts = parts_3 (name x.name) (fields x.fields) (position x.pos) (name y.name) (fields y.fields) (position y.pos)
    r s same in
    let v0 = name_ends x.name y.name _ _ parts in
    let v1 = fields_end x.fields y.fields _ _ v0.1 in
    let v2 = position_ends x.pos y.pos _ _ v1.1 in
    ((λ i. record { name = v0.0 i; fields = v1.0 i; pos = v2.0 i }), v2.1)

pub type_content_ends : (x y : TypeContent) (r s : List ℕ) → type_content x ++ r ≡ type_content y ++ s → (x ≡ y) × (r ≡ s)
type_content_ends (primitive_type x0 x1) (primitive_type y0 y1) r s same =
    let parts = parts_2 (name x0) (position x1) (name y0) (position y1)
    r s (rest 0 0 _ _ same) in
    let v0 = name_ends x0 y0 _ _ parts in
    let v1 = position_ends x1 y1 _ _ v0.1 in
    ((λ i. primitive_type (v0.0 i) (v1.0 i)), v1.1)
type_content_ends (enum_type x0 x1) (enum_type y0 y1) r s same =
    let parts = parts_2 (list variant x0) (position x1) (list variant y0) (position y1)
    r s (rest 1 1 _ _ same) in
    let v0 = list_ends variant variant_ends x0 y0 _ _ parts in
    let v1 = position_ends x1 y1 _ _ v0.1 in
    ((λ i. enum_type (v0.0 i) (v1.0 i)), v1.1)
type_content_ends (struct_type x0 x1) (struct_type y0 y1) r s same =
    let parts = parts_2 (fields x0) (position x1) (fields y0) (position y1)
    r s (rest 2 2 _ _ same) in
    let v0 = fields_end x0 y0 _ _ parts in
    let v1 = position_ends x1 y1 _ _ v0.1 in
    ((λ i. struct_type (v0.0 i) (v1.0 i)), v1.1)
type_content_ends _ _ r s same = absurd (apart _ _ _ _ same refl)

pub type_definition_ends : (x y : TypeDefinition) (r s : List ℕ) → type_definition x ++ r ≡ type_definition y ++ s → (x ≡ y) × (r ≡ s)
type_definition_ends x y r s same =
    let parts = parts_5 (name x.name) (flag x.is_extern) (flag x.is_nodebug) (type_content x.ty) (position x.pos) (name y.name) (flag y.is_extern) (flag y.is_nodebug) (type_content y.ty) (position y.pos)
    r s same in
    let v0 = name_ends x.name y.name _ _ parts in
    let v1 = flag_ends x.is_extern y.is_extern _ _ v0.1 in
    let v2 = flag_ends x.is_nodebug y.is_nodebug _ _ v1.1 in
    let v3 = type_content_ends x.ty y.ty _ _ v2.1 in
    let v4 = position_ends x.pos y.pos _ _ v3.1 in
    ((λ i. record { name = v0.0 i; is_extern = v1.0 i; is_nodebug = v2.0 i; ty = v3.0 i; pos = v4.0 i }), v4.1)

pub declaration_ends : (x y : Declaration) (r s : List ℕ) → declaration x ++ r ≡ declaration y ++ s → (x ≡ y) × (r ≡ s)
declaration_ends x y r s same =
    let parts = parts_8 (name x.term) (names x.arg_tys) (name x.ret_ty) (flag x.pure) (flag x.multi) (flag x.partial) (flag x.rec) (position x.pos) (name y.term) (names y.arg_tys) (name y.ret_ty) (flag y.pure) (flag y.multi) (flag y.partial) (flag y.rec) (position y.pos)
    r s same in
    let v0 = name_ends x.term y.term _ _ parts in
    let v1 = names_end x.arg_tys y.arg_tys _ _ v0.1 in
    let v2 = name_ends x.ret_ty y.ret_ty _ _ v1.1 in
    let v3 = flag_ends x.pure y.pure _ _ v2.1 in
    let v4 = flag_ends x.multi y.multi _ _ v3.1 in
    let v5 = flag_ends x.partial y.partial _ _ v4.1 in
    let v6 = flag_ends x.rec y.rec _ _ v5.1 in
    let v7 = position_ends x.pos y.pos _ _ v6.1 in
    ((λ i. record { term = v0.0 i; arg_tys = v1.0 i; ret_ty = v2.0 i; pure = v3.0 i; multi = v4.0 i; partial = v5.0 i; rec = v6.0 i; pos = v7.0 i }), v7.1)

pub conversion_ends : (x y : Conversion) (r s : List ℕ) → conversion x ++ r ≡ conversion y ++ s → (x ≡ y) × (r ≡ s)
conversion_ends x y r s same =
    let parts = parts_4 (name x.term) (name x.inner_ty) (name x.outer_ty) (position x.pos) (name y.term) (name y.inner_ty) (name y.outer_ty) (position y.pos)
    r s same in
    let v0 = name_ends x.term y.term _ _ parts in
    let v1 = name_ends x.inner_ty y.inner_ty _ _ v0.1 in
    let v2 = name_ends x.outer_ty y.outer_ty _ _ v1.1 in
    let v3 = position_ends x.pos y.pos _ _ v2.1 in
    ((λ i. record { term = v0.0 i; inner_ty = v1.0 i; outer_ty = v2.0 i; pos = v3.0 i }), v3.1)

pub attribute_target_ends : (x y : AttributeTarget) (r s : List ℕ) → attribute_target x ++ r ≡ attribute_target y ++ s → (x ≡ y) × (r ≡ s)
attribute_target_ends (term_target x0) (term_target y0) r s same =
    let v0 = name_ends x0 y0 _ _ (rest 0 0 _ _ same) in
    ((λ i. term_target (v0.0 i)), v0.1)
attribute_target_ends (rule_target x0) (rule_target y0) r s same =
    let v0 = name_ends x0 y0 _ _ (rest 1 1 _ _ same) in
    ((λ i. rule_target (v0.0 i)), v0.1)
attribute_target_ends _ _ r s same = absurd (apart _ _ _ _ same refl)

pub attribute_kind_ends : (x y : AttributeKind) (r s : List ℕ) → attribute_kind x ++ r ≡ attribute_kind y ++ s → (x ≡ y) × (r ≡ s)
attribute_kind_ends chain_kind chain_kind r s same = (refl, rest 0 0 _ _ same)
attribute_kind_ends priority_kind priority_kind r s same = (refl, rest 1 1 _ _ same)
attribute_kind_ends (tag_kind x0) (tag_kind y0) r s same =
    let v0 = name_ends x0 y0 _ _ (rest 2 2 _ _ same) in
    ((λ i. tag_kind (v0.0 i)), v0.1)
attribute_kind_ends _ _ r s same = absurd (apart _ _ _ _ same refl)

pub attribute_ends : (x y : Attribute) (r s : List ℕ) → attribute x ++ r ≡ attribute y ++ s → (x ≡ y) × (r ≡ s)
attribute_ends x y r s same =
    let parts = parts_3 (attribute_target x.target) (list attribute_kind x.kinds) (position x.pos) (attribute_target y.target) (list attribute_kind y.kinds) (position y.pos)
    r s same in
    let v0 = attribute_target_ends x.target y.target _ _ parts in
    let v1 = list_ends attribute_kind attribute_kind_ends x.kinds y.kinds _ _ v0.1 in
    let v2 = position_ends x.pos y.pos _ _ v1.1 in
    ((λ i. record { target = v0.0 i; kinds = v1.0 i; pos = v2.0 i }), v2.1)

pub signature_ends : (x y : TermSignature) (r s : List ℕ) → signature x ++ r ≡ signature y ++ s → (x ≡ y) × (r ≡ s)
signature_ends x y r s same =
    let parts = parts_3 (list verification.type_model x.args) (verification.type_model x.ret) (position x.pos) (list verification.type_model y.args) (verification.type_model y.ret) (position y.pos)
    r s same in
    let v0 = list_ends verification.type_model type_model_ends x.args y.args _ _ parts in
    let v1 = type_model_ends x.ret y.ret _ _ v0.1 in
    let v2 = position_ends x.pos y.pos _ _ v1.1 in
    ((λ i. record { args = v0.0 i; ret = v1.0 i; pos = v2.0 i }), v2.1)

pub form_definition_ends : (x y : FormDefinition) (r s : List ℕ) → form_definition x ++ r ≡ form_definition y ++ s → (x ≡ y) × (r ≡ s)
form_definition_ends x y r s same =
    let parts = parts_3 (name x.name) (list signature x.signatures) (position x.pos) (name y.name) (list signature y.signatures) (position y.pos)
    r s same in
    let v0 = name_ends x.name y.name _ _ parts in
    let v1 = list_ends signature signature_ends x.signatures y.signatures _ _ v0.1 in
    let v2 = position_ends x.pos y.pos _ _ v1.1 in
    ((λ i. record { name = v0.0 i; signatures = v1.0 i; pos = v2.0 i }), v2.1)

pub term_instantiation_ends : (x y : TermInstantiation) (r s : List ℕ) → term_instantiation x ++ r ≡ term_instantiation y ++ s → (x ≡ y) × (r ≡ s)
term_instantiation_ends x y r s same =
    let parts = parts_5 (name x.term) (option name x.form) (list signature x.signatures) (names x.tags) (position x.pos) (name y.term) (option name y.form) (list signature y.signatures) (names y.tags) (position y.pos)
    r s same in
    let v0 = name_ends x.term y.term _ _ parts in
    let v1 = option_ends name name_ends x.form y.form _ _ v0.1 in
    let v2 = list_ends signature signature_ends x.signatures y.signatures _ _ v1.1 in
    let v3 = names_end x.tags y.tags _ _ v2.1 in
    let v4 = position_ends x.pos y.pos _ _ v3.1 in
    ((λ i. record { term = v0.0 i; form = v1.0 i; signatures = v2.0 i; tags = v3.0 i; pos = v4.0 i }), v4.1)

pub model_content_ends : (x y : ModelContent) (r s : List ℕ) → model_content x ++ r ≡ model_content y ++ s → (x ≡ y) × (r ≡ s)
model_content_ends (type_model x0) (type_model y0) r s same =
    let v0 = type_model_ends x0 y0 _ _ (rest 0 0 _ _ same) in
    ((λ i. type_model (v0.0 i)), v0.1)
model_content_ends (const_model x0) (const_model y0) r s same =
    let v0 = spec_ends x0 y0 _ _ (rest 1 1 _ _ same) in
    ((λ i. const_model (v0.0 i)), v0.1)
model_content_ends _ _ r s same = absurd (apart _ _ _ _ same refl)

pub model_definition_ends : (x y : ModelDefinition) (r s : List ℕ) → model_definition x ++ r ≡ model_definition y ++ s → (x ≡ y) × (r ≡ s)
model_definition_ends x y r s same =
    let parts = parts_2 (name x.name) (model_content x.val) (name y.name) (model_content y.val)
    r s same in
    let v0 = name_ends x.name y.name _ _ parts in
    let v1 = model_content_ends x.val y.val _ _ v0.1 in
    ((λ i. record { name = v0.0 i; val = v1.0 i }), v1.1)

pub extern_definition_ends : (x y : ExternDefinition) (r s : List ℕ) → extern_definition x ++ r ≡ extern_definition y ++ s → (x ≡ y) × (r ≡ s)
extern_definition_ends (extern_extractor x0 x1 x2 x3) (extern_extractor y0 y1 y2 y3) r s same =
    let parts = parts_4 (name x0) (name x1) (position x2) (flag x3) (name y0) (name y1) (position y2) (flag y3)
    r s (rest 0 0 _ _ same) in
    let v0 = name_ends x0 y0 _ _ parts in
    let v1 = name_ends x1 y1 _ _ v0.1 in
    let v2 = position_ends x2 y2 _ _ v1.1 in
    let v3 = flag_ends x3 y3 _ _ v2.1 in
    ((λ i. extern_extractor (v0.0 i) (v1.0 i) (v2.0 i) (v3.0 i)), v3.1)
extern_definition_ends (extern_constructor x0 x1 x2) (extern_constructor y0 y1 y2) r s same =
    let parts = parts_3 (name x0) (name x1) (position x2) (name y0) (name y1) (position y2)
    r s (rest 1 1 _ _ same) in
    let v0 = name_ends x0 y0 _ _ parts in
    let v1 = name_ends x1 y1 _ _ v0.1 in
    let v2 = position_ends x2 y2 _ _ v1.1 in
    ((λ i. extern_constructor (v0.0 i) (v1.0 i) (v2.0 i)), v2.1)
extern_definition_ends (extern_const x0 x1 x2) (extern_const y0 y1 y2) r s same =
    let parts = parts_3 (name x0) (name x1) (position x2) (name y0) (name y1) (position y2)
    r s (rest 2 2 _ _ same) in
    let v0 = name_ends x0 y0 _ _ parts in
    let v1 = name_ends x1 y1 _ _ v0.1 in
    let v2 = position_ends x2 y2 _ _ v1.1 in
    ((λ i. extern_const (v0.0 i) (v1.0 i) (v2.0 i)), v2.1)
extern_definition_ends _ _ r s same = absurd (apart _ _ _ _ same refl)

pub definition_ends : (x y : Definition) (r s : List ℕ) → definition x ++ r ≡ definition y ++ s → (x ≡ y) × (r ≡ s)
definition_ends (type_def x0) (type_def y0) r s same =
    let v0 = type_definition_ends x0 y0 _ _ (rest 1 1 _ _ same) in
    ((λ i. type_def (v0.0 i)), v0.1)
definition_ends (rule x0) (rule y0) r s same =
    let v0 = rule_ends x0 y0 _ _ (rest 2 2 _ _ same) in
    ((λ i. rule (v0.0 i)), v0.1)
definition_ends (extractor x0) (extractor y0) r s same =
    let v0 = extractor_ends x0 y0 _ _ (rest 3 3 _ _ same) in
    ((λ i. extractor (v0.0 i)), v0.1)
definition_ends (decl x0) (decl y0) r s same =
    let v0 = declaration_ends x0 y0 _ _ (rest 4 4 _ _ same) in
    ((λ i. decl (v0.0 i)), v0.1)
definition_ends (attr x0) (attr y0) r s same =
    let v0 = attribute_ends x0 y0 _ _ (rest 5 5 _ _ same) in
    ((λ i. attr (v0.0 i)), v0.1)
definition_ends (spec x0) (spec y0) r s same =
    let v0 = spec_definition_ends x0 y0 _ _ (rest 6 6 _ _ same) in
    ((λ i. spec (v0.0 i)), v0.1)
definition_ends (spec_macro x0) (spec_macro y0) r s same =
    let v0 = spec_macro_ends x0 y0 _ _ (rest 7 7 _ _ same) in
    ((λ i. spec_macro (v0.0 i)), v0.1)
definition_ends (model x0) (model y0) r s same =
    let v0 = model_definition_ends x0 y0 _ _ (rest 8 8 _ _ same) in
    ((λ i. model (v0.0 i)), v0.1)
definition_ends (state x0) (state y0) r s same =
    let v0 = state_ends x0 y0 _ _ (rest 9 9 _ _ same) in
    ((λ i. state (v0.0 i)), v0.1)
definition_ends (form x0) (form y0) r s same =
    let v0 = form_definition_ends x0 y0 _ _ (rest 10 10 _ _ same) in
    ((λ i. form (v0.0 i)), v0.1)
definition_ends (instantiation x0) (instantiation y0) r s same =
    let v0 = term_instantiation_ends x0 y0 _ _ (rest 11 11 _ _ same) in
    ((λ i. instantiation (v0.0 i)), v0.1)
definition_ends (external x0) (external y0) r s same =
    let v0 = extern_definition_ends x0 y0 _ _ (rest 12 12 _ _ same) in
    ((λ i. external (v0.0 i)), v0.1)
definition_ends (converter x0) (converter y0) r s same =
    let v0 = conversion_ends x0 y0 _ _ (rest 13 13 _ _ same) in
    ((λ i. converter (v0.0 i)), v0.1)
definition_ends _ _ r s same = absurd (apart _ _ _ _ same refl)

-- no definition begins as the end does
begins : (d : Definition) (a r s : List ℕ) → 0 ∷ r ≡ definition d ++ a ++ s → ⊥
begins (type_def _) a r s same = apart _ _ _ _ same refl
begins (rule _) a r s same = apart _ _ _ _ same refl
begins (extractor _) a r s same = apart _ _ _ _ same refl
begins (decl _) a r s same = apart _ _ _ _ same refl
begins (attr _) a r s same = apart _ _ _ _ same refl
begins (spec _) a r s same = apart _ _ _ _ same refl
begins (spec_macro _) a r s same = apart _ _ _ _ same refl
begins (model _) a r s same = apart _ _ _ _ same refl
begins (state _) a r s same = apart _ _ _ _ same refl
begins (form _) a r s same = apart _ _ _ _ same refl
begins (instantiation _) a r s same = apart _ _ _ _ same refl
begins (external _) a r s same = apart _ _ _ _ same refl
begins (converter _) a r s same = apart _ _ _ _ same refl

pub definitions_end : (x y : List Definition) (r s : List ℕ) → definitions x ++ r ≡ definitions y ++ s → (x ≡ y) × (r ≡ s)
definitions_end [] [] r s same = (refl, rest 0 0 _ _ same)
definitions_end (d ∷ x) (e ∷ y) r s same =
    let first = definition_ends d e _ _ (regroup (definition d) (definition e) (definitions x) (definitions y) r s same) in
    let others = definitions_end x y r s first.1 in
    ((λ i. first.0 i ∷ others.0 i), others.1)
definitions_end [] (e ∷ y) r s same = absurd (begins e (definitions y) r s same)
definitions_end (d ∷ x) [] r s same = absurd (begins d (definitions x) s r (sym same))

pub encoded_ends : (x y : List Definition) (r s : List ℕ) → encoded x ++ r ≡ encoded y ++ s → (x ≡ y) × (r ≡ s)
encoded_ends x y r s same = definitions_end x y r s (rest 1 1 _ _ same)
