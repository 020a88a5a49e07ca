-- Tokens with other names spell the definitions with these names.
use Rattle.std.proofs.Common.{[], ◌≡◌, ℕ, ◌+◌, List, ◌∷◌, ◌++◌, map, Bool, true, false, Option, None, Some, codes, refl, sym, ap, ◌∙◌, ◌⊎◌, inl, inr}
use Rattle.std.specs.List.{flat_map}
use Rattle.isle_base.specs.Place.{Placed}
use Rattle.isle_ast_names.specs.Erased.{erase_name, erase_optional}
use Rattle.isle_ast_names.specs.Tree.{Name}
use Rattle.isle_ast_names.specs.Words.{BeginsAt, BehindWord, InForm, InParentheses, IsNonEmpty, SpellsAll, SpellsConstant, SpellsFlag, SpellsName, SpellsOptional, SpellsWord}
use Rattle.isle_ast_names.proofs.Lawful.{Begins, Cuts, Then, all_lawful, flag_plain, name_begins, name_lawful, nothing_plain, pair_lawful, parentheses_begin, parentheses_lawful, parentheses_plain, then_begins, then_cuts, then_plain, value_lawful, word_lawful, word_plain}
use Rattle.isle_ast_names.proofs.LawfulWords.{optional_name_lawful}
use Rattle.isle_ast_verification.specs.Erased.{erase_spec}
use Rattle.isle_ast_verification.specs.SpecDefinitionGrammar.{SpecClause, SpellsClause, SpellsSpecDefinition, match_clause, modifies_clause, provide_clause, require_clause}
use Rattle.isle_ast_verification.specs.SpecGrammar.{SpellsHeaded, SpellsSpec}
use Rattle.isle_ast_verification.specs.Tree.{SpecDefinition}
use Rattle.isle_ast_verification.proofs.Lawful.Specs.{spec_lawful}
use Rattle.isle_ast.specs.Erased.{erase_signature}
use Rattle.isle_ast.specs.Grammar.{SpellsDefinition}
use Rattle.isle_ast.specs.ModelGrammar.{SpellsInstances, SpellsInstantiation, SpellsModel, SpellsModelContent, SpellsSignature, SpellsTag}
use Rattle.isle_ast.specs.TermGrammar.{SpellsAttribute, SpellsAttributeKind, SpellsAttributeTarget, SpellsConversion, SpellsDeclaration, SpellsExtern, SpellsPair}
use Rattle.isle_ast.specs.TypeGrammar.{SpellsFields, SpellsIndexedFields, SpellsModifiers, SpellsNamedField, SpellsTypeContent, SpellsTypeDefinition, SpellsVariant}
use Rattle.isle_ast.specs.Tree.{NamedField, IndexedField, FieldList, unit_fields, struct_fields, tuple_fields, EnumVariant, TypeContent, primitive_type, enum_type, struct_type, TypeDefinition, Declaration, Attribute, AttributeTarget, term_target, rule_target, AttributeKind, chain_kind, priority_kind, tag_kind, TermSignature, TermInstantiation, ModelContent, type_model, const_model, ExternDefinition, extern_extractor, extern_constructor, extern_const, Conversion, Definition, type_def, rule, extractor, decl, attr, spec, spec_macro, model, state, form, instantiation, external, converter}
use Rattle.isle_ast.proofs.Lawful.Definitions.{definition_lawful}
use Rattle.isle_ast.proofs.Lawful.Forms.{signature_lawful}
use Rattle.isle_ast.proofs.Lawful.ModelContents.{model_content_lawful, model_definition_lawful}
use Rattle.isle_ast.proofs.Lawful.Types.{content_lawful}
use Rattle.isle_resolve.specs.declared.event.Kind.TheVariants as kinds
use Rattle.isle_resolve.specs.Event.{EventNode, defines, defines_variant, uses}
use Rattle.isle_resolve.specs.Events.{content_events, conversion_events, declaration_events, definition_events, events, extern_events, field_events, model_events, target_events, type_events, variant_events}
use Rattle.isle_resolve.specs.Mapped.{map_attribute, map_content, map_conversion, map_declaration, map_definition, map_definitions, map_extern, map_fields, map_indexed_field, map_instantiation, map_model, map_named_field, map_spec, map_target, map_type, map_variant}
use Rattle.isle_index_laws.specs.Kept.{AreKept, IsKept}
use Rattle.isle_index_laws.proofs.Marks.{SameEvents, alone, events_at, hit, wanted}
use Rattle.isle_index_laws.proofs.FollowedRules.{extractor_follows, name_follows, nothing, rule_follows}
use Rattle.isle_index_laws.proofs.Follows.{Follow, KeepsPlaces, at, behind_word, chain, each_follows, each_one_follows, in_parentheses, one_constant, remade, split, still}
use Rattle.isle_index_laws.proofs.KeptNames.{demands_kept, not_word}
use Rattle.isle_index_laws.proofs.KeptTrees.{no_flag, some}

-- types

field_follows : (f : Name → Name) → KeepsPlaces f → (x : NamedField) (all rest : List Placed) → IsKept f (uses kinds.Type x.ty) → SpellsNamedField x all rest →
    Follow f (SpellsNamedField (map_named_field f x)) (uses kinds.Type x.ty ∷ []) all rest
field_follows f keeps x all rest k h =
    let one = Then (SpellsName x.name) (SpellsName x.ty) in
    let other = Then (SpellsName x.name) (SpellsName (f x.ty)) in
    let es = uses kinds.Type x.ty ∷ [] in
    at f x.pos (InParentheses other) es all rest (parentheses_begin other) h.0
    (in_parentheses f one other es all rest
    (λ inner close g. chain f (SpellsName x.name) (SpellsName (f x.ty)) [] es inner g.0 close
    (still f (SpellsName x.name) inner g.0 (name_lawful x.name).cuts g.1)
    (name_follows f keeps x.ty (uses kinds.Type x.ty) g.0 close refl k g.2))
    h.1)

indexed_follows : (f : Name → Name) → KeepsPlaces f → (index : ℕ) (xs : List IndexedField) (all rest : List Placed) → AreKept f (map (λ x. uses kinds.Type x.ty) xs) → SpellsIndexedFields index xs all rest →
    Follow f (SpellsIndexedFields index (map (map_indexed_field f) xs)) (map (λ x. uses kinds.Type x.ty) xs) all rest
indexed_follows f keeps index [] all rest k h = nothing f all rest h
indexed_follows f keeps index (x ∷ xs) all rest k h =
    let first = λ (ys zs : List Placed). BeginsAt x.pos ys × SpellsName (f x.ty) ys zs in
    let others = SpellsIndexedFields (index + 1) (map (map_indexed_field f) xs) in
    let es = map (λ y. uses kinds.Type y.ty) xs in
    remade f (Then first others) (SpellsIndexedFields index (map (map_indexed_field f) (x ∷ xs))) (uses kinds.Type x.ty ∷ es) (uses kinds.Type x.ty ∷ es) all rest
    (λ ys zs g. (h.0, g.1.0, g.0, g.1.1, g.2)) (λ c p. refl)
    (chain f first others (uses kinds.Type x.ty ∷ []) es all h.2 rest
    (at f x.pos (SpellsName (f x.ty)) (uses kinds.Type x.ty ∷ []) all h.2 (name_begins (f x.ty)) h.1
    (name_follows f keeps x.ty (uses kinds.Type x.ty) all h.2 refl k.0 h.3))
    (indexed_follows f keeps (index + 1) xs h.2 rest k.1 h.4))

some_begin : (f : Name → Name) (xs : List NamedField) → IsNonEmpty xs → Begins (SpellsAll SpellsNamedField xs)
some_begin f [] full = absurd full
some_begin f (x ∷ xs) full = λ all rest h e. parentheses_begin (Then (SpellsName x.name) (SpellsName x.ty)) all h.0 h.1.1 e

some_indexed_begin : (index : ℕ) (xs : List IndexedField) → IsNonEmpty xs → Begins (SpellsIndexedFields index xs)
some_indexed_begin index [] full = absurd full
some_indexed_begin index (x ∷ xs) full = λ all rest h e. name_begins x.ty all h.2 h.3 e

fields_follow : (f : Name → Name) → KeepsPlaces f → (fs : FieldList) (all rest : List Placed) → AreKept f (field_events fs) → SpellsFields fs all rest →
    Follow f (SpellsFields (map_fields f fs)) (field_events fs) all rest
fields_follow f keeps unit_fields all rest k h = nothing f all rest h
fields_follow f keeps (struct_fields xs pos) all rest k h =
    let full = some (map_named_field f) xs h.0 in
    let others = SpellsAll SpellsNamedField (map (map_named_field f) xs) in
    let es = map (λ x. uses kinds.Type x.ty) xs in
    remade f (λ ys zs. BeginsAt pos ys × others ys zs) (SpellsFields (map_fields f (struct_fields xs pos))) es es all rest
    (λ ys zs g. (full, g.0, g.1)) (λ c p. refl)
    (at f pos others es all rest (some_begin f (map (map_named_field f) xs) full) h.1
    (each_one_follows f SpellsNamedField (map_named_field f) (λ x. uses kinds.Type x.ty) (field_follows f keeps) xs all rest k h.2))
fields_follow f keeps (tuple_fields xs pos) all rest k h =
    let full = some (map_indexed_field f) xs h.0 in
    let others = SpellsIndexedFields 0 (map (map_indexed_field f) xs) in
    let es = map (λ x. uses kinds.Type x.ty) xs in
    remade f (λ ys zs. BeginsAt pos ys × others ys zs) (SpellsFields (map_fields f (tuple_fields xs pos))) es es all rest
    (λ ys zs g. (full, g.0, g.1)) (λ c p. refl)
    (at f pos others es all rest (some_indexed_begin 0 (map (map_indexed_field f) xs) full) h.1 (indexed_follows f keeps 0 xs all rest k h.2))

abbrev Fielded : EnumVariant → List Placed → List Placed → Type 0
Fielded v = Then (SpellsName v.name) (SpellsFields v.fields)

no_fields : (e : EventNode) (fs : FieldList) → fs ≡ unit_fields → SameEvents (e ∷ []) (e ∷ field_events fs)
no_fields e fs is c p = ap (λ gs. hit c p (wanted e) + events_at c p (field_events gs)) (sym is)

variant_by : (f : Name → Name) → KeepsPlaces f → (owner : Name) (v : EnumVariant) (all rest : List Placed) → AreKept f (variant_events owner v) → BeginsAt v.pos all →
    (SpellsName v.name all rest × (v.fields ≡ unit_fields)) ⊎ InParentheses (Fielded v) all rest →
    Follow f (SpellsVariant (map_variant f v)) (variant_events owner v) all rest
variant_by f keeps owner v all rest k begun (inl h) =
    let e = defines_variant owner v.name in
    remade f (λ ys zs. BeginsAt v.pos ys × SpellsName (f v.name) ys zs) (SpellsVariant (map_variant f v)) (e ∷ []) (e ∷ field_events v.fields) all rest
    (λ ys zs g. (g.0, inl (g.1, ap (map_fields f) h.1)))
    (no_fields e v.fields h.1)
    (at f v.pos (SpellsName (f v.name)) (e ∷ []) all rest (name_begins (f v.name)) begun (name_follows f keeps v.name e all rest refl k.0.1 h.0))
variant_by f keeps owner v all rest k begun (inr h) =
    let e = defines_variant owner v.name in
    let other = Fielded (map_variant f v) in
    let es = e ∷ field_events v.fields in
    remade f (λ ys zs. BeginsAt v.pos ys × InParentheses other ys zs) (SpellsVariant (map_variant f v)) es es all rest (λ ys zs g. (g.0, inr g.1)) (λ c p. refl)
    (at f v.pos (InParentheses other) es all rest (parentheses_begin other) begun
    (in_parentheses f (Fielded v) other es all rest
    (λ inner close g. chain f (SpellsName (f v.name)) (SpellsFields (map_fields f v.fields)) (e ∷ []) (field_events v.fields) inner g.0 close
    (name_follows f keeps v.name e inner g.0 refl k.0.1 g.1) (fields_follow f keeps v.fields g.0 close k.1 g.2))
    h))

variant_follows : (f : Name → Name) → KeepsPlaces f → (owner : Name) (v : EnumVariant) (all rest : List Placed) → AreKept f (variant_events owner v) → SpellsVariant v all rest →
    Follow f (SpellsVariant (map_variant f v)) (variant_events owner v) all rest
variant_follows f keeps owner v all rest k h = variant_by f keeps owner v all rest k h.0 h.1

content_follows : (f : Name → Name) → KeepsPlaces f → (owner : Name) (c : TypeContent) (all rest : List Placed) → AreKept f (content_events owner c) → SpellsTypeContent c all rest →
    Follow f (SpellsTypeContent (map_content f c)) (content_events owner c) all rest
content_follows f keeps owner (primitive_type name pos) all rest k h = still f (SpellsTypeContent (primitive_type name pos)) all rest (content_lawful (primitive_type name pos)).cuts h
content_follows f keeps owner (enum_type variants pos) all rest k h =
    let one = SpellsAll SpellsVariant variants in
    let other = SpellsAll SpellsVariant (map (map_variant f) variants) in
    let es = flat_map (variant_events owner) variants in
    at f pos (InParentheses (BehindWord (codes "enum") other)) es all rest (parentheses_begin (BehindWord (codes "enum") other)) h.0
    (in_parentheses f (BehindWord (codes "enum") one) (BehindWord (codes "enum") other) es all rest
    (λ inner close g. behind_word f (codes "enum") one other es inner close
    (λ mid m. each_follows f SpellsVariant (map_variant f) (variant_events owner) (variant_follows f keeps owner) variants mid close k m) g)
    h.1)
content_follows f keeps owner (struct_type fields pos) all rest k h =
    let one = SpellsFields fields in
    let other = SpellsFields (map_fields f fields) in
    let es = field_events fields in
    at f pos (InParentheses (BehindWord (codes "struct") other)) es all rest (parentheses_begin (BehindWord (codes "struct") other)) h.0
    (in_parentheses f (BehindWord (codes "struct") one) (BehindWord (codes "struct") other) es all rest
    (λ inner close g. behind_word f (codes "struct") one other es inner close (λ mid m. fields_follow f keeps fields mid close k m) g)
    h.1)

modifiers_cut : (is_extern is_nodebug : Bool) → Cuts (SpellsModifiers is_extern is_nodebug)
modifiers_cut is_extern is_nodebug all rest h =
    let p = (all_lawful SpellsWord (λ w. w) (λ w. value_lawful SpellsWord w word_plain) h.words).cuts all rest h.spelt in
    (p.0, p.1, λ after. record { words = h.words; each = h.each; extern_set = h.extern_set; nodebug_set = h.nodebug_set; spelt = p.2 after })

type_follows : (f : Name → Name) → KeepsPlaces f → (t : TypeDefinition) (all rest : List Placed) → AreKept f (type_events t) → SpellsTypeDefinition t all rest →
    Follow f (SpellsTypeDefinition (map_type f t)) (type_events t) all rest
type_follows f keeps t all rest k h =
    let modifiers = SpellsModifiers t.is_extern t.is_nodebug in
    let content = SpellsTypeContent (map_content f t.ty) in
    let es = content_events t.name t.ty in
    let other = Then (SpellsName (f t.name)) (Then modifiers content) in
    remade f (λ ys zs. BeginsAt t.pos ys × other ys zs) (SpellsTypeDefinition (map_type f t)) (type_events t) (type_events t) all rest
    (λ ys zs g. record { position = g.0; behind_name = g.1.0; name = g.1.1; behind_modifiers = g.1.2.0; modifiers = g.1.2.1; ty = g.1.2.2 })
    (λ c p. refl)
    (at f t.pos other (type_events t) all rest (then_begins (SpellsName (f t.name)) (Then modifiers content) (name_begins (f t.name))) h.position
    (chain f (SpellsName (f t.name)) (Then modifiers content) (defines kinds.Type t.name ∷ []) es all h.behind_name rest
    (name_follows f keeps t.name (defines kinds.Type t.name) all h.behind_name refl k.0 h.name)
    (chain f modifiers content [] es h.behind_name h.behind_modifiers rest
    (still f modifiers h.behind_name h.behind_modifiers (modifiers_cut t.is_extern t.is_nodebug) h.modifiers)
    (content_follows f keeps t.name t.ty h.behind_modifiers rest k.1 h.ty))))

-- terms

flag_ends : (word : List ℕ) (flag : Bool) (all rest : List Placed) → SpellsFlag word flag all rest → all ≡ [] → rest ≡ []
flag_ends word true all rest h e = let g = h.1 in cc
flag_ends word false all rest h e = sym h ∙ e

abbrev Term : Declaration → List Placed → List Placed → Type 0
Term d = Then (SpellsName d.term) (Then (InParentheses (SpellsAll SpellsName d.arg_tys)) (SpellsName d.ret_ty))

abbrev Flags : Declaration → List Placed → List Placed → Type 0
Flags d =
    Then (SpellsFlag (codes "pure") d.pure) (Then (SpellsFlag (codes "multi") d.multi)
    (Then (SpellsFlag (codes "partial") d.partial) (Then (SpellsFlag (codes "rec") d.rec) (Term d))))

flags_begin : (d : Declaration) → Begins (Flags d)
flags_begin d all rest h e =
    let behind_pure = flag_ends (codes "pure") d.pure all h.0 h.1 e in
    let behind_multi = flag_ends (codes "multi") d.multi h.0 h.2.0 h.2.1 behind_pure in
    let behind_partial = flag_ends (codes "partial") d.partial h.2.0 h.2.2.0 h.2.2.1 behind_multi in
    let behind_rec = flag_ends (codes "rec") d.rec h.2.2.0 h.2.2.2.0 h.2.2.2.1 behind_partial in
    name_begins d.term h.2.2.2.0 h.2.2.2.2.0 h.2.2.2.2.1 behind_rec

-- a flag before something
flagged : (f : Name → Name) (word : List ℕ) (flag : Bool) (Spells : List Placed → List Placed → Type 0) (es : List EventNode) (all mid rest : List Placed) →
    SpellsFlag word flag all mid → Follow f Spells es mid rest → Follow f (Then (SpellsFlag word flag) Spells) es all rest
flagged f word flag Spells es all mid rest h one =
    chain f (SpellsFlag word flag) Spells [] es all mid rest (still f (SpellsFlag word flag) all mid (flag_plain word flag).cuts h) one

declaration_follows : (f : Name → Name) → KeepsPlaces f → (d : Declaration) (all rest : List Placed) → AreKept f (declaration_events d) → SpellsDeclaration d all rest →
    Follow f (SpellsDeclaration (map_declaration f d)) (declaration_events d) all rest
declaration_follows f keeps d all rest k h =
    let q = map_declaration f d in
    let es = declaration_events d in
    let args = map (uses kinds.Type) d.arg_tys in
    let last = uses kinds.Type d.ret_ty ∷ [] in
    let both = split f args last k.1 in
    let behind_term = Then (InParentheses (SpellsAll SpellsName q.arg_tys)) (SpellsName q.ret_ty) in
    let behind_partial = Then (SpellsFlag (codes "rec") d.rec) (Term q) in
    let behind_multi = Then (SpellsFlag (codes "partial") d.partial) behind_partial in
    let behind_pure = Then (SpellsFlag (codes "multi") d.multi) behind_multi in
    remade f (λ ys zs. BeginsAt d.pos ys × Flags q ys zs) (SpellsDeclaration q) es es all rest
    (λ ys zs g. record {
      term_is_no_flag = no_flag f d k.0 h.term_is_no_flag;
      position = g.0;
      behind_pure = g.1.0;
      pure = g.1.1;
      behind_multi = g.1.2.0;
      multi = g.1.2.1;
      behind_partial = g.1.2.2.0;
      partial = g.1.2.2.1;
      behind_rec = g.1.2.2.2.0;
      rec = g.1.2.2.2.1;
      behind_term = g.1.2.2.2.2.0;
      term = g.1.2.2.2.2.1;
      behind_arg_tys = g.1.2.2.2.2.2.0;
      arg_tys = g.1.2.2.2.2.2.1;
      ret_ty = g.1.2.2.2.2.2.2;
    })
    (λ c p. refl)
    (at f d.pos (Flags q) es all rest (flags_begin q) h.position
    (flagged f (codes "pure") d.pure behind_pure es all h.behind_pure rest h.pure
    (flagged f (codes "multi") d.multi behind_multi es h.behind_pure h.behind_multi rest h.multi
    (flagged f (codes "partial") d.partial behind_partial es h.behind_multi h.behind_partial rest h.partial
    (flagged f (codes "rec") d.rec (Term q) es h.behind_partial h.behind_rec rest h.rec
    (chain f (SpellsName q.term) behind_term (defines kinds.Term d.term ∷ []) (args ++ last) h.behind_rec h.behind_term rest
    (name_follows f keeps d.term (defines kinds.Term d.term) h.behind_rec h.behind_term refl k.0 h.term)
    (chain f (InParentheses (SpellsAll SpellsName q.arg_tys)) (SpellsName q.ret_ty) args last h.behind_term h.behind_arg_tys rest
    (in_parentheses f (SpellsAll SpellsName d.arg_tys) (SpellsAll SpellsName q.arg_tys) args h.behind_term h.behind_arg_tys
    (λ inner close g. each_one_follows f SpellsName f (uses kinds.Type) (λ n ys zs l s. name_follows f keeps n (uses kinds.Type n) ys zs refl l s) d.arg_tys inner close both.0 g)
    h.arg_tys)
    (name_follows f keeps d.ret_ty (uses kinds.Type d.ret_ty) h.behind_arg_tys rest refl both.1.0 h.ret_ty))))))))

conversion_follows : (f : Name → Name) → KeepsPlaces f → (c : Conversion) (all rest : List Placed) → AreKept f (conversion_events c) → SpellsConversion c all rest →
    Follow f (SpellsConversion (map_conversion f c)) (conversion_events c) all rest
conversion_follows f keeps c all rest k h =
    let behind = Then (SpellsName (f c.outer_ty)) (SpellsName (f c.term)) in
    let other = Then (SpellsName (f c.inner_ty)) behind in
    let es = conversion_events c in
    remade f (λ ys zs. BeginsAt c.pos ys × other ys zs) (SpellsConversion (map_conversion f c)) es es all rest
    (λ ys zs g. record { position = g.0; behind_inner = g.1.0; inner_ty = g.1.1; behind_outer = g.1.2.0; outer_ty = g.1.2.1; term = g.1.2.2 })
    (λ c p. refl)
    (at f c.pos other es all rest (then_begins (SpellsName (f c.inner_ty)) behind (name_begins (f c.inner_ty))) h.position
    (chain f (SpellsName (f c.inner_ty)) behind (uses kinds.Type c.inner_ty ∷ []) (uses kinds.Type c.outer_ty ∷ uses kinds.Term c.term ∷ []) all h.behind_inner rest
    (name_follows f keeps c.inner_ty (uses kinds.Type c.inner_ty) all h.behind_inner refl k.0 h.inner_ty)
    (chain f (SpellsName (f c.outer_ty)) (SpellsName (f c.term)) (uses kinds.Type c.outer_ty ∷ []) (uses kinds.Term c.term ∷ []) h.behind_inner h.behind_outer rest
    (name_follows f keeps c.outer_ty (uses kinds.Type c.outer_ty) h.behind_inner h.behind_outer refl k.1.0 h.outer_ty)
    (name_follows f keeps c.term (uses kinds.Term c.term) h.behind_outer rest refl k.1.1.0 h.term))))

kind_cuts : (a : AttributeKind) → Cuts (SpellsAttributeKind a)
kind_cuts chain_kind = (parentheses_plain (BehindWord (codes "veri") (SpellsWord (codes "chain"))) (then_plain (SpellsWord (codes "veri")) (SpellsWord (codes "chain")) (word_plain (codes "veri")) (word_plain (codes "chain")))).cuts
kind_cuts priority_kind = (parentheses_plain (BehindWord (codes "veri") (SpellsWord (codes "priority"))) (then_plain (SpellsWord (codes "veri")) (SpellsWord (codes "priority")) (word_plain (codes "veri")) (word_plain (codes "priority")))).cuts
kind_cuts (tag_kind name) = (parentheses_lawful (λ n. BehindWord (codes "tag") (SpellsName n)) erase_name name (word_lawful (codes "tag") SpellsName erase_name name (name_lawful name))).cuts

-- a list whose elements are cut
each_cuts : {A : Type 0} (Spells : A → List Placed → List Placed → Type 0) → ((x : A) → Cuts (Spells x)) → (xs : List A) → Cuts (SpellsAll Spells xs)
each_cuts Spells each [] = nothing_plain.cuts
each_cuts Spells each (x ∷ xs) = then_cuts (Spells x) (SpellsAll Spells xs) (each x) (each_cuts Spells each xs)

target_follows : (f : Name → Name) → KeepsPlaces f → (t : AttributeTarget) (all rest : List Placed) → AreKept f (target_events t) → SpellsAttributeTarget t all rest →
    Follow f (SpellsAttributeTarget (map_target f t)) (target_events t) all rest
target_follows f keeps (term_target n) all rest k h =
    remade f (SpellsName (f n)) (SpellsAttributeTarget (term_target (f n))) (uses kinds.Term n ∷ []) (uses kinds.Term n ∷ []) all rest
    (λ ys zs g. (not_word n.text (f n).text (codes "rule") k.0 refl h.0, g)) (λ c p. refl)
    (name_follows f keeps n (uses kinds.Term n) all rest refl k.0 h.1)
target_follows f keeps (rule_target n) all rest k h =
    still f (SpellsAttributeTarget (rule_target n)) all rest (word_lawful (codes "rule") SpellsName erase_name n (name_lawful n)).cuts h

target_begins : (t : AttributeTarget) → Begins (SpellsAttributeTarget t)
target_begins (term_target n) all rest h e = name_begins n all rest h.1 e
target_begins (rule_target n) all rest h e = let g = h.1.1 in cc

attribute_follows : (f : Name → Name) → KeepsPlaces f → (a : Attribute) (all rest : List Placed) → AreKept f (target_events a.target) → SpellsAttribute a all rest →
    Follow f (SpellsAttribute (map_attribute f a)) (target_events a.target) all rest
attribute_follows f keeps a all rest k h =
    let target = SpellsAttributeTarget (map_target f a.target) in
    let kinds_of = SpellsAll SpellsAttributeKind a.kinds in
    let es = target_events a.target in
    remade f (λ ys zs. BeginsAt a.pos ys × Then target kinds_of ys zs) (SpellsAttribute (map_attribute f a)) (es ++ []) es all rest
    (λ ys zs g. record { position = g.0; behind_target = g.1.0; target = g.1.1; kinds = g.1.2 })
    (alone es)
    (at f a.pos (Then target kinds_of) (es ++ []) all rest (then_begins target kinds_of (target_begins (map_target f a.target))) h.position
    (chain f target kinds_of es [] all h.behind_target rest
    (target_follows f keeps a.target all h.behind_target k h.target)
    (still f kinds_of h.behind_target rest (each_cuts SpellsAttributeKind kind_cuts a.kinds) h.kinds)))

-- the term of an extern definition, and the function that stands for it
pair_follows : (f : Name → Name) → KeepsPlaces f → (term func : Name) (all rest : List Placed) → AreKept f (uses kinds.Term term ∷ []) → SpellsPair term func all rest →
    Follow f (SpellsPair (f term) func) (uses kinds.Term term ∷ []) all rest
pair_follows f keeps term func all rest k h =
    chain f (SpellsName (f term)) (SpellsName func) (uses kinds.Term term ∷ []) [] all h.0 rest
    (name_follows f keeps term (uses kinds.Term term) all h.0 refl k.0 h.1)
    (still f (SpellsName func) h.0 rest (name_lawful func).cuts h.2)

word_begins : (word : List ℕ) (Spells : List Placed → List Placed → Type 0) → Begins (BehindWord word Spells)
word_begins word Spells all rest h e = let g = h.1.1 in cc

extern_follows : (f : Name → Name) → KeepsPlaces f → (e : ExternDefinition) (all rest : List Placed) → AreKept f (extern_events e) → SpellsExtern e all rest →
    Follow f (SpellsExtern (map_extern f e)) (extern_events e) all rest
extern_follows f keeps (extern_extractor term func pos infallible) all rest k h =
    let flag = SpellsFlag (codes "infallible") infallible in
    let one = Then flag (SpellsPair term func) in
    let other = Then flag (SpellsPair (f term) func) in
    let es = uses kinds.Term term ∷ [] in
    remade f (λ ys zs. BeginsAt pos ys × BehindWord (codes "extractor") other ys zs) (SpellsExtern (extern_extractor (f term) func pos infallible)) es es all rest
    (λ ys zs g. (demands_kept term.text (f term).text (codes "infallible") infallible k.0 refl h.0, g.0, g.1)) (λ c p. refl)
    (at f pos (BehindWord (codes "extractor") other) es all rest (word_begins (codes "extractor") other) h.1
    (behind_word f (codes "extractor") one other es all rest
    (λ inner g. flagged f (codes "infallible") infallible (SpellsPair (f term) func) es inner g.0 rest g.1 (pair_follows f keeps term func g.0 rest k g.2))
    h.2))
extern_follows f keeps (extern_constructor term func pos) all rest k h =
    let es = uses kinds.Term term ∷ [] in
    at f pos (BehindWord (codes "constructor") (SpellsPair (f term) func)) es all rest (word_begins (codes "constructor") (SpellsPair (f term) func)) h.0
    (behind_word f (codes "constructor") (SpellsPair term func) (SpellsPair (f term) func) es all rest (λ inner g. pair_follows f keeps term func inner rest k g) h.1)
extern_follows f keeps (extern_const name ty pos) all rest k h =
    let one = Then (SpellsConstant name) (SpellsName ty) in
    let other = Then (SpellsConstant (f name)) (SpellsName (f ty)) in
    let es = defines kinds.Constant name ∷ uses kinds.Type ty ∷ [] in
    remade f (BehindWord (codes "const") other) (SpellsExtern (extern_const (f name) (f ty) pos)) es es all rest
    (λ ys zs g. (h.0 ∙ sym (keeps name), g)) (λ c p. refl)
    (behind_word f (codes "const") one other es all rest
    (λ inner g. chain f (SpellsConstant (f name)) (SpellsName (f ty)) (defines kinds.Constant name ∷ []) (uses kinds.Type ty ∷ []) inner g.0 rest
    (one_constant f keeps name (defines kinds.Constant name) inner g.0 refl k.0 g.1)
    (name_follows f keeps ty (uses kinds.Type ty) g.0 rest refl k.1.0 g.2))
    h.1)

-- specs and models

clause_cuts : (c : SpecClause) → Cuts (SpellsClause c)
clause_cuts (provide_clause xs) = (parentheses_lawful (λ ys. BehindWord (codes "provide") (SpellsAll SpellsSpec ys)) (map erase_spec) xs (word_lawful (codes "provide") (SpellsAll SpellsSpec) (map erase_spec) xs (all_lawful SpellsSpec erase_spec spec_lawful xs))).cuts
clause_cuts (require_clause xs) = (parentheses_lawful (λ ys. BehindWord (codes "require") (SpellsAll SpellsSpec ys)) (map erase_spec) xs (word_lawful (codes "require") (SpellsAll SpellsSpec) (map erase_spec) xs (all_lawful SpellsSpec erase_spec spec_lawful xs))).cuts
clause_cuts (match_clause xs) = (parentheses_lawful (λ ys. BehindWord (codes "match") (SpellsAll SpellsSpec ys)) (map erase_spec) xs (word_lawful (codes "match") (SpellsAll SpellsSpec) (map erase_spec) xs (all_lawful SpellsSpec erase_spec spec_lawful xs))).cuts
clause_cuts (modifies_clause m) =
    let both = pair_lawful SpellsName erase_name (SpellsOptional SpellsName) erase_optional m.state m.cond (name_lawful m.state) (optional_name_lawful m.cond) in
    (parentheses_lawful (λ p. BehindWord (codes "modifies") (Then (SpellsName p.0) (SpellsOptional SpellsName p.1))) (λ p. (erase_name p.0, erase_optional p.1)) (m.state, m.cond)
    (word_lawful (codes "modifies") (λ p. Then (SpellsName p.0) (SpellsOptional SpellsName p.1)) (λ p. (erase_name p.0, erase_optional p.1)) (m.state, m.cond) both)).cuts

spec_follows : (f : Name → Name) → KeepsPlaces f → (s : SpecDefinition) (all rest : List Placed) → AreKept f (uses kinds.Term s.term ∷ []) → SpellsSpecDefinition s all rest →
    Follow f (SpellsSpecDefinition (map_spec f s)) (uses kinds.Term s.term ∷ []) all rest
spec_follows f keeps s all rest k h =
    let es = uses kinds.Term s.term ∷ [] in
    let args = SpellsAll SpellsName s.args in
    let head = SpellsHeaded (f s.term) s.args in
    let clauses = SpellsAll SpellsClause h.clauses in
    remade f (λ ys zs. BeginsAt s.pos ys × Then head clauses ys zs) (SpellsSpecDefinition (map_spec f s)) es es all rest
    (λ ys zs g. record {
      position = g.0;
      behind_head = g.1.0;
      head = g.1.1;
      clauses = h.clauses;
      provides = h.provides;
      requires_ = h.requires_;
      matches = h.matches;
      modifies = h.modifies;
      spelt = g.1.2;
    })
    (λ c p. refl)
    (at f s.pos (Then head clauses) es all rest (then_begins head clauses (parentheses_begin (Then (SpellsName (f s.term)) args))) h.position
    (chain f head clauses es [] all h.behind_head rest
    (in_parentheses f (Then (SpellsName s.term) args) (Then (SpellsName (f s.term)) args) es all h.behind_head
    (λ inner close g. chain f (SpellsName (f s.term)) args es [] inner g.0 close
    (name_follows f keeps s.term (uses kinds.Term s.term) inner g.0 refl k.0 g.1)
    (still f args g.0 close (all_lawful SpellsName erase_name name_lawful s.args).cuts g.2))
    h.head)
    (still f clauses h.behind_head rest (each_cuts SpellsClause clause_cuts h.clauses) h.spelt)))

model_by : (f : Name → Name) → KeepsPlaces f → (name : Name) (content : ModelContent) (all rest : List Placed) → AreKept f (model_events name content) →
    SpellsModel (record { name = name; val = content }) all rest →
    Follow f (SpellsModel (map_model f (record { name = name; val = content }))) (model_events name content) all rest
model_by f keeps name (type_model ty) all rest k h =
    let val = SpellsModelContent (type_model ty) in
    let es = uses kinds.Type name ∷ [] in
    remade f (Then (SpellsName (f name)) val) (SpellsModel (record { name = f name; val = type_model ty })) es es all rest
    (λ ys zs g. record { behind_name = g.0; name = g.1; val = g.2 }) (λ c p. refl)
    (chain f (SpellsName (f name)) val es [] all h.behind_name rest
    (name_follows f keeps name (uses kinds.Type name) all h.behind_name refl k.0 h.name)
    (still f val h.behind_name rest (model_content_lawful (type_model ty)).cuts h.val))
model_by f keeps name (const_model value) all rest k h =
    still f (SpellsModel (record { name = name; val = const_model value })) all rest (model_definition_lawful (record { name = name; val = const_model value })).cuts h

tag_cuts : (n : Name) → Cuts (SpellsTag n)
tag_cuts n = (parentheses_lawful (λ m. BehindWord (codes "tag") (SpellsName m)) erase_name n (word_lawful (codes "tag") SpellsName erase_name n (name_lawful n))).cuts

instances_cut : (of_form : Option Name) (signatures : List TermSignature) (tags : List Name) → Cuts (SpellsInstances of_form signatures tags)
instances_cut None signatures tags all rest h =
    let p = (all_lawful SpellsSignature erase_signature signature_lawful signatures).cuts all rest h.2 in
    (p.0, p.1, λ after. (h.0, h.1, p.2 after))
instances_cut (Some name) signatures tags all rest h =
    let p = then_cuts (SpellsName name) (SpellsAll SpellsTag tags) (name_lawful name).cuts (each_cuts SpellsTag tag_cuts tags) all rest (h.1, h.2, h.3) in
    (p.0, p.1, λ after. (h.0, (p.2 after).0, (p.2 after).1, (p.2 after).2))

instantiation_follows : (f : Name → Name) → KeepsPlaces f → (i : TermInstantiation) (all rest : List Placed) → AreKept f (uses kinds.Term i.term ∷ []) → SpellsInstantiation i all rest →
    Follow f (SpellsInstantiation (map_instantiation f i)) (uses kinds.Term i.term ∷ []) all rest
instantiation_follows f keeps i all rest k h =
    let es = uses kinds.Term i.term ∷ [] in
    let instances = SpellsInstances i.form i.signatures i.tags in
    let other = Then (SpellsName (f i.term)) instances in
    remade f (λ ys zs. BeginsAt i.pos ys × other ys zs) (SpellsInstantiation (map_instantiation f i)) es es all rest
    (λ ys zs g. record { position = g.0; behind_term = g.1.0; term = g.1.1; instances = g.1.2 }) (λ c p. refl)
    (at f i.pos other es all rest (then_begins (SpellsName (f i.term)) instances (name_begins (f i.term))) h.position
    (chain f (SpellsName (f i.term)) instances es [] all h.behind_term rest
    (name_follows f keeps i.term (uses kinds.Term i.term) all h.behind_term refl k.0 h.term)
    (still f instances h.behind_term rest (instances_cut i.form i.signatures i.tags) h.instances)))

-- definitions

-- a keyword and the rest of its form
in_form : (f : Name → Name) (word : List ℕ) (One Other : List Placed → List Placed → Type 0) (es : List EventNode) (all rest : List Placed) →
    ((inner close : List Placed) → One inner close → Follow f Other es inner close) → InForm word One all rest → Follow f (InForm word Other) es all rest
in_form f word One Other es all rest each h =
    in_parentheses f (BehindWord word One) (BehindWord word Other) es all rest (λ inner close g. behind_word f word One Other es inner close (λ mid m. each mid close m) g) h

definition_follows : (f : Name → Name) → KeepsPlaces f → (d : Definition) (all rest : List Placed) → AreKept f (definition_events d) → SpellsDefinition d all rest →
    Follow f (SpellsDefinition (map_definition f d)) (definition_events d) all rest
definition_follows f keeps (type_def t) all rest k h =
    in_form f (codes "type") (SpellsTypeDefinition t) (SpellsTypeDefinition (map_type f t)) (type_events t) all rest (λ ys zs g. type_follows f keeps t ys zs k g) h
definition_follows f keeps (rule r) all rest k h = in_form f (codes "rule") _ _ _ all rest (λ ys zs g. rule_follows f keeps r ys zs k g) h
definition_follows f keeps (extractor e) all rest k h = in_form f (codes "extractor") _ _ _ all rest (λ ys zs g. extractor_follows f keeps e ys zs k g) h
definition_follows f keeps (decl d) all rest k h = in_form f (codes "decl") _ _ _ all rest (λ ys zs g. declaration_follows f keeps d ys zs k g) h
definition_follows f keeps (attr a) all rest k h = in_form f (codes "attr") _ _ _ all rest (λ ys zs g. attribute_follows f keeps a ys zs k g) h
definition_follows f keeps (spec s) all rest k h = in_form f (codes "spec") _ _ _ all rest (λ ys zs g. spec_follows f keeps s ys zs k g) h
definition_follows f keeps (spec_macro m) all rest k h = still f (SpellsDefinition (spec_macro m)) all rest (definition_lawful (spec_macro m)).cuts h
definition_follows f keeps (model m) all rest k h = in_form f (codes "model") _ _ _ all rest (λ ys zs g. model_by f keeps m.name m.val ys zs k g) h
definition_follows f keeps (state s) all rest k h = still f (SpellsDefinition (state s)) all rest (definition_lawful (state s)).cuts h
definition_follows f keeps (form g) all rest k h = still f (SpellsDefinition (form g)) all rest (definition_lawful (form g)).cuts h
definition_follows f keeps (instantiation i) all rest k h = in_form f (codes "instantiate") _ _ _ all rest (λ ys zs g. instantiation_follows f keeps i ys zs k g) h
definition_follows f keeps (external e) all rest k h = in_form f (codes "extern") _ _ _ all rest (λ ys zs g. extern_follows f keeps e ys zs k g) h
definition_follows f keeps (converter c) all rest k h = in_form f (codes "convert") _ _ _ all rest (λ ys zs g. conversion_follows f keeps c ys zs k g) h

pub definitions_follow : (f : Name → Name) → KeepsPlaces f → (ds : List Definition) (all rest : List Placed) → AreKept f (events ds) → SpellsAll SpellsDefinition ds all rest →
    Follow f (SpellsAll SpellsDefinition (map_definitions f ds)) (events ds) all rest
definitions_follow f keeps ds all rest k h = each_follows f SpellsDefinition (map_definition f) definition_events (definition_follows f keeps) ds all rest k h
