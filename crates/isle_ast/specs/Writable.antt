-- The trees that can be written as text and read back: the conditions on each node. They depend on
-- no text, width or position.
use Rattle.std.specs.Prelude.{[], ◌≡◌, ◌≢◌, ℕ, ◌+◌, List, ◌∷◌, true, Option, None, Some, codes}
use Rattle.isle_ast_verification.specs.Writable.{IsWritableSpec, IsWritableSpecDefinition, IsWritableSpecMacro, IsWritableState, IsWritableModel}
use Rattle.isle_ast_names.specs.Tree.{Name}
use Rattle.isle_ast.specs.Tree.{Declaration, Conversion, NamedField, IndexedField, FieldList, unit_fields, struct_fields, tuple_fields, EnumVariant, TypeContent, primitive_type, enum_type, struct_type, TypeDefinition, AttributeTarget, term_target, rule_target, AttributeKind, chain_kind, priority_kind, tag_kind, Attribute, TermSignature, FormDefinition, TermInstantiation, ModelContent, type_model, const_model, ModelDefinition, ExternDefinition, extern_extractor, extern_constructor, extern_const, Definition, type_def, rule, extractor, decl, attr, spec, spec_macro, model, state, form, instantiation, external, converter}
use Rattle.isle_ast_names.specs.Words.{IsNonEmpty, demands}
use Rattle.isle_ast.specs.TermGrammar.{term_is_no_flag}
use Rattle.isle_ast_names.specs.Writable.{IsName, Each}
use Rattle.isle_ast_rules.specs.Writable.{IsConstantName, IsWritableRule, IsWritableExtractor}

-- a term named like a flag needs this flag or a later one
pub record IsWritableDeclaration (d : Declaration) : Type 0 where
  pub term : IsName d.term
  pub arg_tys : Each IsName d.arg_tys
  pub ret_ty : IsName d.ret_ty
  pub term_is_no_flag : term_is_no_flag d ≡ true

abbrev pub IsWritableConversion : Conversion → Type 0
IsWritableConversion c = IsName c.term × IsName c.inner_ty × IsName c.outer_ty

abbrev pub IsWritableNamedField : NamedField → Type 0
IsWritableNamedField f = IsName f.name × IsName f.ty

-- the index of each field is its place
abbrev pub AreWritableIndexedFields : ℕ → List IndexedField → Type 0
AreWritableIndexedFields place [] = Unit {0}
AreWritableIndexedFields place (f ∷ fs) = (f.index ≡ place) × IsName f.ty × AreWritableIndexedFields (place + 1) fs

-- named fields are at least one, and so are positional fields
abbrev pub AreWritableFields : FieldList → Type 0
AreWritableFields unit_fields = Unit {0}
AreWritableFields (struct_fields fields _) = IsNonEmpty fields × Each IsWritableNamedField fields
AreWritableFields (tuple_fields fields _) = IsNonEmpty fields × AreWritableIndexedFields 0 fields

abbrev pub IsWritableVariant : EnumVariant → Type 0
IsWritableVariant v = IsName v.name × AreWritableFields v.fields

abbrev pub IsWritableTypeContent : TypeContent → Type 0
IsWritableTypeContent (primitive_type name _) = IsName name
IsWritableTypeContent (enum_type variants _) = Each IsWritableVariant variants
IsWritableTypeContent (struct_type fields _) = AreWritableFields fields

abbrev pub IsWritableType : TypeDefinition → Type 0
IsWritableType t = IsName t.name × IsWritableTypeContent t.ty

-- a term as the target is not named `rule`
abbrev pub IsWritableTarget : AttributeTarget → Type 0
IsWritableTarget (term_target name) = (name.text ≢ codes "rule") × IsName name
IsWritableTarget (rule_target name) = IsName name

abbrev pub IsWritableKind : AttributeKind → Type 0
IsWritableKind chain_kind = Unit {0}
IsWritableKind priority_kind = Unit {0}
IsWritableKind (tag_kind name) = IsName name

abbrev pub IsWritableAttribute : Attribute → Type 0
IsWritableAttribute a = IsWritableTarget a.target × Each IsWritableKind a.kinds

abbrev pub IsWritableSignature : TermSignature → Type 0
IsWritableSignature s = Each IsWritableModel s.args × IsWritableModel s.ret

abbrev pub IsWritableForm : FormDefinition → Type 0
IsWritableForm f = IsName f.name × Each IsWritableSignature f.signatures

-- with a form no signatures; without one some, and no tags
abbrev pub AreWritableInstances : Option Name → List TermSignature → List Name → Type 0
AreWritableInstances (Some name) signatures tags = IsName name × (signatures ≡ []) × Each IsName tags
AreWritableInstances None signatures tags = IsNonEmpty signatures × Each IsWritableSignature signatures × (tags ≡ [])

abbrev pub IsWritableInstantiation : TermInstantiation → Type 0
IsWritableInstantiation i = IsName i.term × AreWritableInstances i.form i.signatures i.tags

abbrev pub IsWritableModelContent : ModelContent → Type 0
IsWritableModelContent (type_model ty) = IsWritableModel ty
IsWritableModelContent (const_model value) = IsWritableSpec value

abbrev pub IsWritableModelDefinition : ModelDefinition → Type 0
IsWritableModelDefinition m = IsName m.name × IsWritableModelContent m.val

-- A term named `infallible` needs the flag. With a `$` before it, the name of a constant is an
-- identifier.
abbrev pub IsWritableExtern : ExternDefinition → Type 0
IsWritableExtern (extern_extractor term func _ infallible) =
    IsName term × IsName func × (demands term.text (codes "infallible") infallible ≡ true)
IsWritableExtern (extern_constructor term func _) = IsName term × IsName func
IsWritableExtern (extern_const name ty _) = IsConstantName name × IsName ty

abbrev pub IsWritable : Definition → Type 0
IsWritable (type_def t) = IsWritableType t
IsWritable (rule r) = IsWritableRule r
IsWritable (extractor e) = IsWritableExtractor e
IsWritable (decl d) = IsWritableDeclaration d
IsWritable (attr a) = IsWritableAttribute a
IsWritable (spec s) = IsWritableSpecDefinition s
IsWritable (spec_macro m) = IsWritableSpecMacro m
IsWritable (model m) = IsWritableModelDefinition m
IsWritable (state s) = IsWritableState s
IsWritable (form f) = IsWritableForm f
IsWritable (instantiation i) = IsWritableInstantiation i
IsWritable (external e) = IsWritableExtern e
IsWritable (converter c) = IsWritableConversion c

abbrev pub AreWritable : List Definition → Type 0
AreWritable ds = Each IsWritable ds
