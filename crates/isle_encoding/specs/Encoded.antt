-- The encoding of definitions and of whole trees.
use Rattle.std.specs.Prelude.{ℕ, List, [], ◌∷◌, ◌++◌}
use Rattle.isle_ast.specs.Tree.{Declaration, Conversion, NamedField, IndexedField, FieldList, unit_fields, struct_fields, tuple_fields, EnumVariant, TypeContent, primitive_type, enum_type, struct_type, TypeDefinition, AttributeTarget, term_target, rule_target, AttributeKind, chain_kind, priority_kind, tag_kind, Attribute, TermSignature, FormDefinition, TermInstantiation, ModelContent, type_model, const_model, ModelDefinition, ExternDefinition, extern_extractor, extern_constructor, extern_const, Definition, type_def, rule, extractor, decl, attr, spec, spec_macro, model, state, form, instantiation, external, converter}
use Rattle.isle_encoding.specs.Numbers.{flag, list, number, option}
use Rattle.isle_encoding.specs.Names.{name, names, position}
use Rattle.isle_encoding.specs.Rules as rules
use Rattle.isle_encoding.specs.Verification as verification

abbrev pub named_field : NamedField → List ℕ
named_field f = name f.name ++ name f.ty ++ position f.pos

abbrev pub indexed_field : IndexedField → List ℕ
indexed_field f = number f.index ++ name f.ty ++ position f.pos

abbrev pub fields : FieldList → List ℕ
fields unit_fields = 0 ∷ []
fields (struct_fields fs place) = 1 ∷ list named_field fs ++ position place
fields (tuple_fields fs place) = 2 ∷ list indexed_field fs ++ position place

abbrev pub variant : EnumVariant → List ℕ
variant v = name v.name ++ fields v.fields ++ position v.pos

abbrev pub type_content : TypeContent → List ℕ
type_content (primitive_type primitive place) = 0 ∷ name primitive ++ position place
type_content (enum_type variants place) = 1 ∷ list variant variants ++ position place
type_content (struct_type fs place) = 2 ∷ fields fs ++ position place

abbrev pub type_definition : TypeDefinition → List ℕ
type_definition t = name t.name ++ flag t.is_extern ++ flag t.is_nodebug ++ type_content t.ty ++ position t.pos

abbrev pub declaration : Declaration → List ℕ
declaration d =
    name d.term ++ names d.arg_tys ++ name d.ret_ty ++ flag d.pure ++ flag d.multi ++ flag d.partial ++ flag d.rec ++ position d.pos

abbrev pub conversion : Conversion → List ℕ
conversion c = name c.term ++ name c.inner_ty ++ name c.outer_ty ++ position c.pos

abbrev pub attribute_target : AttributeTarget → List ℕ
attribute_target (term_target target) = 0 ∷ name target
attribute_target (rule_target target) = 1 ∷ name target

abbrev pub attribute_kind : AttributeKind → List ℕ
attribute_kind chain_kind = 0 ∷ []
attribute_kind priority_kind = 1 ∷ []
attribute_kind (tag_kind tag) = 2 ∷ name tag

abbrev pub attribute : Attribute → List ℕ
attribute a = attribute_target a.target ++ list attribute_kind a.kinds ++ position a.pos

abbrev pub signature : TermSignature → List ℕ
signature s = list verification.type_model s.args ++ verification.type_model s.ret ++ position s.pos

abbrev pub form_definition : FormDefinition → List ℕ
form_definition f = name f.name ++ list signature f.signatures ++ position f.pos

abbrev pub term_instantiation : TermInstantiation → List ℕ
term_instantiation i = name i.term ++ option name i.form ++ list signature i.signatures ++ names i.tags ++ position i.pos

abbrev pub model_content : ModelContent → List ℕ
model_content (type_model ty) = 0 ∷ verification.type_model ty
model_content (const_model value) = 1 ∷ verification.spec value

abbrev pub model_definition : ModelDefinition → List ℕ
model_definition m = name m.name ++ model_content m.val

abbrev pub extern_definition : ExternDefinition → List ℕ
extern_definition (extern_extractor term func place infallible) = 0 ∷ name term ++ name func ++ position place ++ flag infallible
extern_definition (extern_constructor term func place) = 1 ∷ name term ++ name func ++ position place
extern_definition (extern_const constant ty place) = 2 ∷ name constant ++ name ty ++ position place

-- a byte for the kind, from 1, and its parts
abbrev pub definition : Definition → List ℕ
definition (type_def t) = 1 ∷ type_definition t
definition (rule r) = 2 ∷ rules.rule r
definition (extractor e) = 3 ∷ rules.extractor e
definition (decl d) = 4 ∷ declaration d
definition (attr a) = 5 ∷ attribute a
definition (spec s) = 6 ∷ verification.spec_definition s
definition (spec_macro m) = 7 ∷ verification.spec_macro m
definition (model m) = 8 ∷ model_definition m
definition (state s) = 9 ∷ verification.state s
definition (form f) = 10 ∷ form_definition f
definition (instantiation i) = 11 ∷ term_instantiation i
definition (external e) = 12 ∷ extern_definition e
definition (converter c) = 13 ∷ conversion c

-- each definition, and a 0 after the last one
abbrev pub definitions : List Definition → List ℕ
definitions [] = 0 ∷ []
definitions (d ∷ ds) = definition d ++ definitions ds

-- the version of the encoding, and the definitions
abbrev pub encoded : List Definition → List ℕ
encoded ds = 1 ∷ definitions ds
