-- The positions in definitions.
use Rattle.std.specs.Prelude.{[], ◌≡◌, ◌⊎◌, ℕ, List, ◌∷◌}
use Rattle.std.specs.List.{AllByRecursion}
use Rattle.isle_base_source.specs.declared.pos.Pos.{Pos}
use Rattle.isle_base.specs.Place.{in_file, unknown}
use Rattle.isle_base.specs.Token.{Lexeme}
use Rattle.isle_ast.specs.Tree.{NamedField, IndexedField, FieldList, unit_fields, struct_fields, tuple_fields, EnumVariant, TypeContent, primitive_type, enum_type, struct_type, AttributeTarget}
use Rattle.isle_ast.specs.Tree.{term_target, rule_target, AttributeKind, chain_kind, priority_kind, tag_kind, TermSignature, ModelContent, type_model, const_model, ExternDefinition, extern_extractor}
use Rattle.isle_ast.specs.Tree.{extern_constructor, extern_const, Definition, type_def, rule, extractor, decl, attr, spec, spec_macro, model, state, form, instantiation, external, converter}
use Rattle.isle_parser_cursor.specs.Positions.{OfName, OfNames, OfOptionalName}
use Rattle.isle_parser_verification.specs.Positions.{OfModel, OfSpec, OfSpecDefinition, OfSpecMacro, OfState}
use Rattle.isle_parser_rules.specs.Positions.{OfRule, OfExtractor}

abbrev pub OfNamedField : (Pos → Type 0) → NamedField → Type 0
OfNamedField P f = P f.pos × OfName P f.name × OfName P f.ty

abbrev pub OfIndexedField : (Pos → Type 0) → IndexedField → Type 0
OfIndexedField P f = P f.pos × OfName P f.ty

abbrev pub OfFields : (Pos → Type 0) → FieldList → Type 0
OfFields P unit_fields = Unit {0}
OfFields P (struct_fields fields pos) = P pos × AllByRecursion (OfNamedField P) fields
OfFields P (tuple_fields fields pos) = P pos × AllByRecursion (OfIndexedField P) fields

abbrev pub OfVariant : (Pos → Type 0) → EnumVariant → Type 0
OfVariant P v = P v.pos × OfName P v.name × OfFields P v.fields

abbrev pub OfTypeContent : (Pos → Type 0) → TypeContent → Type 0
OfTypeContent P (primitive_type name pos) = P pos × OfName P name
OfTypeContent P (enum_type variants pos) = P pos × AllByRecursion (OfVariant P) variants
OfTypeContent P (struct_type fields pos) = P pos × OfFields P fields

abbrev pub OfTarget : (Pos → Type 0) → AttributeTarget → Type 0
OfTarget P (term_target name) = OfName P name
OfTarget P (rule_target name) = OfName P name

abbrev pub OfKind : (Pos → Type 0) → AttributeKind → Type 0
OfKind P chain_kind = Unit {0}
OfKind P priority_kind = Unit {0}
OfKind P (tag_kind name) = OfName P name

abbrev pub OfSignature : (Pos → Type 0) → TermSignature → Type 0
OfSignature P s = P s.pos × AllByRecursion (OfModel P) s.args × OfModel P s.ret

abbrev pub OfModelContent : (Pos → Type 0) → ModelContent → Type 0
OfModelContent P (type_model ty) = OfModel P ty
OfModelContent P (const_model value) = OfSpec P value

abbrev pub OfExtern : (Pos → Type 0) → ExternDefinition → Type 0
OfExtern P (extern_extractor term func pos infallible) = P pos × OfName P term × OfName P func
OfExtern P (extern_constructor term func pos) = P pos × OfName P term × OfName P func
OfExtern P (extern_const name ty pos) = P pos × OfName P name × OfName P ty

-- each position in a definition, that of the definition first
abbrev pub EachPosition : (Pos → Type 0) → Definition → Type 0
EachPosition P (type_def t) = P t.pos × OfName P t.name × OfTypeContent P t.ty
EachPosition P (rule r) = OfRule P r
EachPosition P (extractor e) = OfExtractor P e
EachPosition P (decl d) = P d.pos × OfName P d.term × OfNames P d.arg_tys × OfName P d.ret_ty
EachPosition P (attr a) = P a.pos × OfTarget P a.target × AllByRecursion (OfKind P) a.kinds
EachPosition P (spec s) = OfSpecDefinition P s
EachPosition P (spec_macro m) = OfSpecMacro P m
EachPosition P (model m) = OfName P m.name × OfModelContent P m.val
EachPosition P (state s) = OfState P s
EachPosition P (form f) = P f.pos × OfName P f.name × AllByRecursion (OfSignature P) f.signatures
EachPosition P (instantiation i) =
    P i.pos × OfName P i.term × OfOptionalName P i.form × AllByRecursion (OfSignature P) i.signatures × OfNames P i.tags
EachPosition P (external e) = OfExtern P e
EachPosition P (converter c) = P c.pos × OfName P c.inner_ty × OfName P c.outer_ty × OfName P c.term

-- the first byte of one of these tokens
abbrev pub BeginsToken : ℕ → List Lexeme → Pos → Type 0
BeginsToken file [] pos = ⊥
BeginsToken file (x ∷ xs) pos = (pos ≡ in_file file x.offset) ⊎ BeginsToken file xs pos

abbrev pub behind_first : List Lexeme → List Lexeme
behind_first [] = []
behind_first (x ∷ xs) = xs

-- Each position in a definition is the first byte of a token other than the first.
abbrev pub OneHasPositions : ℕ → List Lexeme → Definition → Type 0
OneHasPositions file xs d = EachPosition (BeginsToken file (behind_first xs)) d

-- the same of definitions
abbrev pub HasPositions : ℕ → List Lexeme → List Definition → Type 0
HasPositions file xs ds = AllByRecursion (OneHasPositions file xs) ds

-- no position in a definition is the default one, which stands for an unknown position
abbrev pub OneHasKnownPositions : Definition → Type 0
OneHasKnownPositions d = EachPosition (λ (pos : Pos). pos ≡ unknown → ⊥) d

-- the same of definitions
abbrev pub HasKnownPositions : List Definition → Type 0
HasKnownPositions ds = AllByRecursion OneHasKnownPositions ds
