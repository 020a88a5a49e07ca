-- Each position in a tree that is spelt is that of a token after the first.
use Rattle.std.proofs.Common.{[], ◌≡◌, inl, inr, ℕ, List, ◌∷◌, Result, Ok, Err, Option, None, Some, ap, arith, ◌+◌, ◌≤◌}
use Rattle.std.specs.Global.{Vec}
use Rattle.std.specs.Prelude.{codes, IfOk}
use Rattle.std.specs.List.{AllByRecursion}
use Rattle.isle_base.specs.declared.fault.Fault.{Fault}
use Rattle.isle_base_source.specs.declared.pos.Pos.{Pos}
use Rattle.isle_base.specs.Place.{Placed, in_file, placed, unknown}
use Rattle.isle_base.specs.Steps.{Rises}
use Rattle.isle_base.specs.Token.{Tok, Lexeme, Feed}
use Rattle.isle_ast_names.specs.Tree.{Name}
use Rattle.isle_ast.specs.Tree.{unit_fields, struct_fields, tuple_fields, EnumVariant, primitive_type, enum_type, struct_type, term_target, rule_target, chain_kind, priority_kind, tag_kind}
use Rattle.isle_ast.specs.Tree.{TermSignature, type_model, const_model, extern_extractor, extern_constructor, extern_const, Definition, type_def, rule, extractor, decl, attr, spec, spec_macro, model}
use Rattle.isle_ast.specs.Tree.{state, form, instantiation, external, converter}
use Rattle.isle_ast_names.specs.Words.{SpellsToken, SpellsWord, BeginsAt, SpellsAll, InParentheses, SpellsName}
use Rattle.isle_ast.specs.declared.ast.Def.{Def}
use Rattle.isle_ast.specs.Grammar.{SpellsDefinition}
use Rattle.isle_ast_verification.specs.TypeModelGrammar.{SpellsTypeModel}
use Rattle.isle_ast.specs.ModelGrammar.{SpellsSignature, SpellsForm, SpellsTag, SpellsInstances, SpellsInstantiation, SpellsModelContent, SpellsModel}
use Rattle.isle_ast_rules.specs.RuleGrammar.{SpellsRule, SpellsExtractor}
use Rattle.isle_ast_verification.specs.SpecDefinitionGrammar.{SpellsSpecDefinition, SpellsSpecMacro, SpellsState}
use Rattle.isle_ast_verification.specs.SpecGrammar.{SpellsSpec}
use Rattle.isle_ast.specs.Spelt.{Spells}
use Rattle.isle_ast.specs.TermGrammar.{SpellsDeclaration, SpellsConversion, SpellsAttributeKind, SpellsAttributeTarget, SpellsAttribute, SpellsExtern}
use Rattle.isle_ast.specs.TreeView.{definitions_of}
use Rattle.isle_ast.specs.TypeGrammar.{SpellsNamedField, SpellsIndexedFields, SpellsFields, SpellsVariant, SpellsTypeContent, SpellsTypeDefinition}
use Rattle.isle_parser.specs.Parsed.{Parses}
use Rattle.isle_parser_cursor.specs.Positions.{OfName, OfNames, OfOptionalName}
use Rattle.isle_parser_verification.specs.Positions.{OfModel, OfSpec, OfSpecDefinition, OfSpecMacro, OfState}
use Rattle.isle_parser.specs.Positions.{OfNamedField, OfIndexedField, OfFields, OfVariant, OfTypeContent, OfTarget, OfKind, OfSignature, OfModelContent, OfExtern, BeginsToken, EachPosition}
use Rattle.isle_parser.specs.Positions.{HasKnownPositions, OneHasKnownPositions, OneHasPositions, HasPositions, behind_first}
use Rattle.isle_parser_rules.specs.Positions.{OfRule, OfExtractor}
use Rattle.isle_parser.proofs.Reading.Definitions.{SpellsKeyword, to_keyword}
use Rattle.isle_parser_verification.proofs.Positions.Models.{type_model_stands, models_stand}
use Rattle.isle_parser_rules.proofs.Positions.Rules.{rule_stands, extractor_stands}
use Rattle.isle_parser_verification.proofs.Positions.Specs.{spec_stands, spec_definition_stands, spec_macro_stands, state_stands}
use Rattle.isle_parser_cursor.proofs.Stands.{Among, Into, Stands, token_stands, begins_stands, same_stands, flag_stands, name_stands, constant_stands, list_stands, enclosed_stands, behind_stands, tagged_stands}

-- two names
abbrev Pair : (first second : Name) → List Placed → List Placed → Type 0
Pair first second all rest = (mid : List Placed) × SpellsName first all mid × SpellsName second mid rest

pair_stands : (first second : Name) (all rest : List Placed) → Pair first second all rest → (P : Pos → Type 0) → Into all P → P first.pos × P second.pos × Into rest P
pair_stands first second all rest h P into =
    let a = name_stands first all h.0 h.1 P into in
    let b = name_stands second h.0 rest h.2 P a.1 in
    (a.0, b.0, b.1)

-- ---- types

named_field_stands : Stands SpellsNamedField OfNamedField
named_field_stands f all rest h P into =
    let inner = pair_stands f.name f.ty h.1.0 h.1.1 h.1.3 P (token_stands h.1.2 P into) in
    ((begins_stands h.0 P into, inner.0, inner.1), token_stands h.1.4 P inner.2)

indexed_stands : (index : ℕ) → Stands (SpellsIndexedFields index) (λ P fs. AllByRecursion (OfIndexedField P) fs)
indexed_stands index [] all rest h P into = (tt, same_stands h P into)
indexed_stands index (f ∷ fs) all rest h P into =
    let one = name_stands f.ty all h.2 h.3 P into in
    let others = indexed_stands (index + 1) fs h.2 rest h.4 P one.1 in
    (((begins_stands h.1 P into, one.0), others.0), others.1)

fields_stand : Stands SpellsFields OfFields
fields_stand unit_fields all rest h P into = (tt, same_stands h P into)
fields_stand (struct_fields fs pos) all rest h P into =
    let list = list_stands SpellsNamedField OfNamedField named_field_stands fs all rest h.2 P into in
    ((begins_stands h.1 P into, list.0), list.1)
fields_stand (tuple_fields fs pos) all rest h P into =
    let list = indexed_stands 0 fs all rest h.2 P into in
    ((begins_stands h.1 P into, list.0), list.1)

bare_stands : (v : EnumVariant) (all rest : List Placed) → BeginsAt v.pos all → SpellsName v.name all rest → v.fields ≡ unit_fields → (P : Pos → Type 0) → Into all P → OfVariant P v × Into rest P
bare_stands v all rest p h e P into =
    let n = name_stands v.name all rest h P into in
    let none : OfFields P v.fields = rw e tt in
    ((begins_stands p P into, n.0, none), n.1)

full_stands : (v : EnumVariant) (all rest : List Placed) → BeginsAt v.pos all
    → InParentheses (λ inner close. (mid : List Placed) × SpellsName v.name inner mid × SpellsFields v.fields mid close) all rest → (P : Pos → Type 0) → Into all P → OfVariant P v × Into rest P
full_stands v all rest p h P into =
    let n = name_stands v.name h.0 h.3.0 h.3.1 P (token_stands h.2 P into) in
    let fs = fields_stand v.fields h.3.0 h.1 h.3.2 P n.1 in
    ((begins_stands p P into, n.0, fs.0), token_stands h.4 P fs.1)

variant_stands : Stands SpellsVariant OfVariant
variant_stands v all rest h P into =
    elim h.1 [
      | inl g ↦ bare_stands v all rest h.0 g.0 g.1 P into
      | inr g ↦ full_stands v all rest h.0 g P into
    ]

type_content_stands : Stands SpellsTypeContent OfTypeContent
type_content_stands (primitive_type n pos) all rest h P into =
    let inner = tagged_stands (codes "primitive") SpellsName OfName name_stands n all rest h.1 P into in
    ((begins_stands h.0 P into, inner.0), inner.1)
type_content_stands (enum_type vs pos) all rest h P into =
    let inner = tagged_stands (codes "enum") (SpellsAll SpellsVariant) (λ P vs. AllByRecursion (OfVariant P) vs) (list_stands SpellsVariant OfVariant variant_stands) vs all rest h.1 P into in
    ((begins_stands h.0 P into, inner.0), inner.1)
type_content_stands (struct_type fs pos) all rest h P into =
    let inner = tagged_stands (codes "struct") SpellsFields OfFields fields_stand fs all rest h.1 P into in
    ((begins_stands h.0 P into, inner.0), inner.1)

words_stand : (words : List (List ℕ)) (all rest : List Placed) → SpellsAll SpellsWord words all rest → (P : Pos → Type 0) → Into all P → Into rest P
words_stand [] all rest h P into = same_stands h P into
words_stand (w ∷ ws) all rest h P into = words_stand ws h.0 rest h.2 P (token_stands h.1 P into)

type_stands : Stands SpellsTypeDefinition (λ P t. EachPosition P (type_def t))
type_stands t all rest h P into =
    let n = name_stands t.name all h.behind_name h.name P into in
    let words = words_stand h.modifiers.words h.behind_name h.behind_modifiers h.modifiers.spelt P n.1 in
    let c = type_content_stands t.ty h.behind_modifiers rest h.ty P words in
    ((begins_stands h.position P into, n.0, c.0), c.1)

-- ---- terms

declaration_stands : Stands SpellsDeclaration (λ P d. EachPosition P (decl d))
declaration_stands d all rest h P into =
    let u = flag_stands (codes "pure") d.pure all h.behind_pure h.pure P into in
    let m = flag_stands (codes "multi") d.multi h.behind_pure h.behind_multi h.multi P u in
    let p = flag_stands (codes "partial") d.partial h.behind_multi h.behind_partial h.partial P m in
    let r = flag_stands (codes "rec") d.rec h.behind_partial h.behind_rec h.rec P p in
    let t = name_stands d.term h.behind_rec h.behind_term h.term P r in
    let a = enclosed_stands (SpellsAll SpellsName) OfNames (list_stands SpellsName OfName name_stands) d.arg_tys h.behind_term h.behind_arg_tys h.arg_tys P t.1 in
    let v = name_stands d.ret_ty h.behind_arg_tys rest h.ret_ty P a.1 in
    ((begins_stands h.position P into, t.0, a.0, v.0), v.1)

conversion_stands : Stands SpellsConversion (λ P c. EachPosition P (converter c))
conversion_stands c all rest h P into =
    let a = name_stands c.inner_ty all h.behind_inner h.inner_ty P into in
    let b = name_stands c.outer_ty h.behind_inner h.behind_outer h.outer_ty P a.1 in
    let t = name_stands c.term h.behind_outer rest h.term P b.1 in
    ((begins_stands h.position P into, a.0, b.0, t.0), t.1)

kind_stands : Stands SpellsAttributeKind OfKind
kind_stands chain_kind all rest h P into = (tt, token_stands h.4 P (token_stands h.3.2 P (token_stands h.3.1 P (token_stands h.2 P into))))
kind_stands priority_kind all rest h P into = (tt, token_stands h.4 P (token_stands h.3.2 P (token_stands h.3.1 P (token_stands h.2 P into))))
kind_stands (tag_kind n) all rest h P into = tagged_stands (codes "tag") SpellsName OfName name_stands n all rest h P into

target_stands : Stands SpellsAttributeTarget OfTarget
target_stands (term_target n) all rest h P into = name_stands n all rest h.1 P into
target_stands (rule_target n) all rest h P into = behind_stands (codes "rule") SpellsName OfName name_stands n all rest h P into

attribute_stands : Stands SpellsAttribute (λ P a. EachPosition P (attr a))
attribute_stands a all rest h P into =
    let t = target_stands a.target all h.behind_target h.target P into in
    let ks = list_stands SpellsAttributeKind OfKind kind_stands a.kinds h.behind_target rest h.kinds P t.1 in
    ((begins_stands h.position P into, t.0, ks.0), ks.1)

extern_stands : Stands SpellsExtern OfExtern
extern_stands (extern_extractor term func pos b) all rest h P into =
    let w = h.2 in
    let body = w.2 in
    let i = flag_stands (codes "infallible") b w.0 body.0 body.1 P (token_stands w.1 P into) in
    let pair = pair_stands term func body.0 rest body.2 P i in
    ((begins_stands h.1 P into, pair.0, pair.1), pair.2)
extern_stands (extern_constructor term func pos) all rest h P into =
    let w = h.1 in
    let pair = pair_stands term func w.0 rest w.2 P (token_stands w.1 P into) in
    ((begins_stands h.0 P into, pair.0, pair.1), pair.2)
extern_stands (extern_const n ty pos) all rest h P into =
    let w = h.1 in
    let body = w.2 in
    let c = constant_stands n w.0 body.0 body.1 P (token_stands w.1 P into) in
    let t = name_stands ty body.0 rest body.2 P c.1 in
    let place : P pos = rw h.0 c.0 in
    ((place, c.0, t.0), t.1)

signature_stands : Stands SpellsSignature OfSignature
signature_stands s all rest h P into =
    let opened = token_stands h.2 P into in
    let args = tagged_stands (codes "args") (SpellsAll SpellsTypeModel) (λ P ms. AllByRecursion (OfModel P) ms) models_stand s.args h.0 h.3.1 h.3.2 P opened in
    let ret = tagged_stands (codes "ret") SpellsTypeModel OfModel type_model_stands s.ret h.3.1 h.1 h.3.3 P args.1 in
    ((begins_stands h.3.0 P opened, args.0, ret.0), token_stands h.4 P ret.1)

signatures_stand : Stands (SpellsAll SpellsSignature) (λ P gs. AllByRecursion (OfSignature P) gs)
signatures_stand = list_stands SpellsSignature OfSignature signature_stands

form_stands : Stands SpellsForm (λ P f. EachPosition P (form f))
form_stands f all rest h P into =
    let n = name_stands f.name all h.behind_name h.name P into in
    let gs = signatures_stand f.signatures h.behind_name rest h.signatures P n.1 in
    ((begins_stands h.position P into, n.0, gs.0), gs.1)

tag_stands : Stands SpellsTag OfName
tag_stands n all rest h P into = tagged_stands (codes "tag") SpellsName OfName name_stands n all rest h P into

instances_stand : (f : Option Name) (gs : List TermSignature) (ts : List Name) (all rest : List Placed) → SpellsInstances f gs ts all rest → (P : Pos → Type 0) → Into all P
    → OfOptionalName P f × AllByRecursion (OfSignature P) gs × OfNames P ts × Into rest P
instances_stand None gs ts all rest h P into =
    let list = signatures_stand gs all rest h.2 P into in
    let none : OfNames P ts = rw h.1 tt in
    (tt, list.0, none, list.1)
instances_stand (Some f) gs ts all rest h P into =
    let n = name_stands f all h.1 h.2 P into in
    let list = list_stands SpellsTag OfName tag_stands ts h.1 rest h.3 P n.1 in
    let none : AllByRecursion (OfSignature P) gs = rw h.0 tt in
    (n.0, none, list.0, list.1)

instantiation_stands : Stands SpellsInstantiation (λ P i. EachPosition P (instantiation i))
instantiation_stands i all rest h P into =
    let t = name_stands i.term all h.behind_term h.term P into in
    let x = instances_stand i.form i.signatures i.tags h.behind_term rest h.instances P t.1 in
    ((begins_stands h.position P into, t.0, x.0, x.1, x.2), x.3)

model_content_stands : Stands SpellsModelContent OfModelContent
model_content_stands (type_model ty) all rest h P into = tagged_stands (codes "type") SpellsTypeModel OfModel type_model_stands ty all rest h P into
model_content_stands (const_model x) all rest h P into = tagged_stands (codes "const") SpellsSpec OfSpec spec_stands x all rest h P into

model_stands : Stands SpellsModel (λ P m. EachPosition P (model m))
model_stands m all rest h P into =
    let n = name_stands m.name all h.behind_name h.name P into in
    let c = model_content_stands m.val h.behind_name rest h.val P n.1 in
    ((n.0, c.0), c.1)

-- ---- definitions

-- those after the first
abbrev behind : List Placed → List Placed
behind [] = []
behind (x ∷ xs) = xs

behind_among : (all : List Placed) (pos : Pos) → Among (behind all) pos → Among all pos
behind_among [] pos a = a
behind_among (x ∷ xs) pos a = inr a

opened_behind : (token : Tok) (all inner : List Placed) → SpellsToken token all inner → (pos : Pos) → Among inner pos → Among (behind all) pos
opened_behind token all inner h pos a = rw h.1 a

keyword_stands : Stands SpellsKeyword EachPosition
keyword_stands (type_def x) = behind_stands (codes "type") SpellsTypeDefinition (λ P x. EachPosition P (type_def x)) type_stands x
keyword_stands (rule x) = behind_stands (codes "rule") SpellsRule OfRule rule_stands x
keyword_stands (extractor x) = behind_stands (codes "extractor") SpellsExtractor OfExtractor extractor_stands x
keyword_stands (decl x) = behind_stands (codes "decl") SpellsDeclaration (λ P x. EachPosition P (decl x)) declaration_stands x
keyword_stands (attr x) = behind_stands (codes "attr") SpellsAttribute (λ P x. EachPosition P (attr x)) attribute_stands x
keyword_stands (spec x) = behind_stands (codes "spec") SpellsSpecDefinition OfSpecDefinition spec_definition_stands x
keyword_stands (spec_macro x) = behind_stands (codes "macro") SpellsSpecMacro OfSpecMacro spec_macro_stands x
keyword_stands (model x) = behind_stands (codes "model") SpellsModel (λ P x. EachPosition P (model x)) model_stands x
keyword_stands (state x) = behind_stands (codes "state") SpellsState OfState state_stands x
keyword_stands (form x) = behind_stands (codes "form") SpellsForm (λ P x. EachPosition P (form x)) form_stands x
keyword_stands (instantiation x) = behind_stands (codes "instantiate") SpellsInstantiation (λ P x. EachPosition P (instantiation x)) instantiation_stands x
keyword_stands (external x) = behind_stands (codes "extern") SpellsExtern OfExtern extern_stands x
keyword_stands (converter x) = behind_stands (codes "convert") SpellsConversion (λ P x. EachPosition P (converter x)) conversion_stands x

-- the positions of a definition are those of the tokens after its first one
definition_stands : (x : Definition) (all rest : List Placed) → SpellsDefinition x all rest → (P : Pos → Type 0) → Into (behind all) P → EachPosition P x × Into rest P
definition_stands x all rest h P into =
    let whole = to_keyword x all rest h in
    let inner = keyword_stands x whole.0 whole.1 whole.3 P (λ pos a. into pos (opened_behind _ all whole.0 whole.2 pos a)) in
    (inner.0, token_stands whole.4 P inner.1)

definitions_stand : (ds : List Definition) (all rest : List Placed) → SpellsAll SpellsDefinition ds all rest → (P : Pos → Type 0) → Into (behind all) P → AllByRecursion (EachPosition P) ds
definitions_stand [] all rest h P into = tt
definitions_stand (x ∷ xs) all rest h P into =
    let one = definition_stands x all h.0 h.1 P into in
    (one.0, definitions_stand xs h.0 rest h.2 P (λ pos a. one.1 pos (behind_among h.0 pos a)))

-- ---- of a text

begins_token : (file : ℕ) (xs : List Lexeme) (pos : Pos) → Among (placed (in_file file) xs) pos → BeginsToken file xs pos
begins_token file [] pos a = a
begins_token file (x ∷ xs) pos (inl e) = inl e
begins_token file (x ∷ xs) pos (inr a) = inr (begins_token file xs pos a)

behind_token : (file : ℕ) (xs : List Lexeme) (pos : Pos) → Among (behind (placed (in_file file) xs)) pos → BeginsToken file (behind_first xs) pos
behind_token file [] pos a = a
behind_token file (x ∷ xs) pos a = begins_token file xs pos a

pub positions_stand : (feed : Feed) (ds : List Definition) → Spells (in_file feed.file) feed ds → HasPositions feed.file feed.coming ds
positions_stand feed ds h = definitions_stand ds (placed (in_file feed.file) feed.coming) [] h.1 (BeginsToken feed.file (behind_first feed.coming)) (behind_token feed.file feed.coming)

pub positions_found : (feed : Feed) (r : Result (Vec Def) Fault) → Parses (in_file feed.file) feed r → IfOk r (λ defs. HasPositions feed.file feed.coming (definitions_of defs.items))
positions_found feed (Ok defs) h = positions_stand feed (definitions_of defs.items) h.spelt
positions_found feed (Err e) h = tt

-- ---- known places

rises_to : (file from : ℕ) (xs : List Lexeme) (pos : Pos) → Rises from xs → BeginsToken file xs pos → from ≤ pos.offset
rises_to file from [] pos r b = absurd b
rises_to file from (x ∷ xs) pos r (inl e) =
    let is : pos.offset ≡ x.offset = ap (λ (p : Pos). p.offset) e in
    omega (arith, r.0, is)
rises_to file from (x ∷ xs) pos r (inr b) = omega (arith, r.0, r.1, rises_to file x.after xs pos r.2 b)

behind_known : (file : ℕ) (xs : List Lexeme) (pos : Pos) → Rises 0 xs → BeginsToken file (behind_first xs) pos → pos ≡ unknown → ⊥
behind_known file [] pos r b e = b
behind_known file (x ∷ xs) pos r b e =
    let is : pos.offset ≡ 0 = ap (λ (p : Pos). p.offset) e in
    absurd (omega (arith, r.1, is, rises_to file x.after xs pos r.2 b))

pub known_found : (feed : Feed) (r : Result (Vec Def) Fault) → Rises 0 feed.coming → Parses (in_file feed.file) feed r → IfOk r (λ defs. HasKnownPositions (definitions_of defs.items))
known_found feed (Ok defs) rising h =
    definitions_stand (definitions_of defs.items) (placed (in_file feed.file) feed.coming) [] h.spelt.1 (λ (pos : Pos). pos ≡ unknown → ⊥)
    (λ pos a. behind_known feed.file feed.coming pos rising (behind_token feed.file feed.coming pos a))
known_found feed (Err e) rising h = tt

-- ---- of one definition

pub definition_positions : (file : ℕ) (xs : List Lexeme) (d : Definition) (rest : List Placed) → SpellsDefinition d (placed (in_file file) xs) rest → OneHasPositions file xs d
definition_positions file xs d rest h = (definition_stands d (placed (in_file file) xs) rest h (BeginsToken file (behind_first xs)) (behind_token file xs)).0

pub definition_known : (file : ℕ) (xs : List Lexeme) (d : Definition) (rest : List Placed) → Rises 0 xs → SpellsDefinition d (placed (in_file file) xs) rest → OneHasKnownPositions d
definition_known file xs d rest rising h =
    (definition_stands d (placed (in_file file) xs) rest h (λ (pos : Pos). pos ≡ unknown → ⊥)
    (λ pos a. behind_known file xs pos rising (behind_token file xs pos a))).0
