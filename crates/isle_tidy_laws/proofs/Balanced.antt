-- The parentheses of the tokens that spell a definition match.
use Rattle.std.proofs.Common.{◌≡◌, ℕ, suc, List, [], ◌∷◌, ◌+◌, ℤ, map, Bool, true, false, Option, None, Some, codes, ⊎_elim, refl, sym, ap, ◌∙◌}
use Rattle.isle_base.specs.Place.{Placed, placed}
use Rattle.isle_base.specs.Token.{Tok, symbol, integer, at_sign, Lexeme}
use Rattle.isle_base_source.specs.declared.pos.Pos.{Pos}
use Rattle.isle_tidy_core.specs.Matched.{match_tokens, token_of, tokens_match}
use Rattle.isle_ast_names.specs.Tree.{Name}
use Rattle.isle_ast_names.specs.Words.{SpellsToken, SpellsWord, SpellsAll, InParentheses, SpellsName, SpellsFlag, BehindWord, SpellsOptional, InForm, SpellsConstant}
use Rattle.isle_ast_names.specs.Numbers.{SpellsNumber, SpellsPriority}
use Rattle.isle_ast_rules.specs.Tree.{PatternNode, var_pattern, bind_pattern, bool_pattern, int_pattern, constant_pattern, term_pattern, wildcard_pattern, and_pattern, macro_arg_pattern, PatternList, no_pattern, more_pattern, Expression, term_expression, var_expression, bool_expression, int_expression, constant_expression, let_expression, ExpressionList, no_expression, more_expression, LetList, no_let, more_let, Condition, RuleDefinition, ExtractorDefinition}
use Rattle.isle_ast_rules.specs.ExpressionGrammar.{SpellsExpression, SpellsExpressions, SpellsLets}
use Rattle.isle_ast_rules.specs.PatternGrammar.{SpellsPattern, SpellsPatterns}
use Rattle.isle_ast_rules.specs.RuleGrammar.{SpellsCondition, SpellsRule, SpellsExtractor}
use Rattle.isle_ast_verification.specs.Tree.{TypeModel, unspecified_model, auto_model, int_model, bool_model, unit_model, bit_vector_model, struct_model, named_model, ModelFieldList, no_model_field, model_field, SpecNode, int_spec, bit_vector_spec, bool_spec, var_spec, as_spec, field_spec, discriminator_spec, op_spec, match_spec, let_spec, with_spec, macro_spec, expand_spec, pair_spec, enum_spec, struct_spec, SpecList, no_spec, more_spec, ArmList, no_arm, more_arm, SpecLetList, no_spec_let, more_spec_let, FieldInitList, no_field_init, more_field_init, SpecDefinition, SpecMacroDefinition, StateDefinition}
use Rattle.isle_ast_verification.specs.TypeModelGrammar.{SpellsTypeModel, SpellsModelFields}
use Rattle.isle_ast_verification.specs.SpecGrammar.{field_mark, discriminator_mark, expansion_mark, SpellsMarked, SpellsNames, SpellsHeaded, SpellsSpec, SpellsSpecs, SpellsCases, SpellsPairs, SpellsArms, SpellsSpecLets, SpellsFieldInits}
use Rattle.isle_ast_verification.specs.SpecDefinitionGrammar.{SpecClause, provide_clause, require_clause, match_clause, modifies_clause, SpellsClause, SpellsSpecDefinition, SpellsSpecMacro, SpellsState}
use Rattle.isle_ast.specs.Tree.{TermSignature, FormDefinition, TermInstantiation, ModelContent, type_model, const_model, ModelDefinition, Declaration, Conversion, Attribute, AttributeTarget, term_target, rule_target, AttributeKind, chain_kind, priority_kind, tag_kind, ExternDefinition, extern_extractor, extern_constructor, extern_const, NamedField, IndexedField, FieldList, unit_fields, struct_fields, tuple_fields, EnumVariant, TypeContent, primitive_type, enum_type, struct_type, TypeDefinition, Definition, type_def, rule, extractor, decl, attr, spec, spec_macro, model, state, form, instantiation, external, converter}
use Rattle.isle_ast.specs.ModelGrammar.{SpellsSignature, SpellsForm, SpellsTag, SpellsInstances, SpellsInstantiation, SpellsModelContent, SpellsModel}
use Rattle.isle_ast.specs.TermGrammar.{SpellsDeclaration, SpellsConversion, SpellsAttributeKind, SpellsAttributeTarget, SpellsAttribute, SpellsPair, SpellsExtern}
use Rattle.isle_ast.specs.TypeGrammar.{SpellsNamedField, SpellsIndexedFields, SpellsFields, SpellsVariant, SpellsTypeContent, SpellsTypeDefinition}
use Rattle.isle_ast.specs.Grammar.{SpellsDefinition, SpellsDefinitions}

abbrev tokens_of : List Placed → List Tok
tokens_of [] = []
tokens_of (p ∷ ps) = p.token ∷ tokens_of ps

-- between the two, parentheses match
abbrev Even : List Placed → List Placed → Type 0
Even all rest = (n : ℕ) → match_tokens n (tokens_of all) ≡ match_tokens n (tokens_of rest)

abbrev Evenly : (List Placed → List Placed → Type 0) → Type 0
Evenly Spells = (all rest : List Placed) → Spells all rest → Even all rest

same : (all rest : List Placed) → all ≡ rest → Even all rest
same all rest e = λ n. ap (λ ps. match_tokens n (tokens_of ps)) e

both : (all mid rest : List Placed) → Even all mid → Even mid rest → Even all rest
both all mid rest f g = λ n. f n ∙ g n

symbol_even : (pos : Pos) (text : List ℕ) (all rest : List Placed) → all ≡ record { pos = pos; token = symbol text } ∷ rest → Even all rest
symbol_even pos text all rest e = λ n. ap (λ ps. match_tokens n (tokens_of ps)) e

integer_even : (all rest : List Placed) (value : ℤ) → SpellsToken (integer value) all rest → Even all rest
integer_even all rest value s = λ n. ap (λ ps. match_tokens n (tokens_of ps)) s.1

at_even : Evenly (SpellsToken at_sign)
at_even all rest s = λ n. ap (λ ps. match_tokens n (tokens_of ps)) s.1

word : (text : List ℕ) → Evenly (SpellsWord text)
word text all rest s = symbol_even s.0 text all rest s.1

name : (x : Name) → Evenly (SpellsName x)
name x all rest s = symbol_even x.pos x.text all rest s.1

constant : (x : Name) → Evenly (SpellsConstant x)
constant x all rest s = symbol_even x.pos (36 ∷ x.text) all rest s.1

marked : (mark : List ℕ → List ℕ) (x : Name) → Evenly (SpellsMarked mark x)
marked mark x all rest s = symbol_even x.pos (mark x.text) all rest s.1

flag : (text : List ℕ) (set : Bool) → Evenly (SpellsFlag text set)
flag text true all rest s = word text all rest s
flag text false all rest s = same all rest s

within : (Spells : List Placed → List Placed → Type 0) → Evenly Spells → Evenly (InParentheses Spells)
within Spells even all rest s = λ n.
    ap (λ ps. match_tokens n (tokens_of ps)) s.2.1 ∙ even s.0 s.1 s.3 (suc n) ∙ ap (λ ps. match_tokens (suc n) (tokens_of ps)) s.4.1

behind : (text : List ℕ) (Spells : List Placed → List Placed → Type 0) → Evenly Spells → Evenly (BehindWord text Spells)
behind text Spells even all rest s = both all s.0 rest (word text all s.0 s.1) (even s.0 rest s.2)

in_form : (text : List ℕ) (Spells : List Placed → List Placed → Type 0) → Evenly Spells → Evenly (InForm text Spells)
in_form text Spells even = within (BehindWord text Spells) (behind text Spells even)

each : {A : Type 0} (Spells : A → List Placed → List Placed → Type 0) → ((x : A) → Evenly (Spells x)) → (xs : List A) → Evenly (SpellsAll Spells xs)
each Spells even [] all rest s = same all rest s
each Spells even (x ∷ xs) all rest s = both all s.0 rest (even x all s.0 s.1) (each Spells even xs s.0 rest s.2)

optional : {A : Type 0} (Spells : A → List Placed → List Placed → Type 0) → ((x : A) → Evenly (Spells x)) → (x : Option A) → Evenly (SpellsOptional Spells x)
optional Spells even None all rest s = same all rest s
optional Spells even (Some x) all rest s = even x all rest s

names : (xs : List Name) → Evenly (SpellsAll SpellsName xs)
names xs = each SpellsName name xs

names_within : (xs : List Name) → Evenly (SpellsNames xs)
names_within xs = within (SpellsAll SpellsName xs) (names xs)

name_then_names : (x : Name) (xs : List Name) (all rest : List Placed) → (mid : List Placed) × SpellsName x all mid × SpellsAll SpellsName xs mid rest → Even all rest
name_then_names x xs all rest s = both all s.0 rest (name x all s.0 s.1) (names xs s.0 rest s.2)

headed : (x : Name) (xs : List Name) → Evenly (SpellsHeaded x xs)
headed x xs = within _ (name_then_names x xs)

-- Rules.

mutual
  expression : (x : Expression) → Evenly (SpellsExpression x)
  expression (term_expression sym args pos) all rest s =
      within _ (λ inner close p. both inner p.0 close (name sym inner p.0 p.1) (expressions args p.0 close p.2)) all rest s.2
  expression (var_expression x pos) all rest s = symbol_even x.pos x.text all rest s.1.1
  expression (bool_expression val pos) all rest s = word _ all rest s.1
  expression (int_expression val pos) all rest s = integer_even all rest val s.1.1
  expression (constant_expression val pos) all rest s = constant val all rest s.1
  expression (let_expression defs body pos) all rest s =
      within _ (behind _ _ (λ inner close p. both inner p.0 close (within (SpellsLets defs) (lets defs) inner p.0 p.1) (expression body p.0 close p.2))) all rest s.1

  expressions : (xs : ExpressionList) → Evenly (SpellsExpressions xs)
  expressions no_expression all rest s = same all rest s
  expressions (more_expression x xs) all rest s = both all s.0 rest (expression x all s.0 s.1) (expressions xs s.0 rest s.2)

  lets : (xs : LetList) → Evenly (SpellsLets xs)
  lets no_let all rest s = same all rest s
  lets (more_let var ty val pos more) all rest s =
      both all s.0 rest
      (within _ (λ inner close p. both inner p.0 close (name var inner p.0 p.2) (both p.0 p.1 close (name ty p.0 p.1 p.3) (expression val p.1 close p.4))) all s.0 s.1.1)
      (lets more s.0 rest s.2)

mutual
  pattern : (x : PatternNode) → Evenly (SpellsPattern x)
  pattern (var_pattern var pos) all rest s = symbol_even var.pos var.text all rest s.1.1
  pattern (bind_pattern var subpat pos) all rest s =
      both all s.1 rest (symbol_even var.pos var.text all s.1 s.3.1) (both s.1 s.2 rest (at_even s.1 s.2 s.4) (pattern subpat s.2 rest s.5))
  pattern (bool_pattern val pos) all rest s = word _ all rest s.1
  pattern (int_pattern val pos) all rest s = integer_even all rest val s.1.1
  pattern (constant_pattern val pos) all rest s = constant val all rest s.1
  pattern (term_pattern sym args pos) all rest s =
      within _ (λ inner close p. both inner p.0 close (name sym inner p.0 p.1) (patterns args p.0 close p.2)) all rest s.2
  pattern (wildcard_pattern pos) all rest s = word _ all rest s.1
  pattern (and_pattern subpats pos) all rest s = within _ (behind _ _ (patterns subpats)) all rest s.1
  pattern (macro_arg_pattern index pos) all rest s = absurd s

  patterns : (xs : PatternList) → Evenly (SpellsPatterns xs)
  patterns no_pattern all rest s = same all rest s
  patterns (more_pattern x xs) all rest s = both all s.0 rest (pattern x all s.0 s.1) (patterns xs s.0 rest s.2)

condition : (c : Condition) → Evenly (SpellsCondition c)
condition c all rest s =
    ⊎_elim (λ t. within _ (behind _ _ (λ inner close p. both inner p.1.0 close (pattern c.pattern inner p.1.0 p.1.1) (expression c.expr p.1.0 close p.1.2))) all rest t)
    (λ t. within _ (behind _ _ (λ inner close p. expression c.expr inner close p.1.1)) all rest t) s

priority : (value : ℤ) → Evenly (SpellsPriority value)
priority value all rest s = integer_even all rest value s.1

rule_even : (r : RuleDefinition) → Evenly (SpellsRule r)
rule_even r all rest s =
    both all s.behind_name rest (optional SpellsName name r.name all s.behind_name s.name)
    (both s.behind_name s.behind_prio rest (optional SpellsPriority priority r.prio s.behind_name s.behind_prio s.prio)
    (both s.behind_prio s.behind_pattern rest (pattern r.pattern s.behind_prio s.behind_pattern s.pattern)
    (both s.behind_pattern s.behind_iflets rest (each SpellsCondition condition r.iflets s.behind_pattern s.behind_iflets s.iflets) (expression r.expr s.behind_iflets rest s.expr))))

extractor_even : (e : ExtractorDefinition) → Evenly (SpellsExtractor e)
extractor_even e all rest s =
    both all s.behind_head rest (within _ (name_then_names e.term e.args) all s.behind_head s.head) (pattern e.template s.behind_head rest s.template)

-- Verification.

number : (n : ℕ) → Evenly (SpellsNumber n)
number n all rest s = integer_even all rest _ s.1

mutual
  type_model_even : (x : TypeModel) → Evenly (SpellsTypeModel x)
  type_model_even unspecified_model all rest s = word _ all rest s
  type_model_even auto_model all rest s = word _ all rest s
  type_model_even int_model all rest s = word _ all rest s
  type_model_even bool_model all rest s = word _ all rest s
  type_model_even unit_model all rest s = word _ all rest s
  type_model_even (bit_vector_model width) all rest s = within _ (behind _ _ (optional SpellsNumber number width)) all rest s
  type_model_even (struct_model fields) all rest s = within _ (behind _ _ (model_fields fields)) all rest s
  type_model_even (named_model x) all rest s = within _ (behind _ _ (name x)) all rest s

  model_fields : (xs : ModelFieldList) → Evenly (SpellsModelFields xs)
  model_fields no_model_field all rest s = same all rest s
  model_fields (model_field x ty fields) all rest s =
      both all s.0 rest (within _ (λ inner close p. both inner p.0 close (name x inner p.0 p.1) (type_model_even ty p.0 close p.2)) all s.0 s.1) (model_fields fields s.0 rest s.2)

mutual
  spec_even : (x : SpecNode) → Evenly (SpellsSpec x)
  spec_even (int_spec val pos) all rest s = integer_even all rest val s.1.1
  spec_even (bit_vector_spec val width pos) all rest s = word s.1.0 all rest s.1.2
  spec_even (bool_spec val pos) all rest s = word _ all rest s.1
  spec_even (var_spec var pos) all rest s = name var all rest s.2
  spec_even (as_spec x ty pos) all rest s =
      within _ (behind _ _ (λ inner close p. both inner p.0 close (spec_even x inner p.0 p.1) (type_model_even ty p.0 close p.2))) all rest s.1
  spec_even (field_spec field x pos) all rest s =
      within _ (λ inner close p. both inner p.0 close (marked field_mark field inner p.0 p.1) (spec_even x p.0 close p.2)) all rest s.1
  spec_even (discriminator_spec variant x pos) all rest s =
      within _ (λ inner close p. both inner p.0 close (marked discriminator_mark variant inner p.0 p.1) (spec_even x p.0 close p.2)) all rest s.1
  spec_even (op_spec operator args pos) all rest s =
      within _ (behind _ _ (λ inner close p. ⊎_elim (λ q. spec_evens args inner close q.1) (λ q. cases_even args inner close q.1) p)) all rest s.1
  spec_even (match_spec x arms pos) all rest s =
      within _ (behind _ _ (λ inner close p. both inner p.0 close (spec_even x inner p.0 p.1) (arms_even arms p.0 close p.2))) all rest s.1
  spec_even (let_spec defs body pos) all rest s =
      within _ (behind _ _ (λ inner close p. both inner p.0 close (within (SpellsSpecLets defs) (spec_lets defs) inner p.0 p.1) (spec_even body p.0 close p.2))) all rest s.1
  spec_even (with_spec decls body pos) all rest s =
      within _ (behind _ _ (λ inner close p. both inner p.0 close (names_within decls inner p.0 p.1) (spec_even body p.0 close p.2))) all rest s.1
  spec_even (macro_spec params body pos) all rest s =
      within _ (behind _ _ (λ inner close p. both inner p.0 close (names_within params inner p.0 p.1) (spec_even body p.0 close p.2))) all rest s.1
  spec_even (expand_spec x args pos) all rest s =
      within _ (λ inner close p. both inner p.0 close (marked expansion_mark x inner p.0 p.1) (spec_evens args p.0 close p.2)) all rest s.1
  spec_even (pair_spec l r pos) all rest s = absurd s
  spec_even (enum_spec x variant args pos) all rest s = within _ (behind _ _ (spec_evens args)) all rest s.2
  spec_even (struct_spec fields pos) all rest s = within _ (behind _ _ (field_inits fields)) all rest s.1

  spec_evens : (xs : SpecList) → Evenly (SpellsSpecs xs)
  spec_evens no_spec all rest s = same all rest s
  spec_evens (more_spec x xs) all rest s = both all s.0 rest (spec_even x all s.0 s.1) (spec_evens xs s.0 rest s.2)

  cases_even : (xs : SpecList) → Evenly (SpellsCases xs)
  cases_even no_spec all rest s = absurd s
  cases_even (more_spec x cases) all rest s = both all s.0 rest (spec_even x all s.0 s.1) (pairs_even cases s.0 rest s.2)

  pairs_even : (xs : SpecList) → Evenly (SpellsPairs xs)
  pairs_even no_spec all rest s = same all rest s
  pairs_even (more_spec (pair_spec l r pos) pairs) all rest s =
      both all s.0 rest (within _ (λ inner close p. both inner p.1 close (spec_even l inner p.1 p.2) (spec_even r p.1 close p.3)) all s.0 s.1) (pairs_even pairs s.0 rest s.2)
  pairs_even (more_spec _ pairs) all rest s = absurd s

  arms_even : (xs : ArmList) → Evenly (SpellsArms xs)
  arms_even no_arm all rest s = same all rest s
  arms_even (more_arm variant args body pos arms) all rest s =
      both all s.0 rest (within _ (λ inner close p. both inner p.1 close (headed variant args inner p.1 p.2) (spec_even body p.1 close p.3)) all s.0 s.1) (arms_even arms s.0 rest s.2)

  spec_lets : (xs : SpecLetList) → Evenly (SpellsSpecLets xs)
  spec_lets no_spec_let all rest s = same all rest s
  spec_lets (more_spec_let x value more) all rest s =
      both all s.0 rest (within _ (λ inner close p. both inner p.0 close (name x inner p.0 p.1) (spec_even value p.0 close p.2)) all s.0 s.1) (spec_lets more s.0 rest s.2)

  field_inits : (xs : FieldInitList) → Evenly (SpellsFieldInits xs)
  field_inits no_field_init all rest s = same all rest s
  field_inits (more_field_init x value pos fields) all rest s =
      both all s.0 rest (within _ (λ inner close p. both inner p.1 close (name x inner p.1 p.2) (spec_even value p.1 close p.3)) all s.0 s.1) (field_inits fields s.0 rest s.2)

clause : (c : SpecClause) → Evenly (SpellsClause c)
clause (provide_clause es) = within _ (behind _ _ (each SpellsSpec spec_even es))
clause (require_clause es) = within _ (behind _ _ (each SpellsSpec spec_even es))
clause (match_clause es) = within _ (behind _ _ (each SpellsSpec spec_even es))
clause (modifies_clause m) =
    within _ (behind _ _ (λ inner close p. both inner p.0 close (name m.state inner p.0 p.1) (optional SpellsName name m.cond p.0 close p.2)))

spec_definition : (s : SpecDefinition) → Evenly (SpellsSpecDefinition s)
spec_definition d all rest s =
    both all s.behind_head rest (headed d.term d.args all s.behind_head s.head) (each SpellsClause clause s.clauses s.behind_head rest s.spelt)

spec_macro_even : (m : SpecMacroDefinition) → Evenly (SpellsSpecMacro m)
spec_macro_even m all rest s = both all s.behind_head rest (headed m.name m.params all s.behind_head s.head) (spec_even m.body s.behind_head rest s.body)

state_even : (x : StateDefinition) → Evenly (SpellsState x)
state_even x all rest s =
    both all s.behind_name rest (name x.name all s.behind_name s.name)
    (both s.behind_name s.behind_type rest (within _ (behind _ _ (type_model_even x.ty)) s.behind_name s.behind_type s.ty) (within _ (behind _ _ (spec_even x.default)) s.behind_type rest s.default))

-- Definitions.

signature : (x : TermSignature) → Evenly (SpellsSignature x)
signature x = within _ (λ inner close p. both inner p.1 close (within _ (behind _ _ (each SpellsTypeModel type_model_even x.args)) inner p.1 p.2) (within _ (behind _ _ (type_model_even x.ret)) p.1 close p.3))

form_even : (f : FormDefinition) → Evenly (SpellsForm f)
form_even f all rest s = both all s.behind_name rest (name f.name all s.behind_name s.name) (each SpellsSignature signature f.signatures s.behind_name rest s.signatures)

tag : (x : Name) → Evenly (SpellsTag x)
tag x = within _ (behind _ _ (name x))

instances : (form_name : Option Name) (signatures : List TermSignature) (tags : List Name) → Evenly (SpellsInstances form_name signatures tags)
instances None signatures tags all rest s = each SpellsSignature signature signatures all rest s.2
instances (Some form_name) signatures tags all rest s = both all s.1 rest (name form_name all s.1 s.2) (each SpellsTag tag tags s.1 rest s.3)

instantiation_even : (i : TermInstantiation) → Evenly (SpellsInstantiation i)
instantiation_even i all rest s =
    both all s.behind_term rest (name i.term all s.behind_term s.term) (instances i.form i.signatures i.tags s.behind_term rest s.instances)

model_content : (c : ModelContent) → Evenly (SpellsModelContent c)
model_content (type_model ty) = within _ (behind _ _ (type_model_even ty))
model_content (const_model value) = within _ (behind _ _ (spec_even value))

model_even : (m : ModelDefinition) → Evenly (SpellsModel m)
model_even m all rest s = both all s.behind_name rest (name m.name all s.behind_name s.name) (model_content m.val s.behind_name rest s.val)

declaration : (d : Declaration) → Evenly (SpellsDeclaration d)
declaration d all rest s =
    both all s.behind_pure rest (flag _ d.pure all s.behind_pure s.pure)
    (both s.behind_pure s.behind_multi rest (flag _ d.multi s.behind_pure s.behind_multi s.multi)
    (both s.behind_multi s.behind_partial rest (flag _ d.partial s.behind_multi s.behind_partial s.partial)
    (both s.behind_partial s.behind_rec rest (flag _ d.rec s.behind_partial s.behind_rec s.rec)
    (both s.behind_rec s.behind_term rest (name d.term s.behind_rec s.behind_term s.term)
    (both s.behind_term s.behind_arg_tys rest (names_within d.arg_tys s.behind_term s.behind_arg_tys s.arg_tys) (name d.ret_ty s.behind_arg_tys rest s.ret_ty))))))

conversion : (c : Conversion) → Evenly (SpellsConversion c)
conversion c all rest s =
    both all s.behind_inner rest (name c.inner_ty all s.behind_inner s.inner_ty)
    (both s.behind_inner s.behind_outer rest (name c.outer_ty s.behind_inner s.behind_outer s.outer_ty) (name c.term s.behind_outer rest s.term))

attribute_kind : (k : AttributeKind) → Evenly (SpellsAttributeKind k)
attribute_kind chain_kind = within _ (behind _ _ (word _))
attribute_kind priority_kind = within _ (behind _ _ (word _))
attribute_kind (tag_kind x) = within _ (behind _ _ (name x))

attribute_target : (t : AttributeTarget) → Evenly (SpellsAttributeTarget t)
attribute_target (term_target x) all rest s = name x all rest s.1
attribute_target (rule_target x) all rest s = behind _ _ (name x) all rest s

attribute : (a : Attribute) → Evenly (SpellsAttribute a)
attribute a all rest s =
    both all s.behind_target rest (attribute_target a.target all s.behind_target s.target) (each SpellsAttributeKind attribute_kind a.kinds s.behind_target rest s.kinds)

pair : (first second : Name) → Evenly (SpellsPair first second)
pair first second all rest s = both all s.0 rest (name first all s.0 s.1) (name second s.0 rest s.2)

abbrev SpellsPicked : (term func : Name) (infallible : Bool) → List Placed → List Placed → Type 0
SpellsPicked term func infallible inner close = (mid : List Placed) × SpellsFlag (codes "infallible") infallible inner mid × SpellsPair term func mid close

picked : (term func : Name) (infallible : Bool) → Evenly (SpellsPicked term func infallible)
picked term func infallible inner close p = both inner p.0 close (flag (codes "infallible") infallible inner p.0 p.1) (pair term func p.0 close p.2)

abbrev SpellsTyped : (x ty : Name) → List Placed → List Placed → Type 0
SpellsTyped x ty inner close = (mid : List Placed) × SpellsConstant x inner mid × SpellsName ty mid close

typed : (x ty : Name) → Evenly (SpellsTyped x ty)
typed x ty inner close p = both inner p.0 close (constant x inner p.0 p.1) (name ty p.0 close p.2)

extern_even : (e : ExternDefinition) → Evenly (SpellsExtern e)
extern_even (extern_extractor term func pos infallible) all rest s =
    behind (codes "extractor") (SpellsPicked term func infallible) (picked term func infallible) all rest s.2
extern_even (extern_constructor term func pos) all rest s = behind (codes "constructor") (SpellsPair term func) (pair term func) all rest s.1
extern_even (extern_const x ty pos) all rest s = behind (codes "const") (SpellsTyped x ty) (typed x ty) all rest s.1

named_field : (f : NamedField) → Evenly (SpellsNamedField f)
named_field f all rest s = within _ (λ inner close p. both inner p.0 close (name f.name inner p.0 p.1) (name f.ty p.0 close p.2)) all rest s.1

indexed_fields : (index : ℕ) (fs : List IndexedField) → Evenly (SpellsIndexedFields index fs)
indexed_fields index [] all rest s = same all rest s
indexed_fields index (f ∷ fs) all rest s = both all s.2 rest (name f.ty all s.2 s.3) (indexed_fields (index + 1) fs s.2 rest s.4)

fields_even : (f : FieldList) → Evenly (SpellsFields f)
fields_even unit_fields all rest s = same all rest s
fields_even (struct_fields fields pos) all rest s = each SpellsNamedField named_field fields all rest s.2
fields_even (tuple_fields fields pos) all rest s = indexed_fields 0 fields all rest s.2

variant_even : (v : EnumVariant) → Evenly (SpellsVariant v)
variant_even v all rest s =
    ⊎_elim (λ t. name v.name all rest t.0) (λ t. within _ (λ inner close p. both inner p.0 close (name v.name inner p.0 p.1) (fields_even v.fields p.0 close p.2)) all rest t) s.1

type_content : (c : TypeContent) → Evenly (SpellsTypeContent c)
type_content (primitive_type x pos) all rest s = within _ (behind _ _ (name x)) all rest s.1
type_content (enum_type variants pos) all rest s = within _ (behind _ _ (each SpellsVariant variant_even variants)) all rest s.1
type_content (struct_type fields pos) all rest s = within _ (behind _ _ (fields_even fields)) all rest s.1

type_definition : (t : TypeDefinition) → Evenly (SpellsTypeDefinition t)
type_definition t all rest s =
    both all s.behind_name rest (name t.name all s.behind_name s.name)
    (both s.behind_name s.behind_modifiers rest (each SpellsWord word s.modifiers.words s.behind_name s.behind_modifiers s.modifiers.spelt) (type_content t.ty s.behind_modifiers rest s.ty))

definition : (d : Definition) → Evenly (SpellsDefinition d)
definition (type_def t) = in_form _ _ (type_definition t)
definition (rule r) = in_form _ _ (rule_even r)
definition (extractor e) = in_form _ _ (extractor_even e)
definition (decl d) = in_form _ _ (declaration d)
definition (attr a) = in_form _ _ (attribute a)
definition (spec s) = in_form _ _ (spec_definition s)
definition (spec_macro m) = in_form _ _ (spec_macro_even m)
definition (model m) = in_form _ _ (model_even m)
definition (state s) = in_form _ _ (state_even s)
definition (form f) = in_form _ _ (form_even f)
definition (instantiation i) = in_form _ _ (instantiation_even i)
definition (external e) = in_form _ _ (extern_even e)
definition (converter c) = in_form _ _ (conversion c)

placed_tokens : (place : ℕ → Pos) (xs : List Lexeme) → tokens_of (placed place xs) ≡ map token_of xs
placed_tokens place [] = refl
placed_tokens place (x ∷ xs) = ap (λ ts. x.token ∷ ts) (placed_tokens place xs)

pub definitions_match : (place : ℕ → Pos) (ds : List Definition) (tokens : List Lexeme) → SpellsDefinitions ds (placed place tokens) → tokens_match tokens ≡ true
definitions_match place ds tokens s =
    ap (match_tokens 0) (sym (placed_tokens place tokens)) ∙ each SpellsDefinition definition ds (placed place tokens) [] s 0
