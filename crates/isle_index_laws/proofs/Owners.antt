-- The type of a variant stands where the type is defined.
use Rattle.std.proofs.Common.{List, [], ◌∷◌, ◌++◌, map}
use Rattle.std.specs.List.{AllByRecursion, flat_map}
use Rattle.isle_ast_names.specs.Tree.{Name}
use Rattle.isle_ast_rules.specs.Tree.{PatternNode, var_pattern, bind_pattern, bool_pattern, int_pattern, constant_pattern, term_pattern, wildcard_pattern, and_pattern, macro_arg_pattern, PatternList, no_pattern, more_pattern, Expression, term_expression, var_expression, bool_expression, int_expression, constant_expression, let_expression, ExpressionList, no_expression, more_expression, LetList, no_let, more_let, Condition, RuleDefinition, ExtractorDefinition}
use Rattle.isle_ast.specs.Tree.{NamedField, IndexedField, FieldList, unit_fields, struct_fields, tuple_fields, EnumVariant, TypeContent, primitive_type, enum_type, struct_type, Declaration, AttributeTarget, term_target, rule_target, ModelContent, type_model, const_model, ExternDefinition, extern_extractor, extern_constructor, extern_const, Definition, type_def, rule, extractor, decl, attr, spec, spec_macro, model, state, form, instantiation, external, converter}
use Rattle.isle_resolve.specs.declared.event.Kind.TheVariants as kinds
use Rattle.isle_resolve.specs.declared.event.Role.{Role}
use Rattle.isle_resolve.specs.declared.event.Role.TheVariants as roles
use Rattle.isle_resolve.specs.Event.{EventNode, defines, uses, defines_variant, occurs, binds, reads, closes, ends}
use Rattle.isle_resolve.specs.Events.{pattern_events, pattern_list_events, expression_events, expression_list_events, let_events, let_ends, condition_events, rule_events, extractor_events, field_events, variant_events, content_events, declaration_events, target_events, model_events, extern_events, definition_events, events}

-- what holds of the name of each type that is defined, and what holds of the type of each variant
abbrev pub TypeIs : (Name → Type 0) → EventNode → Type 0
TypeIs P (defines kinds.Type n) = P n
TypeIs P (defines kinds.Term n) = Unit {0}
TypeIs P (defines kinds.Constant n) = Unit {0}
TypeIs P (uses _ _) = Unit {0}
TypeIs P (defines_variant _ _) = Unit {0}
TypeIs P (occurs _ _) = Unit {0}
TypeIs P (binds _) = Unit {0}
TypeIs P (reads _) = Unit {0}
TypeIs P closes = Unit {0}
TypeIs P ends = Unit {0}

abbrev pub OwnerIs : (Name → Type 0) → EventNode → Type 0
OwnerIs P (defines_variant o m) = P o
OwnerIs P (defines _ _) = Unit {0}
OwnerIs P (uses _ _) = Unit {0}
OwnerIs P (occurs _ _) = Unit {0}
OwnerIs P (binds _) = Unit {0}
OwnerIs P (reads _) = Unit {0}
OwnerIs P closes = Unit {0}
OwnerIs P ends = Unit {0}

join : {A : Type 0} (Q : A → Type 0) (xs ys : List A) → AllByRecursion Q xs → AllByRecursion Q ys → AllByRecursion Q (xs ++ ys)
join Q [] ys a b = b
join Q (x ∷ xs) ys a b = (a.0, join Q xs ys a.1 b)

split : {A : Type 0} (Q : A → Type 0) (xs ys : List A) → AllByRecursion Q (xs ++ ys) → AllByRecursion Q xs × AllByRecursion Q ys
split Q [] ys a = (tt, a)
split Q (x ∷ xs) ys a = let rest = split Q xs ys a.1 in ((a.0, rest.0), rest.1)

mutual
  pattern_owns : (P : Name → Type 0) (role : Role) (p : PatternNode) → AllByRecursion (OwnerIs P) (pattern_events role p)
  pattern_owns P role (var_pattern var place) = (tt, tt)
  pattern_owns P role (bind_pattern var subpat place) = (tt, pattern_owns P role subpat)
  pattern_owns P role (bool_pattern val place) = tt
  pattern_owns P role (int_pattern val place) = tt
  pattern_owns P role (constant_pattern val place) = (tt, tt)
  pattern_owns P role (term_pattern sym args place) = (tt, patterns_own P role args)
  pattern_owns P role (wildcard_pattern place) = tt
  pattern_owns P role (and_pattern subpats place) = patterns_own P role subpats
  pattern_owns P role (macro_arg_pattern index place) = tt

  patterns_own : (P : Name → Type 0) (role : Role) (ps : PatternList) → AllByRecursion (OwnerIs P) (pattern_list_events role ps)
  patterns_own P role no_pattern = tt
  patterns_own P role (more_pattern p ps) = join (OwnerIs P) (pattern_events role p) (pattern_list_events role ps) (pattern_owns P role p) (patterns_own P role ps)

ends_own : (P : Name → Type 0) (ds : LetList) → AllByRecursion (OwnerIs P) (let_ends ds)
ends_own P no_let = tt
ends_own P (more_let var ty val place ds) = (tt, ends_own P ds)

mutual
  expression_owns : (P : Name → Type 0) (x : Expression) → AllByRecursion (OwnerIs P) (expression_events x)
  expression_owns P (term_expression sym args place) = (tt, expressions_own P args)
  expression_owns P (var_expression name place) = (tt, tt)
  expression_owns P (bool_expression val place) = tt
  expression_owns P (int_expression val place) = tt
  expression_owns P (constant_expression val place) = (tt, tt)
  expression_owns P (let_expression defs body place) =
      join (OwnerIs P) (let_events defs ++ expression_events body) (let_ends defs)
      (join (OwnerIs P) (let_events defs) (expression_events body) (lets_own P defs) (expression_owns P body))
      (ends_own P defs)

  expressions_own : (P : Name → Type 0) (xs : ExpressionList) → AllByRecursion (OwnerIs P) (expression_list_events xs)
  expressions_own P no_expression = tt
  expressions_own P (more_expression x xs) = join (OwnerIs P) (expression_events x) (expression_list_events xs) (expression_owns P x) (expressions_own P xs)

  lets_own : (P : Name → Type 0) (ds : LetList) → AllByRecursion (OwnerIs P) (let_events ds)
  lets_own P no_let = tt
  lets_own P (more_let var ty val place ds) =
      join (OwnerIs P) (expression_events val ++ (uses kinds.Type ty ∷ binds var ∷ [])) (let_events ds)
      (join (OwnerIs P) (expression_events val) (uses kinds.Type ty ∷ binds var ∷ []) (expression_owns P val) (tt, (tt, tt)))
      (lets_own P ds)

conditions_own : (P : Name → Type 0) (cs : List Condition) → AllByRecursion (OwnerIs P) (flat_map condition_events cs)
conditions_own P [] = tt
conditions_own P (c ∷ cs) =
    join (OwnerIs P) (condition_events c) (flat_map condition_events cs)
    (join (OwnerIs P) (expression_events c.expr) (pattern_events roles.Plain c.pattern) (expression_owns P c.expr) (pattern_owns P roles.Plain c.pattern))
    (conditions_own P cs)

rule_owns : (P : Name → Type 0) (r : RuleDefinition) → AllByRecursion (OwnerIs P) (rule_events r)
rule_owns P r =
    join (OwnerIs P) (pattern_events roles.Plain r.pattern ++ flat_map condition_events r.iflets ++ expression_events r.expr) (ends ∷ [])
    (join (OwnerIs P) (pattern_events roles.Plain r.pattern ++ flat_map condition_events r.iflets) (expression_events r.expr)
    (join (OwnerIs P) (pattern_events roles.Plain r.pattern) (flat_map condition_events r.iflets) (pattern_owns P roles.Plain r.pattern) (conditions_own P r.iflets))
    (expression_owns P r.expr))
    (tt, tt)

parameters_own : (P : Name → Type 0) (ns : List Name) → AllByRecursion (OwnerIs P) (map (occurs roles.Parameter) ns)
parameters_own P [] = tt
parameters_own P (n ∷ ns) = (tt, parameters_own P ns)

types_own : (P : Name → Type 0) (ns : List Name) → AllByRecursion (OwnerIs P) (map (uses kinds.Type) ns)
types_own P [] = tt
types_own P (n ∷ ns) = (tt, types_own P ns)

extractor_owns : (P : Name → Type 0) (e : ExtractorDefinition) → AllByRecursion (OwnerIs P) (extractor_events e)
extractor_owns P e =
    join (OwnerIs P) (uses kinds.Term e.term ∷ [] ++ map (occurs roles.Parameter) e.args ++ pattern_events roles.Template e.template) (ends ∷ [])
    (join (OwnerIs P) (uses kinds.Term e.term ∷ [] ++ map (occurs roles.Parameter) e.args) (pattern_events roles.Template e.template) (tt, parameters_own P e.args) (pattern_owns P roles.Template e.template))
    (tt, tt)

named_own : (P : Name → Type 0) (fs : List NamedField) → AllByRecursion (OwnerIs P) (map (λ f. uses kinds.Type f.ty) fs)
named_own P [] = tt
named_own P (f ∷ fs) = (tt, named_own P fs)

indexed_own : (P : Name → Type 0) (fs : List IndexedField) → AllByRecursion (OwnerIs P) (map (λ f. uses kinds.Type f.ty) fs)
indexed_own P [] = tt
indexed_own P (f ∷ fs) = (tt, indexed_own P fs)

fields_own : (P : Name → Type 0) (fs : FieldList) → AllByRecursion (OwnerIs P) (field_events fs)
fields_own P unit_fields = tt
fields_own P (struct_fields fs place) = named_own P fs
fields_own P (tuple_fields fs place) = indexed_own P fs

variants_own : (P : Name → Type 0) (owner : Name) → P owner → (vs : List EnumVariant) → AllByRecursion (OwnerIs P) (flat_map (variant_events owner) vs)
variants_own P owner is [] = tt
variants_own P owner is (v ∷ vs) =
    join (OwnerIs P) (variant_events owner v) (flat_map (variant_events owner) vs) (is, fields_own P v.fields) (variants_own P owner is vs)

content_owns : (P : Name → Type 0) (owner : Name) → P owner → (c : TypeContent) → AllByRecursion (OwnerIs P) (content_events owner c)
content_owns P owner is (primitive_type name place) = tt
content_owns P owner is (enum_type variants place) = variants_own P owner is variants
content_owns P owner is (struct_type fields place) = fields_own P fields

declaration_owns : (P : Name → Type 0) (d : Declaration) → AllByRecursion (OwnerIs P) (declaration_events d)
declaration_owns P d =
    join (OwnerIs P) (defines kinds.Term d.term ∷ [] ++ map (uses kinds.Type) d.arg_tys) (uses kinds.Type d.ret_ty ∷ []) (tt, types_own P d.arg_tys) (tt, tt)

target_owns : (P : Name → Type 0) (t : AttributeTarget) → AllByRecursion (OwnerIs P) (target_events t)
target_owns P (term_target term) = (tt, tt)
target_owns P (rule_target name) = tt

model_owns : (P : Name → Type 0) (name : Name) (content : ModelContent) → AllByRecursion (OwnerIs P) (model_events name content)
model_owns P name (type_model _) = (tt, tt)
model_owns P name (const_model _) = tt

extern_owns : (P : Name → Type 0) (e : ExternDefinition) → AllByRecursion (OwnerIs P) (extern_events e)
extern_owns P (extern_extractor term func place infallible) = (tt, tt)
extern_owns P (extern_constructor term func place) = (tt, tt)
extern_owns P (extern_const name ty place) = (tt, (tt, tt))

definition_owns : (P : Name → Type 0) (d : Definition) → AllByRecursion (TypeIs P) (definition_events d) → AllByRecursion (OwnerIs P) (definition_events d)
definition_owns P (type_def t) is = (tt, content_owns P t.name is.0 t.ty)
definition_owns P (rule r) is = rule_owns P r
definition_owns P (extractor e) is = extractor_owns P e
definition_owns P (decl d) is = declaration_owns P d
definition_owns P (attr a) is = target_owns P a.target
definition_owns P (spec s) is = (tt, tt)
definition_owns P (spec_macro m) is = tt
definition_owns P (model m) is = model_owns P m.name m.val
definition_owns P (state s) is = tt
definition_owns P (form g) is = tt
definition_owns P (instantiation i) is = (tt, tt)
definition_owns P (external e) is = extern_owns P e
definition_owns P (converter c) is = (tt, (tt, (tt, tt)))

pub owners : (P : Name → Type 0) (ds : List Definition) → AllByRecursion (TypeIs P) (events ds) → AllByRecursion (OwnerIs P) (events ds)
owners P [] is = tt
owners P (d ∷ ds) is =
    let parts = split (TypeIs P) (definition_events d) (events ds) is in
    join (OwnerIs P) (definition_events d) (events ds) (definition_owns P d parts.0) (owners P ds parts.1)
