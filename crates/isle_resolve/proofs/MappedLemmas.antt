-- The events of definitions with other names.
use Rattle.std.proofs.Common.{◌≡◌, List, [], ◌∷◌, ◌++◌, map, refl, sym, ap, ◌∙◌}
use Rattle.std.proofs.lemmas.List.{map-append}
use Rattle.std.specs.List.{flat_map}
use Rattle.isle_ast_names.specs.Tree.{Name}
use Rattle.isle_ast_rules.specs.Tree.{PatternNode, var_pattern, bind_pattern, bool_pattern, int_pattern, constant_pattern, term_pattern, wildcard_pattern, and_pattern, macro_arg_pattern, PatternList, no_pattern, more_pattern, Expression, term_expression, var_expression, bool_expression, int_expression, constant_expression, let_expression, ExpressionList, no_expression, more_expression, LetList, no_let, more_let, Condition, RuleDefinition, ExtractorDefinition}
use Rattle.isle_ast.specs.Tree.{FieldList, unit_fields, struct_fields, tuple_fields, EnumVariant, TypeContent, primitive_type, enum_type, struct_type, Declaration, AttributeTarget, term_target, rule_target, ModelContent, type_model, const_model, ExternDefinition, extern_extractor, extern_constructor, extern_const, Definition, type_def, rule, extractor, decl, attr, spec, spec_macro, model, state, form, instantiation, external, converter}
use Rattle.isle_resolve.specs.declared.event.Kind.TheVariants as kinds
use Rattle.isle_resolve.specs.declared.event.Role.{Role}
use Rattle.isle_resolve.specs.declared.event.Role.TheVariants as roles
use Rattle.isle_resolve.specs.Event.{EventNode, defines, uses, defines_variant, occurs, binds, closes, ends}
use Rattle.isle_resolve.specs.Events.{named, pattern_events, pattern_list_events, expression_events, expression_list_events, let_events, let_ends, condition_events, rule_events, extractor_events, field_events, variant_events, content_events, declaration_events, target_events, model_events, extern_events, definition_events, events}
use Rattle.isle_resolve.specs.Mapped.{map_pattern, map_pattern_list, map_expression, map_expression_list, map_lets, map_condition, map_rule, map_extractor, map_named_field, map_indexed_field, map_fields, map_variant, map_content, map_declaration, map_target, map_model_name, map_extern, map_definition, map_definitions, map_event}

-- two parts in turn
joins : (f : Name → Name) (xs ys xs' ys' : List EventNode) → xs' ≡ map (map_event f) xs → ys' ≡ map (map_event f) ys → xs' ++ ys' ≡ map (map_event f) (xs ++ ys)
joins f xs ys xs' ys' first second = ap (λ zs. zs ++ ys') first ∙ ap (λ zs. map (map_event f) xs ++ zs) second ∙ sym (map-append (map_event f) xs ys)

mutual
  pattern_follows : (f : Name → Name) (role : Role) (p : PatternNode) → pattern_events role (map_pattern f p) ≡ map (map_event f) (pattern_events role p)
  pattern_follows f role (var_pattern var place) = refl
  pattern_follows f role (bind_pattern var subpat place) = ap (λ zs. occurs (named role) (f var) ∷ zs) (pattern_follows f role subpat)
  pattern_follows f role (bool_pattern val place) = refl
  pattern_follows f role (int_pattern val place) = refl
  pattern_follows f role (constant_pattern val place) = refl
  pattern_follows f role (term_pattern sym args place) = ap (λ zs. uses kinds.Term (f sym) ∷ zs) (pattern_list_follows f role args)
  pattern_follows f role (wildcard_pattern place) = refl
  pattern_follows f role (and_pattern subpats place) = pattern_list_follows f role subpats
  pattern_follows f role (macro_arg_pattern index place) = refl

  pattern_list_follows : (f : Name → Name) (role : Role) (ps : PatternList) → pattern_list_events role (map_pattern_list f ps) ≡ map (map_event f) (pattern_list_events role ps)
  pattern_list_follows f role no_pattern = refl
  pattern_list_follows f role (more_pattern p ps) =
      joins f (pattern_events role p) (pattern_list_events role ps) _ _ (pattern_follows f role p) (pattern_list_follows f role ps)

let_ends_follow : (f : Name → Name) (ds : LetList) → let_ends (map_lets f ds) ≡ map (map_event f) (let_ends ds)
let_ends_follow f no_let = refl
let_ends_follow f (more_let var ty val place ds) = ap (λ zs. closes ∷ zs) (let_ends_follow f ds)

mutual
  expression_follows : (f : Name → Name) (x : Expression) → expression_events (map_expression f x) ≡ map (map_event f) (expression_events x)
  expression_follows f (term_expression sym args place) = ap (λ zs. uses kinds.Term (f sym) ∷ zs) (expression_list_follows f args)
  expression_follows f (var_expression name place) = refl
  expression_follows f (bool_expression val place) = refl
  expression_follows f (int_expression val place) = refl
  expression_follows f (constant_expression val place) = refl
  expression_follows f (let_expression defs body place) =
      joins f (let_events defs ++ expression_events body) (let_ends defs) _ _
      (joins f (let_events defs) (expression_events body) _ _ (lets_follow f defs) (expression_follows f body))
      (let_ends_follow f defs)

  expression_list_follows : (f : Name → Name) (xs : ExpressionList) → expression_list_events (map_expression_list f xs) ≡ map (map_event f) (expression_list_events xs)
  expression_list_follows f no_expression = refl
  expression_list_follows f (more_expression x xs) =
      joins f (expression_events x) (expression_list_events xs) _ _ (expression_follows f x) (expression_list_follows f xs)

  lets_follow : (f : Name → Name) (ds : LetList) → let_events (map_lets f ds) ≡ map (map_event f) (let_events ds)
  lets_follow f no_let = refl
  lets_follow f (more_let var ty val place ds) =
      joins f (expression_events val ++ (uses kinds.Type ty ∷ binds var ∷ [])) (let_events ds) _ _
      (joins f (expression_events val) (uses kinds.Type ty ∷ binds var ∷ []) _ _ (expression_follows f val) refl)
      (lets_follow f ds)

-- a list of parts, each of which follows
all_follow : {A : Type 0} (f : Name → Name) (g : A → A) (part : A → List EventNode) → ((x : A) → part (g x) ≡ map (map_event f) (part x)) →
    (xs : List A) → flat_map part (map g xs) ≡ map (map_event f) (flat_map part xs)
all_follow f g part each [] = refl
all_follow f g part each (x ∷ xs) = joins f (part x) (flat_map part xs) _ _ (each x) (all_follow f g part each xs)

-- a list of names, each of which makes one event
names_follow : {A : Type 0} (f : Name → Name) (g : A → A) (part : A → EventNode) → ((x : A) → part (g x) ≡ map_event f (part x)) →
    (xs : List A) → map part (map g xs) ≡ map (map_event f) (map part xs)
names_follow f g part each [] = refl
names_follow f g part each (x ∷ xs) = ap (λ y. y ∷ map part (map g xs)) (each x) ∙ ap (λ zs. map_event f (part x) ∷ zs) (names_follow f g part each xs)

condition_follows : (f : Name → Name) (c : Condition) → condition_events (map_condition f c) ≡ map (map_event f) (condition_events c)
condition_follows f c = joins f (expression_events c.expr) (pattern_events roles.Plain c.pattern) _ _ (expression_follows f c.expr) (pattern_follows f roles.Plain c.pattern)

rule_follows : (f : Name → Name) (r : RuleDefinition) → rule_events (map_rule f r) ≡ map (map_event f) (rule_events r)
rule_follows f r =
    joins f (pattern_events roles.Plain r.pattern ++ flat_map condition_events r.iflets ++ expression_events r.expr) (ends ∷ []) _ _
    (joins f (pattern_events roles.Plain r.pattern ++ flat_map condition_events r.iflets) (expression_events r.expr) _ _
    (joins f (pattern_events roles.Plain r.pattern) (flat_map condition_events r.iflets) _ _ (pattern_follows f roles.Plain r.pattern) (all_follow f (map_condition f) condition_events (condition_follows f) r.iflets))
    (expression_follows f r.expr))
    refl

extractor_follows : (f : Name → Name) (e : ExtractorDefinition) → extractor_events (map_extractor f e) ≡ map (map_event f) (extractor_events e)
extractor_follows f e =
    joins f (uses kinds.Term e.term ∷ [] ++ map (occurs roles.Parameter) e.args ++ pattern_events roles.Template e.template) (ends ∷ []) _ _
    (joins f (uses kinds.Term e.term ∷ [] ++ map (occurs roles.Parameter) e.args) (pattern_events roles.Template e.template) _ _
    (ap (λ zs. uses kinds.Term (f e.term) ∷ zs) (names_follow f f (occurs roles.Parameter) (λ n. refl) e.args))
    (pattern_follows f roles.Template e.template))
    refl

fields_follow : (f : Name → Name) (fs : FieldList) → field_events (map_fields f fs) ≡ map (map_event f) (field_events fs)
fields_follow f unit_fields = refl
fields_follow f (struct_fields fs place) = names_follow f (map_named_field f) (λ x. uses kinds.Type x.ty) (λ x. refl) fs
fields_follow f (tuple_fields fs place) = names_follow f (map_indexed_field f) (λ x. uses kinds.Type x.ty) (λ x. refl) fs

variant_follows : (f : Name → Name) (owner : Name) (v : EnumVariant) → variant_events (f owner) (map_variant f v) ≡ map (map_event f) (variant_events owner v)
variant_follows f owner v = ap (λ zs. defines_variant (f owner) (f v.name) ∷ zs) (fields_follow f v.fields)

variants_follow : (f : Name → Name) (owner : Name) (vs : List EnumVariant) → flat_map (variant_events (f owner)) (map (map_variant f) vs) ≡ map (map_event f) (flat_map (variant_events owner) vs)
variants_follow f owner [] = refl
variants_follow f owner (v ∷ vs) = joins f (variant_events owner v) (flat_map (variant_events owner) vs) _ _ (variant_follows f owner v) (variants_follow f owner vs)

content_follows : (f : Name → Name) (owner : Name) (c : TypeContent) → content_events (f owner) (map_content f c) ≡ map (map_event f) (content_events owner c)
content_follows f owner (primitive_type name place) = refl
content_follows f owner (enum_type variants place) = variants_follow f owner variants
content_follows f owner (struct_type fields place) = fields_follow f fields

declaration_follows : (f : Name → Name) (d : Declaration) → declaration_events (map_declaration f d) ≡ map (map_event f) (declaration_events d)
declaration_follows f d =
    joins f (defines kinds.Term d.term ∷ [] ++ map (uses kinds.Type) d.arg_tys) (uses kinds.Type d.ret_ty ∷ []) _ _
    (ap (λ zs. defines kinds.Term (f d.term) ∷ zs) (names_follow f f (uses kinds.Type) (λ n. refl) d.arg_tys))
    refl

target_follows : (f : Name → Name) (t : AttributeTarget) → target_events (map_target f t) ≡ map (map_event f) (target_events t)
target_follows f (term_target term) = refl
target_follows f (rule_target name) = refl

model_follows : (f : Name → Name) (name : Name) (content : ModelContent) → model_events (map_model_name f name content) content ≡ map (map_event f) (model_events name content)
model_follows f name (type_model _) = refl
model_follows f name (const_model _) = refl

extern_follows : (f : Name → Name) (e : ExternDefinition) → extern_events (map_extern f e) ≡ map (map_event f) (extern_events e)
extern_follows f (extern_extractor term func place infallible) = refl
extern_follows f (extern_constructor term func place) = refl
extern_follows f (extern_const name ty place) = refl

definition_follows : (f : Name → Name) (d : Definition) → definition_events (map_definition f d) ≡ map (map_event f) (definition_events d)
definition_follows f (type_def t) = ap (λ zs. defines kinds.Type (f t.name) ∷ zs) (content_follows f t.name t.ty)
definition_follows f (rule r) = rule_follows f r
definition_follows f (extractor e) = extractor_follows f e
definition_follows f (decl d) = declaration_follows f d
definition_follows f (attr a) = target_follows f a.target
definition_follows f (spec s) = refl
definition_follows f (spec_macro m) = refl
definition_follows f (model m) = model_follows f m.name m.val
definition_follows f (state s) = refl
definition_follows f (form g) = refl
definition_follows f (instantiation i) = refl
definition_follows f (external e) = extern_follows f e
definition_follows f (converter c) = refl

pub events_follow : (f : Name → Name) (ds : List Definition) → events (map_definitions f ds) ≡ map (map_event f) (events ds)
events_follow f ds = all_follow f (map_definition f) definition_events (definition_follows f) ds
