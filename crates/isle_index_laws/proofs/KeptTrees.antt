-- Definitions whose names are kept, and so stay writable.
use Rattle.std.proofs.Common.{[], ◌≡◌, ℕ, ◌+◌, ℤ, List, ◌∷◌, ◌++◌, map, Bool, true, false, not, ◌&&◌, Option, None, Some, codes, refl, sym, ap, ◌∙◌}
use Rattle.std.proofs.lemmas.Bool.{and_parts, and_from}
use Rattle.std.specs.List.{flat_map}
use Rattle.isle_ast_names.specs.Tree.{Name}
use Rattle.isle_ast_names.specs.Words.{IsNonEmpty}
use Rattle.isle_ast_names.specs.Writable.{Each, IsName}
use Rattle.isle_ast_rules.specs.RuleGrammar.{is_if_expression, is_int_pattern, is_list_pattern, pattern_is_no_head}
use Rattle.isle_ast_rules.specs.Tree.{PatternNode, var_pattern, bind_pattern, bool_pattern, int_pattern, constant_pattern, term_pattern, wildcard_pattern, and_pattern, macro_arg_pattern, PatternList, no_pattern, more_pattern, Expression, term_expression, var_expression, bool_expression, int_expression, constant_expression, let_expression, ExpressionList, no_expression, more_expression, LetList, no_let, more_let, Condition, RuleDefinition, ExtractorDefinition}
use Rattle.isle_ast_rules.specs.Writable.{AreWritableExpressions, AreWritableLets, AreWritablePatterns, IsWritableCondition, IsWritableExpression, IsWritableExtractor, IsWritablePattern, IsWritableRule}
use Rattle.isle_ast_verification.specs.Tree.{SpecDefinition}
use Rattle.isle_ast_verification.specs.Writable.{IsWritableSpecDefinition}
use Rattle.isle_ast.specs.TermGrammar.{term_is_no_flag}
use Rattle.isle_ast.specs.Tree.{IndexedField, FieldList, unit_fields, struct_fields, tuple_fields, EnumVariant, TypeContent, primitive_type, enum_type, struct_type, TypeDefinition, Declaration, AttributeTarget, term_target, rule_target, ModelContent, type_model, const_model, ExternDefinition, extern_extractor, extern_constructor, extern_const, Conversion, Definition, type_def, rule, extractor, decl, attr, spec, spec_macro, model, state, form, instantiation, external, converter}
use Rattle.isle_ast.specs.Writable.{AreWritable, AreWritableFields, AreWritableIndexedFields, IsWritable, IsWritableConversion, IsWritableDeclaration, IsWritableExtern, IsWritableModelDefinition, IsWritableNamedField, IsWritableTarget, IsWritableType, IsWritableTypeContent, IsWritableVariant}
use Rattle.isle_resolve.specs.declared.event.Kind.TheVariants as kinds
use Rattle.isle_resolve.specs.declared.event.Role.{Role}
use Rattle.isle_resolve.specs.declared.event.Role.TheVariants as roles
use Rattle.isle_resolve.specs.Event.{EventNode, binds, ends, uses, occurs}
use Rattle.isle_resolve.specs.Events.{pattern_events, pattern_list_events, expression_events, expression_list_events, let_events, let_ends, condition_events, rule_events, extractor_events, field_events, variant_events, content_events, type_events, declaration_events, target_events, model_events, extern_events, conversion_events, definition_events, events}
use Rattle.isle_resolve.specs.Mapped.{map_pattern, map_pattern_list, map_expression, map_expression_list, map_lets, map_condition, map_rule, map_extractor, map_named_field, map_indexed_field, map_fields, map_variant, map_content, map_type, map_declaration, map_target, map_model, map_extern, map_conversion, map_spec, map_definition, map_definitions}
use Rattle.isle_index_laws.specs.Kept.{AreKept, CanReplace, IsKept}
use Rattle.isle_index_laws.proofs.KeptNames.{demands_kept, expression_variable, no_word, not_named, not_word, pattern_variable}

-- lists of parts

split : (f : Name → Name) (xs ys : List EventNode) → AreKept f (xs ++ ys) → AreKept f xs × AreKept f ys
split f [] ys k = (tt, k)
split f (x ∷ xs) ys k = let both = split f xs ys k.1 in ((k.0, both.0), both.1)

-- parts of several events each, and of one
parts : {A : Type 0} (f : Name → Name) (g : A → A) (part : A → List EventNode) (P : A → Type 0) → ((x : A) → AreKept f (part x) → P x → P (g x)) →
    (xs : List A) → AreKept f (flat_map part xs) → Each P xs → Each P (map g xs)
parts f g part P each [] k w = tt
parts f g part P each (x ∷ xs) k w =
    let both = split f (part x) (flat_map part xs) k in
    (each x both.0 w.0, parts f g part P each xs both.1 w.1)

ones : {A : Type 0} (f : Name → Name) (g : A → A) (part : A → EventNode) (P : A → Type 0) → ((x : A) → IsKept f (part x) → P x → P (g x)) →
    (xs : List A) → AreKept f (map part xs) → Each P xs → Each P (map g xs)
ones f g part P each [] k w = tt
ones f g part P each (x ∷ xs) k w = (each x k.0 w.0, ones f g part P each xs k.1 w.1)

pub some : {A : Type 0} (g : A → A) (xs : List A) → IsNonEmpty xs → IsNonEmpty (map g xs)
some g [] h = h
some g (x ∷ xs) h = tt

-- rules

mutual
  pattern_kept : (f : Name → Name) (role : Role) (p : PatternNode) → AreKept f (pattern_events role p) → IsWritablePattern p → IsWritablePattern (map_pattern f p)
  pattern_kept f role (var_pattern var place) k w = pattern_variable var (f var) k.0 w
  pattern_kept f role (bind_pattern var subpat place) k w = (pattern_variable var (f var) k.0 w.0, pattern_kept f role subpat k.1 w.1)
  pattern_kept f role (bool_pattern val place) k w = tt
  pattern_kept f role (int_pattern val place) k w = w
  pattern_kept f role (constant_pattern val place) k w = k.0.constant w
  pattern_kept f role (term_pattern sym args place) k w =
      (k.0.name w.0, not_named sym (f sym) (codes "and") k.0 refl w.1, pattern_list_kept f role args k.1 w.2)
  pattern_kept f role (wildcard_pattern place) k w = tt
  pattern_kept f role (and_pattern subpats place) k w = pattern_list_kept f role subpats k w
  pattern_kept f role (macro_arg_pattern index place) k w = w

  pattern_list_kept : (f : Name → Name) (role : Role) (ps : PatternList) → AreKept f (pattern_list_events role ps) → AreWritablePatterns ps → AreWritablePatterns (map_pattern_list f ps)
  pattern_list_kept f role no_pattern k w = tt
  pattern_list_kept f role (more_pattern p ps) k w =
      let both = split f (pattern_events role p) (pattern_list_events role ps) k in
      (pattern_kept f role p both.0 w.0, pattern_list_kept f role ps both.1 w.1)

mutual
  expression_kept : (f : Name → Name) (x : Expression) → AreKept f (expression_events x) → IsWritableExpression x → IsWritableExpression (map_expression f x)
  expression_kept f (term_expression sym args place) k w =
      (k.0.name w.0, not_named sym (f sym) (codes "let") k.0 refl w.1, expression_list_kept f args k.1 w.2)
  expression_kept f (var_expression name place) k w = expression_variable name (f name) k.0 w
  expression_kept f (bool_expression val place) k w = tt
  expression_kept f (int_expression val place) k w = w
  expression_kept f (constant_expression val place) k w = k.0.constant w
  expression_kept f (let_expression defs body place) k w =
      let both = split f (let_events defs) (expression_events body) (split f (let_events defs ++ expression_events body) (let_ends defs) k).0 in
      (lets_kept f defs both.0 w.0, expression_kept f body both.1 w.1)

  expression_list_kept : (f : Name → Name) (xs : ExpressionList) → AreKept f (expression_list_events xs) → AreWritableExpressions xs → AreWritableExpressions (map_expression_list f xs)
  expression_list_kept f no_expression k w = tt
  expression_list_kept f (more_expression x xs) k w =
      let both = split f (expression_events x) (expression_list_events xs) k in
      (expression_kept f x both.0 w.0, expression_list_kept f xs both.1 w.1)

  lets_kept : (f : Name → Name) (ds : LetList) → AreKept f (let_events ds) → AreWritableLets ds → AreWritableLets (map_lets f ds)
  lets_kept f no_let k w = tt
  lets_kept f (more_let var ty val place ds) k w =
      let named = uses kinds.Type ty ∷ binds var ∷ [] in
      let both = split f (expression_events val ++ named) (let_events ds) k in
      let first = split f (expression_events val) named both.0 in
      (first.1.1.0.name w.0, first.1.0.name w.1, expression_kept f val first.0 w.2, lets_kept f ds both.1 w.3)

condition_kept : (f : Name → Name) (c : Condition) → AreKept f (condition_events c) → IsWritableCondition c → IsWritableCondition (map_condition f c)
condition_kept f c k w =
    let both = split f (expression_events c.expr) (pattern_events roles.Plain c.pattern) k in
    (pattern_kept f roles.Plain c.pattern both.1 w.0, expression_kept f c.expr both.0 w.1)

same_list : (f : Name → Name) (p : PatternNode) → is_list_pattern (map_pattern f p) ≡ is_list_pattern p
same_list f (var_pattern var place) = refl
same_list f (bind_pattern var subpat place) = refl
same_list f (bool_pattern val place) = refl
same_list f (int_pattern val place) = refl
same_list f (constant_pattern val place) = refl
same_list f (term_pattern sym args place) = refl
same_list f (wildcard_pattern place) = refl
same_list f (and_pattern subpats place) = refl
same_list f (macro_arg_pattern index place) = refl

same_int : (f : Name → Name) (p : PatternNode) → is_int_pattern (map_pattern f p) ≡ is_int_pattern p
same_int f (var_pattern var place) = refl
same_int f (bind_pattern var subpat place) = refl
same_int f (bool_pattern val place) = refl
same_int f (int_pattern val place) = refl
same_int f (constant_pattern val place) = refl
same_int f (term_pattern sym args place) = refl
same_int f (wildcard_pattern place) = refl
same_int f (and_pattern subpats place) = refl
same_int f (macro_arg_pattern index place) = refl

pub same_head : (f : Name → Name) (name : Option Name) (prio : Option ℤ) (p : PatternNode) → pattern_is_no_head name prio (map_pattern f p) ≡ pattern_is_no_head name prio p
same_head f None None p = same_list f p
same_head f (Some _) None p = ap not (same_int f p)
same_head f None (Some _) p = refl
same_head f (Some _) (Some _) p = refl

pub no_condition : (f : Name → Name) (x : Expression) → AreKept f (expression_events x) → is_if_expression x ≡ false → is_if_expression (map_expression f x) ≡ false
no_condition f (term_expression sym args place) k h = not_word sym.text (f sym).text (codes "if") k.0 refl h
no_condition f (var_expression name place) k h = refl
no_condition f (bool_expression val place) k h = refl
no_condition f (int_expression val place) k h = refl
no_condition f (constant_expression val place) k h = refl
no_condition f (let_expression defs body place) k h = refl

rule_kept : (f : Name → Name) (r : RuleDefinition) → AreKept f (rule_events r) → IsWritableRule r → IsWritableRule (map_rule f r)
rule_kept f r k w =
    let front = pattern_events roles.Plain r.pattern in
    let middle = flat_map condition_events r.iflets in
    let last = split f (front ++ middle) (expression_events r.expr) (split f (front ++ middle ++ expression_events r.expr) (ends ∷ []) k).0 in
    let first = split f front middle last.0 in
    record {
      name = w.name;
      prio = w.prio;
      pattern = pattern_kept f roles.Plain r.pattern first.0 w.pattern;
      iflets = parts f (map_condition f) condition_events IsWritableCondition (condition_kept f) r.iflets first.1 w.iflets;
      expr = expression_kept f r.expr last.1 w.expr;
      pattern_is_no_head = same_head f r.name r.prio r.pattern ∙ w.pattern_is_no_head;
      expr_is_no_condition = no_condition f r.expr last.1 w.expr_is_no_condition;
    }

extractor_kept : (f : Name → Name) (e : ExtractorDefinition) → AreKept f (extractor_events e) → IsWritableExtractor e → IsWritableExtractor (map_extractor f e)
extractor_kept f e k w =
    let given = map (occurs roles.Parameter) e.args in
    let template = pattern_events roles.Template e.template in
    let first = split f (given ++ template) (ends ∷ []) k.1 in
    let both = split f given template first.0 in
    (k.0.name w.0, ones f f (occurs roles.Parameter) IsName (λ n h. h.name) e.args both.0 w.1, pattern_kept f roles.Template e.template both.1 w.2)

-- types

indexed_kept : (f : Name → Name) (place : ℕ) (fs : List IndexedField) → AreKept f (map (λ x. uses kinds.Type x.ty) fs) → AreWritableIndexedFields place fs → AreWritableIndexedFields place (map (map_indexed_field f) fs)
indexed_kept f place [] k w = tt
indexed_kept f place (x ∷ fs) k w = (w.0, k.0.name w.1, indexed_kept f (place + 1) fs k.1 w.2)

fields_kept : (f : Name → Name) (fs : FieldList) → AreKept f (field_events fs) → AreWritableFields fs → AreWritableFields (map_fields f fs)
fields_kept f unit_fields k w = tt
fields_kept f (struct_fields fs place) k w =
    (some (map_named_field f) fs w.0, ones f (map_named_field f) (λ x. uses kinds.Type x.ty) IsWritableNamedField (λ x h v. (v.0, h.name v.1)) fs k w.1)
fields_kept f (tuple_fields fs place) k w = (some (map_indexed_field f) fs w.0, indexed_kept f 0 fs k w.1)

variant_kept : (f : Name → Name) (owner : Name) (v : EnumVariant) → AreKept f (variant_events owner v) → IsWritableVariant v → IsWritableVariant (map_variant f v)
variant_kept f owner v k w = (k.0.1.name w.0, fields_kept f v.fields k.1 w.1)

content_kept : (f : Name → Name) (owner : Name) (c : TypeContent) → AreKept f (content_events owner c) → IsWritableTypeContent c → IsWritableTypeContent (map_content f c)
content_kept f owner (primitive_type name place) k w = w
content_kept f owner (enum_type variants place) k w = parts f (map_variant f) (variant_events owner) IsWritableVariant (variant_kept f owner) variants k w
content_kept f owner (struct_type fields place) k w = fields_kept f fields k w

type_kept : (f : Name → Name) (t : TypeDefinition) → AreKept f (type_events t) → IsWritableType t → IsWritableType (map_type f t)
type_kept f t k w = (k.0.name w.0, content_kept f t.name t.ty k.1 w.1)

-- terms

four : (a b c d a' b' c' d' : Bool) → (a ≡ true → a' ≡ true) → (b ≡ true → b' ≡ true) → (c ≡ true → c' ≡ true) → (d ≡ true → d' ≡ true) →
    a && b && c && d ≡ true → a' && b' && c' && d' ≡ true
four a b c d a' b' c' d' p q r s h =
    let last = and_parts (a && b && c) d h in
    let third = and_parts (a && b) c last.0 in
    let first = and_parts a b third.0 in
    and_from (a' && b' && c') d' (and_from (a' && b') c' (and_from a' b' (p first.0) (q first.1)) (r third.1)) (s last.1)

pub no_flag : (f : Name → Name) (d : Declaration) → CanReplace d.term.text (f d.term).text → term_is_no_flag d ≡ true → term_is_no_flag (map_declaration f d) ≡ true
no_flag f d k h =
    let flag = λ (word : List ℕ) (b : Bool). demands_kept d.term.text (f d.term).text word b k in
    four _ _ _ _ _ _ _ _ (flag (codes "pure") _ refl) (flag (codes "multi") _ refl) (flag (codes "partial") _ refl) (flag (codes "rec") _ refl) h

declaration_kept : (f : Name → Name) (d : Declaration) → AreKept f (declaration_events d) → IsWritableDeclaration d → IsWritableDeclaration (map_declaration f d)
declaration_kept f d k w =
    let both = split f (map (uses kinds.Type) d.arg_tys) (uses kinds.Type d.ret_ty ∷ []) k.1 in
    record {
      term = k.0.name w.term;
      arg_tys = ones f f (uses kinds.Type) IsName (λ n h. h.name) d.arg_tys both.0 w.arg_tys;
      ret_ty = both.1.0.name w.ret_ty;
      term_is_no_flag = no_flag f d k.0 w.term_is_no_flag;
    }

target_kept : (f : Name → Name) (t : AttributeTarget) → AreKept f (target_events t) → IsWritableTarget t → IsWritableTarget (map_target f t)
target_kept f (term_target term) k w = (no_word term.text (f term).text (codes "rule") k.0 refl w.0, k.0.name w.1)
target_kept f (rule_target name) k w = w

spec_kept : (f : Name → Name) (s : SpecDefinition) → AreKept f (uses kinds.Term s.term ∷ []) → IsWritableSpecDefinition s → IsWritableSpecDefinition (map_spec f s)
spec_kept f s k w = record {
  term = k.0.name w.term;
  args = w.args;
  provides = w.provides;
  requires_ = w.requires_;
  matches = w.matches;
  modifies = w.modifies;
}

model_kept : (f : Name → Name) (name : Name) (content : ModelContent) → AreKept f (model_events name content)
    → IsWritableModelDefinition (record { name = name; val = content }) → IsWritableModelDefinition (map_model f (record { name = name; val = content }))
model_kept f name (type_model _) k w = (k.0.name w.0, w.1)
model_kept f name (const_model _) k w = w

extern_kept : (f : Name → Name) (e : ExternDefinition) → AreKept f (extern_events e) → IsWritableExtern e → IsWritableExtern (map_extern f e)
extern_kept f (extern_extractor term func place infallible) k w =
    (k.0.name w.0, w.1, demands_kept term.text (f term).text (codes "infallible") infallible k.0 refl w.2)
extern_kept f (extern_constructor term func place) k w = (k.0.name w.0, w.1)
extern_kept f (extern_const name ty place) k w = (k.0.constant w.0, k.1.0.name w.1)

conversion_kept : (f : Name → Name) (c : Conversion) → AreKept f (conversion_events c) → IsWritableConversion c → IsWritableConversion (map_conversion f c)
conversion_kept f c k w = (k.1.1.0.name w.0, k.0.name w.1, k.1.0.name w.2)

definition_kept : (f : Name → Name) (d : Definition) → AreKept f (definition_events d) → IsWritable d → IsWritable (map_definition f d)
definition_kept f (type_def t) k w = type_kept f t k w
definition_kept f (rule r) k w = rule_kept f r k w
definition_kept f (extractor e) k w = extractor_kept f e k w
definition_kept f (decl d) k w = declaration_kept f d k w
definition_kept f (attr a) k w = (target_kept f a.target k w.0, w.1)
definition_kept f (spec s) k w = spec_kept f s k w
definition_kept f (spec_macro m) k w = w
definition_kept f (model m) k w = model_kept f m.name m.val k w
definition_kept f (state s) k w = w
definition_kept f (form g) k w = w
definition_kept f (instantiation i) k w = (k.0.name w.0, w.1)
definition_kept f (external e) k w = extern_kept f e k w
definition_kept f (converter c) k w = conversion_kept f c k w

-- definitions whose names are kept
pub definitions_kept : (ds : List Definition) (f : Name → Name) → AreWritable ds → AreKept f (events ds) → AreWritable (map_definitions f ds)
definitions_kept ds f w k = parts f (map_definition f) definition_events IsWritable (definition_kept f) ds k w
