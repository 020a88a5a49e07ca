-- What rules and programs read, by their events and by their trees.
use Rattle.std.proofs.Common.{◌≡◌, List, [], ◌∷◌, ◌++◌, Bool, true, false, Option, Contains, map, refl, sym, ap, subst, ◌∙◌, append_assoc, arith, zero, suc, ⊎_elim}
use Rattle.std.proofs.lemmas.List.{append-nil}
use Rattle.std.proofs.lemmas.List.Elements.{Contains-append_cases, Contains-append_right}
use Rattle.std.specs.List.{AllByRecursion, flat_map}
use Rattle.isle_ast_names.specs.Tree.{Name}
use Rattle.isle_ast_rules.specs.Tree.{PatternNode, var_pattern, bind_pattern, bool_pattern, int_pattern, constant_pattern, term_pattern, wildcard_pattern, and_pattern, macro_arg_pattern, PatternList, no_pattern, more_pattern, Condition, RuleDefinition, ExtractorDefinition}
use Rattle.isle_ast.specs.Tree.{NamedField, IndexedField, FieldList, unit_fields, struct_fields, tuple_fields, EnumVariant, TypeContent, primitive_type, enum_type, struct_type, AttributeTarget, term_target, rule_target, ModelContent, type_model, const_model, ExternDefinition, extern_extractor, extern_constructor, extern_const, Definition, type_def, rule, extractor, decl, attr, spec, spec_macro, model, state, form, instantiation, external, converter}
use Rattle.isle_resolve.specs.declared.event.Kind.TheVariants as kinds
use Rattle.isle_resolve.specs.declared.event.Role.{Role}
use Rattle.isle_resolve.specs.declared.event.Role.TheVariants as roles
use Rattle.isle_resolve.specs.Event.{EventNode, defines, uses, defines_variant, occurs, binds, reads, closes, ends}
use Rattle.isle_resolve.specs.Events.{named, pattern_events, pattern_list_events, expression_events, condition_events, rule_events, extractor_events, field_events, variant_events, content_events, target_events, model_events, extern_events, definition_events, events}
use Rattle.isle_index_laws.specs.scopes.Reads.{ConditionsRead, in_condition, in_later_condition, IsReadAs, RuleReads, in_conditions, in_right_side, condition_variables, meant, pattern_list_variables, pattern_variables}
use Rattle.isle_index_laws.proofs.scopes.Scoped.{Agree, HasRead, IsRead, agree_occurrence, behind, cut, in_front, none_by, steps, steps-append}
use Rattle.isle_index_laws.proofs.scopes.Expressions.{Found, found_reads, kept, reads_found}

-- events that do not read

abbrev is_read : EventNode → Bool
is_read (defines _ _) = false
is_read (uses _ _) = false
is_read (defines_variant _ _) = false
is_read (occurs _ _) = false
is_read (binds _) = false
is_read (reads _) = true
is_read closes = false
is_read ends = false

abbrev DoNotRead : List EventNode → Type 0
DoNotRead es = AllByRecursion (λ e. is_read e ≡ false) es

silent : (name : Name) (w : Option Name) (es : List EventNode) (names : List Name) → DoNotRead es → HasRead name w names es → ⊥
silent name w es names are h =
    none_by (λ e. is_read e ≡ false) (IsRead name w) (λ e ns quiet this. let never : true ≡ false = sym (ap is_read this.0) ∙ quiet in absurd (cc)) es names are h

pub join : (P : EventNode → Type 0) (xs ys : List EventNode) → AllByRecursion P xs → AllByRecursion P ys → AllByRecursion P (xs ++ ys)
join P [] ys a b = b
join P (x ∷ xs) ys a b = (a.0, join P xs ys a.1 b)

mutual
  pattern_silent : (role : Role) (p : PatternNode) → DoNotRead (pattern_events role p)
  pattern_silent role (var_pattern var place) = (refl, tt)
  pattern_silent role (bind_pattern var subpat place) = (refl, pattern_silent role subpat)
  pattern_silent role (bool_pattern val place) = tt
  pattern_silent role (int_pattern val place) = tt
  pattern_silent role (constant_pattern val place) = (refl, tt)
  pattern_silent role (term_pattern f args place) = (refl, pattern_list_silent role args)
  pattern_silent role (wildcard_pattern place) = tt
  pattern_silent role (and_pattern subpats place) = pattern_list_silent role subpats
  pattern_silent role (macro_arg_pattern index place) = tt

  pattern_list_silent : (role : Role) (ps : PatternList) → DoNotRead (pattern_list_events role ps)
  pattern_list_silent role no_pattern = tt
  pattern_list_silent role (more_pattern p ps) = join (λ e. is_read e ≡ false) (pattern_events role p) (pattern_list_events role ps) (pattern_silent role p) (pattern_list_silent role ps)

-- events that bind these variables behind those in scope

abbrev pub Binds : List EventNode → List Name → Type 0
Binds es vs = (names scope : List Name) → Agree names scope → Agree (steps es names) (scope ++ vs)

pub binds_none : (es : List EventNode) → ((names : List Name) → steps es names ≡ names) → Binds es []
binds_none es keeps names scope agree =
    subst (λ ns. Agree ns (scope ++ [])) (sym (keeps names)) (subst (Agree names) (sym (append-nil scope)) agree)

pub binds_one : (role : Role) (n : Name) → Binds (occurs role n ∷ []) (n ∷ [])
binds_one role n names scope agree = agree_occurrence names scope n agree

pub binds_both : (xs ys : List EventNode) (vs ws : List Name) → Binds xs vs → Binds ys ws → Binds (xs ++ ys) (vs ++ ws)
binds_both xs ys vs ws first second names scope agree =
    subst (λ ns. Agree ns (scope ++ (vs ++ ws))) (sym (steps-append xs ys names))
    (subst (Agree (steps ys (steps xs names))) (append_assoc scope vs ws)
    (second (steps xs names) (scope ++ vs) (first names scope agree)))

nothing_binds : Binds [] []
nothing_binds = binds_none [] (λ names. refl)

mutual
  pattern_binds : (role : Role) (p : PatternNode) → Binds (pattern_events role p) (pattern_variables p)
  pattern_binds role (var_pattern var place) = binds_one role var
  pattern_binds role (bind_pattern var subpat place) =
      binds_both (occurs (named role) var ∷ []) (pattern_events role subpat) (var ∷ []) (pattern_variables subpat) (binds_one (named role) var) (pattern_binds role subpat)
  pattern_binds role (bool_pattern val place) = nothing_binds
  pattern_binds role (int_pattern val place) = nothing_binds
  pattern_binds role (constant_pattern val place) = binds_none (uses kinds.Constant val ∷ []) (λ names. refl)
  pattern_binds role (term_pattern f args place) = pattern_list_binds role args
  pattern_binds role (wildcard_pattern place) = nothing_binds
  pattern_binds role (and_pattern subpats place) = pattern_list_binds role subpats
  pattern_binds role (macro_arg_pattern index place) = nothing_binds

  pattern_list_binds : (role : Role) (ps : PatternList) → Binds (pattern_list_events role ps) (pattern_list_variables ps)
  pattern_list_binds role no_pattern = nothing_binds
  pattern_list_binds role (more_pattern p ps) =
      binds_both (pattern_events role p) (pattern_list_events role ps) (pattern_variables p) (pattern_list_variables ps) (pattern_binds role p) (pattern_list_binds role ps)

-- conditions

condition_binds : (c : Condition) → Binds (condition_events c) (pattern_variables c.pattern)
condition_binds c =
    binds_both (expression_events c.expr) (pattern_events roles.Plain c.pattern) [] (pattern_variables c.pattern)
    (binds_none (expression_events c.expr) (kept c.expr)) (pattern_binds roles.Plain c.pattern)

conditions_bind : (cs : List Condition) → Binds (flat_map condition_events cs) (condition_variables cs)
conditions_bind [] = nothing_binds
conditions_bind (c ∷ cs) =
    binds_both (condition_events c) (flat_map condition_events cs) (pattern_variables c.pattern) (condition_variables cs) (condition_binds c) (conditions_bind cs)

conditions_found : (cs : List Condition) (name : Name) (w : Option Name) (names scope : List Name) → Agree names scope → HasRead name w names (flat_map condition_events cs) →
    Found (ConditionsRead scope cs name) name w
conditions_found [] name w names scope agree h = absurd h
conditions_found (c ∷ cs) name w names scope agree h =
    ⊎_elim
    (λ front. ⊎_elim
    (λ x. let found = reads_found c.expr name w names scope agree x in (found.0, in_condition found.1, found.2))
    (λ p. absurd (silent name w (pattern_events roles.Plain c.pattern) _ (pattern_silent roles.Plain c.pattern) p))
    (cut name w (expression_events c.expr) (pattern_events roles.Plain c.pattern) names front))
    (λ back.
    let found = conditions_found cs name w (steps (condition_events c) names) (scope ++ pattern_variables c.pattern) (condition_binds c names scope agree) back in
    (found.0, in_later_condition found.1, found.2))
    (cut name w (condition_events c) (flat_map condition_events cs) names h)

found_conditions : (scope : List Name) (cs : List Condition) (name : Name) (visible : List Name) → ConditionsRead scope cs name visible →
    (w : Option Name) (names : List Name) → Agree names scope → meant visible name.text ≡ w → HasRead name w names (flat_map condition_events cs)
found_conditions _ _ _ _ (in_condition {scope} {visible} {c} {cs} {name} h) w names agree is =
    in_front name w (condition_events c) (flat_map condition_events cs) names
    (in_front name w (expression_events c.expr) (pattern_events roles.Plain c.pattern) names (found_reads scope c.expr name visible h w names agree is))
found_conditions _ _ _ _ (in_later_condition {scope} {visible} {c} {cs} {name} h) w names agree is =
    behind name w (condition_events c) (flat_map condition_events cs) names
    (found_conditions (scope ++ pattern_variables c.pattern) cs name visible h w (steps (condition_events c) names) (condition_binds c names scope agree) is)

-- rules

nothing_bound : Agree [] []
nothing_bound text = refl

agree_left : (r : RuleDefinition) → Agree (steps (pattern_events roles.Plain r.pattern) []) (pattern_variables r.pattern)
agree_left r = pattern_binds roles.Plain r.pattern [] [] nothing_bound

agree_right : (r : RuleDefinition) →
    Agree (steps (pattern_events roles.Plain r.pattern ++ flat_map condition_events r.iflets) []) (pattern_variables r.pattern ++ condition_variables r.iflets)
agree_right r =
    binds_both (pattern_events roles.Plain r.pattern) (flat_map condition_events r.iflets) (pattern_variables r.pattern) (condition_variables r.iflets)
    (pattern_binds roles.Plain r.pattern) (conditions_bind r.iflets) [] [] nothing_bound

rule_found : (r : RuleDefinition) (name : Name) (w : Option Name) → HasRead name w [] (rule_events r) → Found (RuleReads r name) name w
rule_found r name w h =
    let left : List EventNode = pattern_events roles.Plain r.pattern in
    let conditions : List EventNode = flat_map condition_events r.iflets in
    let right : List EventNode = expression_events r.expr in
    ⊎_elim
    (λ all. ⊎_elim
    (λ front. ⊎_elim
    (λ p. absurd (silent name w left [] (pattern_silent roles.Plain r.pattern) p))
    (λ cs.
    let found = conditions_found r.iflets name w (steps left []) (pattern_variables r.pattern) (agree_left r) cs in
    (found.0, in_conditions found.1, found.2))
    (cut name w left conditions [] front))
    (λ x.
    let found = reads_found r.expr name w (steps (left ++ conditions) []) (pattern_variables r.pattern ++ condition_variables r.iflets) (agree_right r) x in
    (found.0, in_right_side found.1, found.2))
    (cut name w (left ++ conditions) right [] all))
    (λ end. absurd (silent name w (ends ∷ []) (steps (left ++ conditions ++ right) []) (refl, tt) end))
    (cut name w (left ++ conditions ++ right) (ends ∷ []) [] h)

found_rule : (r : RuleDefinition) (name : Name) (visible : List Name) → RuleReads r name visible → (w : Option Name) → meant visible name.text ≡ w → HasRead name w [] (rule_events r)
found_rule _ _ _ (in_conditions {r} {name} {visible} h) w is =
    let left : List EventNode = pattern_events roles.Plain r.pattern in
    let conditions : List EventNode = flat_map condition_events r.iflets in
    let right : List EventNode = expression_events r.expr in
    in_front name w (left ++ conditions ++ right) (ends ∷ []) []
    (in_front name w (left ++ conditions) right []
    (behind name w left conditions [] (found_conditions (pattern_variables r.pattern) r.iflets name visible h w (steps left []) (agree_left r) is)))
found_rule _ _ _ (in_right_side {r} {name} {visible} h) w is =
    let left : List EventNode = pattern_events roles.Plain r.pattern in
    let conditions : List EventNode = flat_map condition_events r.iflets in
    let right : List EventNode = expression_events r.expr in
    in_front name w (left ++ conditions ++ right) (ends ∷ []) []
    (behind name w (left ++ conditions) right []
    (found_reads (pattern_variables r.pattern ++ condition_variables r.iflets) r.expr name visible h w (steps (left ++ conditions) []) (agree_right r) is))

-- other definitions

abbrev pub is_global : EventNode → Bool
is_global (defines _ _) = true
is_global (uses _ _) = true
is_global (defines_variant _ _) = true
is_global (occurs _ _) = false
is_global (binds _) = false
is_global (reads _) = false
is_global closes = false
is_global ends = false

abbrev pub AreGlobal : List EventNode → Type 0
AreGlobal es = AllByRecursion (λ e. is_global e ≡ true) es

global_silent : (es : List EventNode) → AreGlobal es → DoNotRead es
global_silent [] are = tt
global_silent (defines k n ∷ es) are = (refl, global_silent es are.1)
global_silent (uses k n ∷ es) are = (refl, global_silent es are.1)
global_silent (defines_variant o m ∷ es) are = (refl, global_silent es are.1)
global_silent (occurs role n ∷ es) are = (refl, global_silent es are.1)
global_silent (binds n ∷ es) are = (refl, global_silent es are.1)
global_silent (reads n ∷ es) are = let never : false ≡ true = are.0 in absurd (cc)
global_silent (closes ∷ es) are = (refl, global_silent es are.1)
global_silent (ends ∷ es) are = (refl, global_silent es are.1)

global_keeps : (es : List EventNode) (names : List Name) → AreGlobal es → steps es names ≡ names
global_keeps [] names are = refl
global_keeps (defines k n ∷ es) names are = global_keeps es names are.1
global_keeps (uses k n ∷ es) names are = global_keeps es names are.1
global_keeps (defines_variant o m ∷ es) names are = global_keeps es names are.1
global_keeps (occurs role n ∷ es) names are = let never : false ≡ true = are.0 in absurd (cc)
global_keeps (binds n ∷ es) names are = let never : false ≡ true = are.0 in absurd (cc)
global_keeps (reads n ∷ es) names are = let never : false ≡ true = are.0 in absurd (cc)
global_keeps (closes ∷ es) names are = let never : false ≡ true = are.0 in absurd (cc)
global_keeps (ends ∷ es) names are = let never : false ≡ true = are.0 in absurd (cc)

pub global_types : (ns : List Name) → AreGlobal (map (uses kinds.Type) ns)
global_types [] = tt
global_types (n ∷ ns) = (refl, global_types ns)

global_named : (fs : List NamedField) → AreGlobal (map (λ f. uses kinds.Type f.ty) fs)
global_named [] = tt
global_named (f ∷ fs) = (refl, global_named fs)

global_indexed : (fs : List IndexedField) → AreGlobal (map (λ f. uses kinds.Type f.ty) fs)
global_indexed [] = tt
global_indexed (f ∷ fs) = (refl, global_indexed fs)

global_fields : (fs : FieldList) → AreGlobal (field_events fs)
global_fields unit_fields = tt
global_fields (struct_fields fs place) = global_named fs
global_fields (tuple_fields fs place) = global_indexed fs

global_variants : (owner : Name) (vs : List EnumVariant) → AreGlobal (flat_map (variant_events owner) vs)
global_variants owner [] = tt
global_variants owner (v ∷ vs) = join (λ e. is_global e ≡ true) (variant_events owner v) (flat_map (variant_events owner) vs) (refl, global_fields v.fields) (global_variants owner vs)

pub global_content : (owner : Name) (c : TypeContent) → AreGlobal (content_events owner c)
global_content owner (primitive_type name place) = tt
global_content owner (enum_type variants place) = global_variants owner variants
global_content owner (struct_type fields place) = global_fields fields

pub global_target : (t : AttributeTarget) → AreGlobal (target_events t)
global_target (term_target term) = (refl, tt)
global_target (rule_target name) = tt

pub global_model : (name : Name) (content : ModelContent) → AreGlobal (model_events name content)
global_model name (type_model _) = (refl, tt)
global_model name (const_model _) = tt

pub global_extern : (e : ExternDefinition) → AreGlobal (extern_events e)
global_extern (extern_extractor term func place infallible) = (refl, tt)
global_extern (extern_constructor term func place) = (refl, tt)
global_extern (extern_const name ty place) = (refl, (refl, tt))

parameters_silent : (ns : List Name) → DoNotRead (map (occurs roles.Parameter) ns)
parameters_silent [] = tt
parameters_silent (n ∷ ns) = (refl, parameters_silent ns)

extractor_silent : (e : ExtractorDefinition) → DoNotRead (extractor_events e)
extractor_silent e =
    let parameters : List EventNode = map (occurs roles.Parameter) e.args in
    let template : List EventNode = pattern_events roles.Template e.template in
    join (λ e. is_read e ≡ false) (uses kinds.Term e.term ∷ [] ++ parameters ++ template) (ends ∷ [])
    (join (λ e. is_read e ≡ false) (uses kinds.Term e.term ∷ [] ++ parameters) template (refl, parameters_silent e.args) (pattern_silent roles.Template e.template))
    (refl, tt)

-- a definition that binds nothing behind it, and reads only as a rule
pub record IsClosed (d : Definition) : Type 0 where
  pub ended : steps (definition_events d) [] ≡ []
  pub found : (name : Name) (w : Option Name) → HasRead name w [] (definition_events d) → (r : RuleDefinition) × (d ≡ rule r) × Found (RuleReads r name) name w

global_closed : (d : Definition) → AreGlobal (definition_events d) → IsClosed d
global_closed d are = record {
  ended = global_keeps (definition_events d) [] are;
  found = λ name w h. absurd (silent name w (definition_events d) [] (global_silent (definition_events d) are) h);
}

pub closed : (d : Definition) → IsClosed d
closed (type_def t) = global_closed (type_def t) (refl, global_content t.name t.ty)
closed (rule r) = record {
  ended = steps-append (pattern_events roles.Plain r.pattern ++ flat_map condition_events r.iflets ++ expression_events r.expr) (ends ∷ []) [];
  found = λ name w h. (r, refl, rule_found r name w h);
}
closed (extractor e) = record {
  ended = steps-append (uses kinds.Term e.term ∷ [] ++ map (occurs roles.Parameter) e.args ++ pattern_events roles.Template e.template) (ends ∷ []) [];
  found = λ name w h. absurd (silent name w (extractor_events e) [] (extractor_silent e) h);
}
closed (decl d) =
    global_closed (decl d) (join (λ e. is_global e ≡ true) (defines kinds.Term d.term ∷ [] ++ map (uses kinds.Type) d.arg_tys) (uses kinds.Type d.ret_ty ∷ []) (refl, global_types d.arg_tys) (refl, tt))
closed (attr a) = global_closed (attr a) (global_target a.target)
closed (spec s) = global_closed (spec s) (refl, tt)
closed (spec_macro m) = global_closed (spec_macro m) tt
closed (model m) = global_closed (model m) (global_model m.name m.val)
closed (state s) = global_closed (state s) tt
closed (form g) = global_closed (form g) tt
closed (instantiation t) = global_closed (instantiation t) (refl, tt)
closed (external e) = global_closed (external e) (global_extern e)
closed (converter c) = global_closed (converter c) (refl, (refl, (refl, tt)))

-- programs

pub here : {A : Type 0} (xs : List A) (x : A) → Contains (x ∷ xs) x
here xs x = (0, omega arith, refl)

pub alone : {A : Type 0} (x y : A) → Contains (x ∷ []) y → x ≡ y
alone x y (zero, lt, is) = is
alone x y (suc k, lt, is) = absurd (omega (arith, lt))

pub program_found : (ds : List Definition) (name : Name) (w : Option Name) → HasRead name w [] (events ds) → IsReadAs ds name w
program_found [] name w h = absurd h
program_found (d ∷ ds) name w h =
    ⊎_elim
    (λ front.
    let found = (closed d).found name w front in
    (found.2.0, (found.0, subst (Contains (d ∷ ds)) found.1 (here ds d), found.2.1), found.2.2))
    (λ back.
    let found = program_found ds name w (subst (λ ns. HasRead name w ns (events ds)) (closed d).ended back) in
    (found.0, (found.1.0, Contains-append_right (d ∷ []) ds (rule found.1.0) found.1.1, found.1.2), found.2))
    (cut name w (definition_events d) (events ds) [] h)

pub found_program : (ds : List Definition) (name : Name) (w : Option Name) (r : RuleDefinition) (visible : List Name) → Contains ds (rule r) → RuleReads r name visible →
    meant visible name.text ≡ w → HasRead name w [] (events ds)
found_program [] name w r visible has h is = absurd (omega (arith, has.1))
found_program (d ∷ ds) name w r visible has h is =
    ⊎_elim
    (λ first.
    in_front name w (definition_events d) (events ds) []
    (subst (λ e. HasRead name w [] (definition_events e)) (sym (alone d (rule r) first)) (found_rule r name visible h w is)))
    (λ later.
    behind name w (definition_events d) (events ds) []
    (subst (λ ns. HasRead name w ns (events ds)) (sym (closed d).ended) (found_program ds name w r visible later h is)))
    (Contains-append_cases (d ∷ []) ds (rule r) has)
