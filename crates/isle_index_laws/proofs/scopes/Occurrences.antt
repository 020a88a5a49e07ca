-- What variables of patterns mean, by their events and by their trees.
use Rattle.std.proofs.Common.{◌≡◌, inl, ◌↔◌, List, [], ◌∷◌, ◌++◌, Bool, true, false, Option, None, Some, Contains, bytes_eq, map, refl, sym, ap, subst, ◌∙◌, append_assoc, arith, ⊎_elim, if◌then◌else◌}
use Rattle.std.proofs.lemmas.List.{append-nil}
use Rattle.std.proofs.lemmas.List.Elements.{Contains-append_cases, Contains-append_left, Contains-append_right}
use Rattle.std.specs.List.{AllByRecursion, flat_map}
use Rattle.isle_ast_names.specs.Tree.{Name}
use Rattle.isle_ast_rules.specs.Tree.{PatternNode, var_pattern, bind_pattern, bool_pattern, int_pattern, constant_pattern, term_pattern, wildcard_pattern, and_pattern, macro_arg_pattern, PatternList, no_pattern, more_pattern, Expression, term_expression, var_expression, bool_expression, int_expression, constant_expression, let_expression, ExpressionList, no_expression, more_expression, LetList, no_let, more_let, Condition, RuleDefinition, ExtractorDefinition}
use Rattle.isle_ast.specs.Tree.{Definition, type_def, rule, extractor, decl, attr, spec, spec_macro, model, state, form, instantiation, external, converter}
use Rattle.isle_resolve.specs.declared.event.Kind.{Kind}
use Rattle.isle_resolve.specs.declared.event.Kind.TheVariants as kinds
use Rattle.isle_resolve.specs.declared.event.Role.{Role}
use Rattle.isle_resolve.specs.declared.event.Role.TheVariants as roles
use Rattle.isle_resolve.specs.Event.{EventNode, defines, uses, defines_variant, occurs, binds, reads, closes, ends}
use Rattle.isle_resolve.specs.Events.{named, pattern_events, pattern_list_events, expression_events, expression_list_events, let_events, let_ends, condition_events, definition_events, events}
use Rattle.isle_resolve.proofs.Texts.{bytes-true}
use Rattle.isle_index_laws.specs.scopes.Reads.{OccursAs, condition_variables, meant, own_variables, pattern_list_variables, pattern_variables, rule_variables}
use Rattle.isle_index_laws.proofs.scopes.Scoped.{Agree, HasOccurrence, IsOccurrenceOf, behind_by, cut_by, in_front_by, last, meant-append, none_by, or_else, steps}
use Rattle.isle_index_laws.proofs.scopes.Expressions.{kept}
use Rattle.isle_index_laws.proofs.scopes.Programs.{AreGlobal, Binds, alone, binds_both, binds_none, binds_one, closed, global_content, global_extern, global_model, global_target, global_types, here, is_global, join}

-- events of no patterns

abbrev is_in_pattern : EventNode → Bool
is_in_pattern (defines _ _) = false
is_in_pattern (uses _ _) = false
is_in_pattern (defines_variant _ _) = false
is_in_pattern (occurs _ _) = true
is_in_pattern (binds _) = false
is_in_pattern (reads _) = false
is_in_pattern closes = false
is_in_pattern ends = false

abbrev AreNoPattern : List EventNode → Type 0
AreNoPattern es = AllByRecursion (λ e. is_in_pattern e ≡ false) es

never : (name b : Name) (es : List EventNode) (names : List Name) → AreNoPattern es → HasOccurrence name b names es → ⊥
never name b es names are h =
    none_by (λ e. is_in_pattern e ≡ false) (IsOccurrenceOf name b) (λ e ns quiet this. let no : true ≡ false = sym (ap is_in_pattern this.1) ∙ quiet in absurd (cc)) es names are h

both : (xs ys : List EventNode) → AreNoPattern xs → AreNoPattern ys → AreNoPattern (xs ++ ys)
both xs ys a b = join (λ e. is_in_pattern e ≡ false) xs ys a b

let_ends_none : (ds : LetList) → AreNoPattern (let_ends ds)
let_ends_none no_let = tt
let_ends_none (more_let var ty val place ds) = (refl, let_ends_none ds)

mutual
  expression_none : (x : Expression) → AreNoPattern (expression_events x)
  expression_none (term_expression f args place) = (refl, expression_list_none args)
  expression_none (var_expression name place) = (refl, tt)
  expression_none (bool_expression val place) = tt
  expression_none (int_expression val place) = tt
  expression_none (constant_expression val place) = (refl, tt)
  expression_none (let_expression defs body place) =
      both (let_events defs ++ expression_events body) (let_ends defs) (both (let_events defs) (expression_events body) (lets_none defs) (expression_none body)) (let_ends_none defs)

  expression_list_none : (xs : ExpressionList) → AreNoPattern (expression_list_events xs)
  expression_list_none no_expression = tt
  expression_list_none (more_expression x xs) = both (expression_events x) (expression_list_events xs) (expression_none x) (expression_list_none xs)

  lets_none : (ds : LetList) → AreNoPattern (let_events ds)
  lets_none no_let = tt
  lets_none (more_let var ty val place ds) =
      both (expression_events val ++ (uses kinds.Type ty ∷ binds var ∷ [])) (let_events ds)
      (both (expression_events val) (uses kinds.Type ty ∷ binds var ∷ []) (expression_none val) (refl, (refl, tt)))
      (lets_none ds)

global_none : (es : List EventNode) → AreGlobal es → AreNoPattern es
global_none [] are = tt
global_none (defines k n ∷ es) are = (refl, global_none es are.1)
global_none (uses k n ∷ es) are = (refl, global_none es are.1)
global_none (defines_variant o m ∷ es) are = (refl, global_none es are.1)
global_none (occurs role n ∷ es) are = let no : false ≡ true = are.0 in absurd (cc)
global_none (binds n ∷ es) are = (refl, global_none es are.1)
global_none (reads n ∷ es) are = (refl, global_none es are.1)
global_none (closes ∷ es) are = (refl, global_none es are.1)
global_none (ends ∷ es) are = (refl, global_none es are.1)

-- events that bind these variables behind those in scope, each where it is first

-- an occurrence among all variables of a definition
abbrev pub IsAmong : (all vs : List Name) → (name b : Name) → Type 0
IsAmong all vs name b = Contains vs name × (meant all name.text ≡ Some b)

record Segment (es : List EventNode) (vs : List Name) : Type 0 where
  pub agrees : Binds es vs
  pub found : (name b : Name) (all scope rest names : List Name) → Agree names scope → all ≡ (scope ++ vs) ++ rest → HasOccurrence name b names es → IsAmong all vs name b
  pub back : (name b : Name) (all scope rest names : List Name) → Agree names scope → all ≡ (scope ++ vs) ++ rest → IsAmong all vs name b → HasOccurrence name b names es

pub no_element : {A : Type 0} (x : A) → Contains [] x → ⊥
no_element x has = omega (arith, has.1)

none_there : (es : List EventNode) → ((names : List Name) → steps es names ≡ names) → AreNoPattern es → Segment es []
none_there es keeps are = record {
  agrees = binds_none es keeps;
  found = λ name b all scope rest names agree is h. absurd (never name b es names are h);
  back = λ name b all scope rest names agree is h. absurd (no_element name h.0);
}

own_first : (c : Bool) (n : Name) (o p : Option Name) → c ≡ true → or_else o (Some n) ≡ or_else (or_else o (if c then Some n else None)) p
own_first true n None p e = refl
own_first true n (Some x) p e = refl
own_first false n o p e = let no : false ≡ true = e in absurd (cc)

first_is : (n : Name) (all scope rest names : List Name) → Agree names scope → all ≡ (scope ++ n ∷ []) ++ rest → or_else (last names n.text) (Some n) ≡ meant all n.text
first_is n all scope rest names agree is =
    ap (λ o. or_else o (Some n)) (agree n.text)
    ∙ own_first (bytes_eq n.text n.text) n (meant scope n.text) (meant rest n.text) (bytes-true n.text n.text refl)
    ∙ ap (λ o. or_else o (meant rest n.text)) (sym (meant-append scope (n ∷ []) n.text))
    ∙ sym (meant-append (scope ++ n ∷ []) rest n.text)
    ∙ ap (λ ns. meant ns n.text) (sym is)

one_there : (role : Role) (n : Name) → Segment (occurs role n ∷ []) (n ∷ [])
one_there role n = record {
  agrees = binds_one role n;
  found = λ name b all scope rest names agree is h.
      ⊎_elim
      (λ this.
      let same : n ≡ name = name_is role this.0 n name this.1 in (
        subst (Contains (n ∷ [])) same (here [] n),
        subst (λ m. meant all m.text ≡ Some b) same
            (sym (first_is n all scope rest names agree is) ∙ subst (λ m. or_else (last names m.text) (Some m) ≡ Some b) (sym same) this.2),
      ))
      (λ no. absurd no)
      h;
  back = λ name b all scope rest names agree is h.
      let same : n ≡ name = alone n name h.0 in
      inl (
        role,
        ap (occurs role) same,
        subst (λ m. or_else (last names m.text) (Some m) ≡ Some b) same
            (first_is n all scope rest names agree is ∙ subst (λ m. meant all m.text ≡ Some b) (sym same) h.1),
      );
}
  where
    name_is : (role other : Role) (n m : Name) → occurs role n ≡ occurs other m → n ≡ m
    name_is role other n m e = cc

together : (xs ys : List EventNode) (vs ws : List Name) → Segment xs vs → Segment ys ws → Segment (xs ++ ys) (vs ++ ws)
together xs ys vs ws first second = record {
  agrees = binds_both xs ys vs ws first.agrees second.agrees;
  found = λ name b all scope rest names agree is h.
      ⊎_elim
      (λ front.
      let one = first.found name b all scope (ws ++ rest) names agree (is ∙ in_first scope vs ws rest) front in
      (Contains-append_left vs ws name one.0, one.1))
      (λ later.
      let one = second.found name b all (scope ++ vs) rest (steps xs names) (first.agrees names scope agree) (is ∙ in_second scope vs ws rest) later in
      (Contains-append_right vs ws name one.0, one.1))
      (cut_by (IsOccurrenceOf name b) xs ys names h);
  back = λ name b all scope rest names agree is h.
      ⊎_elim
      (λ front. in_front_by (IsOccurrenceOf name b) xs ys names (first.back name b all scope (ws ++ rest) names agree (is ∙ in_first scope vs ws rest) (front, h.1)))
      (λ later.
      behind_by (IsOccurrenceOf name b) xs ys names
      (second.back name b all (scope ++ vs) rest (steps xs names) (first.agrees names scope agree) (is ∙ in_second scope vs ws rest) (later, h.1)))
      (Contains-append_cases vs ws name h.0);
}
  where
    in_second : (scope vs ws rest : List Name) → (scope ++ (vs ++ ws)) ++ rest ≡ ((scope ++ vs) ++ ws) ++ rest
    in_second scope vs ws rest = ap (λ ns. ns ++ rest) (sym (append_assoc scope vs ws))

    in_first : (scope vs ws rest : List Name) → (scope ++ (vs ++ ws)) ++ rest ≡ (scope ++ vs) ++ (ws ++ rest)
    in_first scope vs ws rest = in_second scope vs ws rest ∙ append_assoc (scope ++ vs) ws rest

used : (n : Name) (k : Kind) → Segment (uses k n ∷ []) []
used n k = none_there (uses k n ∷ []) (λ names. refl) (refl, tt)

nothing : Segment [] []
nothing = none_there [] (λ names. refl) tt

mutual
  pattern_segment : (role : Role) (p : PatternNode) → Segment (pattern_events role p) (pattern_variables p)
  pattern_segment role (var_pattern var place) = one_there role var
  pattern_segment role (bind_pattern var subpat place) =
      together (occurs (named role) var ∷ []) (pattern_events role subpat) (var ∷ []) (pattern_variables subpat) (one_there (named role) var) (pattern_segment role subpat)
  pattern_segment role (bool_pattern val place) = nothing
  pattern_segment role (int_pattern val place) = nothing
  pattern_segment role (constant_pattern val place) = used val kinds.Constant
  pattern_segment role (term_pattern f args place) =
      together (uses kinds.Term f ∷ []) (pattern_list_events role args) [] (pattern_list_variables args) (used f kinds.Term) (pattern_list_segment role args)
  pattern_segment role (wildcard_pattern place) = nothing
  pattern_segment role (and_pattern subpats place) = pattern_list_segment role subpats
  pattern_segment role (macro_arg_pattern index place) = nothing

  pattern_list_segment : (role : Role) (ps : PatternList) → Segment (pattern_list_events role ps) (pattern_list_variables ps)
  pattern_list_segment role no_pattern = nothing
  pattern_list_segment role (more_pattern p ps) =
      together (pattern_events role p) (pattern_list_events role ps) (pattern_variables p) (pattern_list_variables ps) (pattern_segment role p) (pattern_list_segment role ps)

expression_segment : (x : Expression) → Segment (expression_events x) []
expression_segment x = none_there (expression_events x) (kept x) (expression_none x)

conditions_segment : (cs : List Condition) → Segment (flat_map condition_events cs) (condition_variables cs)
conditions_segment [] = nothing
conditions_segment (c ∷ cs) =
    together (condition_events c) (flat_map condition_events cs) (pattern_variables c.pattern) (condition_variables cs)
    (together (expression_events c.expr) (pattern_events roles.Plain c.pattern) [] (pattern_variables c.pattern) (expression_segment c.expr) (pattern_segment roles.Plain c.pattern))
    (conditions_segment cs)

parameters_segment : (ns : List Name) → Segment (map (occurs roles.Parameter) ns) ns
parameters_segment [] = nothing
parameters_segment (n ∷ ns) = together (occurs roles.Parameter n ∷ []) (map (occurs roles.Parameter) ns) (n ∷ []) ns (one_there roles.Parameter n) (parameters_segment ns)

-- definitions

abbrev Told : Definition → (name b : Name) → Type 0
Told d name b = HasOccurrence name b [] (definition_events d) ↔ IsAmong (own_variables d) (own_variables d) name b

-- a segment up to the end of a definition
ended : (es : List EventNode) (vs : List Name) (name b : Name) → Segment es vs → HasOccurrence name b [] (es ++ ends ∷ []) ↔ IsAmong vs vs name b
ended es vs name b segment =
    let all : vs ≡ vs ++ [] = sym (append-nil vs) in (
      λ h.
          ⊎_elim
          (λ front. segment.found name b vs [] [] [] (λ text. refl) all front)
          (λ later. absurd (never name b (ends ∷ []) (steps es []) (refl, tt) later))
          (cut_by (IsOccurrenceOf name b) es (ends ∷ []) [] h),
      λ h. in_front_by (IsOccurrenceOf name b) es (ends ∷ []) [] (segment.back name b vs [] [] [] (λ text. refl) all h),
    )

rule_told : (r : RuleDefinition) (name b : Name) → Told (rule r) name b
rule_told r name b =
    let left : List EventNode = pattern_events roles.Plain r.pattern ++ flat_map condition_events r.iflets in
    let front : Segment left (rule_variables r) =
    together (pattern_events roles.Plain r.pattern) (flat_map condition_events r.iflets) (pattern_variables r.pattern) (condition_variables r.iflets)
    (pattern_segment roles.Plain r.pattern) (conditions_segment r.iflets)
    in
    ended (left ++ expression_events r.expr) (rule_variables r) name b
    (subst (Segment (left ++ expression_events r.expr)) (append-nil (rule_variables r))
    (together left (expression_events r.expr) (rule_variables r) [] front (expression_segment r.expr)))

extractor_told : (e : ExtractorDefinition) (name b : Name) → Told (extractor e) name b
extractor_told e name b =
    let parameters : List EventNode = map (occurs roles.Parameter) e.args in
    let template : List EventNode = pattern_events roles.Template e.template in
    ended (uses kinds.Term e.term ∷ [] ++ parameters ++ template) (own_variables (extractor e)) name b
    (together (uses kinds.Term e.term ∷ [] ++ parameters) template e.args (pattern_variables e.template)
    (together (uses kinds.Term e.term ∷ []) parameters [] e.args (used e.term kinds.Term) (parameters_segment e.args))
    (pattern_segment roles.Template e.template))

global_told : (es : List EventNode) (name b : Name) → AreGlobal es → HasOccurrence name b [] es ↔ IsAmong [] [] name b
global_told es name b are = (λ h. absurd (never name b es [] (global_none es are) h), λ h. absurd (no_element name h.0))

told : (d : Definition) (name b : Name) → Told d name b
told (type_def t) name b = global_told (definition_events (type_def t)) name b (refl, global_content t.name t.ty)
told (rule r) name b = rule_told r name b
told (extractor e) name b = extractor_told e name b
told (decl d) name b =
    global_told (definition_events (decl d)) name b
    (join (λ e. is_global e ≡ true) (defines kinds.Term d.term ∷ [] ++ map (uses kinds.Type) d.arg_tys) (uses kinds.Type d.ret_ty ∷ []) (refl, global_types d.arg_tys) (refl, tt))
told (attr a) name b = global_told (definition_events (attr a)) name b (global_target a.target)
told (spec s) name b = global_told (definition_events (spec s)) name b (refl, tt)
told (spec_macro m) name b = global_told (definition_events (spec_macro m)) name b tt
told (model m) name b = global_told (definition_events (model m)) name b (global_model m.name m.val)
told (state s) name b = global_told (definition_events (state s)) name b tt
told (form g) name b = global_told (definition_events (form g)) name b tt
told (instantiation t) name b = global_told (definition_events (instantiation t)) name b (refl, tt)
told (external e) name b = global_told (definition_events (external e)) name b (global_extern e)
told (converter c) name b = global_told (definition_events (converter c)) name b (refl, (refl, (refl, tt)))

pub occurrence_found : (ds : List Definition) (name b : Name) → HasOccurrence name b [] (events ds) → OccursAs ds name b
occurrence_found [] name b h = absurd h
occurrence_found (d ∷ ds) name b h =
    ⊎_elim
    (λ front. let one = (told d name b).0 front in (d, here ds d, one.0, one.1))
    (λ later.
    let one = occurrence_found ds name b (subst (λ ns. HasOccurrence name b ns (events ds)) (closed d).ended later) in
    (one.0, Contains-append_right (d ∷ []) ds one.0 one.1, one.2, one.3))
    (cut_by (IsOccurrenceOf name b) (definition_events d) (events ds) [] h)

pub found_occurrence : (ds : List Definition) (name b : Name) (x : Definition) → Contains ds x → IsAmong (own_variables x) (own_variables x) name b →
    HasOccurrence name b [] (events ds)
found_occurrence [] name b x has h = absurd (no_element x has)
found_occurrence (d ∷ ds) name b x has h =
    ⊎_elim
    (λ first.
    in_front_by (IsOccurrenceOf name b) (definition_events d) (events ds) []
    (subst (λ y. HasOccurrence name b [] (definition_events y)) (sym (alone d x first)) ((told x name b).1 h)))
    (λ later.
    behind_by (IsOccurrenceOf name b) (definition_events d) (events ds) []
    (subst (λ ns. HasOccurrence name b ns (events ds)) (sym (closed d).ended) (found_occurrence ds name b x later h)))
    (Contains-append_cases (d ∷ []) ds x has)
