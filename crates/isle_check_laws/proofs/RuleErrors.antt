-- Each error of rules is broken.
use Rattle.std.proofs.Common.{◌≡◌, ◌≢◌, ℕ, List, [], ◌∷◌, ◌++◌, map, Bool, true, false, not, ◌||◌, ◌==◌, Option, None, Some, IfSome, is_none, is_some, Result, Ok, Err, Contains, refl, sym, subst, length, filter, cond}
use Rattle.std.specs.List.{All}
use Rattle.std.proofs.lemmas.List.Elements.{All-append, All-cons, All-map, All-nil}
use Rattle.std.proofs.lemmas.Option.{none-some}
use Rattle.isle_base_source.specs.declared.pos.Pos.{Pos}
use Rattle.isle_ast_names.specs.Tree.{Name}
use Rattle.isle_ast_rules.specs.TermHeads.{expression_heads}
use Rattle.isle_ast_rules.specs.Tree.{Condition, PatternList, PatternNode, RuleDefinition, and_pattern, bind_pattern, bool_pattern, constant_pattern, int_pattern, macro_arg_pattern, term_pattern, var_pattern, wildcard_pattern}
use Rattle.isle_ast.specs.Tree.{Definition}
use Rattle.isle_check_environment.specs.Parts.{decls_in, rules_in}
use Rattle.isle_check_environment.specs.signatures.Environment.{EnvironmentNode}
use Rattle.isle_check_environment.specs.signatures.Signatures.{TermNode}
use Rattle.isle_check_typing.specs.Faults as kinds
use Rattle.isle_check_typing.specs.Faults.{FaultNode}
use Rattle.isle_check_typing.specs.PatternTypes.{arguments_by, count_patterns, type_at}
use Rattle.isle_check_typing.specs.Progress.{ProgressNode, unless}
use Rattle.isle_check_typing.specs.Typed.{TypedNode}
use Rattle.isle_check_typing.specs.Typings.{Typing, Typings, with_typed}
use Rattle.isle_check_typing.specs.expressions.ExpressionTypes.{expression_at}
use Rattle.isle_check_typing.specs.expressions.TypedExpressions.{TypedExpressionNode, type_of_expression}
use Rattle.isle_check_rules.specs.Constructors.{lacks_constructor, without_constructor}
use Rattle.isle_check_rules.specs.RuleFaults.{constructor_fault, rule_faults, terms_without_constructor, undefined_term, undefined_terms, with_faults}
use Rattle.isle_check_rules.specs.RuleTypes.{RuleTyping, RulesTyping, behind, condition_flags, matched_by, no_progress, of_sides, pattern_by, right_by, root_by, rule_by, rule_flags, type_condition, type_conditions, type_right, type_rule, type_rules, type_sides, with_typing}
use Rattle.isle_check_rules.specs.TypedRules.{TypedCondition}
use Rattle.isle_check_laws.specs.BrokenRules as broken
use Rattle.isle_check_laws.specs.BrokenRules.{IsBrokenRule}
use Rattle.isle_check_laws.specs.RuleParts as parts
use Rattle.isle_check_laws.specs.RuleParts.{BindsVariable, HasOwnType, HasRoot}
use Rattle.isle_check_laws.proofs.ExpressionErrors.{expression}
use Rattle.isle_check_laws.proofs.Lists.{all_parts, both_true, choice, here, later, no_element, one}
use Rattle.isle_check_laws.proofs.OwnTypes.{Fits, own_type}
use Rattle.isle_check_laws.proofs.PatternErrors.{arguments, pattern}
use Rattle.isle_check_laws.proofs.RuleSteps.{IsGood, both_false, map_some, not_false, other_number, then_some, unless_told}

both_some : {X : Type 0} (P Q : X → Type 0) (o : Option X) → IfSome o P → IfSome o Q → IfSome o (λ x. P x × Q x)
both_some P Q None h k = tt
both_some P Q (Some x) h k = (h, k)

at_some : {X : Type 0} (P : X → Type 0) (o : Option X) (x : X) → o ≡ Some x → IfSome o P → P x
at_some P o x is h = subst (λ w. IfSome w P) is h

some_prio : {X : Type 0} (o : Option X) → is_none o ≡ false → o ≢ None
some_prio None h = cc
some_prio (Some x) h = λ e. none-some x (sym e)

known_some : {X : Type 0} (o : Option X) → is_some o ≡ true → o ≢ None
known_some None h = cc
known_some (Some x) h = λ e. none-some x (sym e)

not_true : (b : Bool) → not b ≡ true → b ≡ false
not_true true h = cc
not_true false h = refl

filter_by : {X : Type 0} (Q : X → Type 0) (test : X → Bool) (x : X) (xs : List X) (b : Bool) → test x ≡ b → (test x ≡ true → Q x) → All Q (filter test xs) →
    All Q (cond b (x ∷ filter test xs) (filter test xs))
filter_by Q test x xs true is first rest = All-cons Q x (filter test xs) (first is) rest
filter_by Q test x xs false is first rest = rest

filter_all : {X : Type 0} (Q : X → Type 0) (test : X → Bool) (xs : List X) → ((x : X) → Contains xs x → test x ≡ true → Q x) → All Q (filter test xs)
filter_all Q test [] h = All-nil Q
filter_all Q test (x ∷ xs) h =
    filter_by Q test x xs (test x) refl (h x (here x xs)) (filter_all Q test xs (λ y among is. h y (later x xs y among) is))

module _ (env : EnvironmentNode) (ds : List Definition) (depth : ℕ) where
  abbrev Broken : FaultNode → Type 0
  Broken f = IsBrokenRule env ds f.kind f.pos

  module _ (r : RuleDefinition) (among : Contains (rules_in ds) r) (name : Name) (args : PatternList) (t : TermNode) (root : HasRoot env r name args t) where
    abbrev Good : ProgressNode → Type 0
    Good s = IsGood Broken (BindsVariable env r) s

    abbrev GoodOne : {T : Type 0} → Typing T → Type 0
    GoodOne m = IsGood Broken (BindsVariable env r) m.after

    abbrev GoodAll : {T : Type 0} → Typings T → Type 0
    GoodAll m = IsGood Broken (BindsVariable env r) m.after

    matched : (o : Option TypedNode) (e : TypedExpressionNode) (s : ProgressNode) → Good s → GoodOne (matched_by o e s)
    matched None e s good = good
    matched (Some p) e s good = good

    condition_pattern : (c : Condition) → Contains r.iflets c → (o : Option TypedExpressionNode) →
        IfSome o (λ x. HasOwnType env c.expr (type_of_expression x)) → (s : ProgressNode) → Good s → IfSome (pattern_by depth env c.pattern o s) GoodOne
    condition_pattern c inside None fits s good = good
    condition_pattern c inside (Some e) fits s good =
        map_some GoodOne GoodOne (type_at depth env c.pattern (type_of_expression e) s) _
        (pattern env r Broken (λ kind place h. broken.in_pattern r kind place among h) depth c.pattern (type_of_expression e)
        (parts.of_condition inside fits) s good)
        (λ m after. matched m.typed e m.after after)

    condition : (c : Condition) → Contains r.iflets c → (s : ProgressNode) → Good s → IfSome (type_condition depth env (condition_flags t) c s) GoodOne
    condition c inside s good =
        let o : Option (Typing TypedExpressionNode) = expression_at depth env (condition_flags t) c.expr None s in
        then_some (λ m. GoodOne m × Fits env (condition_flags t) c.expr m) GoodOne o _
        (both_some GoodOne (Fits env (condition_flags t) c.expr) o
        (expression env r (condition_flags t) Broken (λ kind place h. broken.in_expression r kind place among h) depth c.expr None
        (parts.of_condition root inside) s good)
        (own_type env (condition_flags t) depth c.expr s))
        (λ m _ h. condition_pattern c inside m.typed h.1 m.after h.0)

    conditions : (cs : List Condition) → ((c : Condition) → Contains cs c → Contains r.iflets c) → (typed : List TypedCondition) →
        (s : ProgressNode) → Good s → IfSome (type_conditions depth env (condition_flags t) cs typed s) GoodAll
    conditions [] inside typed s good = good
    conditions (c ∷ cs) inside typed s good =
        then_some GoodOne GoodAll (type_condition depth env (condition_flags t) c s) _
        (condition c (inside c (here c cs)) s good)
        (λ m _ after. conditions cs (λ d in_cs. inside d (later c cs d in_cs)) (with_typed typed m.typed) m.after after)

    right_side : (typed : List TypedNode) (iflets : List TypedCondition) (o : Option TypedExpressionNode) (s : ProgressNode) → Good s →
        GoodOne (right_by t name.text typed iflets r o s)
    right_side typed iflets None s good = good
    right_side typed iflets (Some e) s good =
        unless_told Broken (BindsVariable env r) (not t.multi || is_none r.prio) kinds.priority_in_multi r.pos s
        (λ no. let both = both_false (not t.multi) (is_none r.prio) no in
        broken.priority_in_multi r name args t among root (not_false t.multi both.0) (some_prio r.prio both.1))
        good

    right : (typed : List TypedNode) (iflets : List TypedCondition) (s : ProgressNode) → Good s → IfSome (type_right depth env t name.text typed iflets r s) GoodOne
    right typed iflets s good =
        map_some GoodOne GoodOne (expression_at depth env (rule_flags t) r.expr (Some t.ret) s) _
        (expression env r (rule_flags t) Broken (λ kind place h. broken.in_expression r kind place among h) depth r.expr (Some t.ret)
        (parts.of_right root) s good)
        (λ m after. right_side typed iflets m.typed m.after after)

    sides : (s : ProgressNode) → Good s → IfSome (type_sides depth env t name.text args r s) GoodOne
    sides s good =
        let counted : ProgressNode =
        unless (length t.args == count_patterns args) (kinds.argument_count name.text (count_patterns args) (length t.args)) r.pos s in
        then_some GoodAll GoodOne (arguments_by (type_at depth env) args t.args [] counted) _
        (arguments env r Broken (λ kind place h. broken.in_pattern r kind place among h) depth
        (pattern env r Broken (λ kind place h. broken.in_pattern r kind place among h) depth)
        args t.args (λ p ty inside. parts.of_root root inside) [] counted
        (unless_told Broken (BindsVariable env r) (length t.args == count_patterns args) (kinds.argument_count name.text (count_patterns args) (length t.args)) r.pos s
        (λ no. broken.argument_count r name args t among root (other_number (length t.args) (count_patterns args) no)) good))
        (λ a _ after.
        then_some GoodAll GoodOne (type_conditions depth env (condition_flags t) r.iflets [] a.after) _
        (conditions r.iflets (λ c inside. inside) [] a.after after)
        (λ c _ last. right a.typed c.typed c.after last))

  -- the errors of a rule are broken
  abbrev AreBroken : RuleTyping → Type 0
  AreBroken typing = All Broken typing.faults

  rule : (r : RuleDefinition) → Contains (rules_in ds) r → (name : Name) (args : PatternList) (place : Pos) → r.pattern ≡ term_pattern name args place →
      (o : Option TermNode) → env.terms name.text ≡ o → IfSome (rule_by depth env o name.text args r) AreBroken
  rule r among name args place is None known = All-nil Broken
  rule r among name args place is (Some t) known =
      map_some (λ m. IsGood Broken (BindsVariable env r) m.after) AreBroken (type_sides depth env t name.text args r no_progress) of_sides
      (sides r among name args t (record { place = place; is_term = is; is_known = known }) no_progress
      (All-nil Broken, λ v none. absurd (no_element v none))) (λ m good. good.0)

  by_root : (r : RuleDefinition) → Contains (rules_in ds) r → (p : PatternNode) → r.pattern ≡ p → IfSome (root_by depth env p r) AreBroken
  by_root r among (term_pattern name args place) is = rule r among name args place is (env.terms name.text) refl
  by_root r among (var_pattern _ _) is = All-nil Broken
  by_root r among (bind_pattern _ _ _) is = All-nil Broken
  by_root r among (bool_pattern _ _) is = All-nil Broken
  by_root r among (int_pattern _ _) is = All-nil Broken
  by_root r among (constant_pattern _ _) is = All-nil Broken
  by_root r among (wildcard_pattern _) is = All-nil Broken
  by_root r among (and_pattern _ _) is = All-nil Broken
  by_root r among (macro_arg_pattern _ _) is = All-nil Broken

  same_made : (x y : RulesTyping) → ◌≡◌ {A = Result RulesTyping Pos} (Ok x) (Ok y) → x ≡ y
  same_made x y e = cc

  -- what comes behind a rule
  follows : (r : RuleDefinition) (f : RuleTyping → Result RulesTyping Pos) (made : RulesTyping) (o : Option RuleTyping) → IfSome o AreBroken →
      ((typing : RuleTyping) → AreBroken typing → f typing ≡ Ok made → All Broken made.faults) → behind r.pos o f ≡ Ok made → All Broken made.faults
  follows r f made None good next h = cc
  follows r f made (Some typing) good next h = next typing good h

  rules : (rs : List RuleDefinition) → ((r : RuleDefinition) → Contains rs r → Contains (rules_in ds) r) → (before made : RulesTyping) →
      All Broken before.faults → type_rules depth env rs before ≡ Ok made → All Broken made.faults
  rules [] inside before made good h = subst (λ (m : RulesTyping). All Broken m.faults) (same_made before made h) good
  rules (r ∷ rs) inside before made good h =
      follows r (λ typing. type_rules depth env rs (with_typing before typing)) made (type_rule depth env r)
      (by_root r (inside r (here r rs)) r.pattern refl)
      (λ typing own next. rules rs (λ q in_rs. inside q (later r rs q in_rs)) (with_typing before typing) made
      (All-append Broken before.faults typing.faults good own) next)
      h

  undefined : All Broken (undefined_terms env (decls_in ds))
  undefined =
      all_parts Broken (undefined_term env) (decls_in ds)
      (λ d among. choice Broken (env.has_constructor d.term.text || env.has_extractor d.term.text) []
      (record { kind = kinds.term_undefined d.term.text; pos = d.pos } ∷ []) (λ _. All-nil Broken)
      (λ no. let both = both_false (env.has_constructor d.term.text) (env.has_extractor d.term.text) no in
      one Broken (record { kind = kinds.term_undefined d.term.text; pos = d.pos }) (broken.term_undefined d among both.0 both.1)))

  unconstructed : All Broken (terms_without_constructor env (rules_in ds))
  unconstructed =
      all_parts Broken (λ r. map constructor_fault (without_constructor env r.expr)) (rules_in ds)
      (λ r among. All-map Broken constructor_fault (without_constructor env r.expr)
      (filter_all (λ head. Broken (constructor_fault head)) (lacks_constructor env) (expression_heads r.expr)
      (λ head inside lacks.
      let both = both_true (is_some (env.terms head.1.text)) (not (env.has_constructor head.1.text)) lacks in
      broken.no_constructor r head.0 head.1 among inside (known_some (env.terms head.1.text) both.0)
      (not_true (env.has_constructor head.1.text) both.1))))

  with_others : (fs : List FaultNode) → All Broken fs → (made : RulesTyping) (o : Result RulesTyping Pos) → type_rules depth env (rules_in ds) (record { typed = []; faults = [] }) ≡ o →
      with_faults o fs ≡ Ok made → All Broken made.faults
  with_others fs others made (Err place) is h = cc
  with_others fs others made (Ok typed) is h =
      let whole : RulesTyping = record { typed = typed.typed; faults = typed.faults ++ fs } in
      subst (λ (m : RulesTyping). All Broken m.faults) (same_made whole made h)
      (All-append Broken typed.faults fs
      (rules (rules_in ds) (λ r inside. inside) (record { typed = []; faults = [] }) typed (All-nil Broken) is) others)

pub rules_broken : (env : EnvironmentNode) (ds : List Definition) (depth : ℕ) (made : RulesTyping) → rule_faults depth env ds ≡ Ok made →
    All (λ f. IsBrokenRule env ds f.kind f.pos) made.faults
rules_broken env ds depth made h =
    with_others env ds depth (undefined_terms env (decls_in ds) ++ terms_without_constructor env (rules_in ds))
    (All-append (Broken env ds depth) (undefined_terms env (decls_in ds)) (terms_without_constructor env (rules_in ds)) (undefined env ds depth) (unconstructed env ds depth))
    made (type_rules depth env (rules_in ds) (record { typed = []; faults = [] })) refl h
