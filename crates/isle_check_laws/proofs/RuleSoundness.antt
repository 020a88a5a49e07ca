-- A rule that is typed without an error is well typed by the rules.
use Rattle.std.proofs.Common.{◌≡◌, ◌⊎◌, inl, inr, ℕ, ◌==◌, pos, List, [], ◌∷◌, length, le_refl, true, not, ◌||◌, Option, None, Some, IfSome, is_none, unwrap_or, refl, ap, sym, subst, append-nil, arith, eqb-true}
use Rattle.std.proofs.lemmas.Option.{none-some, same_Some}
use Rattle.isle_base_source.specs.declared.pos.Pos.{Pos}
use Rattle.isle_ast_names.specs.Tree.{Name}
use Rattle.isle_ast_rules.specs.Tree.{PatternNode, var_pattern, bind_pattern, bool_pattern, int_pattern, constant_pattern, term_pattern, wildcard_pattern, and_pattern, macro_arg_pattern, PatternList, Condition, RuleDefinition}
use Rattle.isle_check_environment.specs.signatures.Environment.{EnvironmentNode}
use Rattle.isle_check_environment.specs.signatures.Signatures.{TermNode}
use Rattle.isle_check_typing.specs.Faults.{argument_count, priority_in_multi}
use Rattle.isle_check_typing.specs.PatternTypes.{arguments_by, count_patterns, type_at}
use Rattle.isle_check_typing.specs.Progress.{ProgressNode, VariableNode, unless}
use Rattle.isle_check_typing.specs.Typed.{TypedNode}
use Rattle.isle_check_typing.specs.Typings.{Typing, Typings, and_then, gives, with_typed}
use Rattle.isle_check_typing.specs.declared.expressions.flags.Flags.{Flags}
use Rattle.isle_check_typing.specs.expressions.ExpressionTypes.{expression_at}
use Rattle.isle_check_typing.specs.expressions.TypedExpressions.{TypedExpressionNode, type_of_expression}
use Rattle.isle_check_rules.specs.RuleTypes.{RuleTyping, condition_flags, matched_by, no_progress, of_sides, pattern_by, right_by, root_by, rule_by, rule_flags, type_condition, type_conditions, type_right, type_rule, type_sides}
use Rattle.isle_check_rules.specs.TypedRules.{TypedCondition, TypedRuleNode}
use Rattle.isle_check_laws.specs.HasExpressionType.{HasExpressionType}
use Rattle.isle_check_laws.specs.HasType.{HasType, HaveTypes}
use Rattle.isle_check_laws.specs.IsTypedRule.{AreConditions, no_condition, one_condition, IsTypedRule, rewrites}
use Rattle.isle_check_laws.specs.Untold.{HasPart, root_term}
use Rattle.isle_check_laws.proofs.ExpressionSoundness as expressions
use Rattle.isle_check_laws.proofs.PatternSoundness as patterns
use Rattle.isle_check_laws.proofs.Telling.{OrTells, HasParts, both, change_some, map_some, bind_some, at_some, passes, follows, leaf, none_is}
use Rattle.isle_check_laws.proofs.Wanted.{implied_first}

-- a condition
pub record Holds (env : EnvironmentNode) (flags : Flags) (c : Condition) (bound : List VariableNode) (typed : TypedCondition) (after : List VariableNode) : Type 0 where
  pub middle : List VariableNode
  pub value : HasExpressionType env flags c.expr None bound typed.expr middle
  pub matched : HasType env c.pattern (type_of_expression typed.expr) middle typed.pattern after

abbrev FitsCondition : EnvironmentNode → Flags → Condition → ProgressNode → Typing TypedCondition → Type 0
FitsCondition env flags c s r = OrTells (HasPart (Holds env flags c s.bound) r) s r.after

abbrev FitsConditions : EnvironmentNode → Flags → List Condition → List TypedCondition → ProgressNode → Typings TypedCondition → Type 0
FitsConditions env flags cs before s r = OrTells (HasParts (AreConditions env flags cs s.bound) before r) s r.after

-- the right side of a rule, and its priority
abbrev FitsRight : EnvironmentNode → TermNode → (term : List ℕ) → List TypedNode → List TypedCondition → RuleDefinition → ProgressNode → Typing TypedRuleNode → Type 0
FitsRight env t term args iflets r s made =
    OrTells
    ((e : TypedExpressionNode)
    × ((made.typed ≡ Some (record { term = term; args = args; iflets = iflets; expr = e; prio = unwrap_or r.prio (pos 0); pos = r.pos }))
    × ((t.multi ≡ true → r.prio ≡ None)
    × ((after : List VariableNode) × HasExpressionType env (rule_flags t) r.expr (Some t.ret) s.bound e after))))
    s made.after

-- a rule without an error has a typed rule, unless its left side is no term that is known
abbrev pub FitsRule : EnvironmentNode → RuleDefinition → Option TermNode → RuleTyping → Type 0
FitsRule env r root made =
    made.faults ≡ [] →
    ((root ≡ None) × (made.typed ≡ None)) ⊎ ((x : TypedRuleNode) × ((made.typed ≡ Some x) × IsTypedRule env r x))

module _ (env : EnvironmentNode) (depth : ℕ) where
  fits_matched : (flags : Flags) (c : Condition) (s w after : ProgressNode) (e : TypedExpressionNode) →
      OrTells (HasPart (HasExpressionType env flags c.expr None s.bound) (gives e w)) s w →
      (o : Option TypedNode) →
      OrTells (HasPart (HasType env c.pattern (type_of_expression e) w.bound) (record { typed = o; after = after })) w after →
      FitsCondition env flags c s (matched_by o e after)
  fits_matched flags c s w after e one None two =
      let b = both one two in
      record { grows = b.grows; good = λ le. let g = b.good le in absurd (none-some g.1.0 g.1.1.0) }
  fits_matched flags c s w after e one (Some p) two =
      let b = both one two in
      record {
        grows = b.grows;
        good = λ le.
            let g = b.good le in
            let made : Holds env flags c s.bound (record { pattern = p; expr = e }) after.bound =
            record {
              middle = w.bound;
              value = subst (λ x. HasExpressionType env flags c.expr None s.bound x w.bound) (sym (same_Some e g.0.0 g.0.1.0)) g.0.1.1;
              matched = subst (λ x. HasType env c.pattern (type_of_expression e) w.bound x after.bound) (sym (same_Some p g.1.0 g.1.1.0)) g.1.1.1;
            } in
            (record { pattern = p; expr = e }, (refl, made));
      }

  fits_pattern : (flags : Flags) (c : Condition) (s w : ProgressNode) (o : Option TypedExpressionNode) →
      OrTells (HasPart (HasExpressionType env flags c.expr None s.bound) (record { typed = o; after = w })) s w →
      IfSome (pattern_by depth env c.pattern o w) (FitsCondition env flags c s)
  fits_pattern flags c s w None one =
      record { grows = one.grows; good = λ le. let g = one.good le in absurd (none-some g.0 g.1.0) }
  fits_pattern flags c s w (Some e) one =
      map_some (type_at depth env c.pattern (type_of_expression e) w) (λ r. matched_by r.typed e r.after)
      (patterns.Fits env c.pattern (type_of_expression e) w) (FitsCondition env flags c s)
      (patterns.fits_at env depth c.pattern (type_of_expression e) w)
      (λ r two. fits_matched flags c s w r.after e one r.typed two)

  fits_condition : (flags : Flags) (c : Condition) (s : ProgressNode) → IfSome (type_condition depth env flags c s) (FitsCondition env flags c s)
  fits_condition flags c s =
      bind_some (expression_at depth env flags c.expr None s) (λ r. pattern_by depth env c.pattern r.typed r.after)
      (expressions.Fits env flags c.expr None s) (FitsCondition env flags c s)
      (expressions.fits_at env flags depth c.expr None s)
      (λ r one. fits_pattern flags c s r.after r.typed one)

  fits_conditions : (flags : Flags) (cs : List Condition) (before : List TypedCondition) (s : ProgressNode) →
      IfSome (type_conditions depth env flags cs before s) (FitsConditions env flags cs before s)
  fits_conditions flags [] before s = record { grows = le_refl (length s.faults); good = λ _. ([], (sym (append-nil before), no_condition)) }
  fits_conditions flags (c ∷ cs) before s =
      bind_some (type_condition depth env flags c s) (λ r. type_conditions depth env flags cs (with_typed before r.typed) r.after)
      (FitsCondition env flags c s) (FitsConditions env flags (c ∷ cs) before s) (fits_condition flags c s)
      (λ r one. change_some (type_conditions depth env flags cs (with_typed before r.typed) r.after)
      (FitsConditions env flags cs (with_typed before r.typed) r.after) (FitsConditions env flags (c ∷ cs) before s)
      (fits_conditions flags cs (with_typed before r.typed) r.after)
      (λ all rest.
      let b = both one rest in
      record {
        grows = b.grows;
        good = λ le.
            let g = b.good le in
            (g.0.0 ∷ g.1.0, (follows before r.typed g.0.0 all.typed g.1.0 g.0.1.0 g.1.1.0, one_condition g.0.1.1.value g.0.1.1.matched g.1.1.1));
      }))

  fits_priority : (t : TermNode) (term : List ℕ) (args : List TypedNode) (iflets : List TypedCondition) (r : RuleDefinition) (s w : ProgressNode) (o : Option TypedExpressionNode) →
      OrTells (HasPart (HasExpressionType env (rule_flags t) r.expr (Some t.ret) s.bound) (record { typed = o; after = w })) s w →
      FitsRight env t term args iflets r s (right_by t term args iflets r o w)
  fits_priority t term args iflets r s w None one =
      record { grows = one.grows; good = λ le. let g = one.good le in absurd (none-some g.0 g.1.0) }
  fits_priority t term args iflets r s w (Some e) one =
      let typed : TypedRuleNode = record { term = term; args = args; iflets = iflets; expr = e; prio = unwrap_or r.prio (pos 0); pos = r.pos } in
      let b = both one (leaf {T = TypedRuleNode} (λ _ _. (not t.multi || is_none r.prio) ≡ true) typed (not t.multi || is_none r.prio) priority_in_multi r.pos w (λ is. is)) in
      record {
        grows = b.grows;
        good = λ le.
            let g = b.good le in (
              e,
              (
                refl,
                (
                  (λ multi. none_is r.prio (implied_first t.multi (is_none r.prio) g.1.1.1 multi)),
                  (w.bound, subst (λ x. HasExpressionType env (rule_flags t) r.expr (Some t.ret) s.bound x w.bound) (sym (same_Some e g.0.0 g.0.1.0)) g.0.1.1),
                ),
              ),
            );
      }

  fits_right : (t : TermNode) (term : List ℕ) (args : List TypedNode) (iflets : List TypedCondition) (r : RuleDefinition) (s : ProgressNode) →
      IfSome (type_right depth env t term args iflets r s) (FitsRight env t term args iflets r s)
  fits_right t term args iflets r s =
      map_some (expression_at depth env (rule_flags t) r.expr (Some t.ret) s) (λ e. right_by t term args iflets r e.typed e.after)
      (expressions.Fits env (rule_flags t) r.expr (Some t.ret) s) (FitsRight env t term args iflets r s)
      (expressions.fits_at env (rule_flags t) depth r.expr (Some t.ret) s)
      (λ e one. fits_priority t term args iflets r s e.after e.typed one)

  fits_sides : (name : Name) (args : PatternList) (place : Pos) (t : TermNode) (r : RuleDefinition) → r.pattern ≡ term_pattern name args place → env.terms name.text ≡ Some t →
      IfSome (type_sides depth env t name.text args r no_progress)
      (λ made. OrTells ((x : TypedRuleNode) × ((made.typed ≡ Some x) × IsTypedRule env r x)) no_progress made.after)
  fits_sides name args place t r root known =
      bind_some
      (arguments_by (type_at depth env) args t.args [] (unless (length t.args == count_patterns args) (argument_count name.text (count_patterns args) (length t.args)) r.pos no_progress))
      (λ a. and_then (type_conditions depth env (condition_flags t) r.iflets [] a.after) (λ c. type_right depth env t name.text a.typed c.typed r c.after))
      (λ a. OrTells (((length t.args == count_patterns args) ≡ true) × (length t.args ≡ count_patterns args → HasParts (HaveTypes env args t.args []) [] a)) no_progress a.after)
      (λ made. OrTells ((x : TypedRuleNode) × ((made.typed ≡ Some x) × IsTypedRule env r x)) no_progress made.after)
      (passes (λ (a : Typings TypedNode). a.after) (length t.args == count_patterns args) (argument_count name.text (count_patterns args) (length t.args)) r.pos no_progress
      (λ w. arguments_by (type_at depth env) args t.args [] w)
      (λ w a. length t.args ≡ count_patterns args → HasParts (HaveTypes env args t.args w.bound) [] a)
      (patterns.fits_arguments env (type_at depth env) (patterns.fits_at env depth) args t.args []))
      (λ a one. bind_some (type_conditions depth env (condition_flags t) r.iflets [] a.after) (λ c. type_right depth env t name.text a.typed c.typed r c.after)
      (FitsConditions env (condition_flags t) r.iflets [] a.after)
      (λ made. OrTells ((x : TypedRuleNode) × ((made.typed ≡ Some x) × IsTypedRule env r x)) no_progress made.after)
      (fits_conditions (condition_flags t) r.iflets [] a.after)
      (λ c two. change_some (type_right depth env t name.text a.typed c.typed r c.after)
      (FitsRight env t name.text a.typed c.typed r c.after)
      (λ made. OrTells ((x : TypedRuleNode) × ((made.typed ≡ Some x) × IsTypedRule env r x)) no_progress made.after)
      (fits_right t name.text a.typed c.typed r c.after)
      (λ made three.
      let b = both (both one two) three in
      record {
        grows = b.grows;
        good = λ le.
            let g = b.good le in
            let left = g.0.0.1 (eqb-true (length t.args) (count_patterns args) g.0.0.0) in
            let typed : HaveTypes env args t.args [] a.typed a.after.bound =
            subst (λ xs. HaveTypes env args t.args [] xs a.after.bound) (sym left.1.0) left.1.1 in
            let conditions : AreConditions env (condition_flags t) r.iflets a.after.bound c.typed c.after.bound =
            subst (λ xs. AreConditions env (condition_flags t) r.iflets a.after.bound xs c.after.bound) (sym g.0.1.1.0) g.0.1.1.1 in (
              record { term = name.text; args = a.typed; iflets = c.typed; expr = g.1.0; prio = unwrap_or r.prio (pos 0); pos = r.pos },
              (g.1.1.0, rewrites root known typed conditions g.1.1.1.1.1 g.1.1.1.0),
            );
      })))

  fits_by : (name : Name) (args : PatternList) (place : Pos) (r : RuleDefinition) → r.pattern ≡ term_pattern name args place →
      (o : Option TermNode) → env.terms name.text ≡ o → IfSome (rule_by depth env o name.text args r) (FitsRule env r o)
  fits_by name args place r root None is = λ _. inl (refl, refl)
  fits_by name args place r root (Some t) is =
      map_some (type_sides depth env t name.text args r no_progress) of_sides
      (λ made. OrTells ((x : TypedRuleNode) × ((made.typed ≡ Some x) × IsTypedRule env r x)) no_progress made.after)
      (FitsRule env r (Some t)) (fits_sides name args place t r root is)
      (λ made h none.
      let len : length made.after.faults ≡ 0 = ap (λ fs. length fs) none in
      inr (h.good (omega (arith, len))))

  fits_root : (r : RuleDefinition) (p : PatternNode) → r.pattern ≡ p → IfSome (root_by depth env p r) (FitsRule env r (root_term env p))
  fits_root r (var_pattern _ _) is = λ _. inl (refl, refl)
  fits_root r (bind_pattern _ _ _) is = λ _. inl (refl, refl)
  fits_root r (bool_pattern _ _) is = λ _. inl (refl, refl)
  fits_root r (int_pattern _ _) is = λ _. inl (refl, refl)
  fits_root r (constant_pattern _ _) is = λ _. inl (refl, refl)
  fits_root r (term_pattern name args place) is = fits_by name args place r is (env.terms name.text) refl
  fits_root r (wildcard_pattern _) is = λ _. inl (refl, refl)
  fits_root r (and_pattern _ _) is = λ _. inl (refl, refl)
  fits_root r (macro_arg_pattern _ _) is = λ _. inl (refl, refl)

  pub sound : (r : RuleDefinition) (made : RuleTyping) → type_rule depth env r ≡ Some made → FitsRule env r (root_term env r.pattern) made
  sound r made is = at_some (FitsRule env r (root_term env r.pattern)) (type_rule depth env r) made is (fits_root r r.pattern refl)
