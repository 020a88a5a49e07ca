-- A rule that is well typed by the rules is typed so, without an error, where enough depth is given.
use Rattle.std.proofs.Common.{◌≡◌, ℕ, ◌+◌, ◌≤◌, pos, List, [], ◌∷◌, ◌++◌, length, Option, None, Some, is_none, unwrap_or, option_map, ap, sym, ◌∙◌, append-nil, append_assoc, arith, eq-eqb}
use Rattle.isle_ast_rules.specs.Tree.{Condition, RuleDefinition}
use Rattle.isle_check_environment.specs.signatures.Environment.{EnvironmentNode}
use Rattle.isle_check_typing.specs.Faults.{FaultNode, argument_count, priority_in_multi}
use Rattle.isle_check_typing.specs.PatternTypes.{arguments_by, count_patterns, type_at}
use Rattle.isle_check_typing.specs.Progress.{VariableNode, unless}
use Rattle.isle_check_typing.specs.Typed.{TypedNode}
use Rattle.isle_check_typing.specs.Typings.{Typing, Typings, and_then, gives, with_typed}
use Rattle.isle_check_typing.specs.declared.expressions.flags.Flags.{Flags}
use Rattle.isle_check_typing.specs.expressions.TypedExpressions.{TypedExpressionNode, type_of_expression}
use Rattle.isle_check_rules.specs.RuleTypes.{condition_flags, matched_by, no_progress, of_sides, pattern_by, right_by, root_by, rule_by, rule_flags, type_conditions, type_right, type_rule}
use Rattle.isle_check_rules.specs.TypedRules.{TypedCondition, TypedRuleNode}
use Rattle.isle_check_laws.specs.IsTypedRule.{AreConditions, no_condition, one_condition, IsTypedRule, rewrites}
use Rattle.isle_check_laws.specs.Untold.{faultless, gives_all, progress}
use Rattle.isle_check_laws.proofs.ExpressionCompleteness as expressions
use Rattle.isle_check_laws.proofs.PatternCompleteness as patterns
use Rattle.isle_check_laws.proofs.Wanted.{implies_first}

pub record AcceptsConditions (env : EnvironmentNode) (flags : Flags) (cs : List Condition) (bound : List VariableNode) (typed : List TypedCondition) (after : List VariableNode) : Type 0 where
  pub depth : ℕ
  pub at : (n : ℕ) → depth ≤ n → (faults : List FaultNode) (before : List TypedCondition) →
      type_conditions n env flags cs before (progress bound faults) ≡ Some (gives_all (before ++ typed) (progress after faults))

pub record AcceptsRule (env : EnvironmentNode) (r : RuleDefinition) (typed : TypedRuleNode) : Type 0 where
  pub depth : ℕ
  pub at : (n : ℕ) → depth ≤ n → type_rule n env r ≡ Some (faultless typed)

module _ (env : EnvironmentNode) where
  complete_conditions : (flags : Flags) (cs : List Condition) (bound : List VariableNode) (typed : List TypedCondition) (after : List VariableNode) →
      AreConditions env flags cs bound typed after → AcceptsConditions env flags cs bound typed after
  complete_conditions flags _ _ _ _ (no_condition {bound}) =
      record { depth = 0; at = λ n le faults before. ap (λ ts. Some (gives_all ts (progress bound faults))) (sym (append-nil before)) }
  complete_conditions flags _ _ _ _ (one_condition {c} {cs} {bound} {middle} {behind} {after} {pattern} {expr} {rest} value matched ds) =
      let one = expressions.complete env flags c.expr None bound expr middle value in
      let two = patterns.complete env c.pattern (type_of_expression expr) middle pattern behind matched in
      let more = complete_conditions flags cs behind rest after ds in
      let new : TypedCondition = record { pattern = pattern; expr = expr } in
      record {
        depth = one.depth + two.depth + more.depth;
        at = λ n le faults before.
            ap (λ (o : Option (Typing TypedExpressionNode)). and_then (and_then o (λ r. pattern_by n env c.pattern r.typed r.after)) (λ r. type_conditions n env flags cs (with_typed before r.typed) r.after))
            (one.at n (omega (arith, le)) faults)
            ∙ ap (λ (o : Option (Typing TypedNode)). and_then (option_map (λ r. matched_by r.typed expr r.after) o) (λ r. type_conditions n env flags cs (with_typed before r.typed) r.after))
            (two.at n (omega (arith, le)) faults)
            ∙ more.at n (omega (arith, le)) faults (before ++ new ∷ [])
            ∙ ap (λ ts. Some (gives_all ts (progress after faults))) (append_assoc before (new ∷ []) rest);
      }

  pub complete : (r : RuleDefinition) (typed : TypedRuleNode) → IsTypedRule env r typed → AcceptsRule env r typed
  complete _ _ (rewrites {r} {name} {args} {place} {t} {bound} {middle} {after} {left} {iflets} {right} root known d ds e priority) =
      let one = patterns.complete_arguments env args t.args [] left bound d in
      let two = complete_conditions (condition_flags t) r.iflets bound iflets middle ds in
      let three = expressions.complete env (rule_flags t) r.expr (Some t.ret) middle right after e in
      let typed : TypedRuleNode = record { term = name.text; args = left; iflets = iflets; expr = right; prio = unwrap_or r.prio (pos 0); pos = r.pos } in
      record {
        depth = one.depth + two.depth + three.depth;
        at = λ n le.
            ap (λ p. root_by n env p r) root
            ∙ ap (λ o. rule_by n env o name.text args r) known
            ∙ ap (λ b. option_map of_sides (and_then
            (arguments_by (type_at n env) args t.args [] (unless b (argument_count name.text (count_patterns args) (length t.args)) r.pos no_progress))
            (λ a. and_then (type_conditions n env (condition_flags t) r.iflets [] a.after) (λ c. type_right n env t name.text a.typed c.typed r c.after))))
            (eq-eqb (length t.args) (count_patterns args) one.count)
            ∙ ap (λ (o : Option (Typings TypedNode)). option_map of_sides (and_then o
            (λ a. and_then (type_conditions n env (condition_flags t) r.iflets [] a.after) (λ c. type_right n env t name.text a.typed c.typed r c.after))))
            (one.at n (omega (arith, le)) [] [])
            ∙ ap (λ (o : Option (Typings TypedCondition)). option_map of_sides (and_then o (λ c. type_right n env t name.text left c.typed r c.after)))
            (two.at n (omega (arith, le)) [] [])
            ∙ ap (λ (o : Option (Typing TypedExpressionNode)). option_map of_sides (option_map (λ x. right_by t name.text left iflets r x.typed x.after) o))
            (three.at n (omega (arith, le)) [])
            ∙ ap (λ b. Some (of_sides (gives typed (unless b priority_in_multi r.pos (progress after [])))))
            (implies_first t.multi (is_none r.prio) (λ multi. ap (λ o. is_none o) (priority multi)));
      }
