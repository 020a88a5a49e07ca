-- What is typed stays where more depth is given.
use Rattle.std.proofs.Common.{◌≡◌, ℕ, suc, ◌==◌, List, [], ◌∷◌, ◌++◌, length, Option, None, Some, Result, Ok, Err, refl, ap, ◌∙◌}
use Rattle.isle_base_source.specs.declared.pos.Pos.{Pos}
use Rattle.isle_ast_rules.specs.Tree.{PatternNode, var_pattern, bind_pattern, bool_pattern, int_pattern, constant_pattern, term_pattern, wildcard_pattern, and_pattern, macro_arg_pattern, PatternList, no_pattern, more_pattern, Condition, RuleDefinition}
use Rattle.isle_ast.specs.Tree.{Definition}
use Rattle.isle_check_environment.specs.Parts.{decls_in, rules_in}
use Rattle.isle_check_environment.specs.signatures.Environment.{EnvironmentNode}
use Rattle.isle_check_environment.specs.signatures.Signatures.{TermNode}
use Rattle.isle_check_typing.proofs.Keeping.{map-keeps, then-keeps}
use Rattle.isle_check_typing.proofs.Keeping as patterns
use Rattle.isle_check_typing.specs.Faults.{FaultNode, argument_count}
use Rattle.isle_check_typing.specs.PatternTypes.{arguments_by, count_patterns, type_at}
use Rattle.isle_check_typing.specs.Progress.{ProgressNode, unless}
use Rattle.isle_check_typing.specs.Typed.{TypedNode}
use Rattle.isle_check_typing.specs.Typings.{Typing, Typings, with_typed}
use Rattle.isle_check_typing.proofs.expressions.Keeping as expressions
use Rattle.isle_check_typing.specs.declared.expressions.flags.Flags.{Flags}
use Rattle.isle_check_typing.specs.expressions.ExpressionTypes.{expression_at}
use Rattle.isle_check_typing.specs.expressions.TypedExpressions.{TypedExpressionNode, type_of_expression}
use Rattle.isle_check_rules.specs.RuleFaults.{rule_faults, terms_without_constructor, undefined_terms, with_faults}
use Rattle.isle_check_rules.specs.RuleTypes.{RuleTyping, RulesTyping, behind, condition_flags, matched_by, no_progress, of_sides, pattern_by, right_by, root_by, rule_by, rule_flags, type_condition, type_conditions, type_right, type_rule, type_rules, type_sides, with_typing}
use Rattle.isle_check_rules.specs.TypedRules.{TypedCondition, TypedRuleNode}

behind-keeps : (place : Pos) (m n : Option RuleTyping) (f g : RuleTyping → Result RulesTyping Pos) (y : RulesTyping) → ((x : RuleTyping) → m ≡ Some x → n ≡ Some x) →
    ((x : RuleTyping) → f x ≡ Ok y → g x ≡ Ok y) → behind place m f ≡ Ok y → behind place n g ≡ Ok y
behind-keeps place None n f g y keeps next h = cc
behind-keeps place (Some x) n f g y keeps next h = ap (λ o. behind place o g) (keeps x refl) ∙ next x h

faults-keep : (m n : Result RulesTyping Pos) (fs : List FaultNode) (y : RulesTyping) → ((x : RulesTyping) → m ≡ Ok x → n ≡ Ok x) → with_faults m fs ≡ Ok y → with_faults n fs ≡ Ok y
faults-keep (Ok x) n fs y keeps h = ap (λ r. with_faults r fs) (keeps x refl) ∙ h
faults-keep (Err place) n fs y keeps h = cc

module _ (env : EnvironmentNode) (depth : ℕ) where
  keep-arguments : (ps : PatternList) (types : List (List ℕ)) (typed : List TypedNode) (s : ProgressNode) (made : Typings TypedNode) →
      arguments_by (type_at depth env) ps types typed s ≡ Some made → arguments_by (type_at (suc depth) env) ps types typed s ≡ Some made
  keep-arguments no_pattern types typed s made h = h
  keep-arguments (more_pattern p ps) [] typed s made h = h
  keep-arguments (more_pattern p ps) (ty ∷ types) typed s made h =
      then-keeps (type_at depth env p ty s) (type_at (suc depth) env p ty s)
      (λ r. arguments_by (type_at depth env) ps types (with_typed typed r.typed) r.after)
      (λ r. arguments_by (type_at (suc depth) env) ps types (with_typed typed r.typed) r.after) made
      (patterns.keeps-at env depth p ty s) (λ r. keep-arguments ps types (with_typed typed r.typed) r.after made) h

  keep-pattern : (p : PatternNode) (e : Option TypedExpressionNode) (s : ProgressNode) (made : Typing TypedCondition) →
      pattern_by depth env p e s ≡ Some made → pattern_by (suc depth) env p e s ≡ Some made
  keep-pattern p None s made h = h
  keep-pattern p (Some e) s made h =
      map-keeps (type_at depth env p (type_of_expression e) s) (type_at (suc depth) env p (type_of_expression e) s)
      (λ r. matched_by r.typed e r.after) made (patterns.keeps-at env depth p (type_of_expression e) s) h

  keep-condition : (flags : Flags) (c : Condition) (s : ProgressNode) (made : Typing TypedCondition) →
      type_condition depth env flags c s ≡ Some made → type_condition (suc depth) env flags c s ≡ Some made
  keep-condition flags c s made h =
      then-keeps (expression_at depth env flags c.expr None s) (expression_at (suc depth) env flags c.expr None s)
      (λ r. pattern_by depth env c.pattern r.typed r.after) (λ r. pattern_by (suc depth) env c.pattern r.typed r.after) made
      (expressions.keeps-at env flags depth c.expr None s) (λ r. keep-pattern c.pattern r.typed r.after made) h

  keep-conditions : (flags : Flags) (cs : List Condition) (typed : List TypedCondition) (s : ProgressNode) (made : Typings TypedCondition) →
      type_conditions depth env flags cs typed s ≡ Some made → type_conditions (suc depth) env flags cs typed s ≡ Some made
  keep-conditions flags [] typed s made h = h
  keep-conditions flags (c ∷ cs) typed s made h =
      then-keeps (type_condition depth env flags c s) (type_condition (suc depth) env flags c s)
      (λ r. type_conditions depth env flags cs (with_typed typed r.typed) r.after)
      (λ r. type_conditions (suc depth) env flags cs (with_typed typed r.typed) r.after) made
      (keep-condition flags c s) (λ r. keep-conditions flags cs (with_typed typed r.typed) r.after made) h

  keep-right : (t : TermNode) (term : List ℕ) (args : List TypedNode) (iflets : List TypedCondition) (r : RuleDefinition) (s : ProgressNode) (made : Typing TypedRuleNode) →
      type_right depth env t term args iflets r s ≡ Some made → type_right (suc depth) env t term args iflets r s ≡ Some made
  keep-right t term args iflets r s made h =
      map-keeps (expression_at depth env (rule_flags t) r.expr (Some t.ret) s) (expression_at (suc depth) env (rule_flags t) r.expr (Some t.ret) s)
      (λ e. right_by t term args iflets r e.typed e.after) made (expressions.keeps-at env (rule_flags t) depth r.expr (Some t.ret) s) h

  keep-sides : (t : TermNode) (term : List ℕ) (args : PatternList) (r : RuleDefinition) (s : ProgressNode) (made : Typing TypedRuleNode) →
      type_sides depth env t term args r s ≡ Some made → type_sides (suc depth) env t term args r s ≡ Some made
  keep-sides t term args r s made h =
      let begun = unless (length t.args == count_patterns args) (argument_count term (count_patterns args) (length t.args)) r.pos s in
      then-keeps (arguments_by (type_at depth env) args t.args [] begun) (arguments_by (type_at (suc depth) env) args t.args [] begun) _ _ made
      (keep-arguments args t.args [] begun)
      (λ a. then-keeps (type_conditions depth env (condition_flags t) r.iflets [] a.after) (type_conditions (suc depth) env (condition_flags t) r.iflets [] a.after)
      (λ c. type_right depth env t term a.typed c.typed r c.after) (λ c. type_right (suc depth) env t term a.typed c.typed r c.after) made
      (keep-conditions (condition_flags t) r.iflets [] a.after)
      (λ c. keep-right t term a.typed c.typed r c.after made))
      h

  keep-by : (t : Option TermNode) (term : List ℕ) (args : PatternList) (r : RuleDefinition) (made : RuleTyping) →
      rule_by depth env t term args r ≡ Some made → rule_by (suc depth) env t term args r ≡ Some made
  keep-by None term args r made h = h
  keep-by (Some t) term args r made h =
      map-keeps (type_sides depth env t term args r no_progress) (type_sides (suc depth) env t term args r no_progress) of_sides made
      (keep-sides t term args r no_progress) h

  keep-root : (p : PatternNode) (r : RuleDefinition) (made : RuleTyping) → root_by depth env p r ≡ Some made → root_by (suc depth) env p r ≡ Some made
  keep-root (var_pattern _ _) r made h = h
  keep-root (bind_pattern _ _ _) r made h = h
  keep-root (bool_pattern _ _) r made h = h
  keep-root (int_pattern _ _) r made h = h
  keep-root (constant_pattern _ _) r made h = h
  keep-root (term_pattern sym args _) r made h = keep-by (env.terms sym.text) sym.text args r made h
  keep-root (wildcard_pattern _) r made h = h
  keep-root (and_pattern _ _) r made h = h
  keep-root (macro_arg_pattern _ _) r made h = h

  keep-rules : (rs : List RuleDefinition) (before made : RulesTyping) → type_rules depth env rs before ≡ Ok made → type_rules (suc depth) env rs before ≡ Ok made
  keep-rules [] before made h = h
  keep-rules (r ∷ rs) before made h =
      behind-keeps r.pos (type_rule depth env r) (type_rule (suc depth) env r)
      (λ typing. type_rules depth env rs (with_typing before typing)) (λ typing. type_rules (suc depth) env rs (with_typing before typing)) made
      (keep-root r.pattern r) (λ typing. keep-rules rs (with_typing before typing) made) h

pub keeps-at : (env : EnvironmentNode) (depth : ℕ) (ds : List Definition) (made : RulesTyping) →
    rule_faults depth env ds ≡ Ok made → rule_faults (suc depth) env ds ≡ Ok made
keeps-at env depth ds made h =
    let none : RulesTyping = record { typed = []; faults = [] } in
    faults-keep (type_rules depth env (rules_in ds) none) (type_rules (suc depth) env (rules_in ds) none)
    (undefined_terms env (decls_in ds) ++ terms_without_constructor env (rules_in ds)) made
    (keep-rules env depth (rules_in ds) none) h
