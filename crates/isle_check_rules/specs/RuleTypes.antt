-- The typed rule of a rule, and its errors. No more than `depth` patterns lie in one another, and no
-- more than `depth` expressions, once templates are filled and conversions are written out; none if
-- more do.
use Rattle.std.specs.Prelude.{ℕ, pos, List, [], ◌∷◌, ◌++◌, ◌==◌, length, true, not, ◌||◌, Option, None, Some, is_none, option_map, unwrap_or, Result, Ok, Err}
use Rattle.isle_base_source.specs.declared.pos.Pos.{Pos}
use Rattle.isle_ast_rules.specs.Tree.{PatternNode, term_pattern, PatternList, Condition, RuleDefinition}
use Rattle.isle_check_environment.specs.signatures.Environment.{EnvironmentNode}
use Rattle.isle_check_environment.specs.signatures.Signatures.{TermNode}
use Rattle.isle_check_typing.specs.Faults.{FaultNode, argument_count, priority_in_multi}
use Rattle.isle_check_typing.specs.PatternTypes.{arguments_by, count_patterns, type_at}
use Rattle.isle_check_typing.specs.Progress.{ProgressNode, VariableNode, unless}
use Rattle.isle_check_typing.specs.Typed.{TypedNode}
use Rattle.isle_check_typing.specs.Typings.{Typing, Typings, and_then, gives, gives_none, with_typed}
use Rattle.isle_check_typing.specs.declared.expressions.flags.Flags.{Flags}
use Rattle.isle_check_typing.specs.expressions.ExpressionTypes.{expression_at}
use Rattle.isle_check_typing.specs.expressions.TypedExpressions.{TypedExpressionNode, type_of_expression}
use Rattle.isle_check_rules.specs.TypedRules.{TypedCondition, TypedRuleNode}

-- a rule's typed rule, if it has one, and its errors
pub record RuleTyping : Type 0 where
  pub typed : Option TypedRuleNode
  pub faults : List FaultNode

-- the typed rules of rules, without those that have none, and their errors
pub record RulesTyping : Type 0 where
  pub typed : List TypedRuleNode
  pub faults : List FaultNode

-- what the right side of a rule of this term may use
abbrev pub rule_flags : TermNode → Flags
rule_flags t = record { pure = t.pure; multi = t.multi; partial = t.partial }

-- what the conditions of a rule of this term may use
abbrev pub condition_flags : TermNode → Flags
condition_flags t = record { pure = true; multi = t.multi; partial = true }

abbrev pub matched_by : Option TypedNode → TypedExpressionNode → ProgressNode → Typing TypedCondition
matched_by None e s = gives_none s
matched_by (Some p) e s = gives (record { pattern = p; expr = e }) s

-- a condition's pattern has the type of its expression. Without a typed expression it binds nothing
abbrev pub pattern_by : (depth : ℕ) → EnvironmentNode → PatternNode → Option TypedExpressionNode → ProgressNode → Option (Typing TypedCondition)
pattern_by depth env p None s = Some (gives_none s)
pattern_by depth env p (Some e) s =
    option_map (λ r. matched_by r.typed e r.after) (type_at depth env p (type_of_expression e) s)

-- a condition's expression has any type
abbrev pub type_condition : (depth : ℕ) → EnvironmentNode → Flags → Condition → ProgressNode → Option (Typing TypedCondition)
type_condition depth env flags c s =
    and_then (expression_at depth env flags c.expr None s) (λ r. pattern_by depth env c.pattern r.typed r.after)

-- conditions one after another, behind those that are typed
abbrev pub type_conditions : (depth : ℕ) → EnvironmentNode → Flags → List Condition → List TypedCondition → ProgressNode → Option (Typings TypedCondition)
type_conditions depth env flags [] typed s = Some (record { typed = typed; after = s })
type_conditions depth env flags (c ∷ cs) typed s =
    and_then
    (type_condition depth env flags c s)
    (λ r. type_conditions depth env flags cs (with_typed typed r.typed) r.after)

-- a rule of a multi term has no priority. Without a typed right side that is no error
abbrev pub right_by : TermNode → (term : List ℕ) → List TypedNode → List TypedCondition → RuleDefinition → Option TypedExpressionNode → ProgressNode → Typing TypedRuleNode
right_by t term args iflets r None s = gives_none s
right_by t term args iflets r (Some e) s =
    gives
    (record {
      term = term;
      args = args;
      iflets = iflets;
      expr = e;
      prio = unwrap_or r.prio (pos 0);
      pos = r.pos;
    })
    (unless (not t.multi || is_none r.prio) priority_in_multi r.pos s)

-- the right side has the type of the term's result
abbrev pub type_right : (depth : ℕ) → EnvironmentNode → TermNode → (term : List ℕ) → List TypedNode → List TypedCondition → RuleDefinition → ProgressNode → Option (Typing TypedRuleNode)
type_right depth env t term args iflets r s =
    option_map
    (λ e. right_by t term args iflets r e.typed e.after)
    (expression_at depth env (rule_flags t) r.expr (Some t.ret) s)

-- the arguments have the types that are declared, and are as many
abbrev pub type_sides : (depth : ℕ) → EnvironmentNode → TermNode → (term : List ℕ) → PatternList → RuleDefinition → ProgressNode → Option (Typing TypedRuleNode)
type_sides depth env t term args r s =
    and_then
    (arguments_by
    (type_at depth env)
    args
    t.args
    []
    (unless
    (length t.args == count_patterns args)
    (argument_count term (count_patterns args) (length t.args))
    r.pos
    s))
    (λ a. and_then
    (type_conditions depth env (condition_flags t) r.iflets [] a.after)
    (λ c. type_right depth env t term a.typed c.typed r c.after))

abbrev pub no_progress : ProgressNode
no_progress = record { bound = []; faults = [] }

abbrev pub of_sides : Typing TypedRuleNode → RuleTyping
of_sides sides = record { typed = sides.typed; faults = sides.after.faults }

-- a rule of a term. It is no error of its types if the term is not known
abbrev pub rule_by : (depth : ℕ) → EnvironmentNode → Option TermNode → (term : List ℕ) → PatternList → RuleDefinition → Option RuleTyping
rule_by depth env None term args r = Some (record { typed = None; faults = [] })
rule_by depth env (Some t) term args r = option_map of_sides (type_sides depth env t term args r no_progress)

abbrev pub root_by : (depth : ℕ) → EnvironmentNode → PatternNode → RuleDefinition → Option RuleTyping
root_by depth env (term_pattern sym args place) r = rule_by depth env (env.terms sym.text) sym.text args r
root_by depth env _ r = Some (record { typed = None; faults = [] })

abbrev pub type_rule : (depth : ℕ) → EnvironmentNode → RuleDefinition → Option RuleTyping
type_rule depth env r = root_by depth env r.pattern r

-- the variables that a rule of a term binds, in order; none if the term is not known
abbrev pub variables_by : (depth : ℕ) → EnvironmentNode → Option TermNode → (term : List ℕ) → PatternList → RuleDefinition → Option (List VariableNode)
variables_by depth env None term args r = Some []
variables_by depth env (Some t) term args r = option_map (λ sides. sides.after.bound) (type_sides depth env t term args r no_progress)

abbrev pub variables_at : (depth : ℕ) → EnvironmentNode → PatternNode → RuleDefinition → Option (List VariableNode)
variables_at depth env (term_pattern sym args place) r = variables_by depth env (env.terms sym.text) sym.text args r
variables_at depth env _ r = Some []

abbrev pub rule_variables : (depth : ℕ) → EnvironmentNode → RuleDefinition → Option (List VariableNode)
rule_variables depth env r = variables_at depth env r.pattern r

-- one more rule
abbrev pub with_typing : RulesTyping → RuleTyping → RulesTyping
with_typing made r = record { typed = with_typed made.typed r.typed; faults = made.faults ++ r.faults }

-- what goes on behind a rule, or the position of the rule where the depth is not enough for it
abbrev pub behind : {Y : Type 0} → Pos → Option RuleTyping → (RuleTyping → Result Y Pos) → Result Y Pos
behind place None f = Err place
behind place (Some r) f = f r

-- rules, each by itself, behind those that are typed; or the position of the first for which the
-- depth is not enough
abbrev pub type_rules : (depth : ℕ) → EnvironmentNode → List RuleDefinition → RulesTyping → Result RulesTyping Pos
type_rules depth env [] made = Ok made
type_rules depth env (r ∷ rs) made =
    behind r.pos (type_rule depth env r) (λ typing. type_rules depth env rs (with_typing made typing))
