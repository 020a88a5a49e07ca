-- Typing at some depth that adds no error.
use Rattle.std.specs.Prelude.{◌≡◌, ℕ, List, [], length, Option, None, Some}
use Rattle.isle_ast_rules.specs.Tree.{PatternNode, var_pattern, bind_pattern, bool_pattern, int_pattern, constant_pattern, term_pattern, wildcard_pattern, and_pattern, macro_arg_pattern, PatternList, Expression, ExpressionList, RuleDefinition}
use Rattle.isle_check_environment.specs.signatures.Environment.{EnvironmentNode}
use Rattle.isle_check_environment.specs.signatures.Signatures.{TermNode}
use Rattle.isle_check_typing.specs.Faults.{FaultNode}
use Rattle.isle_check_typing.specs.PatternTypes.{count_patterns, type_at}
use Rattle.isle_check_typing.specs.PatternTypes as patterns
use Rattle.isle_check_typing.specs.Progress.{ProgressNode, VariableNode}
use Rattle.isle_check_typing.specs.Typed.{TypedNode}
use Rattle.isle_check_typing.specs.Typings.{Typing, Typings, gives}
use Rattle.isle_check_typing.specs.declared.expressions.flags.Flags.{Flags}
use Rattle.isle_check_typing.specs.expressions.ExpressionTypes.{count_expressions, expression_at}
use Rattle.isle_check_typing.specs.expressions.ExpressionTypes as expressions
use Rattle.isle_check_typing.specs.expressions.TypedExpressions.{TypedExpressionNode}
use Rattle.isle_check_rules.specs.RuleTypes.{RuleTyping, type_rule}
use Rattle.isle_check_rules.specs.TypedRules.{TypedRuleNode}

abbrev pub progress : List VariableNode → List FaultNode → ProgressNode
progress bound faults = record { bound = bound; faults = faults }

abbrev pub gives_all : {T : Type 0} → List T → ProgressNode → Typings T
gives_all xs s = record { typed = xs; after = s }

-- a typing has a typed part, for which this holds with the variables behind it
abbrev pub HasPart : {T : Type 0} → (T → (after : List VariableNode) → Type 0) → Typing T → Type 0
HasPart {T = T} Holds r = (x : T) × ((r.typed ≡ Some x) × Holds x r.after.bound)

-- at some depth, a pattern is typed so
abbrev pub IsTypedAs : EnvironmentNode → PatternNode → (ty : List ℕ) → ProgressNode → TypedNode → (after : List VariableNode) → Type 0
IsTypedAs env p ty s typed after = (depth : ℕ) × (type_at depth env p ty s ≡ Some (gives typed (progress after s.faults)))

-- at some depth, patterns are typed so, and are as many as there are types
abbrev pub AreTypedAs : EnvironmentNode → PatternList → (types : List (List ℕ)) → ProgressNode → List TypedNode → (after : List VariableNode) → Type 0
AreTypedAs env ps types s typed after =
    (length types ≡ count_patterns ps)
    × ((depth : ℕ) × (patterns.arguments_by (type_at depth env) ps types [] s ≡ Some (gives_all typed (progress after s.faults))))

-- at some depth, an expression is typed so
abbrev pub IsExpressionTypedAs : EnvironmentNode → Flags → Expression → (wanted : Option (List ℕ)) → ProgressNode → TypedExpressionNode → (after : List VariableNode) → Type 0
IsExpressionTypedAs env flags e wanted s typed after =
    (depth : ℕ) × (expression_at depth env flags e wanted s ≡ Some (gives typed (progress after s.faults)))

-- at some depth, expressions are typed so, and are as many as there are types
abbrev pub AreExpressionsTypedAs : EnvironmentNode → Flags → ExpressionList → (types : List (List ℕ)) → ProgressNode → List TypedExpressionNode → (after : List VariableNode) → Type 0
AreExpressionsTypedAs env flags es types s typed after =
    (length types ≡ count_expressions es)
    × ((depth : ℕ) × (expressions.arguments_by (expression_at depth env flags) es types [] s ≡ Some (gives_all typed (progress after s.faults))))

abbrev pub faultless : TypedRuleNode → RuleTyping
faultless typed = record { typed = Some typed; faults = [] }

-- at some depth, a rule is typed so
abbrev pub IsRuleTypedAs : EnvironmentNode → RuleDefinition → TypedRuleNode → Type 0
IsRuleTypedAs env r typed = (depth : ℕ) × (type_rule depth env r ≡ Some (faultless typed))

-- the term of a rule's left side, if it is known
abbrev pub root_term : EnvironmentNode → PatternNode → Option TermNode
root_term env (term_pattern name args place) = env.terms name.text
root_term env (var_pattern _ _) = None
root_term env (bind_pattern _ _ _) = None
root_term env (bool_pattern _ _) = None
root_term env (int_pattern _ _) = None
root_term env (constant_pattern _ _) = None
root_term env (wildcard_pattern _) = None
root_term env (and_pattern _ _) = None
root_term env (macro_arg_pattern _ _) = None
