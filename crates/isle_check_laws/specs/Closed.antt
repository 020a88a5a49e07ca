-- Rules that are closed: they name variables that are bound before, and terms that are known and aren't multi.
use Rattle.std.specs.Prelude.{◌≡◌, ℕ, List, [], ◌∷◌, ◌++◌, ◌==◌, true, false, Option, None, Some}
use Rattle.std.specs.List.{list_any}
use Rattle.isle_check_environment.specs.signatures.Signatures.{TermNode}
use Rattle.isle_check_typing.specs.Typed.{TypedNode, typed_bind, typed_var, typed_bool, typed_int, typed_const, typed_term, typed_wildcard, typed_and, TypedList, no_typed, more_typed}
use Rattle.isle_check_typing.specs.TypedView.{typed_list_of}
use Rattle.isle_check_typing.specs.expressions.TypedExpressions.{TypedExpressionNode, typed_var_expression, typed_bool_expression, typed_int_expression, typed_const_expression, typed_term_expression, typed_let_expression, TypedExpressionList, no_typed_expression, more_typed_expression, TypedLetList, no_typed_let, more_typed_let}
use Rattle.isle_check_rules.specs.TypedRules.{TypedCondition, TypedRuleNode}
use Rattle.isle_check_matchings.specs.Asks.{TermsNode}

-- a variable is one of these
abbrev pub IsBound : (before : List ℕ) → (variable : ℕ) → Type 0
IsBound before x = list_any (λ y. x == y) before ≡ true

-- a term is known, and has one answer at most
abbrev pub IsSingle : Option TermNode → Type 0
IsSingle None = ⊥
IsSingle (Some t) = t.multi ≡ false

-- the variables that a pattern binds, in order
abbrev mutual
  pub pattern_variables : TypedNode → List ℕ
  pattern_variables (typed_bind x _ p) = x ∷ pattern_variables p
  pattern_variables (typed_var _ _) = []
  pattern_variables (typed_bool _ _) = []
  pattern_variables (typed_int _ _) = []
  pattern_variables (typed_const _ _) = []
  pattern_variables (typed_term _ _ ps) = list_variables ps
  pattern_variables (typed_wildcard _) = []
  pattern_variables (typed_and _ ps) = list_variables ps

  pub list_variables : TypedList → List ℕ
  list_variables no_typed = []
  list_variables (more_typed p ps) = pattern_variables p ++ list_variables ps

-- a pattern where these variables are bound
abbrev mutual
  pub IsClosedPattern : TermsNode → (before : List ℕ) → TypedNode → Type 0
  IsClosedPattern k before (typed_bind x _ p) = IsClosedPattern k (before ++ x ∷ []) p
  IsClosedPattern k before (typed_var x _) = IsBound before x
  IsClosedPattern k before (typed_bool _ _) = Unit {0}
  IsClosedPattern k before (typed_int _ _) = Unit {0}
  IsClosedPattern k before (typed_const _ _) = Unit {0}
  IsClosedPattern k before (typed_term f _ ps) = IsSingle (k.terms f) × AreClosedPatterns k before ps
  IsClosedPattern k before (typed_wildcard _) = Unit {0}
  IsClosedPattern k before (typed_and _ ps) = AreClosedPatterns k before ps

  pub AreClosedPatterns : TermsNode → (before : List ℕ) → TypedList → Type 0
  AreClosedPatterns k before no_typed = Unit {0}
  AreClosedPatterns k before (more_typed p ps) = IsClosedPattern k before p × AreClosedPatterns k (before ++ pattern_variables p) ps

-- the variables of a `let`
abbrev pub let_variables : TypedLetList → List ℕ
let_variables no_typed_let = []
let_variables (more_typed_let x _ ds) = x ∷ let_variables ds

-- an expression where these variables are bound
abbrev mutual
  pub IsClosedExpression : TermsNode → (before : List ℕ) → TypedExpressionNode → Type 0
  IsClosedExpression k before (typed_var_expression x _) = IsBound before x
  IsClosedExpression k before (typed_bool_expression _ _) = Unit {0}
  IsClosedExpression k before (typed_int_expression _ _) = Unit {0}
  IsClosedExpression k before (typed_const_expression _ _) = Unit {0}
  IsClosedExpression k before (typed_term_expression f _ es) = IsSingle (k.terms f) × AreClosedExpressions k before es
  IsClosedExpression k before (typed_let_expression _ ds e) = AreClosedLets k before ds × IsClosedExpression k (before ++ let_variables ds) e

  pub AreClosedExpressions : TermsNode → (before : List ℕ) → TypedExpressionList → Type 0
  AreClosedExpressions k before no_typed_expression = Unit {0}
  AreClosedExpressions k before (more_typed_expression e es) = IsClosedExpression k before e × AreClosedExpressions k before es

  pub AreClosedLets : TermsNode → (before : List ℕ) → TypedLetList → Type 0
  AreClosedLets k before no_typed_let = Unit {0}
  AreClosedLets k before (more_typed_let x e ds) = IsClosedExpression k before e × AreClosedLets k (before ++ x ∷ []) ds

-- conditions, each with its expression before its pattern, where these variables are bound
abbrev pub AreClosedConditions : TermsNode → (before : List ℕ) → List TypedCondition → Type 0
AreClosedConditions k before [] = Unit {0}
AreClosedConditions k before (c ∷ cs) =
    IsClosedExpression k before c.expr
    × (IsClosedPattern k before c.pattern × AreClosedConditions k (before ++ pattern_variables c.pattern) cs)

-- the arguments of a rule, and then its conditions
abbrev pub IsClosed : TermsNode → TypedRuleNode → Type 0
IsClosed k r = AreClosedPatterns k [] (typed_list_of r.args) × AreClosedConditions k (list_variables (typed_list_of r.args)) r.iflets
