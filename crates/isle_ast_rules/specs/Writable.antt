-- The patterns, expressions and rules that can be written as text and read back: the conditions on
-- each node. They depend on no text, width or position.
use Rattle.std.specs.Prelude.{◌≡◌, ◌≢◌, ℕ, List, ◌∷◌, true, false, IfSome, codes}
use Rattle.isle_base.specs.Bytes.{dollar}
use Rattle.isle_ast_names.specs.Identifier.{is_identifier}
use Rattle.isle_ast_names.specs.Numbers.{IsSigned}
use Rattle.isle_ast_names.specs.Tree.{Name}
use Rattle.isle_ast_rules.specs.RuleGrammar.{is_if_expression, pattern_is_no_head}
use Rattle.isle_ast_rules.specs.Tree.{PatternNode, var_pattern, bind_pattern, bool_pattern, int_pattern, constant_pattern, term_pattern, wildcard_pattern, and_pattern, macro_arg_pattern, PatternList, no_pattern, more_pattern, Expression, term_expression, var_expression, bool_expression, int_expression, constant_expression, let_expression, ExpressionList, no_expression, more_expression, LetList, no_let, more_let, Condition, RuleDefinition, ExtractorDefinition}
use Rattle.isle_ast_names.specs.Writable.{IsName, Each, IsNot}

-- a name that doesn't begin with `$`
abbrev pub HasNoDollar : Name → Type 0
HasNoDollar n = (behind : List ℕ) → n.text ≢ dollar ∷ behind

-- with a `$` before it, the name is an identifier
abbrev pub IsConstantName : Name → Type 0
IsConstantName n = is_identifier (dollar ∷ n.text) ≡ true

-- a variable isn't `_`, `true` or `false` and doesn't begin with `$`
pub record IsPatternVariable (n : Name) : Type 0 where
  pub name : IsName n
  pub not_wildcard : IsNot n (codes "_")
  pub not_true : IsNot n (codes "true")
  pub not_false : IsNot n (codes "false")
  pub not_constant : HasNoDollar n

-- a number fits its type, a term is not named `and`, and there is no macro argument
abbrev mutual
  pub IsWritablePattern : PatternNode → Type 0
  IsWritablePattern (var_pattern var _) = IsPatternVariable var
  IsWritablePattern (bind_pattern var subpat _) = IsPatternVariable var × IsWritablePattern subpat
  IsWritablePattern (bool_pattern _ _) = Unit {0}
  IsWritablePattern (int_pattern val _) = IsSigned 127 val
  IsWritablePattern (constant_pattern val _) = IsConstantName val
  IsWritablePattern (term_pattern sym args _) = IsName sym × IsNot sym (codes "and") × AreWritablePatterns args
  IsWritablePattern (wildcard_pattern _) = Unit {0}
  IsWritablePattern (and_pattern subpats _) = AreWritablePatterns subpats
  IsWritablePattern (macro_arg_pattern _ _) = ⊥

  pub AreWritablePatterns : PatternList → Type 0
  AreWritablePatterns no_pattern = Unit {0}
  AreWritablePatterns (more_pattern p ps) = IsWritablePattern p × AreWritablePatterns ps

-- a variable isn't `true` or `false` and doesn't begin with `$`
pub record IsExpressionVariable (n : Name) : Type 0 where
  pub name : IsName n
  pub not_true : IsNot n (codes "true")
  pub not_false : IsNot n (codes "false")
  pub not_constant : HasNoDollar n

-- a number fits its type, and a term is not named `let`
abbrev mutual
  pub IsWritableExpression : Expression → Type 0
  IsWritableExpression (term_expression sym args _) = IsName sym × IsNot sym (codes "let") × AreWritableExpressions args
  IsWritableExpression (var_expression name _) = IsExpressionVariable name
  IsWritableExpression (bool_expression _ _) = Unit {0}
  IsWritableExpression (int_expression val _) = IsSigned 127 val
  IsWritableExpression (constant_expression val _) = IsConstantName val
  IsWritableExpression (let_expression defs body _) = AreWritableLets defs × IsWritableExpression body

  pub AreWritableExpressions : ExpressionList → Type 0
  AreWritableExpressions no_expression = Unit {0}
  AreWritableExpressions (more_expression x xs) = IsWritableExpression x × AreWritableExpressions xs

  pub AreWritableLets : LetList → Type 0
  AreWritableLets no_let = Unit {0}
  AreWritableLets (more_let var ty val _ lets) = IsName var × IsName ty × IsWritableExpression val × AreWritableLets lets

abbrev pub IsWritableCondition : Condition → Type 0
IsWritableCondition c = IsWritablePattern c.pattern × IsWritableExpression c.expr

-- A priority fits its type. The pattern can't be read as a name or a priority that the rule lacks,
-- and the expression can't be read as one more condition.
pub record IsWritableRule (r : RuleDefinition) : Type 0 where
  pub name : IfSome r.name IsName
  pub prio : IfSome r.prio (IsSigned 63)
  pub pattern : IsWritablePattern r.pattern
  pub iflets : Each IsWritableCondition r.iflets
  pub expr : IsWritableExpression r.expr
  pub pattern_is_no_head : pattern_is_no_head r.name r.prio r.pattern ≡ true
  pub expr_is_no_condition : is_if_expression r.expr ≡ false

abbrev pub IsWritableExtractor : ExtractorDefinition → Type 0
IsWritableExtractor e = IsName e.term × Each IsName e.args × IsWritablePattern e.template
