-- Rules with their conditions, and internal extractors: `rule` and `extractor`.
use Rattle.std.specs.Prelude.{◌≡◌, ℤ, List, Bool, true, false, not, ◌⊎◌, Option, None, Some, codes}
use Rattle.std.specs.Str.{bytes_eq}
use Rattle.isle_base.specs.Place.{Placed}
use Rattle.isle_ast_names.specs.Numbers.{SpellsPriority}
use Rattle.isle_ast_names.specs.Tree.{Name}
use Rattle.isle_ast_rules.specs.Tree.{PatternNode, var_pattern, bind_pattern, bool_pattern, int_pattern, constant_pattern, term_pattern, wildcard_pattern, and_pattern, macro_arg_pattern, Expression, term_expression, var_expression, bool_expression, int_expression, constant_expression, let_expression, Condition, RuleDefinition, ExtractorDefinition}
use Rattle.isle_ast_names.specs.Words.{BeginsAt, SpellsAll, InParentheses, BehindWord, SpellsName, SpellsOptional}
use Rattle.isle_ast_rules.specs.ExpressionGrammar.{SpellsExpression}
use Rattle.isle_ast_rules.specs.PatternGrammar.{SpellsPattern}

-- a pattern, and the expression that it matches
abbrev pub SpellsMatch : Condition → List Placed → List Placed → Type 0
SpellsMatch c all rest = (mid : List Placed) × SpellsPattern c.pattern all mid × SpellsExpression c.expr mid rest

-- an expression without a pattern: the pattern is a wildcard at the same position
abbrev pub SpellsTest : Condition → List Placed → List Placed → Type 0
SpellsTest c all rest = (c.pattern ≡ wildcard_pattern c.pos) × SpellsExpression c.expr all rest

-- `(if-let P X)` or `(if X)`, at the position of the token after the keyword
abbrev pub SpellsCondition : Condition → List Placed → List Placed → Type 0
SpellsCondition c all rest =
    InParentheses (BehindWord (codes "if-let") (λ inner close. BeginsAt c.pos inner × SpellsMatch c inner close)) all rest
    ⊎ InParentheses (BehindWord (codes "if") (λ inner close. BeginsAt c.pos inner × SpellsTest c inner close)) all rest

-- a pattern that begins with `(`
abbrev pub is_list_pattern : PatternNode → Bool
is_list_pattern (var_pattern _ _) = false
is_list_pattern (bind_pattern _ _ _) = false
is_list_pattern (bool_pattern _ _) = false
is_list_pattern (int_pattern _ _) = false
is_list_pattern (constant_pattern _ _) = false
is_list_pattern (term_pattern _ _ _) = true
is_list_pattern (wildcard_pattern _) = false
is_list_pattern (and_pattern _ _) = true
is_list_pattern (macro_arg_pattern _ _) = false

abbrev pub is_int_pattern : PatternNode → Bool
is_int_pattern (var_pattern _ _) = false
is_int_pattern (bind_pattern _ _ _) = false
is_int_pattern (bool_pattern _ _) = false
is_int_pattern (int_pattern _ _) = true
is_int_pattern (constant_pattern _ _) = false
is_int_pattern (term_pattern _ _ _) = false
is_int_pattern (wildcard_pattern _) = false
is_int_pattern (and_pattern _ _) = false
is_int_pattern (macro_arg_pattern _ _) = false

-- a term headed `if`
abbrev pub is_if_expression : Expression → Bool
is_if_expression (term_expression sym _ _) = bytes_eq sym.text (codes "if")
is_if_expression (var_expression _ _) = false
is_if_expression (bool_expression _ _) = false
is_if_expression (int_expression _ _) = false
is_if_expression (constant_expression _ _) = false
is_if_expression (let_expression _ _ _) = false

-- A symbol after the keyword is read as the name, and then an integer as the priority. So without
-- either the pattern is a list, and with only a name it is not an integer.
abbrev pub pattern_is_no_head : Option Name → Option ℤ → PatternNode → Bool
pattern_is_no_head None None p = is_list_pattern p
pattern_is_no_head (Some _) None p = not (is_int_pattern p)
pattern_is_no_head _ (Some _) p = true

-- The name and the priority, if there are any, the pattern, the conditions, the expression. A term
-- headed `if` is read as a condition, so the expression is not one. (`if-let` is not an identifier,
-- so no term is named so.)
pub record SpellsRule (r : RuleDefinition) (all rest : List Placed) : Type 0 where
  pub pattern_is_no_head : pattern_is_no_head r.name r.prio r.pattern ≡ true
  pub expr_is_no_condition : is_if_expression r.expr ≡ false
  pub position : BeginsAt r.pos all
  pub behind_name : List Placed
  pub name : SpellsOptional SpellsName r.name all behind_name
  pub behind_prio : List Placed
  pub prio : SpellsOptional SpellsPriority r.prio behind_name behind_prio
  pub behind_pattern : List Placed
  pub pattern : SpellsPattern r.pattern behind_prio behind_pattern
  pub behind_iflets : List Placed
  pub iflets : SpellsAll SpellsCondition r.iflets behind_pattern behind_iflets
  pub expr : SpellsExpression r.expr behind_iflets rest

-- `(I I..)`, the term and its parameters, and the pattern that defines it
pub record SpellsExtractor (e : ExtractorDefinition) (all rest : List Placed) : Type 0 where
  pub position : BeginsAt e.pos all
  pub behind_head : List Placed
  pub head : InParentheses (λ inner close. (mid : List Placed) × SpellsName e.term inner mid × SpellsAll SpellsName e.args mid close) all behind_head
  pub template : SpellsPattern e.template behind_head rest
