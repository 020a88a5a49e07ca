-- Expressions of rules and conditions. The position of an expression is that of its first token.
use Rattle.std.specs.Prelude.{◌≡◌, ℕ, List, ◌∷◌, Bool, true, false, ◌&&◌, not, codes}
use Rattle.std.specs.Str.{bytes_eq}
use Rattle.isle_base.specs.Place.{Placed}
use Rattle.isle_base.specs.Token.{symbol}
use Rattle.isle_ast_names.specs.Identifier.{is_identifier}
use Rattle.isle_ast_names.specs.Numbers.{SpellsInteger}
use Rattle.isle_ast_names.specs.Tree.{Name}
use Rattle.isle_ast_rules.specs.Tree.{Expression, term_expression, var_expression, bool_expression, int_expression, constant_expression, let_expression, ExpressionList, no_expression, more_expression, LetList, no_let, more_let}
use Rattle.isle_ast_names.specs.Words.{SpellsWord, BeginsAt, InParentheses, BehindWord, SpellsName, is_constant, bool_word, is_bool_word, SpellsConstant}

-- a variable of an expression: an identifier other than `true` and `false` that doesn't begin with
-- `$`
abbrev pub is_variable_of_expressions : List ℕ → Bool
is_variable_of_expressions text = is_identifier text && not (is_constant text) && not (is_bool_word text)

abbrev pub SpellsExpressionVariable : Name → List Placed → List Placed → Type 0
SpellsExpressionVariable name all rest =
    (is_variable_of_expressions name.text ≡ true) × (all ≡ record { pos = name.pos; token = symbol name.text } ∷ rest)

-- `(I X..)` with an I other than `let`, a variable, `true` or `false`, an integer, a constant,
-- `(let ((I I X)..) X)`
abbrev mutual
  pub SpellsExpression : Expression → List Placed → List Placed → Type 0
  SpellsExpression (term_expression sym args pos) all rest =
      (bytes_eq sym.text (codes "let") ≡ false) × BeginsAt pos all
      × InParentheses (λ inner close. (mid : List Placed) × SpellsName sym inner mid × SpellsExpressions args mid close) all rest
  SpellsExpression (var_expression name pos) all rest = BeginsAt pos all × SpellsExpressionVariable name all rest
  SpellsExpression (bool_expression val pos) all rest = BeginsAt pos all × SpellsWord (bool_word val) all rest
  SpellsExpression (int_expression val pos) all rest = BeginsAt pos all × SpellsInteger val all rest
  SpellsExpression (constant_expression val pos) all rest = BeginsAt pos all × SpellsConstant val all rest
  SpellsExpression (let_expression defs body pos) all rest =
      BeginsAt pos all
      × InParentheses
      (BehindWord
      (codes "let")
      (λ inner close. (mid : List Placed) × InParentheses (SpellsLets defs) inner mid × SpellsExpression body mid close))
      all
      rest

  pub SpellsExpressions : ExpressionList → List Placed → List Placed → Type 0
  SpellsExpressions no_expression all rest = all ≡ rest
  SpellsExpressions (more_expression x xs) all rest =
      (mid : List Placed) × SpellsExpression x all mid × SpellsExpressions xs mid rest

  -- `(I I X)` for each, at the position of its `(`: the variable, its type, its value
  pub SpellsLets : LetList → List Placed → List Placed → Type 0
  SpellsLets no_let all rest = all ≡ rest
  SpellsLets (more_let var ty val pos lets) all rest =
      (mid : List Placed)
      × (BeginsAt pos all
      × InParentheses
      (λ inner close. (behind_var behind_ty : List Placed) × SpellsName var inner behind_var × SpellsName ty behind_var behind_ty
      × SpellsExpression val behind_ty close)
      all
      mid)
      × SpellsLets lets mid rest
