-- Patterns, expressions and rules as pure values. The fields are those of the types in code.
use Rattle.std.specs.Prelude.{ℕ, ℤ, List, Bool, Option}
use Rattle.isle_base_source.specs.declared.pos.Pos.{Pos}
use Rattle.isle_ast_names.specs.Tree.{Name}

-- a pattern of a rule, a condition or an extractor
mutual
  pub data PatternNode : Type 0 where
    var_pattern : (var : Name) → Pos → PatternNode
    bind_pattern : (var : Name) → (subpat : PatternNode) → Pos → PatternNode
    bool_pattern : (val : Bool) → Pos → PatternNode
    int_pattern : (val : ℤ) → Pos → PatternNode
    constant_pattern : (val : Name) → Pos → PatternNode
    term_pattern : (sym : Name) → (args : PatternList) → Pos → PatternNode
    wildcard_pattern : Pos → PatternNode
    and_pattern : (subpats : PatternList) → Pos → PatternNode
    macro_arg_pattern : (index : ℕ) → Pos → PatternNode

  -- patterns in order
  pub data PatternList : Type 0 where
    no_pattern : PatternList
    more_pattern : PatternNode → PatternList → PatternList

-- an expression of a rule or a condition
mutual
  pub data Expression : Type 0 where
    term_expression : (sym : Name) → (args : ExpressionList) → Pos → Expression
    var_expression : (name : Name) → Pos → Expression
    bool_expression : (val : Bool) → Pos → Expression
    int_expression : (val : ℤ) → Pos → Expression
    constant_expression : (val : Name) → Pos → Expression
    let_expression : (defs : LetList) → (body : Expression) → Pos → Expression

  -- expressions in order
  pub data ExpressionList : Type 0 where
    no_expression : ExpressionList
    more_expression : Expression → ExpressionList → ExpressionList

  -- the definitions of a `let`, each a variable, its type, its value and a position
  pub data LetList : Type 0 where
    no_let : LetList
    more_let : (var ty : Name) → (val : Expression) → Pos → LetList → LetList

-- a condition: the value of the expression matches the pattern
pub record Condition : Type 0 where
  pub pattern : PatternNode
  pub expr : Expression
  pub pos : Pos

-- a rewrite rule
pub record RuleDefinition : Type 0 where
  pub pattern : PatternNode
  pub iflets : List Condition
  pub expr : Expression
  pub pos : Pos
  pub prio : Option ℤ
  pub name : Option Name

-- a named pattern with parameters
pub record ExtractorDefinition : Type 0 where
  pub term : Name
  pub args : List Name
  pub template : PatternNode
  pub pos : Pos
