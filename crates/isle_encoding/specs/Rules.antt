-- The encoding of patterns, expressions and rules: a byte for the kind of node, and its parts in
-- order.
use Rattle.std.specs.Prelude.{ℕ, suc, List, [], ◌∷◌, ◌++◌}
use Rattle.isle_ast_rules.specs.Tree.{PatternNode, var_pattern, bind_pattern, bool_pattern, int_pattern, constant_pattern, term_pattern, wildcard_pattern, and_pattern, macro_arg_pattern, PatternList, no_pattern, more_pattern, Expression, term_expression, var_expression, bool_expression, int_expression, constant_expression, let_expression, ExpressionList, no_expression, more_expression, LetList, no_let, more_let, Condition, RuleDefinition, ExtractorDefinition}
use Rattle.isle_ast_rules.specs.TreeView.{SingleLet}
use Rattle.isle_encoding.specs.Numbers.{flag, integer, list, number, option}
use Rattle.isle_encoding.specs.Names.{name, names, position}

abbrev pub pattern_count : PatternList → ℕ
pattern_count no_pattern = 0
pattern_count (more_pattern p ps) = suc (pattern_count ps)

abbrev mutual
  pub pattern : PatternNode → List ℕ
  pattern (var_pattern var place) = 0 ∷ name var ++ position place
  pattern (bind_pattern var subpat place) = 1 ∷ name var ++ pattern subpat ++ position place
  pattern (bool_pattern val place) = 2 ∷ flag val ++ position place
  pattern (int_pattern val place) = 3 ∷ integer val ++ position place
  pattern (constant_pattern val place) = 4 ∷ name val ++ position place
  pattern (term_pattern sym args place) = 5 ∷ name sym ++ (number (pattern_count args) ++ patterns args) ++ position place
  pattern (wildcard_pattern place) = 6 ∷ position place
  pattern (and_pattern subpats place) = 7 ∷ (number (pattern_count subpats) ++ patterns subpats) ++ position place
  pattern (macro_arg_pattern index place) = 8 ∷ number index ++ position place

  pub patterns : PatternList → List ℕ
  patterns no_pattern = []
  patterns (more_pattern p ps) = pattern p ++ patterns ps

abbrev pub expression_count : ExpressionList → ℕ
expression_count no_expression = 0
expression_count (more_expression x xs) = suc (expression_count xs)

abbrev pub let_count : LetList → ℕ
let_count no_let = 0
let_count (more_let var ty val place lets) = suc (let_count lets)

abbrev mutual
  pub expression : Expression → List ℕ
  expression (term_expression sym args place) = 0 ∷ name sym ++ (number (expression_count args) ++ expressions args) ++ position place
  expression (var_expression var place) = 1 ∷ name var ++ position place
  expression (bool_expression val place) = 2 ∷ flag val ++ position place
  expression (int_expression val place) = 3 ∷ integer val ++ position place
  expression (constant_expression val place) = 4 ∷ name val ++ position place
  expression (let_expression defs body place) = 5 ∷ (number (let_count defs) ++ lets defs) ++ expression body ++ position place

  pub expressions : ExpressionList → List ℕ
  expressions no_expression = []
  expressions (more_expression x xs) = expression x ++ expressions xs

  pub lets : LetList → List ℕ
  lets no_let = []
  lets (more_let var ty val place ds) = (name var ++ name ty ++ expression val ++ position place) ++ lets ds

abbrev pub pattern_list : PatternList → List ℕ
pattern_list ps = number (pattern_count ps) ++ patterns ps

abbrev pub expression_list : ExpressionList → List ℕ
expression_list xs = number (expression_count xs) ++ expressions xs

abbrev pub let_list : LetList → List ℕ
let_list ds = number (let_count ds) ++ lets ds

-- a definition of a `let`, by itself
abbrev pub single_let : SingleLet → List ℕ
single_let d = name d.var ++ name d.ty ++ expression d.val ++ position d.pos

abbrev pub condition : Condition → List ℕ
condition c = pattern c.pattern ++ expression c.expr ++ position c.pos

abbrev pub rule : RuleDefinition → List ℕ
rule r = pattern r.pattern ++ list condition r.iflets ++ expression r.expr ++ position r.pos ++ option integer r.prio ++ option name r.name

abbrev pub extractor : ExtractorDefinition → List ℕ
extractor e = name e.term ++ names e.args ++ pattern e.template ++ position e.pos
