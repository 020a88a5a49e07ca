-- How many there are in a list of the tree is how many the list of the code has.
use Rattle.std.proofs.Common.{◌≡◌, ℕ, suc, List, [], ◌∷◌, length, refl, ap}
use Rattle.isle_ast_rules.specs.Tree.{PatternNode, Expression}
use Rattle.isle_ast_rules.specs.TreeView.{SingleLet, expression_list_of, expressions_of, let_list_of, pattern_list_of, patterns_of, single_lets_of}
use Rattle.isle_ast_rules.specs.declared.Pattern.{Pattern}
use Rattle.isle_ast_rules.specs.declared.Expr.{Expr}
use Rattle.isle_ast_rules.specs.declared.LetDef.{LetDef}
use Rattle.isle_encoding.specs.Rules.{expression_count, let_count, pattern_count}

pub pattern_counts : (ps : List Pattern) → pattern_count (pattern_list_of (patterns_of ps)) ≡ length ps
pattern_counts [] = refl
pattern_counts (p ∷ ps) = ap suc (pattern_counts ps)

pub expression_counts : (xs : List Expr) → expression_count (expression_list_of (expressions_of xs)) ≡ length xs
expression_counts [] = refl
expression_counts (x ∷ xs) = ap suc (expression_counts xs)

pub let_counts : (ds : List LetDef) → let_count (let_list_of (single_lets_of ds)) ≡ length ds
let_counts [] = refl
let_counts (d ∷ ds) = ap suc (let_counts ds)
