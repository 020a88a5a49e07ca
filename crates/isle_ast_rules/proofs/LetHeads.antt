-- The terms of a `let`, as the pure tree has them.
use Rattle.std.proofs.Common.{◌≡◌, ◌++◌, rules, Global}
use Rattle.std.specs.declared.vec.Vec.{Vec}
use Rattle.std.specs.declared.boxed.Box.{Box}
use Rattle.isle_base_source.specs.declared.pos.Pos.{Pos}
use Rattle.isle_ast_rules.specs.declared.Expr.{Expr, the_lemmas}
use Rattle.isle_ast_rules.specs.declared.Expr.TheVariants.{Let}
use Rattle.isle_ast_rules.specs.declared.LetDef.{LetDef}
use Rattle.isle_ast_rules.specs.TermHeads.{expression_heads, let_list_heads}
use Rattle.isle_ast_rules.specs.TreeView.{expression_of, let_list_of, single_lets_of}

-- those of the values, and then those of the body
pub let_heads : (ds : Vec LetDef Global) (b : Box Expr Global) (p : Pos) →
    expression_heads (expression_of (Let ds b p)) ≡ let_list_heads (let_list_of (single_lets_of ds.items)) ++ expression_heads (expression_of b.value)
let_heads ds b p = search (rules, the_lemmas)
