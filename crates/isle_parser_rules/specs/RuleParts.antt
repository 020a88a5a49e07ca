-- The parts of a rule's right-hand side, as code has them.
use Rattle.isle_ast_rules.specs.TreeView.{condition_of, expression_of}
use Rattle.isle_parser_rules.specs.declared.rules.IfLetOrExpr.{IfLetOrExpr}
use Rattle.isle_parser_rules.specs.RuleReaders.{RulePart, condition_part, expression_part}
use Rattle.isle_parser_rules.specs.declared.rules.IfLetOrExpr.TheVariants as parts

abbrev pub part_of : IfLetOrExpr → RulePart
part_of (parts.IfLet c) = condition_part (condition_of c)
part_of (parts.Expr x) = expression_part (expression_of x)
