-- The patterns, expressions and rules of code, as pure values.
use Rattle.std.specs.Prelude.{[], List, ◌∷◌, map}
use Rattle.isle_base_source.specs.declared.pos.Pos.{Pos}
use Rattle.isle_ast_names.specs.Tree.{Name}
use Rattle.isle_ast_rules.specs.Tree.{PatternNode, var_pattern, bind_pattern, bool_pattern, int_pattern, constant_pattern, term_pattern, wildcard_pattern, and_pattern, macro_arg_pattern, PatternList, no_pattern, more_pattern, Expression, term_expression, var_expression, bool_expression, int_expression, constant_expression, let_expression, ExpressionList, no_expression, more_expression, LetList, no_let, more_let, Condition, RuleDefinition, ExtractorDefinition}
use Rattle.isle_ast_names.specs.TreeView.{name_of, names_of, optional_name_of}
use Rattle.isle_ast_rules.specs.declared.Rule.{Rule}
use Rattle.isle_ast_rules.specs.declared.IfLet.{IfLet}
use Rattle.isle_ast_rules.specs.declared.Extractor.{Extractor}
use Rattle.isle_ast_rules.specs.declared.Pattern.{Pattern}
use Rattle.isle_ast_rules.specs.declared.Pattern.TheOpen.{Pattern-F}
use Rattle.isle_ast_rules.specs.declared.Pattern.TheFolds.{fold-Pattern}
use Rattle.isle_ast_rules.specs.declared.Expr.{Expr}
use Rattle.isle_ast_rules.specs.declared.Expr.TheOpen.{Expr-F, LetDef-F}
use Rattle.isle_ast_rules.specs.declared.Expr.TheFolds.{fold-Expr, fold-LetDef}
use Rattle.isle_ast_rules.specs.declared.LetDef.{LetDef}

abbrev pub pattern_list_of : List PatternNode → PatternList
pattern_list_of [] = no_pattern
pattern_list_of (p ∷ ps) = more_pattern p (pattern_list_of ps)

-- one node, with its parts as pure values
abbrev pub pattern_step : Pattern-F PatternNode → PatternNode
pattern_step (Pattern-F.Var var place) = var_pattern (name_of var) place
pattern_step (Pattern-F.BindPattern var subpat place) = bind_pattern (name_of var) subpat.value place
pattern_step (Pattern-F.ConstBool val place) = bool_pattern val place
pattern_step (Pattern-F.ConstInt val place) = int_pattern val place
pattern_step (Pattern-F.ConstPrim val place) = constant_pattern (name_of val) place
pattern_step (Pattern-F.Term sym args place) = term_pattern (name_of sym) (pattern_list_of args.items) place
pattern_step (Pattern-F.Wildcard place) = wildcard_pattern place
pattern_step (Pattern-F.And subpats place) = and_pattern (pattern_list_of subpats.items) place
pattern_step (Pattern-F.MacroArg index place) = macro_arg_pattern index place

abbrev pub pattern_of : Pattern → PatternNode
pattern_of = fold-Pattern PatternNode pattern_step

abbrev pub patterns_of : List Pattern → List PatternNode
patterns_of ps = map pattern_of ps

-- a definition of a `let`, by itself
pub record SingleLet : Type 0 where
  pub var : Name
  pub ty : Name
  pub val : Expression
  pub pos : Pos

abbrev pub expression_list_of : List Expression → ExpressionList
expression_list_of [] = no_expression
expression_list_of (x ∷ xs) = more_expression x (expression_list_of xs)

abbrev pub let_list_of : List SingleLet → LetList
let_list_of [] = no_let
let_list_of (d ∷ ds) = more_let d.var d.ty d.val d.pos (let_list_of ds)

abbrev pub expression_step : Expr-F Expression SingleLet → Expression
expression_step (Expr-F.Term sym args place) = term_expression (name_of sym) (expression_list_of args.items) place
expression_step (Expr-F.Var name place) = var_expression (name_of name) place
expression_step (Expr-F.ConstBool val place) = bool_expression val place
expression_step (Expr-F.ConstInt val place) = int_expression val place
expression_step (Expr-F.ConstPrim val place) = constant_expression (name_of val) place
expression_step (Expr-F.Let defs body place) = let_expression (let_list_of defs.items) body.value place

abbrev pub let_step : LetDef-F Expression SingleLet → SingleLet
let_step d = record { var = name_of d.var; ty = name_of d.ty; val = d.val.value; pos = d.pos }

abbrev pub expression_of : Expr → Expression
expression_of = fold-Expr Expression SingleLet expression_step let_step

abbrev pub single_let_of : LetDef → SingleLet
single_let_of = fold-LetDef Expression SingleLet expression_step let_step

abbrev pub expressions_of : List Expr → List Expression
expressions_of xs = map expression_of xs

abbrev pub single_lets_of : List LetDef → List SingleLet
single_lets_of ds = map single_let_of ds

abbrev pub condition_of : IfLet → Condition
condition_of c = record { pattern = pattern_of c.pattern; expr = expression_of c.expr; pos = c.pos }

abbrev pub conditions_of : List IfLet → List Condition
conditions_of cs = map condition_of cs

abbrev pub rule_of : Rule → RuleDefinition
rule_of r =
    record {
      pattern = pattern_of r.pattern;
      iflets = conditions_of r.iflets.items;
      expr = expression_of r.expr;
      pos = r.pos;
      prio = r.prio;
      name = optional_name_of r.name;
    }

abbrev pub extractor_of : Extractor → ExtractorDefinition
extractor_of e =
    record {
      term = name_of e.term;
      args = names_of e.args.items;
      template = pattern_of e.template;
      pos = e.pos;
    }
