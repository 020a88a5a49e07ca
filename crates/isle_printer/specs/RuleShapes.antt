-- The S-expressions of patterns, expressions and rules, and of the parts of each.
use Rattle.std.specs.Prelude.{[], ℤ, List, ◌∷◌, ◌++◌, Option, None, Some, map, codes}
use Rattle.std.specs.Fmt.{signed_decimal}
use Rattle.isle_ast_names.specs.Tree.{Name}
use Rattle.isle_ast_rules.specs.Tree.{PatternNode, var_pattern, bind_pattern, bool_pattern, int_pattern, constant_pattern, term_pattern, wildcard_pattern, and_pattern, macro_arg_pattern, PatternList}
use Rattle.isle_ast_rules.specs.Tree.{no_pattern, more_pattern, Expression, term_expression, var_expression, bool_expression, int_expression, constant_expression, let_expression, ExpressionList}
use Rattle.isle_ast_rules.specs.Tree.{no_expression, more_expression, LetList, no_let, more_let, Condition, RuleDefinition, ExtractorDefinition}
use Rattle.isle_ast_names.specs.Words.{bool_word}
use Rattle.isle_ast_rules.specs.TreeView.{SingleLet}
use Rattle.isle_printer_layout.specs.Sexp.{Sexp, atom, binding, list_of}
use Rattle.isle_printer_layout.specs.NameShapes.{name_shape, name_shapes, form_shape, constant_shape, integer_shape}

-- `x`, `x @ P`, `true` or `false`, an integer, `$c`, `(t P..)`, `_`, `(and P..)`. A macro argument
-- is never printed, and its shape has no meaning.
abbrev mutual
  pub pattern_shape : PatternNode → Sexp
  pattern_shape (var_pattern var _) = name_shape var
  pattern_shape (bind_pattern var subpat _) = binding var.text (pattern_shape subpat)
  pattern_shape (bool_pattern val _) = atom (bool_word val)
  pattern_shape (int_pattern val _) = integer_shape val
  pattern_shape (constant_pattern val _) = constant_shape val
  pattern_shape (term_pattern sym args _) = list_of (name_shape sym ∷ pattern_shapes args)
  pattern_shape (wildcard_pattern _) = atom (codes "_")
  pattern_shape (and_pattern subpats _) = form_shape (codes "and") (pattern_shapes subpats)
  pattern_shape (macro_arg_pattern _ _) = atom []

  pub pattern_shapes : PatternList → List Sexp
  pattern_shapes no_pattern = []
  pattern_shapes (more_pattern p ps) = pattern_shape p ∷ pattern_shapes ps

-- `(t X..)`, `x`, `true` or `false`, an integer, `$c`, `(let ((x ty X)..) X)`
abbrev mutual
  pub expression_shape : Expression → Sexp
  expression_shape (term_expression sym args _) = list_of (name_shape sym ∷ expression_shapes args)
  expression_shape (var_expression name _) = name_shape name
  expression_shape (bool_expression val _) = atom (bool_word val)
  expression_shape (int_expression val _) = integer_shape val
  expression_shape (constant_expression val _) = constant_shape val
  expression_shape (let_expression defs body _) =
      form_shape (codes "let") (list_of (let_shapes defs) ∷ expression_shape body ∷ [])

  pub expression_shapes : ExpressionList → List Sexp
  expression_shapes no_expression = []
  expression_shapes (more_expression x xs) = expression_shape x ∷ expression_shapes xs

  pub let_shapes : LetList → List Sexp
  let_shapes no_let = []
  let_shapes (more_let var ty val _ lets) =
      list_of (name_shape var ∷ name_shape ty ∷ expression_shape val ∷ []) ∷ let_shapes lets

-- `(x ty X)`
abbrev pub let_shape : SingleLet → Sexp
let_shape d = list_of (name_shape d.var ∷ name_shape d.ty ∷ expression_shape d.val ∷ [])

-- `(if-let P X)`, even if the pattern is `_`
abbrev pub condition_shape : Condition → Sexp
condition_shape c = form_shape (codes "if-let") (pattern_shape c.pattern ∷ expression_shape c.expr ∷ [])

-- the name of a rule that has one
abbrev pub rule_name_shape : Option Name → List Sexp
rule_name_shape None = []
rule_name_shape (Some name) = name_shape name ∷ []

-- the priority of a rule that has one
abbrev pub priority_shape : Option ℤ → List Sexp
priority_shape None = []
priority_shape (Some prio) = atom (signed_decimal prio) ∷ []

-- `(rule name prio P condition.. X)`, with the name and the priority if they are given
abbrev pub rule_shape : RuleDefinition → Sexp
rule_shape r =
    list_of
    (atom (codes "rule") ∷ []
    ++ rule_name_shape r.name
    ++ priority_shape r.prio
    ++ pattern_shape r.pattern ∷ []
    ++ map condition_shape r.iflets
    ++ expression_shape r.expr ∷ [])

-- `(extractor (term args..) P)`
abbrev pub extractor_shape : ExtractorDefinition → Sexp
extractor_shape e =
    list_of
    (atom (codes "extractor") ∷ []
    ++ list_of (name_shape e.term ∷ name_shapes e.args) ∷ []
    ++ pattern_shape e.template ∷ [])
