-- Positions play no part in the shapes of patterns, expressions, rules and extractors, nor in
-- whether one contains a macro argument.
use Rattle.std.proofs.Common.{◌≡◌, List, [], ◌∷◌, ◌++◌, map, codes, Bool, ◌||◌, Option, None, Some, refl, ap, ◌∙◌}
use Rattle.std.specs.List.{list_any}
use Rattle.isle_ast_names.specs.Tree.{Name}
use Rattle.isle_ast_names.specs.Erased.{erase_optional}
use Rattle.isle_ast_rules.specs.Tree.{PatternNode, var_pattern, bind_pattern, bool_pattern, int_pattern, constant_pattern, term_pattern, wildcard_pattern, and_pattern, macro_arg_pattern, PatternList}
use Rattle.isle_ast_rules.specs.Tree.{no_pattern, more_pattern, Expression, term_expression, var_expression, bool_expression, int_expression, constant_expression, let_expression, ExpressionList}
use Rattle.isle_ast_rules.specs.Tree.{no_expression, more_expression, LetList, no_let, more_let, Condition, RuleDefinition, ExtractorDefinition}
use Rattle.isle_ast_rules.specs.Erased.{erase_pattern, erase_patterns, erase_expression, erase_expressions, erase_lets, erase_condition, erase_rule, erase_extractor}
use Rattle.isle_ast_rules.specs.MacroArgs.{has_macro_arg, have_macro_arg, condition_has_macro_arg, rule_has_macro_arg}
use Rattle.isle_printer.specs.RuleShapes.{pattern_shape, pattern_shapes, expression_shape, expression_shapes, let_shapes, condition_shape, rule_name_shape, priority_shape, rule_shape, extractor_shape}
use Rattle.isle_printer_layout.specs.Sexp.{Sexp, atom, binding, list_of}
use Rattle.isle_printer_layout.specs.NameShapes.{name_shape, name_shapes, form_shape}
use Rattle.isle_printer_layout.proofs.Erased.Names.{shapes-erased, names-erased}

mutual
  pub pattern-erased : (p : PatternNode) → pattern_shape (erase_pattern p) ≡ pattern_shape p
  pattern-erased (var_pattern var _) = refl
  pattern-erased (bind_pattern var subpat _) = ap (λ s. binding var.text s) (pattern-erased subpat)
  pattern-erased (bool_pattern val _) = refl
  pattern-erased (int_pattern val _) = refl
  pattern-erased (constant_pattern val _) = refl
  pattern-erased (term_pattern sym args _) = ap (λ ss. list_of (name_shape sym ∷ ss)) (patterns-erased args)
  pattern-erased (wildcard_pattern _) = refl
  pattern-erased (and_pattern subpats _) = ap (λ ss. form_shape (codes "and") ss) (patterns-erased subpats)
  pattern-erased (macro_arg_pattern _ _) = refl

  patterns-erased : (ps : PatternList) → pattern_shapes (erase_patterns ps) ≡ pattern_shapes ps
  patterns-erased no_pattern = refl
  patterns-erased (more_pattern p ps) =
      ap (λ s. s ∷ pattern_shapes (erase_patterns ps)) (pattern-erased p)
      ∙ ap (λ ss. pattern_shape p ∷ ss) (patterns-erased ps)

mutual
  pub expression-erased : (x : Expression) → expression_shape (erase_expression x) ≡ expression_shape x
  expression-erased (term_expression sym args _) = ap (λ ss. list_of (name_shape sym ∷ ss)) (expressions-erased args)
  expression-erased (var_expression name _) = refl
  expression-erased (bool_expression val _) = refl
  expression-erased (int_expression val _) = refl
  expression-erased (constant_expression val _) = refl
  expression-erased (let_expression defs body _) =
      ap (λ ss. form_shape (codes "let") (list_of ss ∷ expression_shape (erase_expression body) ∷ [])) (lets-erased defs)
      ∙ ap (λ s. form_shape (codes "let") (list_of (let_shapes defs) ∷ s ∷ [])) (expression-erased body)

  expressions-erased : (xs : ExpressionList) → expression_shapes (erase_expressions xs) ≡ expression_shapes xs
  expressions-erased no_expression = refl
  expressions-erased (more_expression x xs) =
      ap (λ s. s ∷ expression_shapes (erase_expressions xs)) (expression-erased x)
      ∙ ap (λ ss. expression_shape x ∷ ss) (expressions-erased xs)

  lets-erased : (ds : LetList) → let_shapes (erase_lets ds) ≡ let_shapes ds
  lets-erased no_let = refl
  lets-erased (more_let var ty val _ lets) =
      ap (λ s. list_of (name_shape var ∷ name_shape ty ∷ s ∷ []) ∷ let_shapes (erase_lets lets)) (expression-erased val)
      ∙ ap (λ ss. list_of (name_shape var ∷ name_shape ty ∷ expression_shape val ∷ []) ∷ ss) (lets-erased lets)

pub condition-erased : (c : Condition) → condition_shape (erase_condition c) ≡ condition_shape c
condition-erased c =
    ap (λ s. form_shape (codes "if-let") (s ∷ expression_shape (erase_expression c.expr) ∷ [])) (pattern-erased c.pattern)
    ∙ ap (λ s. form_shape (codes "if-let") (pattern_shape c.pattern ∷ s ∷ [])) (expression-erased c.expr)

rule_name-erased : (name : Option Name) → rule_name_shape (erase_optional name) ≡ rule_name_shape name
rule_name-erased None = refl
rule_name-erased (Some name) = refl

-- the list of a rule, of its parts
abbrev rule_list : List Sexp → List Sexp → Sexp → List Sexp → Sexp → Sexp
rule_list name prio pattern iflets expr =
    list_of (atom (codes "rule") ∷ [] ++ name ++ prio ++ pattern ∷ [] ++ iflets ++ expr ∷ [])

pub rule-erased : (r : RuleDefinition) → rule_shape (erase_rule r) ≡ rule_shape r
rule-erased r =
    let prio = priority_shape r.prio in
    let iflets = map condition_shape (map erase_condition r.iflets) in
    let expr = expression_shape (erase_expression r.expr) in
    ap (λ n. rule_list n prio (pattern_shape (erase_pattern r.pattern)) iflets expr) (rule_name-erased r.name)
    ∙ ap (λ p. rule_list (rule_name_shape r.name) prio p iflets expr) (pattern-erased r.pattern)
    ∙ ap (λ cs. rule_list (rule_name_shape r.name) prio (pattern_shape r.pattern) cs expr) (shapes-erased condition_shape erase_condition condition-erased r.iflets)
    ∙ ap (λ x. rule_list (rule_name_shape r.name) prio (pattern_shape r.pattern) (map condition_shape r.iflets) x) (expression-erased r.expr)

pub extractor-erased : (e : ExtractorDefinition) → extractor_shape (erase_extractor e) ≡ extractor_shape e
extractor-erased e =
    ap (λ ss. list_of (atom (codes "extractor") ∷ [] ++ list_of (name_shape e.term ∷ ss) ∷ [] ++ pattern_shape (erase_pattern e.template) ∷ [])) (names-erased e.args)
    ∙ ap (λ s. list_of (atom (codes "extractor") ∷ [] ++ list_of (name_shape e.term ∷ name_shapes e.args) ∷ [] ++ s ∷ [])) (pattern-erased e.template)

-- a macro argument

mutual
  pub macro_arg-erased : (p : PatternNode) → has_macro_arg (erase_pattern p) ≡ has_macro_arg p
  macro_arg-erased (var_pattern var _) = refl
  macro_arg-erased (bind_pattern var subpat _) = macro_arg-erased subpat
  macro_arg-erased (bool_pattern val _) = refl
  macro_arg-erased (int_pattern val _) = refl
  macro_arg-erased (constant_pattern val _) = refl
  macro_arg-erased (term_pattern sym args _) = macro_arg_list-erased args
  macro_arg-erased (wildcard_pattern _) = refl
  macro_arg-erased (and_pattern subpats _) = macro_arg_list-erased subpats
  macro_arg-erased (macro_arg_pattern _ _) = refl

  macro_arg_list-erased : (ps : PatternList) → have_macro_arg (erase_patterns ps) ≡ have_macro_arg ps
  macro_arg_list-erased no_pattern = refl
  macro_arg_list-erased (more_pattern p ps) =
      ap (λ t. t || have_macro_arg (erase_patterns ps)) (macro_arg-erased p) ∙ ap (λ t. has_macro_arg p || t) (macro_arg_list-erased ps)

-- a test of a list, where it is that of the erased elements
pub any-erased : {A : Type 0} → (test : A → Bool) (erased : A → A) → ((x : A) → test (erased x) ≡ test x) → (xs : List A) → list_any test (map erased xs) ≡ list_any test xs
any-erased test erased same [] = refl
any-erased test erased same (x ∷ xs) =
    ap (λ t. t || list_any test (map erased xs)) (same x) ∙ ap (λ t. test x || t) (any-erased test erased same xs)

pub rule_macro_arg-erased : (r : RuleDefinition) → rule_has_macro_arg (erase_rule r) ≡ rule_has_macro_arg r
rule_macro_arg-erased r =
    ap (λ t. t || list_any condition_has_macro_arg (map erase_condition r.iflets)) (macro_arg-erased r.pattern)
    ∙ ap (λ t. has_macro_arg r.pattern || t) (any-erased condition_has_macro_arg erase_condition (λ c. macro_arg-erased c.pattern) r.iflets)
