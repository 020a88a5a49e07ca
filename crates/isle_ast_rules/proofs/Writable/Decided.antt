-- The tests of patterns, expressions and rules tell which of them are writable.
use Rattle.std.proofs.Common.{[], ◌≡◌, ◌≢◌, ℕ, ℤ, List, ◌∷◌, not, Option, None, Some, IfSome, Decides, refl, ap, codes, sym}
use Rattle.std.proofs.lemmas.Bool.Decides.{Decides-not, Decides-eqb, Decides-and}
use Rattle.isle_ast_names.specs.Numbers.{IsSigned}
use Rattle.isle_ast_names.specs.Tree.{Name}
use Rattle.isle_ast_names.specs.Writable.{IsNot}
use Rattle.isle_ast_names.specs.WritableDeciders.{is_word, begins_with_dollar, is_name, are_names, is_bool_name, is_constant_name}
use Rattle.isle_ast_rules.specs.WritableDeciders.{is_optional_signed, is_expression_variable, is_pattern_variable, is_writable_pattern, are_writable_patterns, is_writable_expression, are_writable_expressions, are_writable_lets, is_writable_condition, is_writable_rule, is_writable_extractor}
use Rattle.isle_ast_names.proofs.Writable.Decided.{word_decided, always, true_decided, false_decided, signed_decided, never, three, four, each_decided, name_decided, names_decided, optional_name_decided, no_bool_decided}
use Rattle.isle_ast_rules.specs.RuleGrammar.{is_if_expression, pattern_is_no_head}
use Rattle.isle_ast_rules.specs.Tree.{PatternNode, var_pattern, bind_pattern, bool_pattern, int_pattern, constant_pattern, term_pattern, wildcard_pattern, and_pattern, macro_arg_pattern, PatternList, no_pattern, more_pattern, Expression, term_expression, var_expression, bool_expression, int_expression, constant_expression, let_expression, ExpressionList, no_expression, more_expression, LetList, no_let, more_let, Condition, RuleDefinition, ExtractorDefinition}
use Rattle.isle_ast_rules.specs.Writable.{IsConstantName, IsPatternVariable, IsWritablePattern, AreWritablePatterns, IsExpressionVariable, IsWritableExpression, AreWritableExpressions, AreWritableLets, IsWritableCondition, IsWritableRule, IsWritableExtractor}

pub not_word_decided : (word : List ℕ) (n : Name) → Decides (not (is_word word n)) (IsNot n word)
not_word_decided word n = Decides-not (is_word word n) (word_decided word n)

pub no_dollar_decided : (text : List ℕ) → Decides (not (begins_with_dollar text)) ((behind : List ℕ) → text ≢ 36 ∷ behind)
no_dollar_decided [] = (λ _ behind e. cc, λ _. refl)
no_dollar_decided (b ∷ bs) =
    let d = Decides-not (begins_with_dollar (b ∷ bs)) (Decides-eqb b 36) in
    (λ e behind same. d.0 e (let first : b ≡ 36 = cc in first), λ h. d.1 (λ e. h bs (ap (λ x. x ∷ bs) e)))

pub optional_signed_decided : (bits : ℕ) (n : Option ℤ) → Decides (is_optional_signed bits n) (IfSome n (IsSigned bits))
optional_signed_decided bits None = always
optional_signed_decided bits (Some n) = signed_decided bits n

-- variables and constants

pub constant_name_decided : (n : Name) → Decides (is_constant_name n) (IsConstantName n)
constant_name_decided n = (λ e. e, λ e. e)

expression_variable_decided : (n : Name) → Decides (is_expression_variable n) (IsExpressionVariable n)
expression_variable_decided n =
    let d = three (is_name n) (not (is_bool_name n)) (not (begins_with_dollar n.text)) (name_decided n) (no_bool_decided n) (no_dollar_decided n.text) in (
      λ e. let h = d.0 e in record { name = h.0; not_true = h.1.0; not_false = h.1.1; not_constant = h.2 },
      λ h. d.1 (h.name, (h.not_true, h.not_false), h.not_constant),
    )

pattern_variable_decided : (n : Name) → Decides (is_pattern_variable n) (IsPatternVariable n)
pattern_variable_decided n =
    let d = Decides-and (is_expression_variable n) (not (is_word (codes "_") n)) (expression_variable_decided n) (not_word_decided (codes "_") n) in (
      λ e. let h = d.0 e in
          record { name = h.0.name; not_wildcard = h.1; not_true = h.0.not_true; not_false = h.0.not_false; not_constant = h.0.not_constant },
      λ h. d.1 (record { name = h.name; not_true = h.not_true; not_false = h.not_false; not_constant = h.not_constant }, h.not_wildcard),
    )

-- patterns and expressions

mutual
  pattern_decided : (p : PatternNode) → Decides (is_writable_pattern p) (IsWritablePattern p)
  pattern_decided (var_pattern var _) = pattern_variable_decided var
  pattern_decided (bind_pattern var subpat _) =
      Decides-and (is_pattern_variable var) (is_writable_pattern subpat) (pattern_variable_decided var) (pattern_decided subpat)
  pattern_decided (bool_pattern _ _) = always
  pattern_decided (int_pattern val _) = signed_decided 127 val
  pattern_decided (constant_pattern val _) = constant_name_decided val
  pattern_decided (term_pattern sym args _) =
      three (is_name sym) (not (is_word (codes "and") sym)) (are_writable_patterns args)
      (name_decided sym) (not_word_decided (codes "and") sym) (patterns_decided args)
  pattern_decided (wildcard_pattern _) = always
  pattern_decided (and_pattern subpats _) = patterns_decided subpats
  pattern_decided (macro_arg_pattern _ _) = never

  patterns_decided : (ps : PatternList) → Decides (are_writable_patterns ps) (AreWritablePatterns ps)
  patterns_decided no_pattern = always
  patterns_decided (more_pattern p ps) = Decides-and (is_writable_pattern p) (are_writable_patterns ps) (pattern_decided p) (patterns_decided ps)

mutual
  expression_decided : (x : Expression) → Decides (is_writable_expression x) (IsWritableExpression x)
  expression_decided (term_expression sym args _) =
      three (is_name sym) (not (is_word (codes "let") sym)) (are_writable_expressions args)
      (name_decided sym) (not_word_decided (codes "let") sym) (expressions_decided args)
  expression_decided (var_expression name _) = expression_variable_decided name
  expression_decided (bool_expression _ _) = always
  expression_decided (int_expression val _) = signed_decided 127 val
  expression_decided (constant_expression val _) = constant_name_decided val
  expression_decided (let_expression defs body _) =
      Decides-and (are_writable_lets defs) (is_writable_expression body) (lets_decided defs) (expression_decided body)

  expressions_decided : (xs : ExpressionList) → Decides (are_writable_expressions xs) (AreWritableExpressions xs)
  expressions_decided no_expression = always
  expressions_decided (more_expression x xs) =
      Decides-and (is_writable_expression x) (are_writable_expressions xs) (expression_decided x) (expressions_decided xs)

  lets_decided : (lets : LetList) → Decides (are_writable_lets lets) (AreWritableLets lets)
  lets_decided no_let = always
  lets_decided (more_let var ty val _ lets) =
      four (is_name var) (is_name ty) (is_writable_expression val) (are_writable_lets lets)
      (name_decided var) (name_decided ty) (expression_decided val) (lets_decided lets)

-- rules and extractors

condition_decided : (c : Condition) → Decides (is_writable_condition c) (IsWritableCondition c)
condition_decided c =
    Decides-and (is_writable_pattern c.pattern) (is_writable_expression c.expr) (pattern_decided c.pattern) (expression_decided c.expr)

pub rule_decided : (r : RuleDefinition) → Decides (is_writable_rule r) (IsWritableRule r)
rule_decided r =
    let d = Decides-and _ _ (Decides-and _ _ (Decides-and _ _ (Decides-and _ _ (Decides-and _ _ (Decides-and _ _
    (optional_name_decided r.name) (optional_signed_decided 63 r.prio)) (pattern_decided r.pattern))
    (each_decided is_writable_condition IsWritableCondition condition_decided r.iflets)) (expression_decided r.expr))
    (true_decided (pattern_is_no_head r.name r.prio r.pattern))) (false_decided (is_if_expression r.expr)) in (
      λ e. let h = d.0 e in
          record {
            name = h.0.0.0.0.0.0;
            prio = h.0.0.0.0.0.1;
            pattern = h.0.0.0.0.1;
            iflets = h.0.0.0.1;
            expr = h.0.0.1;
            pattern_is_no_head = h.0.1;
            expr_is_no_condition = h.1;
          },
      λ h. d.1 ((((((h.name, h.prio), h.pattern), h.iflets), h.expr), h.pattern_is_no_head), h.expr_is_no_condition),
    )

pub extractor_decided : (e : ExtractorDefinition) → Decides (is_writable_extractor e) (IsWritableExtractor e)
extractor_decided e =
    three (is_name e.term) (are_names e.args) (is_writable_pattern e.template) (name_decided e.term) (names_decided e.args) (pattern_decided e.template)
