-- Where the encodings of patterns, expressions and rules end.
use Rattle.std.proofs.Common.{◌≡◌, ℕ, suc, List, [], ◌∷◌, ◌++◌, Option, length, map, refl, ap, sym, ◌∙◌, arith}
use Rattle.isle_base_source.specs.declared.pos.Pos.{Pos}
use Rattle.isle_ast_names.specs.Tree.{Name}
use Rattle.isle_encoding.specs.Numbers.{flag, integer, list, number, option}
use Rattle.isle_encoding.specs.Names.{name, names, position, text}
use Rattle.isle_ast_rules.specs.Tree.{PatternNode, var_pattern, bind_pattern, bool_pattern, int_pattern, constant_pattern, term_pattern, wildcard_pattern, and_pattern, macro_arg_pattern, PatternList}
use Rattle.isle_ast_rules.specs.Tree.{no_pattern, more_pattern, Expression, term_expression, var_expression, bool_expression, int_expression, constant_expression, let_expression, ExpressionList}
use Rattle.isle_ast_rules.specs.Tree.{no_expression, more_expression, LetList, no_let, more_let, Condition, RuleDefinition, ExtractorDefinition}
use Rattle.isle_encoding.specs.Rules.{pattern_count, pattern, patterns, expression_count, let_count, expression, expressions, lets, condition, rule, extractor}
use Rattle.isle_encoding.proofs.Ends.{apart, counted, flag_ends, front, integer_ends, list_ends, number_ends, option_ends, parts_2, parts_3, parts_4, parts_5, parts_6, parts_7, parts_8, regroup, rest}
use Rattle.isle_encoding.proofs.NameEnds.{name_ends, names_end, position_ends}

mutual
  pub pattern_ends : (x y : PatternNode) (r s : List ℕ) → pattern x ++ r ≡ pattern y ++ s → (x ≡ y) × (r ≡ s)
  pattern_ends (var_pattern x0 x1) (var_pattern y0 y1) r s same =
      let parts = parts_2 (name x0) (position x1) (name y0) (position y1)
      r s (rest 0 0 _ _ same) in
      let v0 = name_ends x0 y0 _ _ parts in
      let v1 = position_ends x1 y1 _ _ v0.1 in
      ((λ i. var_pattern (v0.0 i) (v1.0 i)), v1.1)
  pattern_ends (bind_pattern x0 x1 x2) (bind_pattern y0 y1 y2) r s same =
      let parts = parts_3 (name x0) (pattern x1) (position x2) (name y0) (pattern y1) (position y2)
      r s (rest 1 1 _ _ same) in
      let v0 = name_ends x0 y0 _ _ parts in
      let v1 = pattern_ends x1 y1 _ _ v0.1 in
      let v2 = position_ends x2 y2 _ _ v1.1 in
      ((λ i. bind_pattern (v0.0 i) (v1.0 i) (v2.0 i)), v2.1)
  pattern_ends (bool_pattern x0 x1) (bool_pattern y0 y1) r s same =
      let parts = parts_2 (flag x0) (position x1) (flag y0) (position y1)
      r s (rest 2 2 _ _ same) in
      let v0 = flag_ends x0 y0 _ _ parts in
      let v1 = position_ends x1 y1 _ _ v0.1 in
      ((λ i. bool_pattern (v0.0 i) (v1.0 i)), v1.1)
  pattern_ends (int_pattern x0 x1) (int_pattern y0 y1) r s same =
      let parts = parts_2 (integer x0) (position x1) (integer y0) (position y1)
      r s (rest 3 3 _ _ same) in
      let v0 = integer_ends x0 y0 _ _ parts in
      let v1 = position_ends x1 y1 _ _ v0.1 in
      ((λ i. int_pattern (v0.0 i) (v1.0 i)), v1.1)
  pattern_ends (constant_pattern x0 x1) (constant_pattern y0 y1) r s same =
      let parts = parts_2 (name x0) (position x1) (name y0) (position y1)
      r s (rest 4 4 _ _ same) in
      let v0 = name_ends x0 y0 _ _ parts in
      let v1 = position_ends x1 y1 _ _ v0.1 in
      ((λ i. constant_pattern (v0.0 i) (v1.0 i)), v1.1)
  pattern_ends (term_pattern x0 x1 x2) (term_pattern y0 y1 y2) r s same =
      let parts = parts_3 (name x0) (number (pattern_count x1) ++ patterns x1) (position x2) (name y0) (number (pattern_count y1) ++ patterns y1) (position y2)
      r s (rest 5 5 _ _ same) in
      let v0 = name_ends x0 y0 _ _ parts in
      let c1 = counted (pattern_count x1) (pattern_count y1) (patterns x1) (patterns y1) _ _ v0.1 in
      let v1 = patterns_end x1 y1 _ _ c1.0 c1.1 in
      let v2 = position_ends x2 y2 _ _ v1.1 in
      ((λ i. term_pattern (v0.0 i) (v1.0 i) (v2.0 i)), v2.1)
  pattern_ends (wildcard_pattern x0) (wildcard_pattern y0) r s same =
      let v0 = position_ends x0 y0 _ _ (rest 6 6 _ _ same) in
      ((λ i. wildcard_pattern (v0.0 i)), v0.1)
  pattern_ends (and_pattern x0 x1) (and_pattern y0 y1) r s same =
      let parts = parts_2 (number (pattern_count x0) ++ patterns x0) (position x1) (number (pattern_count y0) ++ patterns y0) (position y1)
      r s (rest 7 7 _ _ same) in
      let c0 = counted (pattern_count x0) (pattern_count y0) (patterns x0) (patterns y0) _ _ parts in
      let v0 = patterns_end x0 y0 _ _ c0.0 c0.1 in
      let v1 = position_ends x1 y1 _ _ v0.1 in
      ((λ i. and_pattern (v0.0 i) (v1.0 i)), v1.1)
  pattern_ends (macro_arg_pattern x0 x1) (macro_arg_pattern y0 y1) r s same =
      let parts = parts_2 (number x0) (position x1) (number y0) (position y1)
      r s (rest 8 8 _ _ same) in
      let v0 = number_ends x0 y0 _ _ parts in
      let v1 = position_ends x1 y1 _ _ v0.1 in
      ((λ i. macro_arg_pattern (v0.0 i) (v1.0 i)), v1.1)
  pattern_ends _ _ r s same = absurd (apart _ _ _ _ same refl)

  pub patterns_end : (xs ys : PatternList) (r s : List ℕ) → pattern_count xs ≡ pattern_count ys → patterns xs ++ r ≡ patterns ys ++ s → (xs ≡ ys) × (r ≡ s)
  patterns_end no_pattern no_pattern r s counts same = (refl, same)
  patterns_end (more_pattern x0 xs) (more_pattern y0 ys) r s counts same =
      let first = regroup ((pattern x0)) ((pattern y0))
      (patterns xs) (patterns ys) r s same in
      let v0 = pattern_ends x0 y0 _ _ first in
      let others = patterns_end xs ys r s (omega arith) v0.1 in
      ((λ i. more_pattern (v0.0 i) (others.0 i)), others.1)
  patterns_end _ _ r s counts same = absurd (omega arith)

mutual
  pub expression_ends : (x y : Expression) (r s : List ℕ) → expression x ++ r ≡ expression y ++ s → (x ≡ y) × (r ≡ s)
  expression_ends (term_expression x0 x1 x2) (term_expression y0 y1 y2) r s same =
      let parts = parts_3 (name x0) (number (expression_count x1) ++ expressions x1) (position x2) (name y0) (number (expression_count y1) ++ expressions y1) (position y2)
      r s (rest 0 0 _ _ same) in
      let v0 = name_ends x0 y0 _ _ parts in
      let c1 = counted (expression_count x1) (expression_count y1) (expressions x1) (expressions y1) _ _ v0.1 in
      let v1 = expressions_end x1 y1 _ _ c1.0 c1.1 in
      let v2 = position_ends x2 y2 _ _ v1.1 in
      ((λ i. term_expression (v0.0 i) (v1.0 i) (v2.0 i)), v2.1)
  expression_ends (var_expression x0 x1) (var_expression y0 y1) r s same =
      let parts = parts_2 (name x0) (position x1) (name y0) (position y1)
      r s (rest 1 1 _ _ same) in
      let v0 = name_ends x0 y0 _ _ parts in
      let v1 = position_ends x1 y1 _ _ v0.1 in
      ((λ i. var_expression (v0.0 i) (v1.0 i)), v1.1)
  expression_ends (bool_expression x0 x1) (bool_expression y0 y1) r s same =
      let parts = parts_2 (flag x0) (position x1) (flag y0) (position y1)
      r s (rest 2 2 _ _ same) in
      let v0 = flag_ends x0 y0 _ _ parts in
      let v1 = position_ends x1 y1 _ _ v0.1 in
      ((λ i. bool_expression (v0.0 i) (v1.0 i)), v1.1)
  expression_ends (int_expression x0 x1) (int_expression y0 y1) r s same =
      let parts = parts_2 (integer x0) (position x1) (integer y0) (position y1)
      r s (rest 3 3 _ _ same) in
      let v0 = integer_ends x0 y0 _ _ parts in
      let v1 = position_ends x1 y1 _ _ v0.1 in
      ((λ i. int_expression (v0.0 i) (v1.0 i)), v1.1)
  expression_ends (constant_expression x0 x1) (constant_expression y0 y1) r s same =
      let parts = parts_2 (name x0) (position x1) (name y0) (position y1)
      r s (rest 4 4 _ _ same) in
      let v0 = name_ends x0 y0 _ _ parts in
      let v1 = position_ends x1 y1 _ _ v0.1 in
      ((λ i. constant_expression (v0.0 i) (v1.0 i)), v1.1)
  expression_ends (let_expression x0 x1 x2) (let_expression y0 y1 y2) r s same =
      let parts = parts_3 (number (let_count x0) ++ lets x0) (expression x1) (position x2) (number (let_count y0) ++ lets y0) (expression y1) (position y2)
      r s (rest 5 5 _ _ same) in
      let c0 = counted (let_count x0) (let_count y0) (lets x0) (lets y0) _ _ parts in
      let v0 = lets_end x0 y0 _ _ c0.0 c0.1 in
      let v1 = expression_ends x1 y1 _ _ v0.1 in
      let v2 = position_ends x2 y2 _ _ v1.1 in
      ((λ i. let_expression (v0.0 i) (v1.0 i) (v2.0 i)), v2.1)
  expression_ends _ _ r s same = absurd (apart _ _ _ _ same refl)

  pub expressions_end : (xs ys : ExpressionList) (r s : List ℕ) → expression_count xs ≡ expression_count ys → expressions xs ++ r ≡ expressions ys ++ s → (xs ≡ ys) × (r ≡ s)
  expressions_end no_expression no_expression r s counts same = (refl, same)
  expressions_end (more_expression x0 xs) (more_expression y0 ys) r s counts same =
      let first = regroup ((expression x0)) ((expression y0))
      (expressions xs) (expressions ys) r s same in
      let v0 = expression_ends x0 y0 _ _ first in
      let others = expressions_end xs ys r s (omega arith) v0.1 in
      ((λ i. more_expression (v0.0 i) (others.0 i)), others.1)
  expressions_end _ _ r s counts same = absurd (omega arith)

  pub lets_end : (xs ys : LetList) (r s : List ℕ) → let_count xs ≡ let_count ys → lets xs ++ r ≡ lets ys ++ s → (xs ≡ ys) × (r ≡ s)
  lets_end no_let no_let r s counts same = (refl, same)
  lets_end (more_let x0 x1 x2 x3 xs) (more_let y0 y1 y2 y3 ys) r s counts same =
      let first = regroup ((name x0) ++ (name x1) ++ (expression x2) ++ (position x3)) ((name y0) ++ (name y1) ++ (expression y2) ++ (position y3))
      (lets xs) (lets ys) r s same in
      let parts = parts_4 (name x0) (name x1) (expression x2) (position x3) (name y0) (name y1) (expression y2) (position y3)
      (lets xs ++ r) (lets ys ++ s) first in
      let v0 = name_ends x0 y0 _ _ parts in
      let v1 = name_ends x1 y1 _ _ v0.1 in
      let v2 = expression_ends x2 y2 _ _ v1.1 in
      let v3 = position_ends x3 y3 _ _ v2.1 in
      let others = lets_end xs ys r s (omega arith) v3.1 in
      ((λ i. more_let (v0.0 i) (v1.0 i) (v2.0 i) (v3.0 i) (others.0 i)), others.1)
  lets_end _ _ r s counts same = absurd (omega arith)

pub condition_ends : (x y : Condition) (r s : List ℕ) → condition x ++ r ≡ condition y ++ s → (x ≡ y) × (r ≡ s)
condition_ends x y r s same =
    let parts = parts_3 (pattern x.pattern) (expression x.expr) (position x.pos) (pattern y.pattern) (expression y.expr) (position y.pos)
    r s same in
    let v0 = pattern_ends x.pattern y.pattern _ _ parts in
    let v1 = expression_ends x.expr y.expr _ _ v0.1 in
    let v2 = position_ends x.pos y.pos _ _ v1.1 in
    ((λ i. record { pattern = v0.0 i; expr = v1.0 i; pos = v2.0 i }), v2.1)

pub rule_ends : (x y : RuleDefinition) (r s : List ℕ) → rule x ++ r ≡ rule y ++ s → (x ≡ y) × (r ≡ s)
rule_ends x y r s same =
    let parts = parts_6 (pattern x.pattern) (list condition x.iflets) (expression x.expr) (position x.pos) (option integer x.prio) (option name x.name) (pattern y.pattern) (list condition y.iflets) (expression y.expr) (position y.pos) (option integer y.prio) (option name y.name)
    r s same in
    let v0 = pattern_ends x.pattern y.pattern _ _ parts in
    let v1 = list_ends condition condition_ends x.iflets y.iflets _ _ v0.1 in
    let v2 = expression_ends x.expr y.expr _ _ v1.1 in
    let v3 = position_ends x.pos y.pos _ _ v2.1 in
    let v4 = option_ends integer integer_ends x.prio y.prio _ _ v3.1 in
    let v5 = option_ends name name_ends x.name y.name _ _ v4.1 in
    ((λ i. record { pattern = v0.0 i; iflets = v1.0 i; expr = v2.0 i; pos = v3.0 i; prio = v4.0 i; name = v5.0 i }), v5.1)

pub extractor_ends : (x y : ExtractorDefinition) (r s : List ℕ) → extractor x ++ r ≡ extractor y ++ s → (x ≡ y) × (r ≡ s)
extractor_ends x y r s same =
    let parts = parts_4 (name x.term) (names x.args) (pattern x.template) (position x.pos) (name y.term) (names y.args) (pattern y.template) (position y.pos)
    r s same in
    let v0 = name_ends x.term y.term _ _ parts in
    let v1 = names_end x.args y.args _ _ v0.1 in
    let v2 = pattern_ends x.template y.template _ _ v1.1 in
    let v3 = position_ends x.pos y.pos _ _ v2.1 in
    ((λ i. record { term = v0.0 i; args = v1.0 i; template = v2.0 i; pos = v3.0 i }), v3.1)
