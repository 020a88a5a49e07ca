-- The tokens of the shape of a writable pattern, expression, rule or extractor spell it, erased.
use Rattle.std.proofs.Common.{[], ◌≡◌, ◌≢◌, ℕ, ℤ, List, ◌∷◌, ◌++◌, codes, true, false, ◌||◌, not, Option, None, Some, IfSome, inl, refl, ap, ◌∙◌, ne_eqb}
use Rattle.std.proofs.lemmas.Bool.{and_from}
use Rattle.std.specs.Str.{bytes_eq}
use Rattle.isle_base.specs.Place.{Placed, unknown}
use Rattle.isle_base.specs.Token.{Tok, rparen, symbol, integer, at_sign}
use Rattle.isle_ast_names.proofs.IdentifierBytes.{identifier_is_symbol}
use Rattle.isle_ast_names.specs.Numbers.{IsSigned, SpellsPriority}
use Rattle.isle_ast_names.specs.Tree.{Name}
use Rattle.isle_ast_rules.specs.Tree.{PatternNode, var_pattern, bind_pattern, bool_pattern, int_pattern, constant_pattern, term_pattern, wildcard_pattern, and_pattern, macro_arg_pattern, PatternList}
use Rattle.isle_ast_rules.specs.Tree.{no_pattern, more_pattern, Expression, term_expression, var_expression, bool_expression, int_expression, constant_expression, let_expression, ExpressionList}
use Rattle.isle_ast_rules.specs.Tree.{no_expression, more_expression, LetList, no_let, more_let, Condition, RuleDefinition, ExtractorDefinition}
use Rattle.isle_ast_names.specs.Words.{SpellsToken, BeginsAt, SpellsAll, InParentheses, BehindWord, SpellsName, SpellsOptional, is_constant, bool_word, is_bool_word}
use Rattle.isle_ast_names.specs.Erased.{erase_name, erase_names, erase_optional}
use Rattle.isle_ast_rules.proofs.Lawful.Rules.{no_head_erased, if_erased}
use Rattle.isle_ast_rules.specs.Erased.{erase_pattern, erase_patterns, erase_expression, erase_expressions, erase_lets, erase_condition, erase_rule, erase_extractor}
use Rattle.isle_ast_rules.specs.ExpressionGrammar.{is_variable_of_expressions, SpellsExpressionVariable, SpellsExpression, SpellsExpressions, SpellsLets}
use Rattle.isle_ast_rules.specs.PatternGrammar.{is_variable_of_patterns, SpellsVariable, SpellsPattern, SpellsPatterns}
use Rattle.isle_ast_rules.specs.RuleGrammar.{SpellsMatch, SpellsCondition, SpellsRule, SpellsExtractor}
use Rattle.isle_ast_names.specs.Writable.{IsName}
use Rattle.isle_ast_rules.specs.Writable.{HasNoDollar, IsPatternVariable, IsExpressionVariable, IsWritablePattern, AreWritablePatterns, IsWritableExpression, AreWritableExpressions, AreWritableLets}
use Rattle.isle_ast_rules.specs.Writable.{IsWritableCondition, IsWritableRule, IsWritableExtractor}
use Rattle.isle_printer_layout.specs.ReadBack.{ReadsAs, unplaced}
use Rattle.isle_printer.specs.RuleShapes.{pattern_shape, pattern_shapes, expression_shape, expression_shapes, let_shapes, condition_shape, rule_name_shape, priority_shape, rule_shape, extractor_shape}
use Rattle.isle_printer_layout.specs.Sexp.{Sexp, atom, binding, list_of}
use Rattle.isle_printer_layout.specs.NameShapes.{name_shape, name_shapes}
use Rattle.isle_printer_layout.proofs.NumberAtoms.{signed_decimal-ReadsAs}
use Rattle.isle_printer_layout.proofs.Spellings.{◌then◌, item-ahead, items-ahead, Spelling, placed, spell-nothing, spell-word, spell-name, spell-all, spell-names, spell-list, spell-form, InTurn}
use Rattle.isle_printer_layout.proofs.Spellings.{spell-turn, differs-test, spell-constant, word-bool, spell-integer}
use Rattle.isle_printer_layout.proofs.WordSymbols.{word-and, word-let, word-if_let, word-underscore, word-rule, word-extractor}

-- the tests on a variable

no_dollar : (n : Name) → HasNoDollar n → is_constant n.text ≡ false
no_dollar n other = first n.text other
  where
    first : (text : List ℕ) → ((behind : List ℕ) → text ≢ 36 ∷ behind) → is_constant text ≡ false
    first [] other = refl
    first (b ∷ bs) other = ne_eqb b 36 (λ e. other bs (ap (λ x. x ∷ bs) e))

differs : (text word : List ℕ) → text ≢ word → not (bytes_eq text word) ≡ true
differs text word other = ap not (differs-test text word _ refl other)

no_bool_word : (text : List ℕ) → text ≢ codes "true" → text ≢ codes "false" → not (is_bool_word text) ≡ true
no_bool_word text not_true not_false =
    ap (λ t. not (t || bytes_eq text (codes "false"))) (differs-test text (codes "true") _ refl not_true)
    ∙ differs text (codes "false") not_false

variable-test : (n : Name) → IsPatternVariable n → is_variable_of_patterns n.text ≡ true
variable-test n is =
    and_from _ _
    (and_from _ _ (and_from _ _ is.name (ap not (no_dollar n is.not_constant))) (differs n.text (codes "_") is.not_wildcard))
    (no_bool_word n.text is.not_true is.not_false)

expression_variable-test : (n : Name) → IsExpressionVariable n → is_variable_of_expressions n.text ≡ true
expression_variable-test n is =
    and_from _ _ (and_from _ _ is.name (ap not (no_dollar n is.not_constant))) (no_bool_word n.text is.not_true is.not_false)

-- patterns

spell-variable : (n : Name) → IsPatternVariable n → (rest : List Tok) → Spelling (name_shape n ∷ []) (SpellsVariable (erase_name n)) rest
spell-variable n is rest =
    let s = spell-name n is.name rest in
    record { all = s.all; tokens = s.tokens; spells = (variable-test n is, s.spells.1) }

-- a variable, `@`, and what is bound
spell-binding : (n : Name) → IsPatternVariable n → (bound : Sexp) (Spells : List Placed → List Placed → Type 0) (rest : List Tok) → Spelling (bound ∷ []) Spells rest
    → Spelling (binding n.text bound ∷ []) (λ all rest. BeginsAt unknown all × (mid inner : List Placed) × SpellsVariable (erase_name n) all mid × SpellsToken at_sign mid inner × Spells inner rest) rest
spell-binding n is bound Spells rest s =
    let reads : ReadsAs n.text (symbol n.text) = λ text apart. identifier_is_symbol n.text text is.name apart in
    record {
      all = symbol n.text ∷ at_sign ∷ s.all;
      tokens = record { are = (s.tokens.are.0, (symbol n.text, s.all, refl, reads, refl, s.tokens.are.1), s.tokens.are.2) };
      spells = (
        (symbol n.text, unplaced (at_sign ∷ s.all), refl),
        unplaced (at_sign ∷ s.all),
        unplaced s.all,
        (variable-test n is, refl),
        (unknown, refl),
        s.spells,
      );
    }

mutual
  pub spell-pattern : (p : PatternNode) → IsWritablePattern p → (rest : List Tok) → Spelling (pattern_shape p ∷ []) (SpellsPattern (erase_pattern p)) rest
  spell-pattern (var_pattern var _) is rest = placed (spell-variable var is rest)
  spell-pattern (bind_pattern var subpat _) is rest =
      spell-binding var is.0 (pattern_shape subpat) (SpellsPattern (erase_pattern subpat)) rest (spell-pattern subpat is.1 rest)
  spell-pattern (bool_pattern val _) is rest = placed (spell-word (bool_word val) (word-bool val) rest)
  spell-pattern (int_pattern val _) is rest = placed (spell-integer val is rest)
  spell-pattern (constant_pattern val _) is rest = placed (spell-constant val is rest)
  spell-pattern (term_pattern sym args _) is rest =
      let behind = spell-patterns args is.2 (rparen ∷ rest) in
      let name = spell-name sym is.0 behind.all in
      let s = spell-list (name_shape sym ∷ pattern_shapes args) (InTurn (SpellsName (erase_name sym)) (SpellsPatterns (erase_patterns args))) rest (spell-turn behind name) in
      record { all = s.all; tokens = s.tokens; spells = (differs-test sym.text (codes "and") _ refl is.1, item-ahead s.tokens, s.spells) }
  spell-pattern (wildcard_pattern _) is rest = placed (spell-word (codes "_") word-underscore rest)
  spell-pattern (and_pattern subpats _) is rest =
      placed (spell-form (codes "and") word-and (pattern_shapes subpats) (SpellsPatterns (erase_patterns subpats)) rest (spell-patterns subpats is (rparen ∷ rest)))
  spell-pattern (macro_arg_pattern _ _) is rest = absurd is

  spell-patterns : (ps : PatternList) → AreWritablePatterns ps → (rest : List Tok) → Spelling (pattern_shapes ps) (SpellsPatterns (erase_patterns ps)) rest
  spell-patterns no_pattern is rest = spell-nothing rest
  spell-patterns (more_pattern p ps) is rest =
      let behind = spell-patterns ps is.1 rest in
      spell-turn behind (spell-pattern p is.0 behind.all)

-- expressions

spell-expression_variable : (n : Name) → IsExpressionVariable n → (rest : List Tok) → Spelling (name_shape n ∷ []) (SpellsExpressionVariable (erase_name n)) rest
spell-expression_variable n is rest =
    let s = spell-name n is.name rest in
    record { all = s.all; tokens = s.tokens; spells = (expression_variable-test n is, s.spells.1) }

mutual
  pub spell-expression : (x : Expression) → IsWritableExpression x → (rest : List Tok) → Spelling (expression_shape x ∷ []) (SpellsExpression (erase_expression x)) rest
  spell-expression (term_expression sym args _) is rest =
      let behind = spell-expressions args is.2 (rparen ∷ rest) in
      let name = spell-name sym is.0 behind.all in
      let s = spell-list (name_shape sym ∷ expression_shapes args) (InTurn (SpellsName (erase_name sym)) (SpellsExpressions (erase_expressions args))) rest (spell-turn behind name) in
      record { all = s.all; tokens = s.tokens; spells = (differs-test sym.text (codes "let") _ refl is.1, item-ahead s.tokens, s.spells) }
  spell-expression (var_expression name _) is rest = placed (spell-expression_variable name is rest)
  spell-expression (bool_expression val _) is rest = placed (spell-word (bool_word val) (word-bool val) rest)
  spell-expression (int_expression val _) is rest = placed (spell-integer val is rest)
  spell-expression (constant_expression val _) is rest = placed (spell-constant val is rest)
  spell-expression (let_expression defs body _) is rest =
      let second = spell-expression body is.1 (rparen ∷ rest) in
      let first = spell-list (let_shapes defs) (SpellsLets (erase_lets defs)) second.all (spell-lets defs is.0 (rparen ∷ second.all)) in
      placed
      (spell-form (codes "let") word-let
      (list_of (let_shapes defs) ∷ expression_shape body ∷ [])
      (InTurn (InParentheses (SpellsLets (erase_lets defs))) (SpellsExpression (erase_expression body)))
      rest
      (spell-turn second first))

  spell-expressions : (xs : ExpressionList) → AreWritableExpressions xs → (rest : List Tok) → Spelling (expression_shapes xs) (SpellsExpressions (erase_expressions xs)) rest
  spell-expressions no_expression is rest = spell-nothing rest
  spell-expressions (more_expression x xs) is rest =
      let behind = spell-expressions xs is.1 rest in
      spell-turn behind (spell-expression x is.0 behind.all)

  spell-lets : (ds : LetList) → AreWritableLets ds → (rest : List Tok) → Spelling (let_shapes ds) (SpellsLets (erase_lets ds)) rest
  spell-lets no_let is rest = spell-nothing rest
  spell-lets (more_let var ty val _ lets) is rest =
      let behind = spell-lets lets is.3 rest in
      let third = spell-expression val is.2 (rparen ∷ behind.all) in
      let second = spell-name ty is.1 third.all in
      let first = spell-name var is.0 second.all in
      let inner : Spelling (name_shape var ∷ name_shape ty ∷ expression_shape val ∷ [])
      (λ inner close. (behind_var behind_ty : List Placed) × SpellsName (erase_name var) inner behind_var × SpellsName (erase_name ty) behind_var behind_ty
      × SpellsExpression (erase_expression val) behind_ty close)
      (rparen ∷ behind.all) =
      record {
        all = first.all;
        tokens = first.tokens then second.tokens then third.tokens;
        spells = (unplaced second.all, unplaced third.all, first.spells, second.spells, third.spells);
      } in
      spell-turn behind (placed (spell-list _ _ behind.all inner))

-- conditions, rules, extractors

spell-condition : (c : Condition) → IsWritableCondition c → (rest : List Tok) → Spelling (condition_shape c ∷ []) (SpellsCondition (erase_condition c)) rest
spell-condition c is rest =
    let second = spell-expression c.expr is.1 (rparen ∷ rest) in
    let first = spell-pattern c.pattern is.0 second.all in
    let s = spell-form (codes "if-let") word-if_let
    (pattern_shape c.pattern ∷ expression_shape c.expr ∷ [])
    (λ inner close. BeginsAt unknown inner × SpellsMatch (erase_condition c) inner close)
    rest
    (placed (spell-turn second first)) in
    record { all = s.all; tokens = s.tokens; spells = inl s.spells }

spell-rule_name : (name : Option Name) → IfSome name IsName → (rest : List Tok) → Spelling (rule_name_shape name) (SpellsOptional SpellsName (erase_optional name)) rest
spell-rule_name None is rest = spell-nothing rest
spell-rule_name (Some name) is rest = spell-name name is rest

spell-priority : (prio : Option ℤ) → IfSome prio (IsSigned 63) → (rest : List Tok) → Spelling (priority_shape prio) (SpellsOptional SpellsPriority prio) rest
spell-priority None fits rest = spell-nothing rest
spell-priority (Some z) fits rest = record {
  all = integer z ∷ rest;
  tokens = record { are = (rest, (integer z, refl, signed_decimal-ReadsAs z fits, refl), refl) };
  spells = (fits, (unknown, refl));
}

pub spell-rule : (r : RuleDefinition) → IsWritableRule r → (rest : List Tok) → Spelling (rule_shape r ∷ []) (InParentheses (BehindWord (codes "rule") (SpellsRule (erase_rule r)))) rest
spell-rule r is rest =
    let expr = spell-expression r.expr is.expr (rparen ∷ rest) in
    let iflets = spell-all condition_shape erase_condition SpellsCondition IsWritableCondition spell-condition r.iflets is.iflets expr.all in
    let pattern = spell-pattern r.pattern is.pattern iflets.all in
    let prio = spell-priority r.prio is.prio pattern.all in
    let name = spell-rule_name r.name is.name prio.all in
    let word = spell-word (codes "rule") word-rule name.all in
    spell-list _
    (BehindWord (codes "rule") (SpellsRule (erase_rule r)))
    rest
    (record {
      all = word.all;
      tokens = word.tokens then name.tokens then prio.tokens then pattern.tokens then iflets.tokens then expr.tokens;
      spells = (
        unplaced name.all,
        word.spells,
        record {
          pattern_is_no_head = no_head_erased r.name r.prio r.pattern ∙ is.pattern_is_no_head;
          expr_is_no_condition = if_erased r.expr ∙ is.expr_is_no_condition;
          position = items-ahead name.tokens (items-ahead prio.tokens (item-ahead pattern.tokens));
          behind_name = unplaced prio.all;
          name = name.spells;
          behind_prio = unplaced pattern.all;
          prio = prio.spells;
          behind_pattern = unplaced iflets.all;
          pattern = pattern.spells;
          behind_iflets = unplaced expr.all;
          iflets = iflets.spells;
          expr = expr.spells;
        },
      );
    })

pub spell-extractor_definition : (e : ExtractorDefinition) → IsWritableExtractor e → (rest : List Tok) → Spelling (extractor_shape e ∷ []) (InParentheses (BehindWord (codes "extractor") (SpellsExtractor (erase_extractor e)))) rest
spell-extractor_definition e is rest =
    let template = spell-pattern e.template is.2 (rparen ∷ rest) in
    let args = spell-names e.args is.1 (rparen ∷ template.all) in
    let term = spell-name e.term is.0 args.all in
    let head = spell-list (name_shape e.term ∷ name_shapes e.args) (InTurn (SpellsName (erase_name e.term)) (SpellsAll SpellsName (erase_names e.args))) template.all (spell-turn args term) in
    let word = spell-word (codes "extractor") word-extractor head.all in
    spell-list
    (atom (codes "extractor") ∷ [] ++ list_of (name_shape e.term ∷ name_shapes e.args) ∷ [] ++ pattern_shape e.template ∷ [])
    (BehindWord (codes "extractor") (SpellsExtractor (erase_extractor e)))
    rest
    (record {
      all = word.all;
      tokens = word.tokens then head.tokens then template.tokens;
      spells = (
        unplaced head.all,
        word.spells,
        record {
          position = item-ahead head.tokens;
          behind_head = unplaced template.all;
          head = head.spells;
          template = template.spells;
        },
      );
    })
