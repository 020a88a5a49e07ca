-- The relations of patterns keep the laws.
use Rattle.std.proofs.Common.{◌≡◌, ℤ, List, Bool, false, codes, refl}
use Rattle.std.specs.Str.{bytes_eq}
use Rattle.isle_base_source.specs.declared.pos.Pos.{Pos}
use Rattle.isle_base.specs.Place.{Placed, unknown}
use Rattle.isle_base.specs.Token.{symbol, at_sign}
use Rattle.isle_ast_names.specs.Numbers.{SpellsInteger}
use Rattle.isle_ast_names.specs.Tree.{Name}
use Rattle.isle_ast_rules.specs.Tree.{PatternNode, var_pattern, bind_pattern, bool_pattern, int_pattern, constant_pattern, term_pattern, wildcard_pattern, and_pattern, macro_arg_pattern, PatternList, no_pattern, more_pattern}
use Rattle.isle_ast_names.specs.Words.{SpellsToken, SpellsWord, InParentheses, BehindWord, SpellsName, bool_word, SpellsConstant}
use Rattle.isle_ast_names.specs.Erased.{erase_name}
use Rattle.isle_ast_rules.specs.Erased.{erase_pattern, erase_patterns}
use Rattle.isle_ast_rules.specs.PatternGrammar.{is_variable_of_patterns, SpellsVariable, SpellsPattern, SpellsPatterns}
use Rattle.isle_ast_names.proofs.Lawful.{Lawful, Begins, Then, token_plain, word_plain, nothing_plain, plain_lawful, value_lawful, tested_lawful, name_lawful, constant_lawful, before_lawful, pair_lawful, where_lawful, made_lawful, made_at_lawful, parentheses_lawful, word_lawful, token_begins, parentheses_begin}
use Rattle.isle_ast_names.proofs.LawfulWords.{integer_plain, integer_begins}

variable_lawful : (n : Name) → Lawful SpellsVariable erase_name n
variable_lawful n = tested_lawful is_variable_of_patterns n

variable_begins : (n : Name) → Begins (SpellsVariable n)
variable_begins n all rest h e = let f = h.1 in cc

pub constant_begins : (n : Name) → Begins (SpellsConstant n)
constant_begins n all rest h e = let f = h.1 in cc

-- which patterns erase to the same

is_var : (var : Name) (y : PatternNode) → var_pattern (erase_name var) unknown ≡ erase_pattern y →
    (z : Pos × Name) × (y ≡ var_pattern z.1 z.0) × (erase_name var ≡ erase_name z.1)
is_var var (var_pattern n p) same = ((p, n), refl, cc)
is_var var _ same = cc

abbrev BoundNode : Type 0
BoundNode = Name × PatternNode

abbrev erase_bound : BoundNode → BoundNode
erase_bound p = (erase_name p.0, erase_pattern p.1)

abbrev Bound : BoundNode → List Placed → List Placed → Type 0
Bound p = Then (SpellsVariable p.0) (Then (SpellsToken at_sign) (SpellsPattern p.1))

is_bind : (x : BoundNode) (y : PatternNode) → bind_pattern (erase_name x.0) (erase_pattern x.1) unknown ≡ erase_pattern y →
    (z : Pos × BoundNode) × (y ≡ bind_pattern z.1.0 z.1.1 z.0) × (erase_bound x ≡ erase_bound z.1)
is_bind x (bind_pattern n q p) same =
    let names : erase_name x.0 ≡ erase_name n = cc in
    let patterns : erase_pattern x.1 ≡ erase_pattern q = cc in
    ((p, (n, q)), refl, λ i. (names i, patterns i))
is_bind x _ same = cc

is_bool : (val : Bool) (y : PatternNode) → bool_pattern val unknown ≡ erase_pattern y →
    (z : Pos × Bool) × (y ≡ bool_pattern z.1 z.0) × (val ≡ z.1)
is_bool val (bool_pattern b p) same = ((p, b), refl, cc)
is_bool val _ same = cc

is_int : (val : ℤ) (y : PatternNode) → int_pattern val unknown ≡ erase_pattern y →
    (z : Pos × ℤ) × (y ≡ int_pattern z.1 z.0) × (val ≡ z.1)
is_int val (int_pattern n p) same = ((p, n), refl, cc)
is_int val _ same = cc

is_a_constant : (val : Name) (y : PatternNode) → constant_pattern (erase_name val) unknown ≡ erase_pattern y →
    (z : Pos × Name) × (y ≡ constant_pattern z.1 z.0) × (erase_name val ≡ erase_name z.1)
is_a_constant val (constant_pattern n p) same = ((p, n), refl, cc)
is_a_constant val _ same = cc

abbrev TermNode : Type 0
TermNode = Name × PatternList

abbrev erase_term : TermNode → TermNode
erase_term p = (erase_name p.0, erase_patterns p.1)

abbrev Term : TermNode → List Placed → List Placed → Type 0
Term p = InParentheses (Then (SpellsName p.0) (SpellsPatterns p.1))

abbrev IsNoAnd : TermNode → Type 0
IsNoAnd p = bytes_eq p.0.text (codes "and") ≡ false

is_term : (x : TermNode) (y : PatternNode) → term_pattern (erase_name x.0) (erase_patterns x.1) unknown ≡ erase_pattern y →
    (z : Pos × TermNode) × (y ≡ term_pattern z.1.0 z.1.1 z.0) × (erase_term x ≡ erase_term z.1)
is_term x (term_pattern n ps p) same =
    let names : erase_name x.0 ≡ erase_name n = cc in
    let lists : erase_patterns x.1 ≡ erase_patterns ps = cc in
    ((p, (n, ps)), refl, λ i. (names i, lists i))
is_term x _ same = cc

is_wildcard : (x : Unit {0}) (y : PatternNode) → wildcard_pattern unknown ≡ erase_pattern y →
    (z : Pos × Unit {0}) × (y ≡ wildcard_pattern z.0) × (x ≡ z.1)
is_wildcard x (wildcard_pattern p) same = ((p, x), refl, refl)
is_wildcard x _ same = cc

is_and : (subpats : PatternList) (y : PatternNode) → and_pattern (erase_patterns subpats) unknown ≡ erase_pattern y →
    (z : Pos × PatternList) × (y ≡ and_pattern z.1 z.0) × (erase_patterns subpats ≡ erase_patterns z.1)
is_and subpats (and_pattern ps p) same = ((p, ps), refl, cc)
is_and subpats _ same = cc

is_no_pattern : (y : PatternList) → no_pattern ≡ erase_patterns y → no_pattern ≡ y
is_no_pattern no_pattern same = refl
is_no_pattern _ same = cc

abbrev ListNode : Type 0
ListNode = PatternNode × PatternList

abbrev erase_list : ListNode → ListNode
erase_list p = (erase_pattern p.0, erase_patterns p.1)

is_more : (x : ListNode) (y : PatternList) → more_pattern (erase_pattern x.0) (erase_patterns x.1) ≡ erase_patterns y →
    (z : ListNode) × (y ≡ more_pattern z.0 z.1) × (erase_list x ≡ erase_list z)
is_more x (more_pattern p ps) same =
    let firsts : erase_pattern x.0 ≡ erase_pattern p = cc in
    let lists : erase_patterns x.1 ≡ erase_patterns ps = cc in
    ((p, ps), refl, λ i. (firsts i, lists i))
is_more x _ same = cc

-- the laws

mutual
  pub pattern_lawful : (p : PatternNode) → Lawful SpellsPattern erase_pattern p
  pattern_lawful (var_pattern var pos) =
      made_at_lawful SpellsPattern erase_pattern SpellsVariable erase_name var_pattern
      (λ place y all rest h. h) (λ place y all rest h. h) (λ place y. refl) pos var (is_var var)
      (variable_begins var) (variable_lawful var)
  pattern_lawful (bind_pattern var subpat pos) =
      made_at_lawful SpellsPattern erase_pattern Bound erase_bound (λ p. bind_pattern p.0 p.1)
      (λ place y all rest h. (h.0, h.1.0, h.1.2.0, h.1.1, h.1.2.1, h.1.2.2)) (λ place y all rest h. (h.0, (h.1, h.3, (h.2, h.4, h.5))))
      (λ place y. refl) pos (var, subpat) (is_bind (var, subpat))
      (λ all rest h. variable_begins var all h.0 h.1)
      (pair_lawful SpellsVariable erase_name (λ p. Then (SpellsToken at_sign) (SpellsPattern p)) erase_pattern var subpat (variable_lawful var)
      (before_lawful (SpellsToken at_sign) SpellsPattern erase_pattern subpat (token_plain at_sign) (pattern_lawful subpat)))
  pattern_lawful (bool_pattern val pos) =
      made_at_lawful SpellsPattern erase_pattern (λ b. SpellsWord (bool_word b)) (λ b. b) bool_pattern
      (λ place y all rest h. h) (λ place y all rest h. h) (λ place y. refl) pos val (is_bool val)
      (token_begins (symbol (bool_word val))) (value_lawful (λ b. SpellsWord (bool_word b)) val (λ b. word_plain (bool_word b)))
  pattern_lawful (int_pattern val pos) =
      made_at_lawful SpellsPattern erase_pattern SpellsInteger (λ n. n) int_pattern
      (λ place y all rest h. h) (λ place y all rest h. h) (λ place y. refl) pos val (is_int val)
      (integer_begins val) (value_lawful SpellsInteger val integer_plain)
  pattern_lawful (constant_pattern val pos) =
      made_at_lawful SpellsPattern erase_pattern SpellsConstant erase_name constant_pattern
      (λ place y all rest h. h) (λ place y all rest h. h) (λ place y. refl) pos val (is_a_constant val)
      (constant_begins val) (constant_lawful val)
  pattern_lawful (term_pattern sym args pos) =
      made_at_lawful SpellsPattern erase_pattern (λ p all rest. IsNoAnd p × Term p all rest) erase_term (λ p. term_pattern p.0 p.1)
      (λ place y all rest h. (h.1.0, h.0, h.1.1)) (λ place y all rest h. (h.1, (h.0, h.2)))
      (λ place y. refl) pos (sym, args) (is_term (sym, args))
      (λ all rest h. parentheses_begin (Then (SpellsName sym) (SpellsPatterns args)) all rest h.1)
      (where_lawful IsNoAnd Term erase_term (sym, args) (λ y h. h) (λ y h. h)
      (parentheses_lawful (λ p. Then (SpellsName p.0) (SpellsPatterns p.1)) erase_term (sym, args)
      (pair_lawful SpellsName erase_name SpellsPatterns erase_patterns sym args (name_lawful sym) (patterns_lawful args))))
  pattern_lawful (wildcard_pattern pos) =
      made_at_lawful SpellsPattern erase_pattern (λ (x : Unit {0}). SpellsWord (codes "_")) (λ x. x) (λ x. wildcard_pattern)
      (λ place y all rest h. h) (λ place y all rest h. h) (λ place y. refl) pos tt (is_wildcard tt)
      (token_begins (symbol (codes "_"))) (value_lawful (λ (x : Unit {0}). SpellsWord (codes "_")) tt (λ x. word_plain (codes "_")))
  pattern_lawful (and_pattern subpats pos) =
      made_at_lawful SpellsPattern erase_pattern (λ ps. InParentheses (BehindWord (codes "and") (SpellsPatterns ps))) erase_patterns and_pattern
      (λ place y all rest h. h) (λ place y all rest h. h) (λ place y. refl) pos subpats (is_and subpats)
      (parentheses_begin (BehindWord (codes "and") (SpellsPatterns subpats)))
      (parentheses_lawful (λ ps. BehindWord (codes "and") (SpellsPatterns ps)) erase_patterns subpats
      (word_lawful (codes "and") SpellsPatterns erase_patterns subpats (patterns_lawful subpats)))
  pattern_lawful (macro_arg_pattern index pos) = record {
    cuts = λ all rest h. absurd h;
    erased = λ all rest h. absurd h;
    placed = λ all after h. absurd h;
    agree = λ y same all rest after h k. absurd h;
  }

  pub patterns_lawful : (ps : PatternList) → Lawful SpellsPatterns erase_patterns ps
  patterns_lawful no_pattern = plain_lawful SpellsPatterns erase_patterns no_pattern refl is_no_pattern nothing_plain
  patterns_lawful (more_pattern p ps) =
      made_lawful SpellsPatterns erase_patterns (λ (p : ListNode). Then (SpellsPattern p.0) (SpellsPatterns p.1)) erase_list (λ p. more_pattern p.0 p.1)
      (λ y all rest h. h) (λ y all rest h. h) (λ y. refl) (p, ps) (is_more (p, ps))
      (pair_lawful SpellsPattern erase_pattern SpellsPatterns erase_patterns p ps (pattern_lawful p) (patterns_lawful ps))

pub pattern_begins : (p : PatternNode) → Begins (SpellsPattern p)
pattern_begins (var_pattern var _) all rest h e = variable_begins var all rest h.1 e
pattern_begins (bind_pattern var _ _) all rest h e = variable_begins var all h.1 h.3 e
pattern_begins (bool_pattern val _) all rest h e = token_begins (symbol (bool_word val)) all rest h.1 e
pattern_begins (int_pattern val _) all rest h e = integer_begins val all rest h.1 e
pattern_begins (constant_pattern val _) all rest h e = constant_begins val all rest h.1 e
pattern_begins (term_pattern sym args _) all rest h e = parentheses_begin (Then (SpellsName sym) (SpellsPatterns args)) all rest h.2 e
pattern_begins (wildcard_pattern _) all rest h e = token_begins (symbol (codes "_")) all rest h.1 e
pattern_begins (and_pattern subpats _) all rest h e = parentheses_begin (BehindWord (codes "and") (SpellsPatterns subpats)) all rest h.1 e
pattern_begins (macro_arg_pattern _ _) all rest h e = absurd h
