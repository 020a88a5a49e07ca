-- The right side of a rule is read as the grammar spells it: conditions, and the expression after them.
use Rattle.std.proofs.Common.{◌≡◌, ◌⊎◌, inl, inr, ℕ, zero, suc, ◌≤◌, ◌<◌, true, false, List, [], ◌∷◌, length, Some, refl, sym, ap, subst, ◌∙◌, arith, rules}
use Rattle.std.specs.Prelude.{codes}
use Rattle.std.specs.Str.{bytes_eq, is_utf8}
use Rattle.std.proofs.lemmas.Str.{chars-IsAscii}
use Rattle.std.proofs.lemmas.Bool.{and_right}
use Rattle.isle_base_source.specs.declared.pos.Pos.{Pos}
use Rattle.isle_base.specs.Place.{Placed}
use Rattle.isle_ast_names.specs.Identifier.{is_identifier}
use Rattle.isle_ast_rules.specs.Tree.{PatternNode, wildcard_pattern, Expression, term_expression, var_expression, bool_expression, int_expression, constant_expression, let_expression, Condition}
use Rattle.isle_ast_names.specs.Words.{BeginsAt, SpellsAll, InParentheses, BehindWord}
use Rattle.isle_ast_rules.specs.ExpressionGrammar.{SpellsExpression}
use Rattle.isle_ast_rules.specs.RuleGrammar.{SpellsMatch, SpellsTest, SpellsCondition, is_if_expression}
use Rattle.isle_parser_cursor.proofs.SameBytes.{other_bytes}
use Rattle.isle_parser_cursor.specs.Reading.{Reader, ◌>>=◌, is_ahead, is_lparen, is_symbol_of, at_rparen, pos_ahead, in_parentheses}
use Rattle.isle_parser_rules.specs.ExpressionReaders.{expression, expression_inside}
use Rattle.isle_parser_rules.specs.PatternReaders.{pattern}
use Rattle.isle_parser_rules.specs.RuleReaders.{RulePart, condition_part, expression_part, condition_match, condition_test, test_or_expression, match_or_expression, condition_or_expression, RightSide}
use Rattle.isle_parser_rules.specs.RuleReaders.{behind_condition, behind_part, right_side_within, right_side}
use Rattle.isle_parser_cursor.proofs.ReaderSteps.{made_of, word_ahead, word_shorter, flag_read, flag_absent, choice, position_of, begins_here, opens}
use Rattle.isle_parser_cursor.proofs.Flags.{name_ahead}
use Rattle.isle_parser_rules.proofs.Reading.Expressions.{SpellsInside, from_inside, to_inside, expression_begins, expression_sound, expression_complete, expression_inside_sound, expression_inside_complete}
use Rattle.isle_parser_cursor.proofs.Readers.{agree, Sound, Begins, Shrinks, Goes, begins_node, bind_some, bind_same, chosen, done_is, moved, shrinks, begins_goes, parentheses_sound, parentheses_complete, parentheses_begin}
use Rattle.isle_parser_rules.proofs.Reading.Patterns.{pattern_begins, pattern_sound, pattern_complete}

-- ---- conditions

abbrev SpellsMatchAt : Condition → List Placed → List Placed → Type 0
SpellsMatchAt c all rest = BeginsAt c.pos all × SpellsMatch c all rest

abbrev SpellsTestAt : Condition → List Placed → List Placed → Type 0
SpellsTestAt c all rest = BeginsAt c.pos all × SpellsTest c all rest

match_sound : Sound SpellsMatchAt condition_match
unfolding condition_match
match_sound all rest c e =
    let p = bind_some (pattern all) (λ p. expression p.1 >>= λ x. Some (record { pattern = p.0; expr = x.0; pos = pos_ahead all }, x.1)) (c, rest) e in
    let x = bind_some (expression p.0.1) (λ x. Some (record { pattern = p.0.0; expr = x.0; pos = pos_ahead all }, x.1)) (c, rest) p.2 in
    let made : Condition = record { pattern = p.0.0; expr = x.0.0; pos = pos_ahead all } in
    let spelt = pattern_sound all p.0.1 p.0.0 p.1 in
    moved SpellsMatchAt made c all x.0.1 rest (done_is made c x.0.1 rest x.2) (begins_here all (pattern_begins p.0.0 all p.0.1 spelt).0, (p.0.1, spelt, expression_sound p.0.1 x.0.1 x.0.0 x.1))

-- no pattern goes on at an expression
expression_goes : (x : Expression) (all rest : List Placed) → SpellsExpression x all rest → Goes all
expression_goes x all rest h = begins_goes all (expression_begins x all rest h).0

match_complete : (c : Condition) (all rest : List Placed) → SpellsMatchAt c all rest → condition_match all ≡ Some (c, rest)
unfolding condition_match
match_complete c all rest h =
    let parts = h.1 in
    rw (pattern_complete c.pattern all parts.0 (expression_goes c.expr parts.0 rest parts.2) parts.1, expression_complete c.expr parts.0 rest parts.2, position_of h.0) refl

match_shorter : (c : Condition) (all rest : List Placed) → SpellsMatchAt c all rest → length rest ≤ length all
match_shorter c all rest h =
    let parts = h.1 in
    omega (arith, (pattern_begins c.pattern all parts.0 parts.1).1, (expression_begins c.expr parts.0 rest parts.2).1)

test_sound : Sound SpellsTestAt condition_test
unfolding condition_test
test_sound all rest c e =
    let x = bind_some (expression all) (λ x. Some (record { pattern = wildcard_pattern (pos_ahead all); expr = x.0; pos = pos_ahead all }, x.1)) (c, rest) e in
    let made : Condition = record { pattern = wildcard_pattern (pos_ahead all); expr = x.0.0; pos = pos_ahead all } in
    let spelt = expression_sound all x.0.1 x.0.0 x.1 in
    moved SpellsTestAt made c all x.0.1 rest (done_is made c x.0.1 rest x.2) (begins_here all (expression_begins x.0.0 all x.0.1 spelt).0, (refl, spelt))

test_complete : (c : Condition) (all rest : List Placed) → SpellsTestAt c all rest → condition_test all ≡ Some (c, rest)
unfolding condition_test
test_complete c all rest h =
    let wild : wildcard_pattern c.pos ≡ c.pattern = sym h.1.0 in
    rw (expression_complete c.expr all rest h.1.1, position_of h.0) (ap (λ (p : PatternNode). Some (record { pattern = p; expr = c.expr; pos = c.pos }, rest)) wild)

test_shorter : (c : Condition) (all rest : List Placed) → SpellsTestAt c all rest → length rest ≤ length all
test_shorter c all rest h = omega (arith, (expression_begins c.expr all rest h.1.1).1)

condition_begins : Begins SpellsCondition
condition_begins c all rest h =
    elim h [
      | inl g ↦ parentheses_begin (BehindWord (codes "if-let") (SpellsMatchAt c)) (λ i j b. omega (arith, word_shorter (codes "if-let") i b.0 b.1, match_shorter c b.0 j b.2)) all rest g
      | inr g ↦ parentheses_begin (BehindWord (codes "if") (SpellsTestAt c)) (λ i j b. omega (arith, word_shorter (codes "if") i b.0 b.1, test_shorter c b.0 j b.2)) all rest g
    ]

-- ---- a part of a right side

-- an expression here isn't headed `if`
abbrev SpellsPart : RulePart → List Placed → List Placed → Type 0
SpellsPart (condition_part c) all rest = SpellsCondition c all rest
SpellsPart (expression_part x) all rest = SpellsExpression x all rest × (is_if_expression x ≡ false)

part_begins : Begins SpellsPart
part_begins (condition_part c) all rest h = condition_begins c all rest h
part_begins (expression_part x) all rest h = expression_begins x all rest h.0

-- what is in the parentheses of a part whose `(` is at this place
abbrev SpellsPartInside : Pos → RulePart → List Placed → List Placed → Type 0
SpellsPartInside place (condition_part c) inner close =
    BehindWord (codes "if-let") (SpellsMatchAt c) inner close ⊎ BehindWord (codes "if") (SpellsTestAt c) inner close
SpellsPartInside place (expression_part x) inner close = SpellsInside place x inner close × (is_if_expression x ≡ false)

from_part : (p : RulePart) (all rest : List Placed) → InParentheses (SpellsPartInside (pos_ahead all) p) all rest → SpellsPart p all rest
from_part (condition_part c) all rest h =
    elim h.3 [
      | inl b ↦ inl (h.0, h.1, h.2, b, h.4)
      | inr b ↦ inr (h.0, h.1, h.2, b, h.4)
    ]
from_part (expression_part x) all rest h = (from_inside x all rest (h.0, h.1, h.2, h.3.0, h.4), h.3.1)

no_if : (place : Pos) (x : Expression) (all rest : List Placed) → is_ahead (is_symbol_of (codes "if")) all ≡ false → SpellsInside place x all rest → is_if_expression x ≡ false
no_if place (term_expression n _ _) all rest e h = sym (name_ahead (codes "if") n all h.2 h.3) ∙ e
no_if place (var_expression _ _) all rest e h = absurd h
no_if place (bool_expression _ _) all rest e h = absurd h
no_if place (int_expression _ _) all rest e h = absurd h
no_if place (constant_expression _ _) all rest e h = absurd h
no_if place (let_expression _ _ _) all rest e h = refl

part_inside_sound : (place : Pos) → Sound (SpellsPartInside place) (match_or_expression place)
unfolding match_or_expression test_or_expression
part_inside_sound place all rest p e =
    elim (choice (codes "if-let") (λ i. condition_match i >>= λ c. Some (condition_part c.0, c.1)) (test_or_expression place) all e) [
      | inl h ↦
          let c = made_of condition_part h.2 in
          subst (λ (p : RulePart). SpellsPartInside place p all rest) c.2 (inl (h.0, h.1, match_sound h.0 rest c.0 c.1))
      | inr h ↦
          elim (choice (codes "if") (λ i. condition_test i >>= λ c. Some (condition_part c.0, c.1)) (λ i. expression_inside place expression i >>= λ x. Some (expression_part x.0, x.1)) all h.1) [
            | inl g ↦
                let c = made_of condition_part g.2 in
                subst (λ (p : RulePart). SpellsPartInside place p all rest) c.2 (inr (g.0, g.1, test_sound g.0 rest c.0 c.1))
            | inr g ↦
                let x = made_of expression_part g.1 in
                let spelt = expression_inside_sound place all rest x.0 x.1 in
                subst (λ (p : RulePart). SpellsPartInside place p all rest) x.2 (spelt, no_if place x.0 all rest g.0 spelt)
          ]
    ]

no_list : (x : Expression) (all rest : List Placed) → is_ahead is_lparen all ≡ false → SpellsExpression x all rest → is_if_expression x ≡ false
no_list (term_expression _ _ _) all rest e h =
    let here : is_ahead is_lparen all ≡ true = opens _ all rest h.2 in
    absurd cc
no_list (var_expression _ _) all rest e h = refl
no_list (bool_expression _ _) all rest e h = refl
no_list (int_expression _ _) all rest e h = refl
no_list (constant_expression _ _) all rest e h = refl
no_list (let_expression _ _ _) all rest e h = refl

part_sound : Sound SpellsPart condition_or_expression
unfolding condition_or_expression
part_sound all rest p e =
    elim (chosen (is_ahead is_lparen all) (in_parentheses (match_or_expression (pos_ahead all)) all) (expression all >>= λ x. Some (expression_part x.0, x.1)) (Some (p, rest)) e) [
      | inl h ↦ from_part p all rest (parentheses_sound (SpellsPartInside (pos_ahead all)) (match_or_expression (pos_ahead all)) (part_inside_sound (pos_ahead all)) all rest p h.1)
      | inr h ↦
          let x = made_of expression_part h.1 in
          let spelt = expression_sound all rest x.0 x.1 in
          subst (λ (p : RulePart). SpellsPart p all rest) x.2 (spelt, no_list x.0 all rest h.0 spelt)
    ]

-- `if-let` is no identifier
if_let_no_name : is_identifier (codes "if-let") ≡ false
unfolding is_identifier
if_let_no_name = rw (chars-IsAscii (codes "if-let") (search rules)) (and_right (is_utf8 (codes "if-let")) false refl)

no_if_let : (t : List ℕ) → is_identifier t ≡ true → bytes_eq t (codes "if-let") ≡ false
no_if_let t e =
    other_bytes t (codes "if-let") (λ is.
    let other : is_identifier t ≡ false = ap is_identifier is ∙ if_let_no_name in
    absurd cc)

-- the word that stands after the `(` of an expression is no keyword of a condition
no_keyword : (place : Pos) (x : Expression) (all rest : List Placed) → SpellsInside place x all rest → is_if_expression x ≡ false → (is_ahead (is_symbol_of (codes "if-let")) all ≡ false) × (is_ahead (is_symbol_of (codes "if")) all ≡ false)
no_keyword place (term_expression n _ _) all rest h e =
    (name_ahead (codes "if-let") n all h.2 h.3 ∙ no_if_let n.text h.3.0, name_ahead (codes "if") n all h.2 h.3 ∙ e)
no_keyword place (var_expression _ _) all rest h e = absurd h
no_keyword place (bool_expression _ _) all rest h e = absurd h
no_keyword place (int_expression _ _) all rest h e = absurd h
no_keyword place (constant_expression _ _) all rest h e = absurd h
no_keyword place (let_expression _ _ _) all rest h e = (word_ahead h.3 (codes "if-let"), word_ahead h.3 (codes "if"))

part_inside_complete : (place : Pos) (p : RulePart) (all rest : List Placed) → at_rparen rest ≡ true → SpellsPartInside place p all rest → match_or_expression place all ≡ Some (p, rest)
unfolding match_or_expression test_or_expression
part_inside_complete place (condition_part c) all rest closed h =
    elim h [
      | inl g ↦ rw (flag_read (codes "if-let") all g.0 g.1, match_complete c g.0 rest g.2) refl
      | inr g ↦ rw (flag_absent (codes "if-let") all (word_ahead g.1 (codes "if-let")), flag_read (codes "if") all g.0 g.1, test_complete c g.0 rest g.2) refl
    ]
part_inside_complete place (expression_part x) all rest closed h =
    let words = no_keyword place x all rest h.0 h.1 in
    rw (flag_absent (codes "if-let") all words.0, flag_absent (codes "if") all words.1, expression_inside_complete place x all rest closed h.0) refl

in_list : (p : RulePart) (all rest : List Placed) → InParentheses (SpellsPartInside (pos_ahead all) p) all rest → condition_or_expression all ≡ Some (p, rest)
unfolding condition_or_expression
in_list p all rest h =
    let here : is_ahead is_lparen all ≡ true = opens _ all rest h in
    rw here (parentheses_complete (SpellsPartInside (pos_ahead all)) (match_or_expression (pos_ahead all)) p all rest (λ i j lt closed. part_inside_complete (pos_ahead all) p i j closed) h)

alone : (x : Expression) (all rest : List Placed) → is_ahead is_lparen all ≡ false → SpellsExpression x all rest → condition_or_expression all ≡ Some (expression_part x, rest)
unfolding condition_or_expression
alone x all rest e h = rw (e, expression_complete x all rest h) refl

expression_read : (x : Expression) (all rest : List Placed) → SpellsExpression x all rest → is_if_expression x ≡ false → condition_or_expression all ≡ Some (expression_part x, rest)
expression_read (term_expression n xs pos) all rest h e =
    let g = to_inside (term_expression n xs pos) all rest refl h in
    in_list (expression_part (term_expression n xs pos)) all rest (g.0, g.1, g.2, (g.3, e), g.4)
expression_read (var_expression n pos) all rest h e = alone (var_expression n pos) all rest (rw h.1.1 refl) h
expression_read (bool_expression val pos) all rest h e = alone (bool_expression val pos) all rest (rw h.1.1 refl) h
expression_read (int_expression val pos) all rest h e = alone (int_expression val pos) all rest (rw h.1.1.1 refl) h
expression_read (constant_expression val pos) all rest h e = alone (constant_expression val pos) all rest (rw h.1.1 refl) h
expression_read (let_expression ds x pos) all rest h e =
    let g = to_inside (let_expression ds x pos) all rest refl h in
    in_list (expression_part (let_expression ds x pos)) all rest (g.0, g.1, g.2, (g.3, e), g.4)

part_complete : (p : RulePart) (all rest : List Placed) → SpellsPart p all rest → condition_or_expression all ≡ Some (p, rest)
part_complete (condition_part c) all rest h =
    elim h [
      | inl g ↦ in_list (condition_part c) all rest (g.0, g.1, g.2, inl g.3, g.4)
      | inr g ↦ in_list (condition_part c) all rest (g.0, g.1, g.2, inr g.3, g.4)
    ]
part_complete (expression_part x) all rest h = expression_read x all rest h.0 h.1

pub part_shrinks : Shrinks condition_or_expression
part_shrinks = shrinks SpellsPart condition_or_expression part_sound part_begins

-- ---- right sides

abbrev pub SpellsRightSide : RightSide → List Placed → List Placed → Type 0
SpellsRightSide r all rest =
    (mid : List Placed) × SpellsAll SpellsCondition r.0 all mid × SpellsExpression r.1 mid rest × (is_if_expression r.1 ≡ false)

behind_sound : (more : Reader RightSide) → Sound SpellsRightSide more → (p : RulePart) (all mid rest : List Placed) (r : RightSide) → SpellsPart p all mid → behind_part more p mid ≡ Some (r, rest) → SpellsRightSide r all rest
behind_sound more sound (condition_part c) all mid rest r spelt e =
    let s = made_of (λ (s : RightSide). (c ∷ s.0, s.1)) e in
    let behind = sound mid rest s.0 s.1 in
    subst (λ (r : RightSide). SpellsRightSide r all rest) s.2 (behind.0, (mid, spelt, behind.1), behind.2, behind.3)
behind_sound more sound (expression_part x) all mid rest r spelt e =
    moved SpellsRightSide ([], x) r all mid rest (done_is ([], x) r mid rest e) (all, refl, spelt.0, spelt.1)

within_sound : (n : ℕ) → Sound SpellsRightSide (right_side_within n)
unfolding right_side_within
within_sound zero all rest r e = absurd cc
within_sound (suc n) all rest r e =
    let p = bind_some (condition_or_expression all) (λ x. behind_part (right_side_within n) x.0 x.1) (r, rest) e in
    behind_sound (right_side_within n) (within_sound n) p.0.0 all p.0.1 rest r (part_sound all p.0.1 p.0.0 p.1) p.2

within_complete : (n : ℕ) (cs : List Condition) (x : Expression) (all mid rest : List Placed) → length all < n → SpellsAll SpellsCondition cs all mid → SpellsExpression x mid rest
    → is_if_expression x ≡ false → right_side_within n all ≡ Some ((cs, x), rest)
unfolding right_side_within
within_complete zero cs x all mid rest below h spelt e = absurd (omega arith)
within_complete (suc n) [] x all mid rest below h spelt e =
    let here : SpellsExpression x all rest = subst (λ (i : List Placed). SpellsExpression x i rest) (sym h) spelt in
    rw (part_complete (expression_part x) all rest (here, e)) refl
within_complete (suc n) (c ∷ cs) x all mid rest below h spelt e =
    let shorter : length h.0 < length all = (condition_begins c all h.0 h.1).1 in
    rw (part_complete (condition_part c) all h.0 h.1, within_complete n cs x h.0 mid rest (omega arith) h.2 spelt e) refl

pub right_side_sound : Sound SpellsRightSide right_side
unfolding right_side
right_side_sound all rest r e = within_sound (suc (length all)) all rest r e

pub right_side_complete : (r : RightSide) (all rest : List Placed) → SpellsRightSide r all rest → right_side all ≡ Some (r, rest)
unfolding right_side
right_side_complete r all rest h = within_complete (suc (length all)) r.0 r.1 all h.0 rest (omega arith) h.1 h.2 h.3

side_begins : (cs : List Condition) (x : Expression) (all mid rest : List Placed) → SpellsAll SpellsCondition cs all mid → SpellsExpression x mid rest → (is_ahead begins_node all ≡ true) × (length rest < length all)
side_begins [] x all mid rest h spelt = subst (λ (i : List Placed). (is_ahead begins_node i ≡ true) × (length rest < length i)) (sym h) (expression_begins x mid rest spelt)
side_begins (c ∷ cs) x all mid rest h spelt =
    let one = condition_begins c all h.0 h.1 in
    let behind = side_begins cs x h.0 mid rest h.2 spelt in
    (one.0, omega (arith, one.1, behind.1))

pub right_side_begins : Begins SpellsRightSide
right_side_begins r all rest h = side_begins r.0 r.1 all h.0 rest h.1 h.2

within_same : (m n : ℕ) (all : List Placed) → length all < m → length all < n → right_side_within m all ≡ right_side_within n all
within_same m n all lm ln =
    agree (right_side_within m all) (right_side_within n all)
    (λ x e.
    let h = within_sound m all x.1 x.0 e in
    within_complete n x.0.0 x.0.1 all h.0 x.1 ln h.1 h.2 h.3)
    (λ x e.
    let h = within_sound n all x.1 x.0 e in
    within_complete m x.0.0 x.0.1 all h.0 x.1 lm h.1 h.2 h.3)

step_same : (n : ℕ) (p : RulePart) (rest : List Placed) → length rest < n → behind_part (right_side_within n) p rest ≡ behind_part right_side p rest
unfolding right_side
step_same n (condition_part c) rest lt = ap (behind_condition c) (within_same n (suc (length rest)) rest lt (omega arith))
step_same n (expression_part x) rest lt = refl

first_step : (all : List Placed) → right_side all ≡ (condition_or_expression all >>= λ x. behind_part (right_side_within (length all)) x.0 x.1)
unfolding right_side right_side_within
first_step all = refl

-- a right side is a part, and what follows it
pub right_side_step : (all : List Placed) → right_side all ≡ (condition_or_expression all >>= λ x. behind_part right_side x.0 x.1)
right_side_step all =
    first_step all
    ∙ bind_same (condition_or_expression all) _ _ (λ x e.
    let lt : length x.1 < length all = part_shrinks all x.1 x.0 e in
    step_same (length all) x.0 x.1 lt)
