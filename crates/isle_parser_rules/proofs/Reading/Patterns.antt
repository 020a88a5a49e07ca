-- Patterns are read as the grammar spells them.
use Rattle.std.proofs.Common.{◌≡◌, inl, inr, ℕ, zero, suc, ◌≤◌, ◌<◌, Bool, true, false, not, ◌&&◌, ◌||◌, cond, List, [], ◌∷◌, length, Option, Some, None, refl, sym, ap, subst, ◌∙◌, arith}
use Rattle.std.specs.Prelude.{ℤ, codes}
use Rattle.std.specs.Str.{bytes_eq}
use Rattle.isle_base_source.specs.declared.pos.Pos.{Pos}
use Rattle.isle_base.specs.Place.{Placed}
use Rattle.isle_base.specs.Token.{symbol, at_sign, is_int, is_symbol}
use Rattle.isle_ast_names.specs.Identifier.{is_identifier}
use Rattle.isle_ast_names.specs.Tree.{Name}
use Rattle.isle_ast_rules.specs.Tree.{PatternNode, var_pattern, bind_pattern, bool_pattern, int_pattern, constant_pattern, term_pattern, wildcard_pattern, and_pattern, macro_arg_pattern, PatternList, no_pattern, more_pattern}
use Rattle.isle_ast_names.specs.Words.{SpellsToken, SpellsWord, BeginsAt, SpellsAll, InParentheses, SpellsName, is_constant}
use Rattle.isle_ast_rules.specs.PatternGrammar.{is_variable_of_patterns, SpellsVariable, SpellsPattern, SpellsPatterns}
use Rattle.isle_ast_rules.specs.TreeView.{pattern_list_of}
use Rattle.isle_parser_cursor.specs.Reading.{Reader, ◌>>=◌, is_at, is_ahead, is_lparen, is_symbol_of, at_rparen, expect, pos_ahead, in_parentheses, many, is_const}
use Rattle.isle_parser_cursor.specs.NameReaders.{name}
use Rattle.isle_parser_cursor.specs.NumberReaders.{integer_within}
use Rattle.isle_parser_rules.specs.PatternReaders.{pattern_inside, variable_pattern, false_pattern, true_pattern, word_pattern, symbol_pattern, pattern_layer, pattern_within, pattern}
use Rattle.isle_parser_rules.specs.ConstantReaders.{constant}
use Rattle.isle_parser_cursor.proofs.Expected.{is_at-is}
use Rattle.isle_parser_cursor.proofs.ReaderSteps.{nothing, made_of, word_ahead, word_at, word_shorter, flag_read, flag_absent, choice, list_sound, position_of, begins_here, name_at, opened_at}
use Rattle.isle_parser_cursor.proofs.Flags.{name_ahead}
use Rattle.isle_parser_cursor.proofs.Names.{name_sound, name_read, name_begins}
use Rattle.isle_parser_cursor.proofs.Readers.{agree, Sound, Shrinks, Goes, shrinks, begins_node, bind_some, chosen, done_is, moved, expect_sound, many_complete, stopping_closes, parentheses_sound, parentheses_complete, parentheses_begin}
use Rattle.isle_parser_cursor.proofs.Reading.Numbers.{signed_sound, signed_complete, signed_begins}
use Rattle.isle_parser_rules.proofs.Reading.Constants.{constant_sound, constant_complete}

-- ---- lists

pub patterns_spelt : (ps : List PatternNode) (all rest : List Placed) → SpellsAll SpellsPattern ps all rest → SpellsPatterns (pattern_list_of ps) all rest
patterns_spelt [] all rest h = h
patterns_spelt (p ∷ ps) all rest h = (h.0, h.1, patterns_spelt ps h.0 rest h.2)

abbrev listed : PatternList → List PatternNode
listed no_pattern = []
listed (more_pattern p ps) = p ∷ listed ps

list_listed : (ps : PatternList) → pattern_list_of (listed ps) ≡ ps
list_listed no_pattern = refl
list_listed (more_pattern p ps) = ap (more_pattern p) (list_listed ps)

patterns_listed : (ps : PatternList) (all rest : List Placed) → SpellsPatterns ps all rest → SpellsAll SpellsPattern (listed ps) all rest
patterns_listed no_pattern all rest h = h
patterns_listed (more_pattern p ps) all rest h = (h.0, h.1, patterns_listed ps h.0 rest h.2)

-- ---- how a pattern begins and ends

mutual
  pub pattern_begins : (p : PatternNode) (all rest : List Placed) → SpellsPattern p all rest → (is_ahead begins_node all ≡ true) × (length rest < length all)
  pattern_begins (var_pattern n pos) all rest h = (rw h.1.1 refl, rw h.1.1 (omega arith))
  pattern_begins (bind_pattern n p pos) all rest h =
      let below = pattern_begins p h.2 rest h.5 in
      let behind : length all ≡ suc (length h.1) = rw h.3.1 refl in
      let inside : length h.1 ≡ suc (length h.2) = rw h.4.1 refl in
      (rw h.3.1 refl, omega (arith, below.1, behind, inside))
  pattern_begins (bool_pattern val pos) all rest h = (rw h.1.1 refl, rw h.1.1 (omega arith))
  pattern_begins (int_pattern val pos) all rest h = signed_begins 127 val all rest h.1
  pattern_begins (constant_pattern val pos) all rest h = (rw h.1.1 refl, rw h.1.1 (omega arith))
  pattern_begins (term_pattern n ps pos) all rest h = parentheses_begin _ (λ i j b. omega (arith, (name_begins n i b.0 b.1).1, patterns_shorter ps b.0 j b.2)) all rest h.2
  pattern_begins (wildcard_pattern pos) all rest h = (rw h.1.1 refl, rw h.1.1 (omega arith))
  pattern_begins (and_pattern ps pos) all rest h = parentheses_begin _ (λ i j b. omega (arith, word_shorter (codes "and") i b.0 b.1, patterns_shorter ps b.0 j b.2)) all rest h.1
  pattern_begins (macro_arg_pattern n pos) all rest h = absurd h

  patterns_shorter : (ps : PatternList) (all rest : List Placed) → SpellsPatterns ps all rest → length rest ≤ length all
  patterns_shorter no_pattern all rest h = rw h (omega arith)
  patterns_shorter (more_pattern p ps) all rest h = omega (arith, (pattern_begins p all h.0 h.1).1, patterns_shorter ps h.0 rest h.2)

-- a variable at the end could go on at an `@`; nothing else could
abbrev Ends : PatternNode → List Placed → Type 0
Ends (var_pattern _ _) rest = Goes rest
Ends (bind_pattern _ p _) rest = Ends p rest
Ends (bool_pattern _ _) rest = Unit {0}
Ends (int_pattern _ _) rest = Unit {0}
Ends (constant_pattern _ _) rest = Unit {0}
Ends (term_pattern _ _ _) rest = Unit {0}
Ends (wildcard_pattern _) rest = Unit {0}
Ends (and_pattern _ _) rest = Unit {0}
Ends (macro_arg_pattern _ _) rest = Unit {0}

ends_there : (p : PatternNode) (rest : List Placed) → Goes rest → Ends p rest
ends_there (var_pattern _ _) rest goes = goes
ends_there (bind_pattern _ p _) rest goes = ends_there p rest goes
ends_there (bool_pattern _ _) rest goes = tt
ends_there (int_pattern _ _) rest goes = tt
ends_there (constant_pattern _ _) rest goes = tt
ends_there (term_pattern _ _ _) rest goes = tt
ends_there (wildcard_pattern _) rest goes = tt
ends_there (and_pattern _ _) rest goes = tt
ends_there (macro_arg_pattern _ _) rest goes = tt

-- a pattern, with all that is read as its part
abbrev SpellsWhole : PatternNode → List Placed → List Placed → Type 0
SpellsWhole p all rest = SpellsPattern p all rest × Ends p rest

sound_alone : (read : Reader PatternNode) → Sound SpellsWhole read → Sound SpellsPattern read
sound_alone read sound all rest p e = (sound all rest p e).0

-- ---- words and variables

word_tests : (a b c d e : Bool) → (a && not b && not c && not (d || e)) ≡ true → (a ≡ true) × (b ≡ false) × (c ≡ false) × (d ≡ false) × (e ≡ false)
word_tests false b c d e h = absurd cc
word_tests true true c d e h = absurd cc
word_tests true false true d e h = absurd cc
word_tests true false false true e h = absurd cc
word_tests true false false false true h = absurd cc
word_tests true false false false false h = (refl, refl, refl, refl, refl)

-- what a variable isn't
variable_tests : (t : List ℕ) → is_variable_of_patterns t ≡ true → (is_identifier t ≡ true) × (is_constant t ≡ false) × (bytes_eq t (codes "_") ≡ false) × (bytes_eq t (codes "true") ≡ false) × (bytes_eq t (codes "false") ≡ false)
variable_tests t h = word_tests (is_identifier t) (is_constant t) (bytes_eq t (codes "_")) (bytes_eq t (codes "true")) (bytes_eq t (codes "false")) h

tests_variable : (t : List ℕ) → is_identifier t ≡ true → is_constant t ≡ false → bytes_eq t (codes "_") ≡ false → bytes_eq t (codes "true") ≡ false → bytes_eq t (codes "false") ≡ false → is_variable_of_patterns t ≡ true
tests_variable t a b c d e = rw (a, b, c, d, e) refl

pub const_ahead : {t : List ℕ} {place : Pos} {all rest : List Placed} → all ≡ record { pos = place; token = symbol t } ∷ rest → is_ahead is_const all ≡ is_constant t
const_ahead e = rw e refl

-- ---- what is read is spelt

-- what is in the parentheses of a pattern whose `(` is at this place
abbrev SpellsInside : Pos → PatternNode → List Placed → List Placed → Type 0
SpellsInside place (var_pattern _ _) all rest = ⊥
SpellsInside place (bind_pattern _ _ _) all rest = ⊥
SpellsInside place (bool_pattern _ _) all rest = ⊥
SpellsInside place (int_pattern _ _) all rest = ⊥
SpellsInside place (constant_pattern _ _) all rest = ⊥
SpellsInside place (term_pattern n ps pos) all rest =
    (pos ≡ place) × (bytes_eq n.text (codes "and") ≡ false) × (mid : List Placed) × SpellsName n all mid × SpellsPatterns ps mid rest
SpellsInside place (wildcard_pattern _) all rest = ⊥
SpellsInside place (and_pattern ps pos) all rest =
    (pos ≡ place) × (mid : List Placed) × SpellsWord (codes "and") all mid × SpellsPatterns ps mid rest
SpellsInside place (macro_arg_pattern _ _) all rest = ⊥

opened_there : (pos : Pos) (R : List Placed → List Placed → Type 0) (all rest : List Placed) → pos ≡ pos_ahead all → InParentheses R all rest → BeginsAt pos all
opened_there pos R all rest is h = subst (λ (q : Pos). BeginsAt q all) (sym is) (opened_at R all rest h)

from_inside : (p : PatternNode) (all rest : List Placed) → InParentheses (SpellsInside (pos_ahead all) p) all rest → SpellsWhole p all rest
from_inside (var_pattern _ _) all rest h = absurd h.3
from_inside (bind_pattern _ _ _) all rest h = absurd h.3
from_inside (bool_pattern _ _) all rest h = absurd h.3
from_inside (int_pattern _ _) all rest h = absurd h.3
from_inside (constant_pattern _ _) all rest h = absurd h.3
from_inside (term_pattern n ps pos) all rest h =
    let inside = h.3 in
    ((inside.1, opened_there pos _ all rest inside.0 h, (h.0, h.1, h.2, (inside.2, inside.3, inside.4), h.4)), tt)
from_inside (wildcard_pattern _) all rest h = absurd h.3
from_inside (and_pattern ps pos) all rest h =
    let inside = h.3 in
    ((opened_there pos _ all rest inside.0 h, (h.0, h.1, h.2, (inside.1, inside.2, inside.3), h.4)), tt)
from_inside (macro_arg_pattern _ _) all rest h = absurd h.3

inside_sound : (place : Pos) (read : Reader PatternNode) → Sound SpellsPattern read → Sound (SpellsInside place) (pattern_inside place read)
unfolding pattern_inside
inside_sound place read sound all rest p e =
    elim (choice (codes "and") (λ i. many at_rparen read i >>= λ ps. Some (and_pattern (pattern_list_of ps.0) place, ps.1))
    (λ i. name i >>= λ n. many at_rparen read n.1 >>= λ ps. Some (term_pattern n.0 (pattern_list_of ps.0) place, ps.1)) all e) [
      | inl h ↦
          let ps = made_of (λ (ps : List PatternNode). and_pattern (pattern_list_of ps) place) h.2 in
          let list = patterns_spelt ps.0 h.0 rest (list_sound SpellsPattern read sound h.0 rest ps.0 ps.1) in
          subst (λ (p : PatternNode). SpellsInside place p all rest) ps.2 (refl, h.0, h.1, list)
      | inr h ↦
          let n = bind_some (name all) (λ n. many at_rparen read n.1 >>= λ ps. Some (term_pattern n.0 (pattern_list_of ps.0) place, ps.1)) (p, rest) h.1 in
          let ps = made_of (λ (ps : List PatternNode). term_pattern n.0.0 (pattern_list_of ps) place) n.2 in
          let spelt = name_sound all n.0.1 n.0.0 n.1 in
          let list = patterns_spelt ps.0 n.0.1 rest (list_sound SpellsPattern read sound n.0.1 rest ps.0 ps.1) in
          subst (λ (p : PatternNode). SpellsInside place p all rest) ps.2 (refl, sym (name_ahead (codes "and") n.0.0 all n.0.1 spelt) ∙ h.0, n.0.1, spelt, list)
    ]

-- no word stands ahead that is no variable
abbrev NoWord : List Placed → Type 0
NoWord all =
    (is_ahead is_const all ≡ false) × (is_ahead (is_symbol_of (codes "_")) all ≡ false) × (is_ahead (is_symbol_of (codes "true")) all ≡ false) × (is_ahead (is_symbol_of (codes "false")) all ≡ false)

variable_spelt : (n : Name) (all rest : List Placed) → NoWord all → SpellsName n all rest → SpellsVariable n all rest
variable_spelt n all rest apart h =
    let a : is_constant n.text ≡ false = sym (const_ahead h.1) ∙ apart.0 in
    let b : bytes_eq n.text (codes "_") ≡ false = sym (name_ahead (codes "_") n all rest h) ∙ apart.1 in
    let c : bytes_eq n.text (codes "true") ≡ false = sym (name_ahead (codes "true") n all rest h) ∙ apart.2 in
    let d : bytes_eq n.text (codes "false") ≡ false = sym (name_ahead (codes "false") n all rest h) ∙ apart.3 in
    (tests_variable n.text h.0 a b c d, h.1)

variable_sound : (read : Reader PatternNode) → Sound SpellsWhole read → (all rest : List Placed) (p : PatternNode) → NoWord all → variable_pattern (pos_ahead all) read all ≡ Some (p, rest) → SpellsWhole p all rest
unfolding variable_pattern
variable_sound read sound all rest p apart e =
    let n = bind_some (name all) (λ n. cond (is_ahead is_at n.1) (expect is_at n.1 >>= λ at. read at.1 >>= λ p. Some (bind_pattern n.0 p.0 (pos_ahead all), p.1)) (Some (var_pattern n.0 (pos_ahead all), n.1))) (p, rest) e in
    let spelt = name_sound all n.0.1 n.0.0 n.1 in
    let variable = variable_spelt n.0.0 all n.0.1 apart spelt in
    let place = name_at n.0.0 all n.0.1 spelt in
    elim (chosen (is_ahead is_at n.0.1) (expect is_at n.0.1 >>= λ at. read at.1 >>= λ p. Some (bind_pattern n.0.0 p.0 (pos_ahead all), p.1)) (Some (var_pattern n.0.0 (pos_ahead all), n.0.1)) (Some (p, rest)) n.2) [
      | inl h ↦
          let at = bind_some (expect is_at n.0.1) (λ at. read at.1 >>= λ p. Some (bind_pattern n.0.0 p.0 (pos_ahead all), p.1)) (p, rest) h.1 in
          let q = made_of (λ (q : PatternNode). bind_pattern n.0.0 q (pos_ahead all)) at.2 in
          let inner = sound at.0.1 rest q.0 q.1 in
          subst (λ (p : PatternNode). SpellsWhole p all rest) q.2 ((place, n.0.1, at.0.1, variable, expect_sound is_at at_sign is_at-is n.0.1 at.0.1 at.0.0 at.1, inner.0), inner.1)
      | inr h ↦
          moved SpellsWhole (var_pattern n.0.0 (pos_ahead all)) p all n.0.1 rest (done_is (var_pattern n.0.0 (pos_ahead all)) p n.0.1 rest h.1) ((place, variable), h.0)
    ]

words_sound : (read : Reader PatternNode) → Sound SpellsWhole read → (all rest : List Placed) (p : PatternNode) → is_ahead is_const all ≡ false → word_pattern (pos_ahead all) read all ≡ Some (p, rest) → SpellsWhole p all rest
unfolding word_pattern true_pattern false_pattern
words_sound read sound all rest p apart e =
    elim (choice (codes "_") (λ i. Some (wildcard_pattern (pos_ahead all), i)) (true_pattern (pos_ahead all) read) all e) [
      | inl h ↦ moved SpellsWhole (wildcard_pattern (pos_ahead all)) p all h.0 rest (done_is (wildcard_pattern (pos_ahead all)) p h.0 rest h.2) ((word_at h.1, h.1), tt)
      | inr h ↦
          elim (choice (codes "true") (λ i. Some (bool_pattern true (pos_ahead all), i)) (false_pattern (pos_ahead all) read) all h.1) [
            | inl g ↦ moved SpellsWhole (bool_pattern true (pos_ahead all)) p all g.0 rest (done_is (bool_pattern true (pos_ahead all)) p g.0 rest g.2) ((word_at g.1, g.1), tt)
            | inr g ↦
                elim (choice (codes "false") (λ i. Some (bool_pattern false (pos_ahead all), i)) (variable_pattern (pos_ahead all) read) all g.1) [
                  | inl f ↦ moved SpellsWhole (bool_pattern false (pos_ahead all)) p all f.0 rest (done_is (bool_pattern false (pos_ahead all)) p f.0 rest f.2) ((word_at f.1, f.1), tt)
                  | inr f ↦ variable_sound read sound all rest p (apart, h.0, g.0, f.0) f.1
                ]
          ]
    ]

pub constant_at : (n : Name) (all rest : List Placed) → constant all ≡ Some (n, rest) → BeginsAt (pos_ahead all) all
constant_at n all rest e =
    let spelt = constant_sound all rest n e in
    begins_here all (rw spelt.1 refl)

symbol_sound : (read : Reader PatternNode) → Sound SpellsWhole read → (all rest : List Placed) (p : PatternNode) → symbol_pattern (pos_ahead all) read all ≡ Some (p, rest) → SpellsWhole p all rest
unfolding symbol_pattern
symbol_sound read sound all rest p e =
    elim (chosen (is_ahead is_const all) (constant all >>= λ c. Some (constant_pattern c.0 (pos_ahead all), c.1)) (word_pattern (pos_ahead all) read all) (Some (p, rest)) e) [
      | inl h ↦
          let c = made_of (λ (c : Name). constant_pattern c (pos_ahead all)) h.1 in
          subst (λ (p : PatternNode). SpellsWhole p all rest) c.2 ((constant_at c.0 all rest c.1, constant_sound all rest c.0 c.1), tt)
      | inr h ↦ words_sound read sound all rest p h.0 h.1
    ]

step_sound : (read : Reader PatternNode) → Sound SpellsWhole read → Sound SpellsWhole (pattern_layer read)
unfolding pattern_layer
step_sound read sound all rest p e =
    elim (chosen (is_ahead is_int all) (integer_within 127 all >>= λ n. Some (int_pattern n.0 (pos_ahead all), n.1))
    (cond (is_ahead is_symbol all) (symbol_pattern (pos_ahead all) read all) (cond (is_ahead is_lparen all) (in_parentheses (pattern_inside (pos_ahead all) read) all) None)) (Some (p, rest)) e) [
      | inl h ↦
          let n = made_of (λ n. int_pattern n (pos_ahead all)) h.1 in
          let spelt = signed_sound 127 all rest n.0 n.1 in
          subst (λ (p : PatternNode). SpellsWhole p all rest) n.2 ((begins_here all (signed_begins 127 n.0 all rest spelt).0, spelt), tt)
      | inr h ↦
          elim (chosen (is_ahead is_symbol all) (symbol_pattern (pos_ahead all) read all) (cond (is_ahead is_lparen all) (in_parentheses (pattern_inside (pos_ahead all) read) all) None) (Some (p, rest)) h.1) [
            | inl g ↦ symbol_sound read sound all rest p g.1
            | inr g ↦
                elim (chosen (is_ahead is_lparen all) (in_parentheses (pattern_inside (pos_ahead all) read) all) None (Some (p, rest)) g.1) [
                  | inl f ↦ from_inside p all rest (parentheses_sound (SpellsInside (pos_ahead all)) (pattern_inside (pos_ahead all) read) (inside_sound (pos_ahead all) read (sound_alone read sound)) all rest p f.1)
                  | inr f ↦ absurd (nothing f.1)
                ]
          ]
    ]

-- ---- what is spelt is read

-- complete on patterns of fewer tokens than this
abbrev Fits : ℕ → Reader PatternNode → Type 0
Fits n read = (p : PatternNode) (all rest : List Placed) → length all < n → SpellsPattern p all rest → Ends p rest → read all ≡ Some (p, rest)

list_complete : (n : ℕ) (read : Reader PatternNode) → Fits n read → (ps : PatternList) (all rest : List Placed) → length all < n → at_rparen rest ≡ true → SpellsPatterns ps all rest → many at_rparen read all ≡ Some (listed ps, rest)
list_complete n read fits ps all rest below closed h =
    many_complete SpellsPattern read at_rparen n (λ p i j lt goes spelt. fits p i j lt spelt (ends_there p j goes)) pattern_begins stopping_closes (listed ps) all rest below (patterns_listed ps all rest h) closed

inside_complete : (n : ℕ) (read : Reader PatternNode) → Fits n read → (place : Pos) (p : PatternNode) (all rest : List Placed) → length all < n → at_rparen rest ≡ true → SpellsInside place p all rest
    → pattern_inside place read all ≡ Some (p, rest)
unfolding pattern_inside
inside_complete n read fits place (var_pattern _ _) all rest below closed h = absurd h
inside_complete n read fits place (bind_pattern _ _ _) all rest below closed h = absurd h
inside_complete n read fits place (bool_pattern _ _) all rest below closed h = absurd h
inside_complete n read fits place (int_pattern _ _) all rest below closed h = absurd h
inside_complete n read fits place (constant_pattern _ _) all rest below closed h = absurd h
inside_complete n read fits place (term_pattern sym ps pos) all rest below closed h =
    let shorter : length h.2 < length all = (name_begins sym all h.2 h.3).1 in
    let absent : is_ahead (is_symbol_of (codes "and")) all ≡ false = name_ahead (codes "and") sym all h.2 h.3 ∙ h.1 in
    rw (flag_absent (codes "and") all absent, name_read sym all h.2 h.3, list_complete n read fits ps h.2 rest (omega arith) closed h.4, list_listed ps, h.0) refl
inside_complete n read fits place (wildcard_pattern _) all rest below closed h = absurd h
inside_complete n read fits place (and_pattern ps pos) all rest below closed h =
    let shorter : length h.1 < length all = word_shorter (codes "and") all h.1 h.2 in
    rw (flag_read (codes "and") all h.1 h.2, list_complete n read fits ps h.1 rest (omega arith) closed h.3, list_listed ps, h.0) refl
inside_complete n read fits place (macro_arg_pattern _ _) all rest below closed h = absurd h

enclosed : (n : ℕ) (read : Reader PatternNode) → Fits n read → (p : PatternNode) (all rest : List Placed) → length all < suc n → InParentheses (SpellsInside (pos_ahead all) p) all rest → pattern_layer read all ≡ Some (p, rest)
unfolding pattern_layer
enclosed n read fits p all rest below h =
    let a : is_ahead is_int all ≡ false = rw h.2.1 refl in
    let b : is_ahead is_symbol all ≡ false = rw h.2.1 refl in
    let c : is_ahead is_lparen all ≡ true = rw h.2.1 refl in
    rw (a, b, c) (parentheses_complete (SpellsInside (pos_ahead all)) (pattern_inside (pos_ahead all) read) p all rest (λ i j lt closed. inside_complete n read fits (pos_ahead all) p i j (omega (arith, lt, below)) closed) h)

at_symbol : (read : Reader PatternNode) (t : List ℕ) (place : Pos) (all rest : List Placed) → all ≡ record { pos = place; token = symbol t } ∷ rest → pattern_layer read all ≡ symbol_pattern (pos_ahead all) read all
unfolding pattern_layer
at_symbol read t place all rest e =
    let a : is_ahead is_int all ≡ false = rw e refl in
    let b : is_ahead is_symbol all ≡ true = rw e refl in
    rw (a, b) refl

wildcard_read : (place : Pos) (read : Reader PatternNode) (all rest : List Placed) → SpellsWord (codes "_") all rest → symbol_pattern place read all ≡ Some (wildcard_pattern place, rest)
unfolding symbol_pattern word_pattern
wildcard_read place read all rest h =
    let a : is_ahead is_const all ≡ false = const_ahead h.1 in
    rw (a, flag_read (codes "_") all rest h) refl

true_read : (place : Pos) (read : Reader PatternNode) (all rest : List Placed) → SpellsWord (codes "true") all rest → symbol_pattern place read all ≡ Some (bool_pattern true place, rest)
unfolding symbol_pattern word_pattern true_pattern
true_read place read all rest h =
    let a : is_ahead is_const all ≡ false = const_ahead h.1 in
    rw (a, flag_absent (codes "_") all (word_ahead h (codes "_")), flag_read (codes "true") all rest h) refl

false_read : (place : Pos) (read : Reader PatternNode) (all rest : List Placed) → SpellsWord (codes "false") all rest → symbol_pattern place read all ≡ Some (bool_pattern false place, rest)
unfolding symbol_pattern word_pattern true_pattern false_pattern
false_read place read all rest h =
    let a : is_ahead is_const all ≡ false = const_ahead h.1 in
    rw (a, flag_absent (codes "_") all (word_ahead h (codes "_")), flag_absent (codes "true") all (word_ahead h (codes "true")), flag_read (codes "false") all rest h) refl

constant_read : (place : Pos) (read : Reader PatternNode) (n : Name) (all rest : List Placed) → constant all ≡ Some (n, rest) → is_ahead is_const all ≡ true → symbol_pattern place read all ≡ Some (constant_pattern n place, rest)
unfolding symbol_pattern
constant_read place read n all rest e a = rw (a, e) refl

-- a variable is read as one
variable_read : (place : Pos) (read : Reader PatternNode) (n : Name) (all rest : List Placed) → SpellsVariable n all rest → symbol_pattern place read all ≡ variable_pattern place read all
unfolding symbol_pattern word_pattern true_pattern false_pattern
variable_read place read n all rest h =
    let t = variable_tests n.text h.0 in
    let spelt : SpellsName n all rest = (t.0, h.1) in
    let a : is_ahead is_const all ≡ false = const_ahead h.1 ∙ t.1 in
    let b : is_ahead (is_symbol_of (codes "_")) all ≡ false = name_ahead (codes "_") n all rest spelt ∙ t.2 in
    let c : is_ahead (is_symbol_of (codes "true")) all ≡ false = name_ahead (codes "true") n all rest spelt ∙ t.3 in
    let d : is_ahead (is_symbol_of (codes "false")) all ≡ false = name_ahead (codes "false") n all rest spelt ∙ t.4 in
    rw (a, flag_absent (codes "_") all b, flag_absent (codes "true") all c, flag_absent (codes "false") all d) refl

variable_name : (n : Name) (all rest : List Placed) → SpellsVariable n all rest → name all ≡ Some (n, rest)
variable_name n all rest h = name_read n all rest ((variable_tests n.text h.0).0, h.1)

alone_read : (place : Pos) (read : Reader PatternNode) (n : Name) (all rest : List Placed) → name all ≡ Some (n, rest) → Goes rest → variable_pattern place read all ≡ Some (var_pattern n place, rest)
unfolding variable_pattern
alone_read place read n all rest e goes = rw (e, goes) refl

bound_read : (place : Pos) (read : Reader PatternNode) (n : Name) (p : PatternNode) (all mid inner rest : List Placed) → name all ≡ Some (n, mid) → SpellsToken at_sign mid inner
    → read inner ≡ Some (p, rest) → variable_pattern place read all ≡ Some (bind_pattern n p place, rest)
unfolding variable_pattern
bound_read place read n p all mid inner rest e at f =
    rw (e, at.1, f) refl

placed_there : (make : Pos → PatternNode) (pos : Pos) (all rest : List Placed) → BeginsAt pos all → ◌≡◌ {A = Option (PatternNode × List Placed)} (Some (make (pos_ahead all), rest)) (Some (make pos, rest))
placed_there make pos all rest h = ap (λ (q : Pos). Some (make q, rest)) (position_of h)

pub int_read : (read : Reader PatternNode) (all rest : List Placed) (val : ℤ) → is_ahead is_int all ≡ true → integer_within 127 all ≡ Some (val, rest) → pattern_layer read all ≡ Some (int_pattern val (pos_ahead all), rest)
unfolding pattern_layer
int_read read all rest val a e = rw (a, e) refl

step_complete : (n : ℕ) (read : Reader PatternNode) → Fits n read → Fits (suc n) (pattern_layer read)
step_complete n read fits (var_pattern v pos) all rest below h ends =
    at_symbol read v.text v.pos all rest h.1.1
    ∙ variable_read (pos_ahead all) read v all rest h.1
    ∙ alone_read (pos_ahead all) read v all rest (variable_name v all rest h.1) ends
    ∙ placed_there (var_pattern v) pos all rest h.0
step_complete n read fits (bind_pattern v p pos) all rest below h ends =
    let behind : length all ≡ suc (length h.1) = rw h.3.1 refl in
    let inside : length h.1 ≡ suc (length h.2) = rw h.4.1 refl in
    at_symbol read v.text v.pos all h.1 h.3.1
    ∙ variable_read (pos_ahead all) read v all h.1 h.3
    ∙ bound_read (pos_ahead all) read v p all h.1 h.2 rest (variable_name v all h.1 h.3) h.4 (fits p h.2 rest (omega arith) h.5 ends)
    ∙ placed_there (bind_pattern v p) pos all rest h.0
step_complete n read fits (bool_pattern true pos) all rest below h ends =
    at_symbol read (codes "true") h.1.0 all rest h.1.1
    ∙ true_read (pos_ahead all) read all rest h.1
    ∙ placed_there (bool_pattern true) pos all rest h.0
step_complete n read fits (bool_pattern false pos) all rest below h ends =
    at_symbol read (codes "false") h.1.0 all rest h.1.1
    ∙ false_read (pos_ahead all) read all rest h.1
    ∙ placed_there (bool_pattern false) pos all rest h.0
step_complete n read fits (int_pattern val pos) all rest below h ends =
    int_read read all rest val (rw h.1.1.1 refl) (signed_complete 127 val all rest h.1)
    ∙ placed_there (int_pattern val) pos all rest h.0
step_complete n read fits (constant_pattern val pos) all rest below h ends =
    at_symbol read (36 ∷ val.text) val.pos all rest h.1.1
    ∙ constant_read (pos_ahead all) read val all rest (constant_complete val all rest h.1) (const_ahead h.1.1)
    ∙ placed_there (constant_pattern val) pos all rest h.0
step_complete n read fits (term_pattern v ps pos) all rest below h ends =
    let inner = h.2 in
    enclosed n read fits (term_pattern v ps pos) all rest below (inner.0, inner.1, inner.2, (sym (position_of h.1), h.0, inner.3.0, inner.3.1, inner.3.2), inner.4)
step_complete n read fits (wildcard_pattern pos) all rest below h ends =
    at_symbol read (codes "_") h.1.0 all rest h.1.1
    ∙ wildcard_read (pos_ahead all) read all rest h.1
    ∙ placed_there (λ q. wildcard_pattern q) pos all rest h.0
step_complete n read fits (and_pattern ps pos) all rest below h ends =
    let inner = h.1 in
    enclosed n read fits (and_pattern ps pos) all rest below (inner.0, inner.1, inner.2, (sym (position_of h.0), inner.3.0, inner.3.1, inner.3.2), inner.4)
step_complete n read fits (macro_arg_pattern i pos) all rest below h ends = absurd h

-- ---- whole patterns

within_sound : (n : ℕ) → Sound SpellsWhole (pattern_within n)
unfolding pattern_within
within_sound zero all rest p e = absurd cc
within_sound (suc n) all rest p e = step_sound (pattern_within n) (within_sound n) all rest p e

within_complete : (n : ℕ) → Fits n (pattern_within n)
unfolding pattern_within
within_complete zero p all rest below h ends = absurd (omega arith)
within_complete (suc n) p all rest below h ends = step_complete n (pattern_within n) (within_complete n) p all rest below h ends

whole_sound : Sound SpellsWhole pattern
unfolding pattern
whole_sound all rest p e = within_sound (suc (length all)) all rest p e

whole_complete : (p : PatternNode) (all rest : List Placed) → SpellsPattern p all rest → Ends p rest → pattern all ≡ Some (p, rest)
unfolding pattern
whole_complete p all rest h ends = within_complete (suc (length all)) p all rest (omega arith) h ends

pub pattern_sound : Sound SpellsPattern pattern
pattern_sound = sound_alone pattern whole_sound

pub pattern_complete : (p : PatternNode) (all rest : List Placed) → Goes rest → SpellsPattern p all rest → pattern all ≡ Some (p, rest)
pattern_complete p all rest goes h = whole_complete p all rest h (ends_there p rest goes)

-- a pattern is one layer, whose parts are patterns
pub pattern-unfolds : (all : List Placed) → pattern all ≡ pattern_layer pattern all
pattern-unfolds all =
    agree (pattern all) (pattern_layer pattern all)
    (λ x e.
    let w = whole_sound all x.1 x.0 e in
    step_complete (length all) pattern (λ p i j below. whole_complete p i j) x.0 all x.1 (omega arith) w.0 w.1)
    (λ x e.
    let w = step_sound pattern whole_sound all x.1 x.0 e in
    whole_complete x.0 all x.1 w.0 w.1)

pub pattern_shrinks : Shrinks pattern
pattern_shrinks = shrinks SpellsPattern pattern pattern_sound pattern_begins
