-- Expressions are read as the grammar spells them.
use Rattle.std.proofs.Common.{◌≡◌, inl, inr, ℕ, zero, suc, ◌≤◌, ◌<◌, Bool, true, false, not, ◌&&◌, ◌||◌, cond, List, [], ◌∷◌, length, Option, Some, None, refl, sym, ap, subst, ◌∙◌, arith}
use Rattle.std.specs.Prelude.{ℤ, codes}
use Rattle.std.specs.Str.{bytes_eq}
use Rattle.isle_base_source.specs.declared.pos.Pos.{Pos}
use Rattle.isle_base.specs.Place.{Placed}
use Rattle.isle_base.specs.Token.{symbol, is_int, is_symbol}
use Rattle.isle_ast_names.specs.Identifier.{is_identifier}
use Rattle.isle_ast_names.specs.Tree.{Name}
use Rattle.isle_ast_rules.specs.Tree.{Expression, term_expression, var_expression, bool_expression, int_expression, constant_expression, let_expression, ExpressionList, no_expression, more_expression, LetList, no_let, more_let}
use Rattle.isle_ast_names.specs.Words.{SpellsWord, BeginsAt, SpellsAll, InParentheses, SpellsName, is_constant}
use Rattle.isle_ast_rules.specs.ExpressionGrammar.{is_variable_of_expressions, SpellsExpressionVariable, SpellsExpression, SpellsExpressions, SpellsLets}
use Rattle.isle_ast_rules.specs.TreeView.{SingleLet, expression_list_of, let_list_of}
use Rattle.isle_parser_cursor.specs.Reading.{Reader, ◌>>=◌, is_ahead, is_lparen, is_symbol_of, at_rparen, pos_ahead, in_parentheses, many, is_const}
use Rattle.isle_parser_rules.specs.ExpressionReaders.{let_inside, let_definition, let_definitions, expression_inside, variable_expression, false_expression, word_expression, symbol_expression}
use Rattle.isle_parser_rules.specs.ExpressionReaders.{expression_layer, expression_within, expression}
use Rattle.isle_parser_cursor.specs.NameReaders.{name}
use Rattle.isle_parser_cursor.specs.NumberReaders.{integer_within}
use Rattle.isle_parser_rules.specs.ConstantReaders.{constant}
use Rattle.isle_parser_cursor.proofs.ReaderSteps.{nothing, made_of, word_ahead, word_at, word_shorter, flag_read, flag_absent, choice, list_sound, position_of, begins_here, name_at, opened_at, at_place, from_place}
use Rattle.isle_parser_cursor.proofs.Flags.{name_ahead}
use Rattle.isle_parser_cursor.proofs.Names.{name_sound, name_read, name_begins}
use Rattle.isle_parser_cursor.proofs.Readers.{agree, Sound, Begins, Shrinks, begins_node, bind_some, chosen, done_is, moved, shrinks, many_complete, stopping_closes, list_shorter, parentheses_sound, parentheses_complete, parentheses_begin}
use Rattle.isle_parser_cursor.proofs.Reading.Numbers.{signed_sound, signed_complete, signed_begins}
use Rattle.isle_parser_rules.proofs.Reading.Patterns.{const_ahead, constant_at}
use Rattle.isle_parser_rules.proofs.Reading.Constants.{constant_sound, constant_complete}

-- ---- lists

expressions_spelt : (xs : List Expression) (all rest : List Placed) → SpellsAll SpellsExpression xs all rest → SpellsExpressions (expression_list_of xs) all rest
expressions_spelt [] all rest h = h
expressions_spelt (x ∷ xs) all rest h = (h.0, h.1, expressions_spelt xs h.0 rest h.2)

abbrev listed : ExpressionList → List Expression
listed no_expression = []
listed (more_expression x xs) = x ∷ listed xs

list_listed : (xs : ExpressionList) → expression_list_of (listed xs) ≡ xs
list_listed no_expression = refl
list_listed (more_expression x xs) = ap (more_expression x) (list_listed xs)

expressions_listed : (xs : ExpressionList) (all rest : List Placed) → SpellsExpressions xs all rest → SpellsAll SpellsExpression (listed xs) all rest
expressions_listed no_expression all rest h = h
expressions_listed (more_expression x xs) all rest h = (h.0, h.1, expressions_listed xs h.0 rest h.2)

-- what is in the parentheses of a definition
abbrev SpellsLetInside : SingleLet → List Placed → List Placed → Type 0
SpellsLetInside d inner close =
    (behind_var behind_ty : List Placed) × SpellsName d.var inner behind_var × SpellsName d.ty behind_var behind_ty × SpellsExpression d.val behind_ty close

abbrev SpellsLet : SingleLet → List Placed → List Placed → Type 0
SpellsLet d all rest = BeginsAt d.pos all × InParentheses (SpellsLetInside d) all rest

abbrev let_pos : SingleLet → Pos
let_pos d = d.pos

abbrev SpellsLetAt : Pos → SingleLet → List Placed → List Placed → Type 0
SpellsLetAt place d inner close = (d.pos ≡ place) × SpellsLetInside d inner close

lets_spelt : (ds : List SingleLet) (all rest : List Placed) → SpellsAll SpellsLet ds all rest → SpellsLets (let_list_of ds) all rest
lets_spelt [] all rest h = h
lets_spelt (d ∷ ds) all rest h = (h.0, h.1, lets_spelt ds h.0 rest h.2)

abbrev listed_lets : LetList → List SingleLet
listed_lets no_let = []
listed_lets (more_let var ty val pos ds) = record { var = var; ty = ty; val = val; pos = pos } ∷ listed_lets ds

lets_list : (ds : LetList) → let_list_of (listed_lets ds) ≡ ds
lets_list no_let = refl
lets_list (more_let var ty val pos ds) = ap (more_let var ty val pos) (lets_list ds)

lets_listed : (ds : LetList) (all rest : List Placed) → SpellsLets ds all rest → SpellsAll SpellsLet (listed_lets ds) all rest
lets_listed no_let all rest h = h
lets_listed (more_let var ty val pos ds) all rest h = (h.0, h.1, lets_listed ds h.0 rest h.2)

-- ---- how an expression begins

mutual
  pub expression_begins : (x : Expression) (all rest : List Placed) → SpellsExpression x all rest → (is_ahead begins_node all ≡ true) × (length rest < length all)
  expression_begins (term_expression n xs pos) all rest h = parentheses_begin _ (λ i j b. omega (arith, (name_begins n i b.0 b.1).1, expressions_shorter xs b.0 j b.2)) all rest h.2
  expression_begins (var_expression n pos) all rest h = (rw h.1.1 refl, rw h.1.1 (omega arith))
  expression_begins (bool_expression val pos) all rest h = (rw h.1.1 refl, rw h.1.1 (omega arith))
  expression_begins (int_expression val pos) all rest h = signed_begins 127 val all rest h.1
  expression_begins (constant_expression val pos) all rest h = (rw h.1.1 refl, rw h.1.1 (omega arith))
  expression_begins (let_expression ds x pos) all rest h =
      parentheses_begin _ (λ i j b.
      let body = b.2 in
      let list = parentheses_begin (SpellsLets ds) (λ k l r. lets_shorter ds k l r) b.0 body.0 body.1 in
      omega (arith, word_shorter (codes "let") i b.0 b.1, list.1, (expression_begins x body.0 j body.2).1)) all rest h.1

  expressions_shorter : (xs : ExpressionList) (all rest : List Placed) → SpellsExpressions xs all rest → length rest ≤ length all
  expressions_shorter no_expression all rest h = rw h (omega arith)
  expressions_shorter (more_expression x xs) all rest h = omega (arith, (expression_begins x all h.0 h.1).1, expressions_shorter xs h.0 rest h.2)

  lets_shorter : (ds : LetList) (all rest : List Placed) → SpellsLets ds all rest → length rest ≤ length all
  lets_shorter no_let all rest h = rw h (omega arith)
  lets_shorter (more_let var ty val pos ds) all rest h =
      let one = parentheses_begin _ (λ i j b. omega (arith, (name_begins var i b.0 b.2).1, (name_begins ty b.0 b.1 b.3).1, (expression_begins val b.1 j b.4).1)) all h.0 h.1.1 in
      omega (arith, one.1, lets_shorter ds h.0 rest h.2)

let_begins : Begins SpellsLet
let_begins d all rest h = parentheses_begin (SpellsLetInside d) (λ i j b. omega (arith, (name_begins d.var i b.0 b.2).1, (name_begins d.ty b.0 b.1 b.3).1, (expression_begins d.val b.1 j b.4).1)) all rest h.1

-- ---- variables

word_tests : (a b c d : Bool) → (a && not b && not (c || d)) ≡ true → (a ≡ true) × (b ≡ false) × (c ≡ false) × (d ≡ false)
word_tests false b c d h = absurd cc
word_tests true true c d h = absurd cc
word_tests true false true d h = absurd cc
word_tests true false false true h = absurd cc
word_tests true false false false h = (refl, refl, refl, refl)

-- what a variable isn't
variable_tests : (t : List ℕ) → is_variable_of_expressions t ≡ true → (is_identifier t ≡ true) × (is_constant t ≡ false) × (bytes_eq t (codes "true") ≡ false) × (bytes_eq t (codes "false") ≡ false)
variable_tests t h = word_tests (is_identifier t) (is_constant t) (bytes_eq t (codes "true")) (bytes_eq t (codes "false")) h

tests_variable : (t : List ℕ) → is_identifier t ≡ true → is_constant t ≡ false → bytes_eq t (codes "true") ≡ false → bytes_eq t (codes "false") ≡ false → is_variable_of_expressions t ≡ true
tests_variable t a b c d = rw (a, b, c, d) refl

-- ---- what is read is spelt

let_inside_sound : (place : Pos) (read : Reader Expression) → Sound SpellsExpression read → Sound (SpellsLetAt place) (let_inside place read)
unfolding let_inside
let_inside_sound place read sound all rest d e =
    let n = bind_some (name all) (λ n. name n.1 >>= λ ty. read ty.1 >>= λ x. Some (record { var = n.0; ty = ty.0; val = x.0; pos = place }, x.1)) (d, rest) e in
    let ty = bind_some (name n.0.1) (λ ty. read ty.1 >>= λ x. Some (record { var = n.0.0; ty = ty.0; val = x.0; pos = place }, x.1)) (d, rest) n.2 in
    let x = bind_some (read ty.0.1) (λ x. Some (record { var = n.0.0; ty = ty.0.0; val = x.0; pos = place }, x.1)) (d, rest) ty.2 in
    let made : SingleLet = record { var = n.0.0; ty = ty.0.0; val = x.0.0; pos = place } in
    let is = done_is made d x.0.1 rest x.2 in
    moved (SpellsLetAt place) made d all x.0.1 rest is (refl, (n.0.1, ty.0.1, name_sound all n.0.1 n.0.0 n.1, name_sound n.0.1 ty.0.1 ty.0.0 ty.1, sound ty.0.1 x.0.1 x.0.0 x.1))

let_definition_sound : (read : Reader Expression) → Sound SpellsExpression read → Sound SpellsLet (let_definition read)
unfolding let_definition
let_definition_sound read sound all rest d e =
    at_place SpellsLetInside let_pos d all rest (parentheses_sound (SpellsLetAt (pos_ahead all)) (let_inside (pos_ahead all) read) (let_inside_sound (pos_ahead all) read sound) all rest d e)

lets_sound : (read : Reader Expression) → Sound SpellsExpression read → (all rest : List Placed) (ds : List SingleLet) → let_definitions read all ≡ Some (ds, rest) → InParentheses (SpellsAll SpellsLet ds) all rest
unfolding let_definitions
lets_sound read sound all rest ds e =
    parentheses_sound (SpellsAll SpellsLet) (many at_rparen (let_definition read)) (list_sound SpellsLet (let_definition read) (let_definition_sound read sound)) all rest ds e

list_in_parentheses : (ds : List SingleLet) (all rest : List Placed) → InParentheses (SpellsAll SpellsLet ds) all rest → InParentheses (SpellsLets (let_list_of ds)) all rest
list_in_parentheses ds all rest h = (h.0, h.1, h.2, lets_spelt ds h.0 h.1 h.3, h.4)

-- what is in the parentheses of an expression whose `(` is at this place
abbrev pub SpellsInside : Pos → Expression → List Placed → List Placed → Type 0
SpellsInside place (term_expression n xs pos) all rest =
    (pos ≡ place) × (bytes_eq n.text (codes "let") ≡ false) × (mid : List Placed) × SpellsName n all mid × SpellsExpressions xs mid rest
SpellsInside place (var_expression _ _) all rest = ⊥
SpellsInside place (bool_expression _ _) all rest = ⊥
SpellsInside place (int_expression _ _) all rest = ⊥
SpellsInside place (constant_expression _ _) all rest = ⊥
SpellsInside place (let_expression ds x pos) all rest =
    (pos ≡ place) × (inner mid : List Placed) × SpellsWord (codes "let") all inner × InParentheses (SpellsLets ds) inner mid × SpellsExpression x mid rest

opened_there : (pos : Pos) (R : List Placed → List Placed → Type 0) (all rest : List Placed) → pos ≡ pos_ahead all → InParentheses R all rest → BeginsAt pos all
opened_there pos R all rest is h = subst (λ (q : Pos). BeginsAt q all) (sym is) (opened_at R all rest h)

pub from_inside : (x : Expression) (all rest : List Placed) → InParentheses (SpellsInside (pos_ahead all) x) all rest → SpellsExpression x all rest
from_inside (term_expression n xs pos) all rest h =
    let inside = h.3 in
    (inside.1, opened_there pos _ all rest inside.0 h, (h.0, h.1, h.2, (inside.2, inside.3, inside.4), h.4))
from_inside (var_expression _ _) all rest h = absurd h.3
from_inside (bool_expression _ _) all rest h = absurd h.3
from_inside (int_expression _ _) all rest h = absurd h.3
from_inside (constant_expression _ _) all rest h = absurd h.3
from_inside (let_expression ds x pos) all rest h =
    let inside = h.3 in
    (opened_there pos _ all rest inside.0 h, (h.0, h.1, h.2, (inside.1, inside.3, (inside.2, inside.4, inside.5)), h.4))

-- an expression that begins with `(`
abbrev is_list : Expression → Bool
is_list (term_expression _ _ _) = true
is_list (var_expression _ _) = false
is_list (bool_expression _ _) = false
is_list (int_expression _ _) = false
is_list (constant_expression _ _) = false
is_list (let_expression _ _ _) = true

pub to_inside : (x : Expression) (all rest : List Placed) → is_list x ≡ true → SpellsExpression x all rest → InParentheses (SpellsInside (pos_ahead all) x) all rest
to_inside (term_expression n xs pos) all rest e h =
    let inner = h.2 in
    (inner.0, inner.1, inner.2, (sym (position_of h.1), h.0, inner.3.0, inner.3.1, inner.3.2), inner.4)
to_inside (var_expression _ _) all rest e h = absurd cc
to_inside (bool_expression _ _) all rest e h = absurd cc
to_inside (int_expression _ _) all rest e h = absurd cc
to_inside (constant_expression _ _) all rest e h = absurd cc
to_inside (let_expression ds x pos) all rest e h =
    let inner = h.1 in
    let body = inner.3.2 in
    (inner.0, inner.1, inner.2, (sym (position_of h.0), inner.3.0, body.0, inner.3.1, body.1, body.2), inner.4)

inside_sound : (place : Pos) (read : Reader Expression) → Sound SpellsExpression read → Sound (SpellsInside place) (expression_inside place read)
unfolding expression_inside
inside_sound place read sound all rest x e =
    elim (choice (codes "let") (λ i. let_definitions read i >>= λ ds. read ds.1 >>= λ body. Some (let_expression (let_list_of ds.0) body.0 place, body.1))
    (λ i. name i >>= λ n. many at_rparen read n.1 >>= λ xs. Some (term_expression n.0 (expression_list_of xs.0) place, xs.1)) all e) [
      | inl h ↦
          let ds = bind_some (let_definitions read h.0) (λ ds. read ds.1 >>= λ body. Some (let_expression (let_list_of ds.0) body.0 place, body.1)) (x, rest) h.2 in
          let body = made_of (λ (body : Expression). let_expression (let_list_of ds.0.0) body place) ds.2 in
          let list = list_in_parentheses ds.0.0 h.0 ds.0.1 (lets_sound read sound h.0 ds.0.1 ds.0.0 ds.1) in
          subst (λ (x : Expression). SpellsInside place x all rest) body.2 (refl, h.0, ds.0.1, h.1, list, sound ds.0.1 rest body.0 body.1)
      | inr h ↦
          let n = bind_some (name all) (λ n. many at_rparen read n.1 >>= λ xs. Some (term_expression n.0 (expression_list_of xs.0) place, xs.1)) (x, rest) h.1 in
          let xs = made_of (λ (xs : List Expression). term_expression n.0.0 (expression_list_of xs) place) n.2 in
          let spelt = name_sound all n.0.1 n.0.0 n.1 in
          let list = expressions_spelt xs.0 n.0.1 rest (list_sound SpellsExpression read sound n.0.1 rest xs.0 xs.1) in
          subst (λ (x : Expression). SpellsInside place x all rest) xs.2 (refl, sym (name_ahead (codes "let") n.0.0 all n.0.1 spelt) ∙ h.0, n.0.1, spelt, list)
    ]

variable_sound : (all rest : List Placed) (x : Expression) → is_ahead is_const all ≡ false → is_ahead (is_symbol_of (codes "true")) all ≡ false → is_ahead (is_symbol_of (codes "false")) all ≡ false
    → variable_expression (pos_ahead all) all ≡ Some (x, rest) → SpellsExpression x all rest
unfolding variable_expression
variable_sound all rest x a b c e =
    let n = made_of (λ (n : Name). var_expression n (pos_ahead all)) e in
    let spelt = name_sound all rest n.0 n.1 in
    let p : is_constant n.0.text ≡ false = sym (const_ahead spelt.1) ∙ a in
    let q : bytes_eq n.0.text (codes "true") ≡ false = sym (name_ahead (codes "true") n.0 all rest spelt) ∙ b in
    let r : bytes_eq n.0.text (codes "false") ≡ false = sym (name_ahead (codes "false") n.0 all rest spelt) ∙ c in
    subst (λ (x : Expression). SpellsExpression x all rest) n.2 (name_at n.0 all rest spelt, (tests_variable n.0.text spelt.0 p q r, spelt.1))

words_sound : (all rest : List Placed) (x : Expression) → is_ahead is_const all ≡ false → word_expression (pos_ahead all) all ≡ Some (x, rest) → SpellsExpression x all rest
unfolding word_expression false_expression
words_sound all rest x apart e =
    elim (choice (codes "true") (λ i. Some (bool_expression true (pos_ahead all), i)) (false_expression (pos_ahead all)) all e) [
      | inl g ↦ moved SpellsExpression (bool_expression true (pos_ahead all)) x all g.0 rest (done_is (bool_expression true (pos_ahead all)) x g.0 rest g.2) (word_at g.1, g.1)
      | inr g ↦
          elim (choice (codes "false") (λ i. Some (bool_expression false (pos_ahead all), i)) (variable_expression (pos_ahead all)) all g.1) [
            | inl f ↦ moved SpellsExpression (bool_expression false (pos_ahead all)) x all f.0 rest (done_is (bool_expression false (pos_ahead all)) x f.0 rest f.2) (word_at f.1, f.1)
            | inr f ↦ variable_sound all rest x apart g.0 f.0 f.1
          ]
    ]

symbol_sound : (all rest : List Placed) (x : Expression) → symbol_expression (pos_ahead all) all ≡ Some (x, rest) → SpellsExpression x all rest
unfolding symbol_expression
symbol_sound all rest x e =
    elim (chosen (is_ahead is_const all) (constant all >>= λ c. Some (constant_expression c.0 (pos_ahead all), c.1)) (word_expression (pos_ahead all) all) (Some (x, rest)) e) [
      | inl h ↦
          let c = made_of (λ (c : Name). constant_expression c (pos_ahead all)) h.1 in
          subst (λ (x : Expression). SpellsExpression x all rest) c.2 (constant_at c.0 all rest c.1, constant_sound all rest c.0 c.1)
      | inr h ↦ words_sound all rest x h.0 h.1
    ]

step_sound : (read : Reader Expression) → Sound SpellsExpression read → Sound SpellsExpression (expression_layer read)
unfolding expression_layer
step_sound read sound all rest x e =
    elim (chosen (is_ahead is_lparen all) (in_parentheses (expression_inside (pos_ahead all) read) all)
    (cond (is_ahead is_symbol all) (symbol_expression (pos_ahead all) all) (cond (is_ahead is_int all) (integer_within 127 all >>= λ n. Some (int_expression n.0 (pos_ahead all), n.1)) None))
    (Some (x, rest)) e) [
      | inl h ↦ from_inside x all rest (parentheses_sound (SpellsInside (pos_ahead all)) (expression_inside (pos_ahead all) read) (inside_sound (pos_ahead all) read sound) all rest x h.1)
      | inr h ↦
          elim (chosen (is_ahead is_symbol all) (symbol_expression (pos_ahead all) all) (cond (is_ahead is_int all) (integer_within 127 all >>= λ n. Some (int_expression n.0 (pos_ahead all), n.1)) None) (Some (x, rest)) h.1) [
            | inl g ↦ symbol_sound all rest x g.1
            | inr g ↦
                elim (chosen (is_ahead is_int all) (integer_within 127 all >>= λ n. Some (int_expression n.0 (pos_ahead all), n.1)) None (Some (x, rest)) g.1) [
                  | inl f ↦
                      let n = made_of (λ (n : ℤ). int_expression n (pos_ahead all)) f.1 in
                      let spelt = signed_sound 127 all rest n.0 n.1 in
                      subst (λ (x : Expression). SpellsExpression x all rest) n.2 (begins_here all (signed_begins 127 n.0 all rest spelt).0, spelt)
                  | inr f ↦ absurd (nothing f.1)
                ]
          ]
    ]

-- ---- what is spelt is read

-- complete on expressions of fewer tokens than this
abbrev Fits : ℕ → Reader Expression → Type 0
Fits n read = (x : Expression) (all rest : List Placed) → length all < n → SpellsExpression x all rest → read all ≡ Some (x, rest)

list_complete : (n : ℕ) (read : Reader Expression) → Fits n read → (xs : ExpressionList) (all rest : List Placed) → length all < n → at_rparen rest ≡ true → SpellsExpressions xs all rest → many at_rparen read all ≡ Some (listed xs, rest)
list_complete n read fits xs all rest below closed h =
    many_complete SpellsExpression read at_rparen n (λ x i j lt goes. fits x i j lt) expression_begins stopping_closes (listed xs) all rest below (expressions_listed xs all rest h) closed

let_inside_complete : (n : ℕ) (read : Reader Expression) → Fits n read → (place : Pos) (d : SingleLet) (all rest : List Placed) → length all < n → SpellsLetAt place d all rest → let_inside place read all ≡ Some (d, rest)
unfolding let_inside
let_inside_complete n read fits place d all rest below h =
    let inside = h.1 in
    let a : length inside.0 < length all = (name_begins d.var all inside.0 inside.2).1 in
    let b : length inside.1 < length inside.0 = (name_begins d.ty inside.0 inside.1 inside.3).1 in
    let place_is : place ≡ d.pos = sym h.0 in
    rw (name_read d.var all inside.0 inside.2, name_read d.ty inside.0 inside.1 inside.3, fits d.val inside.1 rest (omega arith) inside.4, place_is) refl

let_definition_complete : (n : ℕ) (read : Reader Expression) → Fits n read → (d : SingleLet) (all rest : List Placed) → length all < n → SpellsLet d all rest → let_definition read all ≡ Some (d, rest)
unfolding let_definition
let_definition_complete n read fits d all rest below h =
    parentheses_complete (SpellsLetAt (pos_ahead all)) (let_inside (pos_ahead all) read) d all rest (λ i j lt closed. let_inside_complete n read fits (pos_ahead all) d i j (omega (arith, lt, below)))
    (from_place SpellsLetInside let_pos d all rest h.0 h.1)

lets_complete : (n : ℕ) (read : Reader Expression) → Fits n read → (ds : LetList) (all rest : List Placed) → length all < n → InParentheses (SpellsLets ds) all rest → let_definitions read all ≡ Some (listed_lets ds, rest)
unfolding let_definitions
lets_complete n read fits ds all rest below h =
    parentheses_complete (SpellsAll SpellsLet) (many at_rparen (let_definition read)) (listed_lets ds) all rest (λ i j lt closed list.
    many_complete SpellsLet (let_definition read) at_rparen n (λ d k l less goes. let_definition_complete n read fits d k l less) let_begins stopping_closes (listed_lets ds) i j
    (omega (arith, lt, below)) list closed) (h.0, h.1, h.2, lets_listed ds h.0 h.1 h.3, h.4)

inside_complete : (n : ℕ) (read : Reader Expression) → Fits n read → (place : Pos) (x : Expression) (all rest : List Placed) → length all < n → at_rparen rest ≡ true → SpellsInside place x all rest
    → expression_inside place read all ≡ Some (x, rest)
unfolding expression_inside
inside_complete n read fits place (term_expression sym xs pos) all rest below closed h =
    let shorter : length h.2 < length all = (name_begins sym all h.2 h.3).1 in
    let absent : is_ahead (is_symbol_of (codes "let")) all ≡ false = name_ahead (codes "let") sym all h.2 h.3 ∙ h.1 in
    rw (flag_absent (codes "let") all absent, name_read sym all h.2 h.3, list_complete n read fits xs h.2 rest (omega arith) closed h.4, list_listed xs, h.0) refl
inside_complete n read fits place (var_expression _ _) all rest below closed h = absurd h
inside_complete n read fits place (bool_expression _ _) all rest below closed h = absurd h
inside_complete n read fits place (int_expression _ _) all rest below closed h = absurd h
inside_complete n read fits place (constant_expression _ _) all rest below closed h = absurd h
inside_complete n read fits place (let_expression ds x pos) all rest below closed h =
    let shorter : length h.1 < length all = word_shorter (codes "let") all h.1 h.3 in
    let list = parentheses_begin (SpellsLets ds) (λ k l r. lets_shorter ds k l r) h.1 h.2 h.4 in
    rw (flag_read (codes "let") all h.1 h.3, lets_complete n read fits ds h.1 h.2 (omega arith) h.4, fits x h.2 rest (omega (arith, list.1)) h.5, lets_list ds, h.0) refl

enclosed : (n : ℕ) (read : Reader Expression) → Fits n read → (x : Expression) (all rest : List Placed) → length all < suc n → InParentheses (SpellsInside (pos_ahead all) x) all rest → expression_layer read all ≡ Some (x, rest)
unfolding expression_layer
enclosed n read fits x all rest below h =
    let a : is_ahead is_lparen all ≡ true = rw h.2.1 refl in
    rw a (parentheses_complete (SpellsInside (pos_ahead all)) (expression_inside (pos_ahead all) read) x all rest (λ i j lt closed. inside_complete n read fits (pos_ahead all) x i j (omega (arith, lt, below)) closed) h)

at_symbol : (read : Reader Expression) (t : List ℕ) (place : Pos) (all rest : List Placed) → all ≡ record { pos = place; token = symbol t } ∷ rest → expression_layer read all ≡ symbol_expression (pos_ahead all) all
unfolding expression_layer
at_symbol read t place all rest e =
    let a : is_ahead is_lparen all ≡ false = rw e refl in
    let b : is_ahead is_symbol all ≡ true = rw e refl in
    rw (a, b) refl

true_read : (place : Pos) (all rest : List Placed) → SpellsWord (codes "true") all rest → symbol_expression place all ≡ Some (bool_expression true place, rest)
unfolding symbol_expression word_expression
true_read place all rest h =
    let a : is_ahead is_const all ≡ false = const_ahead h.1 in
    rw (a, flag_read (codes "true") all rest h) refl

false_read : (place : Pos) (all rest : List Placed) → SpellsWord (codes "false") all rest → symbol_expression place all ≡ Some (bool_expression false place, rest)
unfolding symbol_expression word_expression false_expression
false_read place all rest h =
    let a : is_ahead is_const all ≡ false = const_ahead h.1 in
    rw (a, flag_absent (codes "true") all (word_ahead h (codes "true")), flag_read (codes "false") all rest h) refl

constant_read : (place : Pos) (n : Name) (all rest : List Placed) → constant all ≡ Some (n, rest) → is_ahead is_const all ≡ true → symbol_expression place all ≡ Some (constant_expression n place, rest)
unfolding symbol_expression
constant_read place n all rest e a = rw (a, e) refl

variable_read : (place : Pos) (n : Name) (all rest : List Placed) → SpellsExpressionVariable n all rest → symbol_expression place all ≡ Some (var_expression n place, rest)
unfolding symbol_expression word_expression false_expression variable_expression
variable_read place n all rest h =
    let t = variable_tests n.text h.0 in
    let spelt : SpellsName n all rest = (t.0, h.1) in
    let a : is_ahead is_const all ≡ false = const_ahead h.1 ∙ t.1 in
    let b : is_ahead (is_symbol_of (codes "true")) all ≡ false = name_ahead (codes "true") n all rest spelt ∙ t.2 in
    let c : is_ahead (is_symbol_of (codes "false")) all ≡ false = name_ahead (codes "false") n all rest spelt ∙ t.3 in
    rw (a, flag_absent (codes "true") all b, flag_absent (codes "false") all c, name_read n all rest spelt) refl

placed_there : (make : Pos → Expression) (pos : Pos) (all rest : List Placed) → BeginsAt pos all → ◌≡◌ {A = Option (Expression × List Placed)} (Some (make (pos_ahead all), rest)) (Some (make pos, rest))
placed_there make pos all rest h = ap (λ (q : Pos). Some (make q, rest)) (position_of h)

pub int_read : (read : Reader Expression) (all rest : List Placed) (val : ℤ) → is_ahead is_lparen all ≡ false → is_ahead is_symbol all ≡ false → is_ahead is_int all ≡ true
    → integer_within 127 all ≡ Some (val, rest) → expression_layer read all ≡ Some (int_expression val (pos_ahead all), rest)
unfolding expression_layer
int_read read all rest val a b c e = rw (a, b, c, e) refl

step_complete : (n : ℕ) (read : Reader Expression) → Fits n read → Fits (suc n) (expression_layer read)
step_complete n read fits (term_expression v xs pos) all rest below h =
    enclosed n read fits (term_expression v xs pos) all rest below (to_inside (term_expression v xs pos) all rest refl h)
step_complete n read fits (var_expression v pos) all rest below h =
    at_symbol read v.text v.pos all rest h.1.1
    ∙ variable_read (pos_ahead all) v all rest h.1
    ∙ placed_there (var_expression v) pos all rest h.0
step_complete n read fits (bool_expression true pos) all rest below h =
    at_symbol read (codes "true") h.1.0 all rest h.1.1
    ∙ true_read (pos_ahead all) all rest h.1
    ∙ placed_there (bool_expression true) pos all rest h.0
step_complete n read fits (bool_expression false pos) all rest below h =
    at_symbol read (codes "false") h.1.0 all rest h.1.1
    ∙ false_read (pos_ahead all) all rest h.1
    ∙ placed_there (bool_expression false) pos all rest h.0
step_complete n read fits (int_expression val pos) all rest below h =
    int_read read all rest val (rw h.1.1.1 refl) (rw h.1.1.1 refl) (rw h.1.1.1 refl) (signed_complete 127 val all rest h.1)
    ∙ placed_there (int_expression val) pos all rest h.0
step_complete n read fits (constant_expression val pos) all rest below h =
    at_symbol read (36 ∷ val.text) val.pos all rest h.1.1
    ∙ constant_read (pos_ahead all) val all rest (constant_complete val all rest h.1) (const_ahead h.1.1)
    ∙ placed_there (constant_expression val) pos all rest h.0
step_complete n read fits (let_expression ds x pos) all rest below h =
    enclosed n read fits (let_expression ds x pos) all rest below (to_inside (let_expression ds x pos) all rest refl h)

-- ---- whole expressions

within_sound : (n : ℕ) → Sound SpellsExpression (expression_within n)
unfolding expression_within
within_sound zero all rest x e = absurd cc
within_sound (suc n) all rest x e = step_sound (expression_within n) (within_sound n) all rest x e

within_complete : (n : ℕ) → Fits n (expression_within n)
unfolding expression_within
within_complete zero x all rest below h = absurd (omega arith)
within_complete (suc n) x all rest below h = step_complete n (expression_within n) (within_complete n) x all rest below h

pub expression_sound : Sound SpellsExpression expression
unfolding expression
expression_sound all rest x e = within_sound (suc (length all)) all rest x e

pub expression_complete : (x : Expression) (all rest : List Placed) → SpellsExpression x all rest → expression all ≡ Some (x, rest)
unfolding expression
expression_complete x all rest h = within_complete (suc (length all)) x all rest (omega arith) h

-- an expression is one layer, whose parts are expressions
pub expression-unfolds : (all : List Placed) → expression all ≡ expression_layer expression all
expression-unfolds all =
    agree (expression all) (expression_layer expression all)
    (λ x e. step_complete (length all) expression (λ y i j below. expression_complete y i j) x.0 all x.1 (omega arith) (expression_sound all x.1 x.0 e))
    (λ x e. expression_complete x.0 all x.1 (step_sound expression expression_sound all x.1 x.0 e))

-- ---- the parts of an expression

pub expression_shrinks : Shrinks expression
expression_shrinks = shrinks SpellsExpression expression expression_sound expression_begins

pub let_definition_shrinks : Shrinks (let_definition expression)
let_definition_shrinks = shrinks SpellsLet (let_definition expression) (let_definition_sound expression expression_sound) let_begins

pub let_definitions_shrink : Shrinks (let_definitions expression)
let_definitions_shrink all rest ds e =
    (parentheses_begin (SpellsAll SpellsLet ds) (λ i j b. list_shorter SpellsLet let_begins ds i j b) all rest (lets_sound expression expression_sound all rest ds e)).1

-- what is read after a `(`
pub expression_inside_sound : (place : Pos) → Sound (SpellsInside place) (expression_inside place expression)
expression_inside_sound place = inside_sound place expression expression_sound

pub expression_inside_complete : (place : Pos) (x : Expression) (all rest : List Placed) → at_rparen rest ≡ true → SpellsInside place x all rest → expression_inside place expression all ≡ Some (x, rest)
expression_inside_complete place x all rest closed h = inside_complete (suc (length all)) expression (λ y i j below. expression_complete y i j) place x all rest (omega arith) closed h
