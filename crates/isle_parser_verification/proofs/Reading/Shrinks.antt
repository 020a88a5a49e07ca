-- Readers of spec expressions leave fewer tokens, or no more, and an expression is one layer, whose parts
-- are expressions. This follows from how they read alone, and not from the grammar.
use Rattle.std.proofs.Common.{◌≡◌, ℕ, zero, suc, ◌≤◌, ◌<◌, inl, inr, Bool, cond, List, [], ◌∷◌, length, Some, None, ap, arith}
use Rattle.isle_base_source.specs.declared.pos.Pos.{Pos}
use Rattle.isle_base.specs.Place.{Placed}
use Rattle.isle_base.specs.Token.{is_int, is_symbol}
use Rattle.isle_ast_verification.specs.Tree.{SpecNode, int_spec}
use Rattle.isle_parser_cursor.specs.Reading.{Reader, ◌>>=◌, at_rparen, in_parentheses, is_ahead, is_lparen, is_rparen, many, many_within, pos_ahead, text}
use Rattle.isle_parser_verification.specs.ModelReaders.{model_type}
use Rattle.isle_parser_cursor.specs.NameReaders.{name, names, head_inside}
use Rattle.isle_parser_cursor.specs.NumberReaders.{integer_within}
use Rattle.isle_parser_verification.specs.SpecReaders.{arm, arm_inside, behind_spec_head, field_init, field_init_inside, spec_expression, spec_inside, spec_let, spec_let_inside, spec_lets, spec_pair}
use Rattle.isle_parser_verification.specs.SpecReaders.{spec_pair_inside, spec_layer, spec_within, spec_word}
use Rattle.isle_parser_verification.specs.SpecWords.{SpecHead, switch_head, let_head, with_head, match_head, struct_head, macro_head, as_head, discriminator_head, expansion_head, operator_head, field_head, variant_head, head_of, word_of}
use Rattle.isle_parser_cursor.proofs.ReaderSteps.{bound}
use Rattle.isle_parser_cursor.proofs.Lengths.{expect_shorter}
use Rattle.isle_parser_cursor.proofs.Names.{name_shrinks, text_sound}
use Rattle.isle_parser_cursor.proofs.Readers.{Shrinks, bind_some, chosen, done, done_is}
use Rattle.isle_parser_verification.proofs.Reading.Models.{model_type_shrinks}
use Rattle.isle_parser_cursor.proofs.Reading.Numbers.{signed_begins, signed_sound}

-- what is read leaves no more tokens
abbrev pub Keeps : {A : Type 0} → Reader A → Type 0
Keeps {A} read = (all rest : List Placed) (x : A) → read all ≡ Some (x, rest) → length rest ≤ length all

pub keeps : {A : Type 0} {read : Reader A} → Shrinks read → Keeps read
keeps shrinks all rest x e = omega (arith, shrinks all rest x e)

-- ---- parts

-- a node that takes no token
pub made_here : {A : Type 0} {x y : A} {i j : List Placed} → done {A = A × List Placed} (x, i) ≡ done {A = A × List Placed} (y, j) → length j ≤ length i
made_here {x = x} {y = y} {i = i} {j = j} e =
    let same : length i ≡ length j = ap (λ (r : List Placed). length r) (done_is x y i j e).1 in
    omega (arith, same)

many_within_keeps : {A : Type 0} (read : Reader A) (stop : List Placed → Bool) → Keeps read → (n : ℕ) → Keeps (many_within n stop read)
unfolding many_within
many_within_keeps read stop k zero all rest xs e = absurd cc
many_within_keeps read stop k (suc n) all rest xs e =
    elim (chosen (stop all) (Some ([], all)) (read all >>= λ x. many_within n stop read x.1 >>= λ xs. Some (x.0 ∷ xs.0, xs.1)) (Some (xs, rest)) e) [
      | inl h ↦ made_here h.1
      | inr h ↦
          let a = bound h.1 in
          let b = bound a.2 in
          omega (arith, k all a.0.1 a.0.0 a.1, many_within_keeps read stop k n a.0.1 b.0.1 b.0.0 b.1, made_here b.2)
    ]

pub many_keeps : {A : Type 0} (read : Reader A) (stop : List Placed → Bool) → Keeps read → Keeps (many stop read)
unfolding many
many_keeps read stop k all rest xs e = many_within_keeps read stop k (suc (length all)) all rest xs e

pub enclosed_shrinks : {A : Type 0} (read : Reader A) → Keeps read → Shrinks (in_parentheses read)
unfolding in_parentheses
enclosed_shrinks read k all rest x e =
    let a = bound e in
    let b = bound a.2 in
    let c = bound b.2 in
    omega (arith, expect_shorter is_lparen all a.0.1 a.0.0 a.1, k a.0.1 b.0.1 b.0.0 b.1, expect_shorter is_rparen b.0.1 c.0.1 c.0.0 c.1, made_here c.2)

pub text_shrinks : Shrinks text
text_shrinks all rest t e =
    let l = ap (λ (r : List Placed). length r) (text_sound all rest t e) in
    omega (arith, l)

pub names_keep : Keeps names
unfolding names
names_keep = keeps (enclosed_shrinks (many at_rparen name) (many_keeps name at_rparen (keeps name_shrinks)))

head_inside_keeps : Keeps head_inside
unfolding head_inside
head_inside_keeps all rest x e =
    let a = bound e in
    let b = bound a.2 in
    omega (arith, name_shrinks all a.0.1 a.0.0 a.1, many_keeps name at_rparen (keeps name_shrinks) a.0.1 b.0.1 b.0.0 b.1, made_here b.2)

pub headed_shrinks : Shrinks (in_parentheses head_inside)
headed_shrinks = enclosed_shrinks head_inside head_inside_keeps

-- ---- parts of an expression, whose expressions `read` reads

pub pair_shrinks : (read : Reader SpecNode) → Shrinks read → Shrinks (spec_pair read)
unfolding spec_pair spec_pair_inside
pair_shrinks read s =
    enclosed_shrinks (spec_pair_inside read) (λ all rest x e.
    let a = bound e in
    let b = bound a.2 in
    omega (arith, s all a.0.1 a.0.0 a.1, s a.0.1 b.0.1 b.0.0 b.1, made_here b.2))

pub one_arm_shrinks : (read : Reader SpecNode) → Shrinks read → Shrinks (arm read)
unfolding arm arm_inside
one_arm_shrinks read s =
    enclosed_shrinks (arm_inside read) (λ all rest x e.
    let a = bound e in
    let b = bound a.2 in
    omega (arith, headed_shrinks all a.0.1 a.0.0 a.1, s a.0.1 b.0.1 b.0.0 b.1, made_here b.2))

pub one_let_shrinks : (read : Reader SpecNode) → Shrinks read → Shrinks (spec_let read)
unfolding spec_let spec_let_inside
one_let_shrinks read s =
    enclosed_shrinks (spec_let_inside read) (λ all rest x e.
    let a = bound e in
    let b = bound a.2 in
    omega (arith, name_shrinks all a.0.1 a.0.0 a.1, s a.0.1 b.0.1 b.0.0 b.1, made_here b.2))

pub lets_keep : (read : Reader SpecNode) → Shrinks read → Keeps (spec_lets read)
unfolding spec_lets
lets_keep read s = keeps (enclosed_shrinks (many at_rparen (spec_let read)) (many_keeps (spec_let read) at_rparen (keeps (one_let_shrinks read s))))

pub one_field_shrinks : (read : Reader SpecNode) → Shrinks read → Shrinks (field_init read)
unfolding field_init field_init_inside
one_field_shrinks read s =
    enclosed_shrinks (field_init_inside read) (λ all rest x e.
    let a = bound e in
    let b = bound a.2 in
    omega (arith, name_shrinks all a.0.1 a.0.0 a.1, s a.0.1 b.0.1 b.0.0 b.1, made_here b.2))

-- ---- what follows a head

-- one part, then another, and a node made of both
two_keep : {A B C : Type 0} (one : Reader A) (other : Reader B) (make : A → B → C) → Keeps one → Keeps other → (all rest : List Placed) (z : C)
    → ◌>>=◌ {B = C × List Placed} (one all) (λ x. ◌>>=◌ {B = C × List Placed} (other x.1) (λ y. Some (make x.0 y.0, y.1))) ≡ Some (z, rest) → length rest ≤ length all
two_keep one other make k h all rest z e =
    let a = bound e in
    let b = bound a.2 in
    omega (arith, k all a.0.1 a.0.0 a.1, h a.0.1 b.0.1 b.0.0 b.1, made_here b.2)

one_keeps : {A B : Type 0} (read : Reader A) (make : A → B) → Keeps read → (all rest : List Placed) (z : B) → ◌>>=◌ {B = B × List Placed} (read all) (λ x. Some (make x.0, x.1)) ≡ Some (z, rest) → length rest ≤ length all
one_keeps read make k all rest z e =
    let a = bound e in
    omega (arith, k all a.0.1 a.0.0 a.1, made_here a.2)

behind_keeps : (read : Reader SpecNode) → Shrinks read → (start place : Pos) (head : SpecHead) → Keeps (behind_spec_head read start place head)
unfolding behind_spec_head
behind_keeps read s start place switch_head all rest y e = two_keep read (many at_rparen (spec_pair read)) _ (keeps s) (many_keeps (spec_pair read) at_rparen (keeps (pair_shrinks read s))) all rest y e
behind_keeps read s start place let_head all rest y e = two_keep (spec_lets read) read _ (lets_keep read s) (keeps s) all rest y e
behind_keeps read s start place with_head all rest y e = two_keep names read _ names_keep (keeps s) all rest y e
behind_keeps read s start place match_head all rest y e = two_keep read (many at_rparen (arm read)) _ (keeps s) (many_keeps (arm read) at_rparen (keeps (one_arm_shrinks read s))) all rest y e
behind_keeps read s start place struct_head all rest y e = one_keeps (many at_rparen (field_init read)) _ (many_keeps (field_init read) at_rparen (keeps (one_field_shrinks read s))) all rest y e
behind_keeps read s start place macro_head all rest y e = two_keep names read _ names_keep (keeps s) all rest y e
behind_keeps read s start place as_head all rest y e = two_keep read model_type _ (keeps s) (keeps model_type_shrinks) all rest y e
behind_keeps read s start place (discriminator_head variant) all rest y e = one_keeps read _ (keeps s) all rest y e
behind_keeps read s start place (expansion_head macro) all rest y e = one_keeps (many at_rparen read) _ (many_keeps read at_rparen (keeps s)) all rest y e
behind_keeps read s start place (operator_head operator) all rest y e = one_keeps (many at_rparen read) _ (many_keeps read at_rparen (keeps s)) all rest y e
behind_keeps read s start place (field_head field) all rest y e = one_keeps read _ (keeps s) all rest y e
behind_keeps read s start place (variant_head enum case) all rest y e = one_keeps (many at_rparen read) _ (many_keeps read at_rparen (keeps s)) all rest y e

-- ---- whole expressions

inside_keeps : (read : Reader SpecNode) → Shrinks read → (start : Pos) → Keeps (spec_inside start read)
unfolding spec_inside
inside_keeps read s start all rest y e =
    let a = bound e in
    let b = bind_some (head_of a.0.0) (λ h. behind_spec_head read start (pos_ahead all) h a.0.1) (y, rest) a.2 in
    omega (arith, text_shrinks all a.0.1 a.0.0 a.1, behind_keeps read s start (pos_ahead all) b.0 a.0.1 rest y b.2)

word_shrinks : Shrinks spec_word
unfolding spec_word
word_shrinks all rest y e =
    let a = bound e in
    let b = bind_some (word_of (pos_ahead all) a.0.0) (λ x. Some (x, a.0.1)) (y, rest) a.2 in
    omega (arith, text_shrinks all a.0.1 a.0.0 a.1, made_here {x = b.0} {y = y} {i = a.0.1} {j = rest} b.2)

abbrev number_step : Reader SpecNode
number_step all = integer_within 127 all >>= λ n. Some (int_spec n.0 (pos_ahead all), n.1)

number_shrinks : (all rest : List Placed) (y : SpecNode) → number_step all ≡ Some (y, rest) → length rest < length all
number_shrinks all rest y e =
    let a = bound e in
    omega (arith, (signed_begins 127 a.0.0 all a.0.1 (signed_sound 127 all a.0.1 a.0.0 a.1)).1, made_here {x = int_spec a.0.0 (pos_ahead all)} {y = y} {i = a.0.1} {j = rest} a.2)

abbrev plain_step : Reader SpecNode
plain_step all = cond (is_ahead is_symbol all) (spec_word all) (cond (is_ahead is_int all) (number_step all) None)

step_shrinks : (read : Reader SpecNode) → Shrinks read → Shrinks (spec_layer read)
unfolding spec_layer
step_shrinks read s all rest y e =
    elim (chosen (is_ahead is_lparen all) (in_parentheses (spec_inside (pos_ahead all) read) all) (plain_step all) (Some (y, rest)) e) [
      | inl h ↦ enclosed_shrinks (spec_inside (pos_ahead all) read) (inside_keeps read s (pos_ahead all)) all rest y h.1
      | inr h ↦
          elim (chosen (is_ahead is_symbol all) (spec_word all) (cond (is_ahead is_int all) (number_step all) None) (Some (y, rest)) h.1) [
            | inl w ↦ word_shrinks all rest y w.1
            | inr w ↦
                elim (chosen (is_ahead is_int all) (number_step all) None (Some (y, rest)) w.1) [
                  | inl n ↦ number_shrinks all rest y n.1
                  | inr n ↦ absurd cc
                ]
          ]
    ]

pub within_shrinks : (n : ℕ) → Shrinks (spec_within n)
unfolding spec_within
within_shrinks zero all rest y e = absurd cc
within_shrinks (suc n) all rest y e = step_shrinks (spec_within n) (within_shrinks n) all rest y e

pub spec_shrinks : Shrinks spec_expression
unfolding spec_expression
spec_shrinks all rest y e = within_shrinks (suc (length all)) all rest y e

pub spec_pair_shrinks : Shrinks (spec_pair spec_expression)
spec_pair_shrinks = pair_shrinks spec_expression spec_shrinks

pub arm_shrinks : Shrinks (arm spec_expression)
arm_shrinks = one_arm_shrinks spec_expression spec_shrinks

pub spec_let_shrinks : Shrinks (spec_let spec_expression)
spec_let_shrinks = one_let_shrinks spec_expression spec_shrinks

pub spec_lets_keep : Keeps (spec_lets spec_expression)
spec_lets_keep = lets_keep spec_expression spec_shrinks

pub field_init_shrinks : Shrinks (field_init spec_expression)
field_init_shrinks = one_field_shrinks spec_expression spec_shrinks
