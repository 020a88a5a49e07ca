-- A spec expression is one layer, whose parts are spec expressions: layers past the number of tokens change nothing.
use Rattle.std.proofs.Common.{◌≡◌, ℕ, zero, suc, ◌<◌, Bool, cond, List, [], length, Option, Some, None, refl, ap, ◌∙◌, arith}
use Rattle.isle_base_source.specs.declared.pos.Pos.{Pos}
use Rattle.isle_base.specs.Place.{Placed}
use Rattle.isle_base.specs.Token.{is_int, is_symbol}
use Rattle.isle_ast_verification.specs.Tree.{SpecNode, int_spec}
use Rattle.isle_parser_cursor.specs.Reading.{Reader, ◌>>=◌, at_rparen, expect, in_parentheses, is_ahead, is_lparen, many, many_within, pos_ahead, text}
use Rattle.isle_parser_verification.specs.ModelReaders.{model_type}
use Rattle.isle_parser_cursor.specs.NameReaders.{name, names, head_inside}
use Rattle.isle_parser_cursor.specs.NumberReaders.{integer_within}
use Rattle.isle_parser_verification.specs.SpecReaders.{arm, arm_inside, behind_spec_head, field_init, field_init_inside, spec_expression, spec_inside, spec_let, spec_let_inside, spec_lets, spec_pair}
use Rattle.isle_parser_verification.specs.SpecReaders.{spec_pair_inside, spec_layer, spec_within, spec_word}
use Rattle.isle_parser_verification.specs.SpecWords.{SpecHead, switch_head, let_head, with_head, match_head, struct_head, macro_head, as_head, discriminator_head, expansion_head, operator_head, field_head, variant_head, head_of}
use Rattle.isle_parser_cursor.proofs.Lengths.{expect_shorter}
use Rattle.isle_parser_cursor.proofs.Names.{name_shrinks}
use Rattle.isle_parser_cursor.proofs.Readers.{Shrinks, bind_same}
use Rattle.isle_parser_verification.proofs.Reading.Shrinks.{Keeps, keeps, text_shrinks, headed_shrinks, names_keep, lets_keep, pair_shrinks, one_arm_shrinks, one_let_shrinks, one_field_shrinks, within_shrinks}

-- two readers that read the same of fewer tokens than this
abbrev AgreeBelow : {A : Type 0} → ℕ → Reader A → Reader A → Type 0
AgreeBelow n read other = (all : List Placed) → length all < n → read all ≡ other all

bind_agrees : {A B : Type 0} (r s : Option A) (f g : A → Option B) → r ≡ s → ((x : A) → r ≡ Some x → f x ≡ g x) → (r >>= f) ≡ (s >>= g)
bind_agrees {A = A} r s f g e h = bind_same r f g h ∙ ap (λ (o : Option A). o >>= g) e

-- ---- rows and parentheses

many_within_agrees : {A : Type 0} (n : ℕ) (read other : Reader A) (stop : List Placed → Bool) → Keeps read → AgreeBelow n read other → (m : ℕ) → AgreeBelow n (many_within m stop read) (many_within m stop other)
unfolding many_within
many_within_agrees n read other stop k h zero all below = refl
many_within_agrees {A = A} n read other stop k h (suc m) all below =
    ap
    (λ (r : Option (List A × List Placed)). cond (stop all) (Some ([], all)) r)
    (bind_agrees (read all) (other all) _ _ (h all below) (λ x e.
    bind_agrees (many_within m stop read x.1) (many_within m stop other x.1) _ _ (many_within_agrees n read other stop k h m x.1 (omega (arith, k all x.1 x.0 e, below))) (λ ys f. refl)))

many_agrees : {A : Type 0} (n : ℕ) (read other : Reader A) (stop : List Placed → Bool) → Keeps read → AgreeBelow n read other → AgreeBelow n (many stop read) (many stop other)
unfolding many
many_agrees n read other stop k h all below = many_within_agrees n read other stop k h (suc (length all)) all below

enclosed_agrees : {A : Type 0} (n : ℕ) (read other : Reader A) (all : List Placed) → ((inner : List Placed) → length inner < length all → read inner ≡ other inner) → in_parentheses read all ≡ in_parentheses other all
unfolding in_parentheses
enclosed_agrees n read other all h =
    bind_same (expect is_lparen all) _ _ (λ x e.
    bind_agrees (read x.1) (other x.1) _ _ (h x.1 (expect_shorter is_lparen all x.1 x.0 e)) (λ y f. refl))

within_parentheses : {A : Type 0} (n : ℕ) (read other : Reader A) → AgreeBelow n read other → AgreeBelow n (in_parentheses read) (in_parentheses other)
within_parentheses n read other h all below = enclosed_agrees n read other all (λ inner lt. h inner (omega (arith, lt, below)))

-- one part, then another
two_agree : {A B C : Type 0} (n : ℕ) (one single : Reader A) (two double : Reader B) (make : A × List Placed → B × List Placed → Option C) → Keeps one → AgreeBelow n one single
    → AgreeBelow n two double → (all : List Placed) → length all < n → (one all >>= λ x. two x.1 >>= λ y. make x y) ≡ (single all >>= λ x. double x.1 >>= λ y. make x y)
two_agree n one single two double make k h i all below =
    bind_agrees (one all) (single all) _ _ (h all below) (λ x e.
    bind_agrees (two x.1) (double x.1) _ _ (i x.1 (omega (arith, k all x.1 x.0 e, below))) (λ y f. refl))

one_agrees : {A C : Type 0} (n : ℕ) (one single : Reader A) (make : A × List Placed → Option C) → AgreeBelow n one single → (all : List Placed) → length all < n → (one all >>= make) ≡ (single all >>= make)
one_agrees n one single make h all below = bind_agrees (one all) (single all) make make (h all below) (λ x e. refl)

same_reader : {A : Type 0} (n : ℕ) (read : Reader A) → AgreeBelow n read read
same_reader n read all below = refl

-- ---- the parts of an expression

pair_agrees : (n : ℕ) (read other : Reader SpecNode) → Shrinks read → AgreeBelow n read other → AgreeBelow n (spec_pair read) (spec_pair other)
unfolding spec_pair spec_pair_inside
pair_agrees n read other s h =
    within_parentheses n (spec_pair_inside read) (spec_pair_inside other) (λ all below. two_agree n read other read other _ (keeps s) h h all below)

arm_agrees : (n : ℕ) (read other : Reader SpecNode) → AgreeBelow n read other → AgreeBelow n (arm read) (arm other)
unfolding arm arm_inside
arm_agrees n read other h =
    within_parentheses n (arm_inside read) (arm_inside other) (λ all below.
    two_agree n (in_parentheses head_inside) (in_parentheses head_inside) read other _ (keeps headed_shrinks) (same_reader n (in_parentheses head_inside)) h all below)

let_agrees : (n : ℕ) (read other : Reader SpecNode) → AgreeBelow n read other → AgreeBelow n (spec_let read) (spec_let other)
unfolding spec_let spec_let_inside
let_agrees n read other h =
    within_parentheses n (spec_let_inside read) (spec_let_inside other) (λ all below. two_agree n name name read other _ (keeps name_shrinks) (same_reader n name) h all below)

lets_agree : (n : ℕ) (read other : Reader SpecNode) → Shrinks read → AgreeBelow n read other → AgreeBelow n (spec_lets read) (spec_lets other)
unfolding spec_lets
lets_agree n read other s h =
    within_parentheses n (many at_rparen (spec_let read)) (many at_rparen (spec_let other)) (many_agrees n (spec_let read) (spec_let other) at_rparen (keeps (one_let_shrinks read s)) (let_agrees n read other h))

field_agrees : (n : ℕ) (read other : Reader SpecNode) → AgreeBelow n read other → AgreeBelow n (field_init read) (field_init other)
unfolding field_init field_init_inside
field_agrees n read other h =
    within_parentheses n (field_init_inside read) (field_init_inside other) (λ all below. two_agree n name name read other _ (keeps name_shrinks) (same_reader n name) h all below)

-- ---- a layer

behind_agrees : (n : ℕ) (read other : Reader SpecNode) → Shrinks read → AgreeBelow n read other → (start place : Pos) (head : SpecHead) → AgreeBelow n (behind_spec_head read start place head) (behind_spec_head other start place head)
unfolding behind_spec_head
behind_agrees n read other s h start place switch_head all below =
    two_agree n read other (many at_rparen (spec_pair read)) (many at_rparen (spec_pair other)) _ (keeps s) h
    (many_agrees n (spec_pair read) (spec_pair other) at_rparen (keeps (pair_shrinks read s)) (pair_agrees n read other s h)) all below
behind_agrees n read other s h start place let_head all below =
    two_agree n (spec_lets read) (spec_lets other) read other _ (lets_keep read s) (lets_agree n read other s h) h all below
behind_agrees n read other s h start place with_head all below =
    two_agree n names names read other _ names_keep (same_reader n names) h all below
behind_agrees n read other s h start place match_head all below =
    two_agree n read other (many at_rparen (arm read)) (many at_rparen (arm other)) _ (keeps s) h (many_agrees n (arm read) (arm other) at_rparen (keeps (one_arm_shrinks read s)) (arm_agrees n read other h)) all below
behind_agrees n read other s h start place struct_head all below =
    one_agrees n (many at_rparen (field_init read)) (many at_rparen (field_init other)) _ (many_agrees n (field_init read) (field_init other) at_rparen (keeps (one_field_shrinks read s)) (field_agrees n read other h)) all below
behind_agrees n read other s h start place macro_head all below =
    two_agree n names names read other _ names_keep (same_reader n names) h all below
behind_agrees n read other s h start place as_head all below =
    two_agree n read other model_type model_type _ (keeps s) h (same_reader n model_type) all below
behind_agrees n read other s h start place (discriminator_head variant) all below = one_agrees n read other _ h all below
behind_agrees n read other s h start place (expansion_head macro) all below =
    one_agrees n (many at_rparen read) (many at_rparen other) _ (many_agrees n read other at_rparen (keeps s) h) all below
behind_agrees n read other s h start place (operator_head operator) all below =
    one_agrees n (many at_rparen read) (many at_rparen other) _ (many_agrees n read other at_rparen (keeps s) h) all below
behind_agrees n read other s h start place (field_head field) all below = one_agrees n read other _ h all below
behind_agrees n read other s h start place (variant_head enum case) all below =
    one_agrees n (many at_rparen read) (many at_rparen other) _ (many_agrees n read other at_rparen (keeps s) h) all below

inside_agrees : (n : ℕ) (read other : Reader SpecNode) → Shrinks read → AgreeBelow n read other → (start : Pos) → AgreeBelow n (spec_inside start read) (spec_inside start other)
unfolding spec_inside
inside_agrees n read other s h start all below =
    bind_same (text all) _ _ (λ word e.
    bind_same (head_of word.0) _ _ (λ head f.
    behind_agrees n read other s h start (pos_ahead all) head word.1 (omega (arith, text_shrinks all word.1 word.0 e, below))))

step_agrees : (read other : Reader SpecNode) → Shrinks read → (all : List Placed) → AgreeBelow (length all) read other → spec_layer read all ≡ spec_layer other all
unfolding spec_layer
step_agrees read other s all h =
    ap
    (λ (r : Option (SpecNode × List Placed)). cond (is_ahead is_lparen all) r (cond (is_ahead is_symbol all) (spec_word all) (cond (is_ahead is_int all) (integer_within 127 all >>= λ n. Some (int_spec n.0 (pos_ahead all), n.1)) None)))
    (enclosed_agrees (length all) (spec_inside (pos_ahead all) read) (spec_inside (pos_ahead all) other) all (inside_agrees (length all) read other s h (pos_ahead all)))

-- ---- whole expressions

within_fuel : (m n : ℕ) (all : List Placed) → length all < m → length all < n → spec_within m all ≡ spec_within n all
unfolding spec_within
within_fuel zero n all lm ln = absurd (omega arith)
within_fuel (suc m) zero all lm ln = absurd (omega arith)
within_fuel (suc m) (suc n) all lm ln =
    step_agrees (spec_within m) (spec_within n) (within_shrinks m) all (λ inner below. within_fuel m n inner (omega arith) (omega arith))

pub spec-unfolds : (all : List Placed) → spec_expression all ≡ spec_layer spec_expression all
unfolding spec_expression spec_within
spec-unfolds all =
    step_agrees (spec_within (length all)) spec_expression (within_shrinks (length all)) all (λ inner below. within_fuel (length all) (suc (length inner)) inner below (omega arith))
