-- What it means that a reader reads a kind of node: it is sound, where what it gives is spelt, and
-- complete, where what is spelt is given. What holds of lists and of parentheses is said once, over any node.
use Rattle.std.proofs.Common.{◌≡◌, ℕ, zero, suc, ◌≤◌, ◌<◌, Bool, true, false, cond, List, [], ◌∷◌, length, Option, Some, None, refl, sym, ap, subst, ◌∙◌, arith, ◌⊎◌, inl, inr}
use Rattle.isle_base.specs.Place.{Placed}
use Rattle.isle_base.specs.Token.{Tok, lparen, rparen, symbol, integer, at_sign}
use Rattle.isle_ast_names.specs.Words.{SpellsToken, SpellsAll, InParentheses}
use Rattle.isle_parser_cursor.specs.Reading.{Reader, ◌>>=◌, is_lparen, is_rparen, is_at, is_ahead, at_rparen, ends, expect, in_parentheses, many, many_within}

-- ---- steps

pub bind_some : {A B : Type 0} (r : Option A) (f : A → Option B) (y : B) → (r >>= f) ≡ Some y → (x : A) × (r ≡ Some x) × (f x ≡ Some y)
bind_some None f y e = absurd cc
bind_some (Some x) f y e = (x, refl, e)

pub bind_same : {A B : Type 0} (r : Option A) (f g : A → Option B) → ((x : A) → r ≡ Some x → f x ≡ g x) → (r >>= f) ≡ (r >>= g)
bind_same None f g h = refl
bind_same (Some x) f g h = h x refl

pub chosen : {A : Type 0} (b : Bool) (x y z : A) → cond b x y ≡ z → ((b ≡ true) × (x ≡ z)) ⊎ ((b ≡ false) × (y ≡ z))
chosen true x y z e = inl (refl, e)
chosen false x y z e = inr (refl, e)

pub chosen_some : {A : Type 0} (b : Bool) (x y : A) → cond b (Some x) None ≡ Some y → (b ≡ true) × (Some x ≡ Some y)
chosen_some true x y e = (refl, e)
chosen_some false x y e = absurd cc

abbrev pub done : {A : Type 0} → A → Option A
done x = Some x

some_is : {A : Type 0} (x y : A) → done x ≡ done y → x ≡ y
some_is x y e = cc

pub done_is : {A : Type 0} (x y : A) (i j : List Placed) → done {A = A × List Placed} (x, i) ≡ done {A = A × List Placed} (y, j) → (x ≡ y) × (i ≡ j)
done_is {A} x y i j e =
    let is : (x, i) ≡ (y, j) = some_is (x, i) (y, j) e in
    (ap (λ (p : A × List Placed). p.0) is, ap (λ (p : A × List Placed). p.1) is)

-- ---- what a reader is

abbrev pub Spelling : Type 0 → Type 1
Spelling A = A → List Placed → List Placed → Type 0

abbrev pub Sound : {A : Type 0} → Spelling A → Reader A → Type 0
Sound {A} R read = (all rest : List Placed) (x : A) → read all ≡ Some (x, rest) → R x all rest

-- No `@` is ahead: a pattern that ends here could go on there.
abbrev pub Goes : List Placed → Type 0
Goes rest = is_ahead is_at rest ≡ false

abbrev pub Complete : {A : Type 0} → Spelling A → Reader A → Type 0
Complete {A} R read = (x : A) (all rest : List Placed) → Goes rest → R x all rest → read all ≡ Some (x, rest)

-- complete where fewer tokens than this are to come
abbrev pub CompleteBelow : {A : Type 0} → ℕ → Spelling A → Reader A → Type 0
CompleteBelow {A} n R read = (x : A) (all rest : List Placed) → length all < n → Goes rest → R x all rest → read all ≡ Some (x, rest)

abbrev pub begins_node : Tok → Bool
begins_node lparen = true
begins_node rparen = false
begins_node (symbol _) = true
begins_node (integer _) = true
begins_node at_sign = false

-- a spelling begins with a token that is neither `)` nor `@`
abbrev pub Begins : {A : Type 0} → Spelling A → Type 0
Begins {A} R = (x : A) (all rest : List Placed) → R x all rest → (is_ahead begins_node all ≡ true) × (length rest < length all)

abbrev pub Shrinks : {A : Type 0} → Reader A → Type 0
Shrinks {A} read = (all rest : List Placed) (x : A) → read all ≡ Some (x, rest) → length rest < length all

pub shrinks : {A : Type 0} (R : Spelling A) (read : Reader A) → Sound R read → Begins R → Shrinks read
shrinks R read sound begins all rest x e = (begins x all rest (sound all rest x e)).1

-- the same spelling of the same node
pub moved : {A : Type 0} (R : Spelling A) (x y : A) (all i j : List Placed) → (x ≡ y) × (i ≡ j) → R x all i → R y all j
moved {A} R x y all i j e h = subst (λ (n : A). R n all j) e.0 (subst (λ (r : List Placed). R x all r) e.1 h)

-- two spellings at the front of one list of tokens are one
pub one_spelling : {A : Type 0} (R : Spelling A) (read : Reader A) → Complete R read → (all : List Placed) (x y : A) (i j : List Placed) → Goes i → Goes j → R x all i → R y all j → (x ≡ y) × (i ≡ j)
one_spelling R read complete all x y i j goes_i goes_j p q = done_is x y i j (sym (complete x all i goes_i p) ∙ complete y all j goes_j q)

-- ---- lists

-- what ends a list begins no node, and no node goes on there
pub record Stopping (stop : List Placed → Bool) : Type 0 where
  pub begins : (all : List Placed) → is_ahead begins_node all ≡ true → stop all ≡ false
  pub goes : (all : List Placed) → stop all ≡ true → Goes all

begins_not_at : (t : Tok) → begins_node t ≡ true → is_at t ≡ false
begins_not_at lparen e = refl
begins_not_at rparen e = absurd cc
begins_not_at (symbol t) e = refl
begins_not_at (integer n) e = refl
begins_not_at at_sign e = absurd cc

pub begins_goes : (all : List Placed) → is_ahead begins_node all ≡ true → Goes all
begins_goes [] e = absurd cc
begins_goes (x ∷ xs) e = begins_not_at x.token e

begins_not_rparen : (t : Tok) → begins_node t ≡ true → is_rparen t ≡ false
begins_not_rparen lparen e = refl
begins_not_rparen rparen e = absurd cc
begins_not_rparen (symbol t) e = refl
begins_not_rparen (integer n) e = refl
begins_not_rparen at_sign e = refl

rparen_not_at : (t : Tok) → is_rparen t ≡ true → is_at t ≡ false
rparen_not_at lparen e = refl
rparen_not_at rparen e = refl
rparen_not_at (symbol t) e = refl
rparen_not_at (integer n) e = refl
rparen_not_at at_sign e = absurd cc

closes-begins : (all : List Placed) → is_ahead begins_node all ≡ true → at_rparen all ≡ false
closes-begins [] e = refl
closes-begins (x ∷ xs) e = begins_not_rparen x.token e

closes-goes : (all : List Placed) → at_rparen all ≡ true → Goes all
closes-goes [] e = refl
closes-goes (x ∷ xs) e = rparen_not_at x.token e

pub stopping_closes : Stopping at_rparen
stopping_closes = record { begins = closes-begins; goes = closes-goes }

ends-begins : (all : List Placed) → is_ahead begins_node all ≡ true → ends all ≡ false
ends-begins [] e = absurd cc
ends-begins (x ∷ xs) e = refl

ends-goes : (all : List Placed) → ends all ≡ true → Goes all
ends-goes [] e = refl
ends-goes (x ∷ xs) e = absurd cc

pub stopping_ends : Stopping ends
stopping_ends = record { begins = ends-begins; goes = ends-goes }

many_within_sound : {A : Type 0} (R : Spelling A) (read : Reader A) (stop : List Placed → Bool) → Sound R read → (n : ℕ) (all rest : List Placed) (xs : List A)
    → many_within n stop read all ≡ Some (xs, rest) → SpellsAll R xs all rest × (stop rest ≡ true)
unfolding many_within
many_within_sound R read stop sound zero all rest xs e = absurd cc
many_within_sound {A} R read stop sound (suc n) all rest xs e =
    elim (chosen (stop all) (Some ([], all)) (read all >>= λ x. many_within n stop read x.1 >>= λ xs. Some (x.0 ∷ xs.0, xs.1)) (Some (xs, rest)) e) [
      | inl h ↦
          let is = done_is [] xs all rest h.1 in
          subst (λ (p : List A). SpellsAll R p all rest × (stop rest ≡ true)) is.0 (is.1, subst (λ (r : List Placed). stop r ≡ true) is.1 h.0)
      | inr h ↦
          let a = bind_some (read all) (λ x. many_within n stop read x.1 >>= λ xs. Some (x.0 ∷ xs.0, xs.1)) (xs, rest) h.1 in
          let b = bind_some (many_within n stop read a.0.1) (λ xs. Some (a.0.0 ∷ xs.0, xs.1)) (xs, rest) a.2 in
          let is = done_is (a.0.0 ∷ b.0.0) xs b.0.1 rest b.2 in
          let one = sound all a.0.1 a.0.0 a.1 in
          let others = many_within_sound R read stop sound n a.0.1 b.0.1 b.0.0 b.1 in
          subst (λ (p : List A). SpellsAll R p all rest × (stop rest ≡ true)) is.0 (subst (λ (r : List Placed). SpellsAll R (a.0.0 ∷ b.0.0) all r × (stop r ≡ true)) is.1 ((a.0.1, one, others.0), others.1))
    ]

pub many_sound : {A : Type 0} (R : Spelling A) (read : Reader A) (stop : List Placed → Bool) → Sound R read → (all rest : List Placed) (xs : List A) → many stop read all ≡ Some (xs, rest) → SpellsAll R xs all rest × (stop rest ≡ true)
unfolding many
many_sound R read stop sound all rest xs e = many_within_sound R read stop sound (suc (length all)) all rest xs e

-- after a node of a list no node goes on
list_goes : {A : Type 0} (R : Spelling A) (stop : List Placed → Bool) → Begins R → Stopping stop → (xs : List A) (all rest : List Placed) → SpellsAll R xs all rest → stop rest ≡ true → Goes all
list_goes R stop begins stopping [] all rest h e = stopping.goes all (rw h e)
list_goes R stop begins stopping (x ∷ xs) all rest h e = begins_goes all (begins x all h.0 h.1).0

pub list_shorter : {A : Type 0} (R : Spelling A) → Begins R → (xs : List A) (all rest : List Placed) → SpellsAll R xs all rest → length rest ≤ length all
list_shorter R begins [] all rest h = rw h (omega arith)
list_shorter R begins (x ∷ xs) all rest h =
    let one : length h.0 < length all = (begins x all h.0 h.1).1 in
    let others : length rest ≤ length h.0 = list_shorter R begins xs h.0 rest h.2 in
    omega arith

many_within_complete : {A : Type 0} (R : Spelling A) (read : Reader A) (stop : List Placed → Bool) (n : ℕ) → CompleteBelow n R read → Begins R → Stopping stop
    → (m : ℕ) (xs : List A) (all rest : List Placed) → length all < m → length all < n → SpellsAll R xs all rest → stop rest ≡ true → many_within m stop read all ≡ Some (xs, rest)
unfolding many_within
many_within_complete R read stop n complete begins stopping zero xs all rest lt below h e = absurd (omega arith)
many_within_complete R read stop n complete begins stopping (suc m) [] all rest lt below h e =
    let here : stop all ≡ true = rw h e in
    rw here (ap (λ (r : List Placed). Some ([], r)) h)
many_within_complete R read stop n complete begins stopping (suc m) (x ∷ xs) all rest lt below h e =
    let b = begins x all h.0 h.1 in
    let shorter : length h.0 < length all = b.1 in
    let here : stop all ≡ false = stopping.begins all b.0 in
    let one : read all ≡ Some (x, h.0) = complete x all h.0 below (list_goes R stop begins stopping xs h.0 rest h.2 e) h.1 in
    let others : many_within m stop read h.0 ≡ Some (xs, rest) = many_within_complete R read stop n complete begins stopping m xs h.0 rest (omega arith) (omega arith) h.2 e in
    rw (here, one, others) refl

pub many_complete : {A : Type 0} (R : Spelling A) (read : Reader A) (stop : List Placed → Bool) (n : ℕ) → CompleteBelow n R read → Begins R → Stopping stop → (xs : List A) (all rest : List Placed)
    → length all < n → SpellsAll R xs all rest → stop rest ≡ true → many stop read all ≡ Some (xs, rest)
unfolding many
many_complete R read stop n complete begins stopping xs all rest below h e = many_within_complete R read stop n complete begins stopping (suc (length all)) xs all rest (omega arith) below h e

-- ---- parentheses

is_lparen-is : (t : Tok) → is_lparen t ≡ true → t ≡ lparen
is_lparen-is lparen e = refl
is_lparen-is rparen e = absurd cc
is_lparen-is (symbol s) e = absurd cc
is_lparen-is (integer n) e = absurd cc
is_lparen-is at_sign e = absurd cc

is_rparen-is : (t : Tok) → is_rparen t ≡ true → t ≡ rparen
is_rparen-is lparen e = absurd cc
is_rparen-is rparen e = refl
is_rparen-is (symbol s) e = absurd cc
is_rparen-is (integer n) e = absurd cc
is_rparen-is at_sign e = absurd cc

-- a token that passes a test of just this token
pub expect_sound : (passes : Tok → Bool) (token : Tok) → ((t : Tok) → passes t ≡ true → t ≡ token) → (all rest : List Placed) (t : Tok) → expect passes all ≡ Some (t, rest) → SpellsToken token all rest
expect_sound passes token is [] rest t e = absurd cc
expect_sound passes token is (x ∷ xs) rest t e =
    let c = chosen_some (passes x.token) (x.token, xs) (t, rest) e in
    let behind : xs ≡ rest = (done_is x.token t xs rest c.1).1 in
    let here : x.token ≡ token = is x.token c.0 in
    (x.pos, ap (λ (u : Tok). record { pos = x.pos; token = u } ∷ xs) here ∙ ap (λ (r : List Placed). record { pos = x.pos; token = token } ∷ r) behind)

pub lparen_sound : (all rest : List Placed) (t : Tok) → expect is_lparen all ≡ Some (t, rest) → SpellsToken lparen all rest
lparen_sound = expect_sound is_lparen lparen is_lparen-is

pub rparen_sound : (all rest : List Placed) (t : Tok) → expect is_rparen all ≡ Some (t, rest) → SpellsToken rparen all rest
rparen_sound = expect_sound is_rparen rparen is_rparen-is

pub lparen_complete : (all rest : List Placed) → SpellsToken lparen all rest → expect is_lparen all ≡ Some (lparen, rest)
lparen_complete all rest h = rw h.1 refl

pub rparen_complete : (all rest : List Placed) → SpellsToken rparen all rest → expect is_rparen all ≡ Some (rparen, rest)
rparen_complete all rest h = rw h.1 refl

pub parentheses_sound : {A : Type 0} (R : Spelling A) (read : Reader A) → Sound R read → (all rest : List Placed) (x : A) → in_parentheses read all ≡ Some (x, rest) → InParentheses (R x) all rest
unfolding in_parentheses
parentheses_sound R read sound all rest x e =
    let a = bind_some (expect is_lparen all) (λ inside. read inside.1 >>= λ y. expect is_rparen y.1 >>= λ behind. Some (y.0, behind.1)) (x, rest) e in
    let b = bind_some (read a.0.1) (λ y. expect is_rparen y.1 >>= λ behind. Some (y.0, behind.1)) (x, rest) a.2 in
    let c = bind_some (expect is_rparen b.0.1) (λ behind. Some (b.0.0, behind.1)) (x, rest) b.2 in
    let is = done_is b.0.0 x c.0.1 rest c.2 in
    let inner = moved R b.0.0 x a.0.1 b.0.1 b.0.1 (is.0, refl) (sound a.0.1 b.0.1 b.0.0 b.1) in
    let close = moved SpellsToken rparen rparen b.0.1 c.0.1 rest (refl, is.1) (rparen_sound b.0.1 c.0.1 c.0.0 c.1) in
    (a.0.1, b.0.1, lparen_sound all a.0.1 a.0.0 a.1, inner, close)

-- what is read inside need only be complete on what follows the `(` and before a `)`
pub parentheses_complete : {A : Type 0} (R : Spelling A) (read : Reader A) (x : A) (all rest : List Placed)
    → ((inner close : List Placed) → length inner < length all → at_rparen close ≡ true → R x inner close → read inner ≡ Some (x, close)) → InParentheses (R x) all rest
    → in_parentheses read all ≡ Some (x, rest)
unfolding in_parentheses
parentheses_complete R read x all rest complete h =
    let inner = h.0 in
    let close = h.1 in
    let shorter : length inner < length all = rw h.2.1 (omega arith) in
    let closed : at_rparen close ≡ true = rw h.4.1 refl in
    rw (lparen_complete all inner h.2, complete inner close shorter closed h.3, rparen_complete close rest h.4) refl

pub parentheses_begin : (R : List Placed → List Placed → Type 0) → ((inner close : List Placed) → R inner close → length close ≤ length inner) → (all rest : List Placed) → InParentheses R all rest
    → (is_ahead begins_node all ≡ true) × (length rest < length all)
parentheses_begin R within all rest h =
    let le : length h.1 ≤ length h.0 = within h.0 h.1 h.3 in
    let opened : length all ≡ suc (length h.0) = rw h.2.1 refl in
    let closed : length h.1 ≡ suc (length rest) = rw h.4.1 refl in
    (rw h.2.1 refl, omega arith)

-- ---- loops

many_fuel : {A : Type 0} (read : Reader A) (stop : List Placed → Bool) → Shrinks read → (m n : ℕ) (all : List Placed) → length all < m → length all < n → many_within m stop read all ≡ many_within n stop read all
unfolding many_within
many_fuel read stop shrinks zero n all lm ln = absurd (omega arith)
many_fuel read stop shrinks (suc m) zero all lm ln = absurd (omega arith)
many_fuel {A} read stop shrinks (suc m) (suc n) all lm ln =
    ap
    (λ (r : Option (List A × List Placed)). cond (stop all) (Some ([], all)) r)
    (bind_same (read all) _ _ (λ x e.
    let lt : length x.1 < length all = shrinks all x.1 x.0 e in
    ap (λ (r : Option (List A × List Placed)). r >>= λ xs. Some (x.0 ∷ xs.0, xs.1)) (many_fuel read stop shrinks m n x.1 (omega arith) (omega arith))))

-- a list is nothing, or a node and a list
pub many_step : {A : Type 0} (read : Reader A) (stop : List Placed → Bool) → Shrinks read → (all : List Placed) → many stop read all ≡ cond (stop all) (Some ([], all)) (read all >>= λ x. many stop read x.1 >>= λ xs. Some (x.0 ∷ xs.0, xs.1))
unfolding many many_within
many_step {A} read stop shrinks all =
    ap
    (λ (r : Option (List A × List Placed)). cond (stop all) (Some ([], all)) r)
    (bind_same (read all) _ _ (λ x e.
    let lt : length x.1 < length all = shrinks all x.1 x.0 e in
    ap (λ (r : Option (List A × List Placed)). r >>= λ xs. Some (x.0 ∷ xs.0, xs.1)) (many_fuel read stop shrinks (length all) (suc (length x.1)) x.1 (omega arith) (omega arith))))

-- two readings that give the same where they give something
pub agree : {A : Type 0} (r s : Option A) → ((x : A) → r ≡ Some x → s ≡ Some x) → ((x : A) → s ≡ Some x → r ≡ Some x) → r ≡ s
agree None None f g = refl
agree None (Some y) f g = g y refl
agree (Some x) s f g = sym (f x refl)
