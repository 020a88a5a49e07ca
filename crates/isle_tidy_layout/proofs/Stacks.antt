-- The open lists of the code.
use Rattle.std.proofs.Common.{◌≡◌, ◌-◌, ◌<◌, ◌≤◌, ℕ, zero, suc, List, [], ◌∷◌, ◌++◌, Bool, true, false, Some, None, drop, length, get_or, refl, sym, ap, subst, ◌∙◌, cond, eqb, arith, length-append, append_assoc, slice_set}
use Rattle.std.proofs.lemmas.Bool.{cond_both, eq-eqb}
use Rattle.std.specs.Prelude.{unwrap_or}
use Rattle.isle_tidy_layout.specs.declared.columns.Columns.{Columns}
use Rattle.isle_tidy_layout.specs.declared.placing.Head.{Head}
use Rattle.isle_tidy_layout.specs.declared.placing.Head.TheVariants.{NoHead, ListHead, BodyHead, PlainHead}
use Rattle.isle_tidy_layout.specs.declared.stack.Opened.{Opened}
use Rattle.isle_tidy_layout.specs.Placing.{OpenList, result_column, right_of, hanging, usual_column, first_line, line_column, line_of, argument_more, item_in, item_more}
use Rattle.isle_tidy_layout.specs.Stack.{IsStack, IsTop, list_of}

some_none : (n : ℕ) → Some n ≡ None → ⊥
some_none n e = cc

pub placed_first : (column result : ℕ) (cs ds : List Columns) → result_column column cs ≡ Some result → result_column column (cs ++ ds) ≡ Some result
placed_first column result [] ds e = cc
placed_first column result (c ∷ cs) ds e =
    cond_both (eqb column c.source) (Some c.result) (result_column column cs) (λ o. o ≡ Some result → result_column column ((c ∷ cs) ++ ds) ≡ Some result)
    (λ is f. rw is f) (λ is f. rw is (placed_first column result cs ds f)) e

pub placed_second : (column : ℕ) (cs ds : List Columns) → result_column column cs ≡ None → result_column column (cs ++ ds) ≡ result_column column ds
placed_second column [] ds e = refl
placed_second column (c ∷ cs) ds e =
    cond_both (eqb column c.source) (Some c.result) (result_column column cs) (λ o. o ≡ None → result_column column ((c ∷ cs) ++ ds) ≡ result_column column ds)
    (λ is f. absurd (some_none c.result f)) (λ is f. rw is (placed_second column cs ds f)) e

-- the parts of what is kept
abbrev steps : Columns → List Columns
steps p = right_of 1 p ∷ right_of 2 p ∷ right_of 4 p ∷ []

pub on_argument : (o : Opened) (arguments : List Columns) (column result : ℕ) → result_column column arguments ≡ Some result → first_line (list_of o arguments) column ≡ result
on_argument o arguments column result e =
    ap (λ r. unwrap_or r (usual_column o.head o.parenthesis arguments)) (placed_first column result arguments (steps o.parenthesis ++ hanging arguments o.line) e)

pub on_step : (o : Opened) (arguments : List Columns) (column result : ℕ) → result_column column arguments ≡ None → result_column column (steps o.parenthesis) ≡ Some result → first_line (list_of o arguments) column ≡ result
on_step o arguments column result none e =
    ap (λ r. unwrap_or r (usual_column o.head o.parenthesis arguments))
    (placed_second column arguments (steps o.parenthesis ++ hanging arguments o.line) none ∙ placed_first column result (steps o.parenthesis) (hanging arguments o.line) e)

pub on_else : (o : Opened) (arguments : List Columns) (column : ℕ) → result_column column arguments ≡ None → result_column column (steps o.parenthesis) ≡ None → first_line (list_of o arguments) column ≡ unwrap_or (result_column column (hanging arguments o.line)) (usual_column o.head o.parenthesis arguments)
on_else o arguments column none no_step =
    ap (λ r. unwrap_or r (usual_column o.head o.parenthesis arguments))
    (placed_second column arguments (steps o.parenthesis ++ hanging arguments o.line) none ∙ placed_second column (steps o.parenthesis) (hanging arguments o.line) no_step)

drop_front : (xs ys : List Columns) → drop (length xs) (xs ++ ys) ≡ ys
drop_front [] ys = refl
drop_front (x ∷ xs) ys = drop_front xs ys

get_or_after : (xs : List Opened) (y d : Opened) → get_or (xs ++ (y ∷ [])) (length xs) d ≡ y
get_or_after [] y d = refl
get_or_after (x ∷ xs) y d = get_or_after xs y d

get_or_front : (xs ys : List Opened) (n : ℕ) (d : Opened) → n < length xs → get_or (xs ++ ys) n d ≡ get_or xs n d
get_or_front [] ys n d h = absurd (omega arith)
get_or_front (x ∷ xs) ys zero d h = refl
get_or_front (x ∷ xs) ys (suc n) d h = get_or_front xs ys n d (omega arith)

arguments_here : (others inner all : List Columns) (n : ℕ) → all ≡ others ++ inner → n ≡ length others → drop n all ≡ inner
arguments_here others inner all n e is = ap (λ xs. drop n xs) e ∙ ap (λ m. drop m (others ++ inner)) is ∙ drop_front others inner

last_here : (below stack : List Opened) (o d : Opened) → stack ≡ below ++ (o ∷ []) → get_or stack (length stack - 1) d ≡ o
last_here below stack o d e =
    let count : length stack - 1 ≡ length below = omega (arith, ap length e, length-append below (o ∷ [])) in
    ap (λ n. get_or stack n d) count ∙ ap (λ xs. get_or xs (length below) d) e ∙ get_or_after below o d

pub top : (ls : List OpenList) (stack : List Opened) (arguments : List Columns) (d : Opened) → IsStack ls stack arguments → 0 < length stack → IsTop ls arguments (get_or stack (length stack - 1) d)
top [] stack arguments d s some = absurd (omega (arith, ap length s.0))
top (l ∷ ls) stack arguments d s some =
    let same : l.arguments ≡ drop s.2.first arguments = sym (arguments_here s.1 l.arguments arguments s.2.first s.4 s.6) in
    subst (IsTop (l ∷ ls) arguments) (sym (last_here s.0 stack s.2 d s.3))
    (ls, ap (λ x. x ∷ ls) (s.5 ∙ ap (list_of s.2) same), omega (arith, s.6, ap length s.4, length-append s.1 l.arguments), s.7, s.8)

pub top_column : (ls : List OpenList) (arguments : List Columns) (o : Opened) (column result : ℕ) → IsTop ls arguments o → result ≡ unwrap_or o.lines (first_line (list_of o (drop o.first arguments)) column) → result ≡ line_column ls column
top_column ls arguments o column result t e = e ∙ ap (λ (xs : List OpenList). line_column xs column) (sym t.1)

pub empty : (ls : List OpenList) (stack : List Opened) (arguments : List Columns) → IsStack ls stack arguments → length stack ≡ 0 → ls ≡ []
empty [] stack arguments s none = refl
empty (l ∷ ls) stack arguments s none = absurd (omega (arith, none, ap length s.3, length-append s.0 (s.2 ∷ [])))

-- the list behind so many inner ones
pub line_there : (ls : List OpenList) (stack : List Opened) (arguments : List Columns) (inner : ℕ) (d : Opened) → IsStack ls stack arguments → inner < length stack → (get_or stack (length stack - 1 - inner) d).line.result ≡ line_of ls inner
line_there [] stack arguments inner d s short = absurd (omega (arith, short, ap length s.0))
line_there (l ∷ ls) stack arguments zero d s short =
    let here : get_or stack (length stack - 1 - 0) d ≡ s.2 = ap (λ n. get_or stack n d) (omega arith) ∙ last_here s.0 stack s.2 d s.3 in
    ap (λ (o : Opened). o.line.result) here ∙ ap (λ (x : OpenList). x.line.result) (sym s.5)
line_there (l ∷ ls) stack arguments (suc inner) d s short =
    let size : length stack ≡ suc (length s.0) = omega (arith, ap length s.3, length-append s.0 (s.2 ∷ [])) in
    let more = line_there ls s.0 s.1 inner d s.9 (omega arith) in
    let there : get_or stack (length stack - 1 - suc inner) d ≡ get_or s.0 (length s.0 - 1 - inner) d =
    ap (λ n. get_or stack n d) (omega arith) ∙ ap (λ xs. get_or xs (length s.0 - 1 - inner) d) s.3 ∙ get_or_front s.0 (s.2 ∷ []) (length s.0 - 1 - inner) d (omega arith) in
    ap (λ (o : Opened). o.line.result) there ∙ more

pub line_none : (ls : List OpenList) (stack : List Opened) (arguments : List Columns) (inner : ℕ) → IsStack ls stack arguments → length stack ≤ inner → line_of ls inner ≡ 0
line_none [] stack arguments inner s past = refl
line_none (l ∷ ls) stack arguments zero s past = absurd (omega (arith, past, ap length s.3, length-append s.0 (s.2 ∷ [])))
line_none (l ∷ ls) stack arguments (suc inner) s past = line_none ls s.0 s.1 inner s.9 (omega (arith, past, ap length s.3, length-append s.0 (s.2 ∷ [])))

-- Changes.

set_after : (below : List Opened) (o x : Opened) → slice_set (below ++ (o ∷ [])) (length below) x ≡ below ++ (x ∷ [])
set_after [] o x = refl
set_after (y ∷ below) o x = ap (λ xs. y ∷ xs) (set_after below o x)

cons_head : (l m : OpenList) (ls ms : List OpenList) → l ∷ ls ≡ m ∷ ms → l ≡ m
cons_head l m ls ms e = cc

pub set_last : (below : List Opened) (o x : Opened) (xs : List Opened) (n : ℕ) → xs ≡ below ++ (o ∷ []) → n ≡ length xs → slice_set xs (n - 1) x ≡ below ++ (x ∷ [])
set_last below o x xs n e is =
    let count : n - 1 ≡ length below = omega (arith, is, ap length e, length-append below (o ∷ [])) in
    ap (λ m. slice_set xs m x) count ∙ ap (λ ys. slice_set ys (length below) x) e ∙ set_after below o x

pub argument_pushed : (l : OpenList) (ls : List OpenList) (stack : List Opened) (arguments : List Columns) (at : Columns) → IsStack (l ∷ ls) stack arguments → IsStack (record l { arguments = l.arguments ++ (at ∷ []) } ∷ ls) stack (arguments ++ (at ∷ []))
argument_pushed l ls stack arguments at s = (
  s.0,
  s.1,
  s.2,
  s.3,
  ap (λ xs. xs ++ (at ∷ [])) s.4 ∙ append_assoc s.1 l.arguments (at ∷ []),
  ap (λ (x : OpenList). record x { arguments = l.arguments ++ (at ∷ []) }) s.5,
  s.6,
  s.7,
  s.8,
  s.9,
)

in_more : (old new : Head) (row : ℕ) (at : Columns) (l : OpenList) → (old ≡ NoHead → ⊥) → item_in old new row at l ≡ argument_more (eqb l.row row) at l
in_more NoHead new row at l f = absurd (f refl)
in_more ListHead new row at l f = refl
in_more BodyHead new row at l f = refl
in_more PlainHead new row at l f = refl

more_in : (head : Head) (row : ℕ) (at : Columns) (l : OpenList) (ls : List OpenList) → (head ≡ NoHead → ⊥) → item_more head row at (l ∷ ls) ≡ item_in l.head head row at l ∷ ls
more_in NoHead row at l ls f = absurd (f refl)
more_in ListHead row at l ls f = refl
more_in BodyHead row at l ls f = refl
more_in PlainHead row at l ls f = refl

-- the last one of the code
abbrev pub IsLast : List Opened → Opened → Type 0
IsLast stack o = (below : List Opened) (x : Opened) → stack ≡ below ++ (x ∷ []) → o ≡ x

pub last_one : (stack : List Opened) (d : Opened) → IsLast stack (get_or stack (length stack - 1) d)
last_one stack d = λ below x e. last_here below stack x d e

nothing_there : (stack : List Opened) → stack ≡ [] → 0 < length stack → ⊥
nothing_there stack e some = omega (arith, ap length e, some)

-- an argument on the row
pub item_on_row : (ls : List OpenList) (stack : List Opened) (arguments more : List Columns) (o : Opened) (head : Head) (row : ℕ) (at : Columns) → IsStack ls stack arguments → 0 < length stack → IsLast stack o → (head ≡ NoHead → ⊥) → (o.head ≡ NoHead → ⊥) → o.row ≡ row → more ≡ arguments ++ (at ∷ []) → IsStack (item_more head row at ls) stack more
item_on_row [] stack arguments more o head row at s some last f g same pushed = absurd (nothing_there stack s.0 some)
item_on_row (l ∷ ls) stack arguments more o head row at s some last f g same pushed =
    let is : o ≡ s.2 = last s.0 s.2 s.3 in
    let heads : l.head ≡ o.head = ap (λ (x : OpenList). x.head) s.5 ∙ ap (λ (x : Opened). x.head) (sym is) in
    let rows : l.row ≡ row = ap (λ (x : OpenList). x.row) s.5 ∙ ap (λ (x : Opened). x.row) (sym is) ∙ same in
    let on : item_more head row at (l ∷ ls) ≡ record l { arguments = l.arguments ++ (at ∷ []) } ∷ ls =
    more_in head row at l ls f ∙ ap (λ x. x ∷ ls) (in_more l.head head row at l (λ e. g (sym heads ∙ e)) ∙ ap (λ b. argument_more b at l) (eq-eqb l.row row rows)) in
    subst (λ xs. IsStack xs stack more) (sym on)
    (subst (λ xs. IsStack (record l { arguments = l.arguments ++ (at ∷ []) } ∷ ls) stack xs) (sym pushed) (argument_pushed l ls stack arguments at s))

-- no item
pub nothing_more : (row : ℕ) (at : Columns) (ls : List OpenList) → item_more NoHead row at ls ≡ ls
nothing_more row at [] = refl
nothing_more row at (l ∷ ls) = refl

pub atom_heads : (b : Bool) → cond b BodyHead PlainHead ≡ NoHead → ⊥
atom_heads true e = cc
atom_heads false e = cc
