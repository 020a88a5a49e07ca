-- The beginnings of definitions ascend, as the tokens do.
use Rattle.std.proofs.Common.{◌≡◌, ℕ, zero, suc, ◌<◌, ◌≤◌, List, [], ◌∷◌, ◌++◌, length, map, get_or, arith, ⊎_elim}
use Rattle.std.specs.List.Sorted.{IsNonDecreasingBy}
use Rattle.std.proofs.lemmas.Bool.{cases_Bool}
use Rattle.isle_base.specs.Steps.{AreWithin, Rises}
use Rattle.isle_base.specs.Token.{Lexeme}
use Rattle.isle_program.specs.Allowances.{AllowEach, allowance_of}
use Rattle.isle_program.specs.Openings.{Ascend, begins, depth_after, openings}
use Rattle.isle_program.specs.declared.allowances.Allowed.{Allowed}
use Rattle.isle_program.specs.declared.openings.Opening.{Opening}

pub ascending : (size low before depth : ℕ) (xs : List Lexeme) → low ≤ before → before ≤ size → Rises before xs → AreWithin size xs → Ascend size low (openings before depth xs)
ascending size low before depth [] below short up within = record {}
ascending size low before depth (x ∷ xs) below short up within =
    ⊎_elim
    (λ is. rw is (omega (arith, up.0), short, ascending size x.offset x.after (depth_after depth x.token) xs (omega (arith, up.1)) within.1 up.2 within.2))
    (λ isnt. rw isnt (ascending size low x.after (depth_after depth x.token) xs (omega (arith, up.0, up.1)) within.1 up.2 within.2))
    (cases_Bool (begins depth x.token))

pub before_within : (size low : ℕ) (os : List Opening) (k : ℕ) (d : Opening) → Ascend size low os → k < length os → (get_or os k d).before ≤ size
before_within size low [] k d up short = absurd (omega arith)
before_within size low (o ∷ os) zero d up short = up.1
before_within size low (o ∷ os) (suc k) d up short = before_within size o.start os k d up.2 (omega arith)

from_low : (text : List ℕ) (size low : ℕ) (os : List Opening) (xs : List Allowed) → Ascend size low os → AllowEach text os (map allowance_of xs) → (i : ℕ) (d : Allowed) → i < length xs → low ≤ (get_or xs i d).start
from_low text size low [] [] up each i d short = absurd (omega arith)
from_low text size low [] (x ∷ xs) up each i d short = absurd each
from_low text size low (o ∷ os) [] up each i d short = absurd each
from_low text size low (o ∷ os) (x ∷ xs) up each zero d short = omega (arith, up.0, each.0)
from_low text size low (o ∷ os) (x ∷ xs) up each (suc i) d short =
    let above = from_low text size o.start os xs up.2 each.2 i d (omega arith) in
    omega (arith, up.0, above)

pub in_order : (text : List ℕ) (size low : ℕ) (os : List Opening) (xs : List Allowed) → Ascend size low os → AllowEach text os (map allowance_of xs) → IsNonDecreasingBy (λ (a : Allowed). a.start) xs
in_order text size low [] [] up each i j d le short = absurd (omega arith)
in_order text size low [] (x ∷ xs) up each i j d le short = absurd each
in_order text size low (o ∷ os) [] up each i j d le short = absurd each
in_order text size low (o ∷ os) (x ∷ xs) up each zero zero d le short = omega arith
in_order text size low (o ∷ os) (x ∷ xs) up each zero (suc j) d le short =
    let above = from_low text size o.start os xs up.2 each.2 j d (omega arith) in
    omega (arith, each.0, above)
in_order text size low (o ∷ os) (x ∷ xs) up each (suc i) zero d le short = absurd (omega arith)
in_order text size low (o ∷ os) (x ∷ xs) up each (suc i) (suc j) d le short = in_order text size o.start os xs up.2 each.2 i j d (omega arith) (omega arith)
