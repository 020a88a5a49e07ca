-- The least choice that fits: there is one only, it renders with the fewest line ends, and a wider
-- one breaks no list that a narrower one keeps whole.
use Rattle.std.proofs.Common.{◌≡◌, ℕ, ◌+◌, ◌≤◌, List, length, None, Some, refl, sym, ap, ◌∙◌, subst, arith}
use Rattle.isle_printer_layout.specs.Sexp.{Sexp, Sexps, atom, binding, list, none, more}
use Rattle.isle_printer_layout.specs.Layout.{layout}
use Rattle.isle_printer_layout.specs.Lines.{line_end_count, HasFewestLines}
use Rattle.isle_printer_layout.specs.Choices.{Choice, Choices, render, FitsAt, FitsBehind, Fits, BreaksNoOther, BreakNoOther, IsLeast, IsLayout}
use Rattle.isle_printer_layout.proofs.Greedy.{greedy, greedy-IsLeast, layout_is_render, layout-IsLayout}
use Rattle.isle_printer_layout.proofs.LineEnds.{BreaksNoOther-line_end_count}

mutual
  BreaksNoOther-antisym : (s : Sexp) (c d : Choice s) → BreaksNoOther s c d → BreaksNoOther s d c → c ≡ d
  BreaksNoOther-antisym (atom text) c d up down = refl
  BreaksNoOther-antisym (binding name s) c d up down = BreaksNoOther-antisym s c d up down
  BreaksNoOther-antisym (list none) c d up down = refl
  BreaksNoOther-antisym (list (more s ss)) None None up down = refl
  BreaksNoOther-antisym (list (more s ss)) None (Some d) up down = absurd down
  BreaksNoOther-antisym (list (more s ss)) (Some c) None up down = absurd up
  BreaksNoOther-antisym (list (more s ss)) (Some c) (Some d) up down =
      λ t. Some (BreaksNoOther-antisym s c.0 d.0 up.0 down.0 t, BreakNoOther-antisym ss c.1 d.1 up.1 down.1 t)

  BreakNoOther-antisym : (ss : Sexps) (c d : Choices ss) → BreakNoOther ss c d → BreakNoOther ss d c → c ≡ d
  BreakNoOther-antisym none c d up down = refl
  BreakNoOther-antisym (more s ss) c d up down =
      λ t. (BreaksNoOther-antisym s c.0 d.0 up.0 down.0 t, BreakNoOther-antisym ss c.1 d.1 up.1 down.1 t)

pub IsLeast-unique : (width : ℕ) (s : Sexp) (c d : Choice s) → IsLeast width s c → IsLeast width s d → c ≡ d
IsLeast-unique width s c d p q = BreaksNoOther-antisym s c d (p.least d q.fits) (q.least c p.fits)

-- a width has one layout
pub IsLayout-layout : (width : ℕ) (s : Sexp) (text : List ℕ) → IsLayout width s text → text ≡ layout width s
IsLayout-layout width s text is =
    is.bytes
    ∙ ap (λ c. render s c 0) (IsLeast-unique width s is.choice (greedy width s 0) is.least (greedy-IsLeast width s))
    ∙ sym (layout_is_render width s)

pub IsLeast-line_end_count : (width : ℕ) (s : Sexp) (c d : Choice s) → IsLeast width s c → Fits width s d → line_end_count (render s c 0) ≤ line_end_count (render s d 0)
IsLeast-line_end_count width s c d least fits = BreaksNoOther-line_end_count s c d 0 (least.least d fits)

mutual
  FitsAt-wider : (narrow wide : ℕ) (s : Sexp) (column : ℕ) (c : Choice s) → narrow ≤ wide → FitsAt narrow s column c → FitsAt wide s column c
  FitsAt-wider narrow wide (atom text) column c le fits = tt
  FitsAt-wider narrow wide (binding name s) column c le fits = FitsAt-wider narrow wide s (column + length name + 3) c le fits
  FitsAt-wider narrow wide (list none) column c le fits = tt
  FitsAt-wider narrow wide (list (more s ss)) column None le fits = omega (arith, fits)
  FitsAt-wider narrow wide (list (more s ss)) column (Some c) le fits =
      (FitsAt-wider narrow wide s (column + 1) c.0 le fits.0, FitsBehind-wider narrow wide ss c.1 le fits.1)

  FitsBehind-wider : (narrow wide : ℕ) (ss : Sexps) (c : Choices ss) → narrow ≤ wide → FitsBehind narrow ss c → FitsBehind wide ss c
  FitsBehind-wider narrow wide none c le fits = tt
  FitsBehind-wider narrow wide (more s ss) c le fits =
      (FitsAt-wider narrow wide s 0 c.0 le fits.0, FitsBehind-wider narrow wide ss c.1 le fits.1)

pub IsLeast-wider : (narrow wide : ℕ) (s : Sexp) (c d : Choice s) → narrow ≤ wide → IsLeast wide s c → IsLeast narrow s d → BreaksNoOther s c d
IsLeast-wider narrow wide s c d le p q = p.least d (FitsAt-wider narrow wide s 0 d le q.fits)

pub layout-line_end_count : (narrow wide : ℕ) (s : Sexp) → narrow ≤ wide → line_end_count (layout wide s) ≤ line_end_count (layout narrow s)
layout-line_end_count narrow wide s le =
    let fewer = BreaksNoOther-line_end_count s (greedy wide s 0) (greedy narrow s 0) 0 (IsLeast-wider narrow wide s _ _ le (greedy-IsLeast wide s) (greedy-IsLeast narrow s)) in
    omega (arith, fewer, ap line_end_count (layout_is_render wide s), ap line_end_count (layout_is_render narrow s))

-- the layout of an S-expression, from the recursion

pub IsLayout-from_layout : (width : ℕ) (s : Sexp) (text : List ℕ) → text ≡ layout width s → IsLayout width s text
IsLayout-from_layout width s text e = subst (λ t. IsLayout width s t) (sym e) (layout-IsLayout width s)

pub HasFewestLines-from_layout : (width : ℕ) (s : Sexp) (text : List ℕ) → text ≡ layout width s → HasFewestLines width s text
HasFewestLines-from_layout width s text e c fits =
    omega (arith, IsLeast-line_end_count width s (greedy width s 0) c (greedy-IsLeast width s) fits, ap line_end_count (e ∙ layout_is_render width s))
