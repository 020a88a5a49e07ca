-- The layout is the text of the least choice that fits: the choice that keeps whole each list that
-- ends within the width.
use Rattle.std.proofs.Common.{◌≡◌, ℕ, ◌+◌, ◌-◌, Bool, true, false, cond, leb, List, ◌++◌, length, Option, None, Some, codes, refl, ap, ◌∙◌, arith}
use Rattle.std.proofs.lemmas.Bool.{leb-true, leb-false}
use Rattle.std.proofs.lemmas.Bool.Decides.{nat_tests}
use Rattle.isle_printer_layout.specs.Sexp.{Sexp, Sexps, atom, binding, list, none, more}
use Rattle.isle_printer_layout.specs.Flat.{flat, counted, counted_items}
use Rattle.isle_printer_layout.specs.Layout.{new_line, layout_in, layout_broken, layout_behind, layout}
use Rattle.isle_printer_layout.specs.Choices.{Choice, Choices, render, render_behind, FitsAt, FitsBehind, BreaksNoOther, BreakNoOther, IsLeast, IsLayout}

-- kept whole where it fits, and otherwise broken
abbrev keep : {C : Type 0} → Bool → C → Option C
keep true c = None
keep false c = Some c

abbrev ends_within : (width column : ℕ) → Sexp → Bool
ends_within width column s = leb (column + counted s) width

abbrev mutual
  pub greedy : (width : ℕ) (s : Sexp) (column : ℕ) → Choice s
  greedy width (atom _) column = tt
  greedy width (binding name s) column = greedy width s (column + length name + 3)
  greedy width (list none) column = tt
  greedy width (list (more s ss)) column =
      keep (ends_within width column (list (more s ss))) (greedy width s (column + 1), greedy_behind width ss)

  pub greedy_behind : (width : ℕ) (ss : Sexps) → Choices ss
  greedy_behind width none = tt
  greedy_behind width (more s ss) = (greedy width s 0, greedy_behind width ss)

-- it fits

keep-fits : (width column : ℕ) (s : Sexp) (ss : Sexps) (b : Bool) → ends_within width column (list (more s ss)) ≡ b
    → (c : Choice s × Choices ss) → FitsAt width s (column + 1) c.0 → FitsBehind width ss c.1 → FitsAt width (list (more s ss)) column (keep b c)
keep-fits width column s ss true e c first behind = leb-true _ _ e
keep-fits width column s ss false e c first behind = (first, behind)

mutual
  pub greedy-fits : (width : ℕ) (s : Sexp) (column : ℕ) → FitsAt width s column (greedy width s column)
  greedy-fits width (atom _) column = tt
  greedy-fits width (binding name s) column = greedy-fits width s (column + length name + 3)
  greedy-fits width (list none) column = tt
  greedy-fits width (list (more s ss)) column =
      keep-fits width column s ss _ refl (greedy width s (column + 1), greedy_behind width ss) (greedy-fits width s (column + 1)) (greedy_behind-fits width ss)

  greedy_behind-fits : (width : ℕ) (ss : Sexps) → FitsBehind width ss (greedy_behind width ss)
  greedy_behind-fits width none = tt
  greedy_behind-fits width (more s ss) = (greedy-fits width s 0, greedy_behind-fits width ss)

-- it is the least that fits

keep-least : (width column : ℕ) (s : Sexp) (ss : Sexps) (b : Bool) → ends_within width column (list (more s ss)) ≡ b
    → (c : Choice s × Choices ss) (other : Choice (list (more s ss))) → FitsAt width (list (more s ss)) column other
    → ((d : Choice s) → FitsAt width s (column + 1) d → BreaksNoOther s c.0 d)
    → ((d : Choices ss) → FitsBehind width ss d → BreakNoOther ss c.1 d)
    → BreaksNoOther (list (more s ss)) (keep b c) other
keep-least width column s ss true e c other fits first behind = tt
keep-least width column s ss false e c None fits first behind = absurd (omega (arith, leb-false _ _ e, fits))
keep-least width column s ss false e c (Some d) fits first behind = (first d.0 fits.0, behind d.1 fits.1)

mutual
  pub greedy-least : (width : ℕ) (s : Sexp) (column : ℕ) (other : Choice s) → FitsAt width s column other → BreaksNoOther s (greedy width s column) other
  greedy-least width (atom _) column other fits = tt
  greedy-least width (binding name s) column other fits = greedy-least width s (column + length name + 3) other fits
  greedy-least width (list none) column other fits = tt
  greedy-least width (list (more s ss)) column other fits =
      keep-least width column s ss _ refl (greedy width s (column + 1), greedy_behind width ss) other fits
      (greedy-least width s (column + 1))
      (greedy_behind-least width ss)

  greedy_behind-least : (width : ℕ) (ss : Sexps) (other : Choices ss) → FitsBehind width ss other → BreakNoOther ss (greedy_behind width ss) other
  greedy_behind-least width none other fits = tt
  greedy_behind-least width (more s ss) other fits =
      (greedy-least width s 0 other.0 fits.0, greedy_behind-least width ss other.1 fits.1)

pub greedy-IsLeast : (width : ℕ) (s : Sexp) → IsLeast width s (greedy width s 0)
greedy-IsLeast width s = record { fits = greedy-fits width s 0; least = greedy-least width s 0 }

-- the layout is its text

-- a list counts at least 1, so the room decides as the column does
same_test : (width column n : ℕ) → leb (1 + n) (width - column) ≡ leb (column + (1 + n)) width
same_test width column n = grind (arith, nat_tests)

either : (b : Bool) (text : List ℕ) → cond b text text ≡ text
either true text = refl
either false text = refl

keep-render : (width column level : ℕ) (s : Sexp) (ss : Sexps) (b : Bool) (c : Choice s × Choices ss) (broken : List ℕ)
    → broken ≡ render (list (more s ss)) (Some c) level
    → cond b (flat (list (more s ss))) broken ≡ render (list (more s ss)) (keep b c) level
keep-render width column level s ss true c broken same = refl
keep-render width column level s ss false c broken same = same

mutual
  layout_in-render : (width : ℕ) (s : Sexp) (room column level : ℕ) → room ≡ width - column → layout_in width s room level ≡ render s (greedy width s column) level
  layout_in-render width (atom text) room column level left = refl
  layout_in-render width (binding name s) room column level left =
      ap (λ text. name ++ codes " @ " ++ text) (layout_in-render width s (room - length name - 3) (column + length name + 3) level (omega arith))
  layout_in-render width (list none) room column level left = either _ (codes "()")
  layout_in-render width (list (more s ss)) room column level left =
      ap (λ r. cond (leb (counted (list (more s ss))) r) (flat (list (more s ss))) (layout_broken width (more s ss) room level)) left
      ∙ ap (λ b. cond b (flat (list (more s ss))) (layout_broken width (more s ss) room level)) (same_test width column (counted_items (more s ss)))
      ∙ keep-render width column level s ss _ (greedy width s (column + 1), greedy_behind width ss) _
      (ap (λ text. codes "(" ++ text ++ layout_behind width ss level) (layout_in-render width s (room - 1) (column + 1) level (omega arith))
      ∙ ap (λ text. codes "(" ++ render s (greedy width s (column + 1)) level ++ text) (layout_behind-render width ss level))

  layout_behind-render : (width : ℕ) (ss : Sexps) (level : ℕ) → layout_behind width ss level ≡ render_behind ss (greedy_behind width ss) level
  layout_behind-render width none level = refl
  layout_behind-render width (more s ss) level =
      ap (λ text. new_line (level + 1) ++ text ++ layout_behind width ss level) (layout_in-render width s width 0 (level + 1) (omega arith))
      ∙ ap (λ text. new_line (level + 1) ++ render s (greedy width s 0) (level + 1) ++ text) (layout_behind-render width ss level)

pub layout_is_render : (width : ℕ) (s : Sexp) → layout width s ≡ render s (greedy width s 0) 0
layout_is_render width s = layout_in-render width s width 0 0 (omega arith)

pub layout-IsLayout : (width : ℕ) (s : Sexp) → IsLayout width s (layout width s)
layout-IsLayout width s =
    record { choice = greedy width s 0; least = greedy-IsLeast width s; bytes = layout_is_render width s }
