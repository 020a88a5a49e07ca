-- A choice that breaks more has at least as many line ends.
use Rattle.std.proofs.Common.{◌≡◌, ℕ, ◌+◌, ◌≤◌, List, ◌++◌, None, Some, codes, arith}
use Rattle.std.proofs.Math.Nat.{le_refl}
use Rattle.std.proofs.lemmas.List.Sums.{sum_by-append}
use Rattle.isle_printer_layout.specs.Sexp.{Sexp, Sexps, atom, binding, list, none, more}
use Rattle.isle_printer_layout.specs.Flat.{flat, flat_behind}
use Rattle.isle_printer_layout.specs.Layout.{new_line}
use Rattle.isle_printer_layout.specs.Lines.{line_end_count}
use Rattle.isle_printer_layout.specs.Choices.{Choice, Choices, render, render_behind, BreaksNoOther, BreakNoOther}

pub line_end_count-append : (xs ys : List ℕ) → line_end_count (xs ++ ys) ≡ line_end_count xs + line_end_count ys
line_end_count-append xs ys = sum_by-append _ xs ys

mutual
  flat-line_end_count : (s : Sexp) (c : Choice s) (level : ℕ) → line_end_count (flat s) ≤ line_end_count (render s c level)
  flat-line_end_count (atom text) c level = le_refl _
  flat-line_end_count (binding name s) c level =
      omega (arith, flat-line_end_count s c level, line_end_count-append (name ++ codes " @ ") (flat s), line_end_count-append (name ++ codes " @ ") (render s c level))
  flat-line_end_count (list none) c level = le_refl _
  flat-line_end_count (list (more s ss)) None level = le_refl _
  flat-line_end_count (list (more s ss)) (Some c) level =
      omega (
        arith,
        flat-line_end_count s c.0 level,
        flat_behind-line_end_count ss c.1 level,
        line_end_count-append (codes "(" ++ flat s) (flat_behind ss),
        line_end_count-append (codes "(" ++ render s c.0 level) (render_behind ss c.1 level),
      )

  flat_behind-line_end_count : (ss : Sexps) (c : Choices ss) (level : ℕ) → line_end_count (flat_behind ss) ≤ line_end_count (render_behind ss c level)
  flat_behind-line_end_count none c level = omega (arith, line_end_count-append (new_line level) (codes ")"))
  flat_behind-line_end_count (more s ss) c level =
      omega (
        arith,
        flat-line_end_count s c.0 (level + 1),
        flat_behind-line_end_count ss c.1 level,
        line_end_count-append (codes " " ++ flat s) (flat_behind ss),
        line_end_count-append (new_line (level + 1) ++ render s c.0 (level + 1)) (render_behind ss c.1 level),
        line_end_count-append (new_line (level + 1)) (render s c.0 (level + 1)),
      )

mutual
  pub BreaksNoOther-line_end_count : (s : Sexp) (c d : Choice s) (level : ℕ) → BreaksNoOther s c d → line_end_count (render s c level) ≤ line_end_count (render s d level)
  BreaksNoOther-line_end_count (atom text) c d level within = le_refl _
  BreaksNoOther-line_end_count (binding name s) c d level within =
      omega (arith, BreaksNoOther-line_end_count s c d level within, line_end_count-append (name ++ codes " @ ") (render s c level), line_end_count-append (name ++ codes " @ ") (render s d level))
  BreaksNoOther-line_end_count (list none) c d level within = le_refl _
  BreaksNoOther-line_end_count (list (more s ss)) None d level within = flat-line_end_count (list (more s ss)) d level
  BreaksNoOther-line_end_count (list (more s ss)) (Some c) None level within = absurd within
  BreaksNoOther-line_end_count (list (more s ss)) (Some c) (Some d) level within =
      omega (
        arith,
        BreaksNoOther-line_end_count s c.0 d.0 level within.0,
        BreakNoOther-line_end_count ss c.1 d.1 level within.1,
        line_end_count-append (codes "(" ++ render s c.0 level) (render_behind ss c.1 level),
        line_end_count-append (codes "(" ++ render s d.0 level) (render_behind ss d.1 level),
      )

  BreakNoOther-line_end_count : (ss : Sexps) (c d : Choices ss) (level : ℕ) → BreakNoOther ss c d → line_end_count (render_behind ss c level) ≤ line_end_count (render_behind ss d level)
  BreakNoOther-line_end_count none c d level within = le_refl _
  BreakNoOther-line_end_count (more s ss) c d level within =
      omega (
        arith,
        BreaksNoOther-line_end_count s c.0 d.0 (level + 1) within.0,
        BreakNoOther-line_end_count ss c.1 d.1 level within.1,
        line_end_count-append (new_line (level + 1) ++ render s c.0 (level + 1)) (render_behind ss c.1 level),
        line_end_count-append (new_line (level + 1) ++ render s d.0 (level + 1)) (render_behind ss d.1 level),
        line_end_count-append (new_line (level + 1)) (render s c.0 (level + 1)),
        line_end_count-append (new_line (level + 1)) (render s d.0 (level + 1)),
      )
