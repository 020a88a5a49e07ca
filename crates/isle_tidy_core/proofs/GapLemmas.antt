-- The gap that blanks make, blank by blank.
use Rattle.std.proofs.Common.{◌≡◌, ◌<◌, ◌≤◌, ◌+◌, ℕ, List, Bool, drop, get_or, length, cond, ap, eqb, arith}
use Rattle.std.proofs.lemmas.Bool.{cond_both}
use Rattle.std.proofs.lemmas.List.{drop_more}
use Rattle.isle_base.specs.Skips.{begins_with}
use Rattle.isle_tidy_layout.specs.declared.entries.Gap.{Gap}
use Rattle.isle_tidy_layout.specs.declared.entries.Gap.TheVariants.{Beside, Tabbed, Below}
use Rattle.isle_tidy_core.specs.Grammar.{space_more, tab_more, line_more, blank_more, gap_of}
use Rattle.isle_tidy_core.specs.Sizes.{size_of}

abbrev Larger : Gap → Gap → Type 0
Larger gap more = size_of more ≤ size_of gap + 1

space_larger : (gap : Gap) → Larger gap (space_more gap)
space_larger (Beside width) = omega arith
space_larger (Tabbed width) = omega arith
space_larger (Below empty column) = omega arith

tab_larger : (gap : Gap) → Larger gap (tab_more gap)
tab_larger (Beside width) = omega arith
tab_larger (Tabbed width) = omega arith
tab_larger (Below empty column) = omega arith

line_larger : (gap : Gap) → Larger gap (line_more gap)
line_larger (Beside width) = omega arith
line_larger (Tabbed width) = omega arith
line_larger (Below empty column) = omega arith

pub blank_larger : (gap : Gap) (b : ℕ) (feed : Bool) → Larger gap (blank_more gap b feed)
blank_larger gap b feed =
    let P = λ (g : Gap). Larger gap g in
    let last = cond_both (eqb b 9) (tab_more gap) (space_more gap) P (λ _. tab_larger gap) (λ _. space_larger gap) in
    let return = cond_both feed gap (line_more gap) P (λ _. omega arith) (λ _. line_larger gap) in
    cond_both (eqb b 10) (line_more gap) (cond (eqb b 13) (cond feed gap (line_more gap)) (cond (eqb b 9) (tab_more gap) (space_more gap))) P (λ _. line_larger gap)
    (λ _. cond_both (eqb b 13) (cond feed gap (line_more gap)) (cond (eqb b 9) (tab_more gap) (space_more gap)) P (λ _. return) (λ _. last))

pub gap_step : (gap : Gap) (bs : List ℕ) (at : ℕ) → at < length bs → gap_of gap (drop at bs) ≡ gap_of (blank_more gap (get_or bs at 0) (begins_with (λ b. eqb b 10) (drop (at + 1) bs))) (drop (at + 1) bs)
gap_step gap bs at short = ap (gap_of gap) (drop_more bs at 0 short)
