use Rattle.std.proofs.Common.{◌≡◌, ◌+◌, ◌-◌, drop, false, sym, subst, eqb, arith}
use Rattle.std.specs.List.{prefix_len}
use Rattle.isle_base.specs.Skips.{begins_with, is_blank}
use Rattle.isle_tidy_layout.specs.declared.entries.Gap.TheVariants.{Beside}
use Rattle.isle_tidy_core.specs.Finds.{AreCanonical, FindsGap}
use Rattle.isle_tidy_core.proofs.CanonicalBlanks.{canonical_beside, canonical_below, blanks_stop, text_stops}
use Rattle.isle_tidy_core.proofs.reader.canonical_blanks_at.Goals as goal
use Rattle.isle_tidy_core.proofs.reader.canonical_blanks_at.Goals.{else-end-bytes-via-then-end-bytes+else-bytes-end-le32, else-end-bytes-via-else-end-bytes}

pub returns-then-line-from : goal.returns-then-line-from
returns-then-line-from c =
    let bytes = c.args.bytes.now in
    let end = c.run_end-end.result in
    let stops : begins_with is_blank (drop end bytes) ≡ false = elim c.else-end-bytes.branch [
      | else-end-bytes-via-then-end-bytes+else-bytes-end-le32 w ↦ blanks_stop bytes end (omega arith) (omega arith)
      | else-end-bytes-via-else-end-bytes w ↦ text_stops bytes end (omega arith)
    ] in
    let none : c.run_end-line.result ≡ c.args.from = omega arith in
    subst (λ n. FindsGap bytes (Beside 0) c.args.from (Beside (end - n)) end × AreCanonical bytes c.args.from end (Beside (end - n))) (sym none)
    (canonical_beside bytes c.args.from end c.run_end-end.ensures.within (subst (λ n. end ≡ n + prefix_len (λ x. eqb x 32) (drop n bytes)) none c.run_end-end.ensures.end) stops)

pub returns-else-line-from : goal.returns-else-line-from
returns-else-line-from c =
    let bytes = c.args.bytes.now in
    let end = c.run_end-end.result in
    let stops : begins_with is_blank (drop end bytes) ≡ false = elim c.else-end-bytes.branch [
      | else-end-bytes-via-then-end-bytes+else-bytes-end-le32 w ↦ blanks_stop bytes end (omega arith) (omega arith)
      | else-end-bytes-via-else-end-bytes w ↦ text_stops bytes end (omega arith)
    ] in
    canonical_below bytes c.args.from c.run_end-line.result end c.run_end-end.ensures.within c.run_end-line.ensures.end c.run_end-end.ensures.end (omega (arith, c.run_end-line.ensures.end)) stops
