use Rattle.std.proofs.Common.{◌≡◌, suc, ◌<◌, length, arith, sym, ◌∙◌}
use Rattle.isle_lsp_text.proofs.Places.{place_end, place_more, p_zero, from_place, place_lines, place_units}
use Rattle.isle_lsp_text.proofs.positions.place_after.Goals as goal
use Rattle.isle_lsp_text.proofs.positions.place_after.Goals.{then-ends_line, else-ends_line}

pub loop-i-init : goal.loop-i-init
loop-i-init c = record {
  so_far = λ k e. rw c.as_bytes-bytes.ensures.value (from_place _ _ _ _ c.requires.from c.requires.order k e);
  lines = place_lines _ _ _ c.requires.from;
  units = place_units _ _ _ c.requires.from;
}

pub loop-i-preserved : goal.loop-i-preserved
loop-i-preserved c =
    let h : c.loop-i.i < length c.as_bytes-bytes.result.now = omega arith in
    elim c.if-ends_line.branch [
      | then-ends_line w ↦ rw (w.line-is, w.unit-is) (record {
        so_far = λ k e.
            let f = c.loop-i.invariant.so_far (suc k) (omega arith) in
            f ∙ place_end c.args.encoding c.as_bytes-bytes.result.now c.loop-i.i h c.loop-i.line c.loop-i.unit k (sym w.if-ends_line.ensures);
        lines = omega arith;
        units = omega arith;
      })
      | else-ends_line w ↦ rw (w.line-is, w.unit-is) (record {
        so_far = λ k e.
            let f = c.loop-i.invariant.so_far (suc k) (omega arith) in
            rw w.unit_count-unit.ensures.count (f ∙ place_more c.args.encoding c.as_bytes-bytes.result.now c.loop-i.i h c.loop-i.line c.loop-i.unit k (sym w.if-ends_line.ensures));
        lines = omega arith;
        units = omega arith;
      })
    ]

pub returns-clause-place : goal.returns-clause-place
returns-clause-place c =
    let z : c.loop-i.i ≡ c.args.offset = omega arith in
    let f = c.loop-i.invariant.so_far 0 (omega arith) in
    let g = rw c.as_bytes-bytes.ensures.value at f in
    record { within = c.requires.within; position = sym (g ∙ p_zero _ _ _ _) }

pub returns-clause-position : goal.returns-clause-position
returns-clause-position c =
    let f = c.loop-i.invariant.so_far 0 (omega arith) in
    let g = rw c.as_bytes-bytes.ensures.value at f in
    sym (g ∙ p_zero _ _ _ _)
