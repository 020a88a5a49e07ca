use Rattle.std.proofs.Common.{◌≡◌, length, arith, sym, ◌∙◌}
use Rattle.isle_lsp_text.proofs.Places.{stop, go_on, go_line, go_skip, at_end}
use Rattle.isle_lsp_text.proofs.positions.find_offset.Goals as goal
use Rattle.isle_lsp_text.proofs.positions.find_offset.Goals.{then-lines-gt0+then-ends_line, then-lines-gt0+else-ends_line, else-lines-gt0+else-stops}

pub returns : goal.returns
returns c =
    let f = at_end c.args.encoding c.args.bytes.now c.loop-i.i c.loop-i.lines c.loop-i.units _ c.loop-i-test.false c.loop-i.invariant in
    let g = f in
    let h : c.loop-i.i ≡ length c.args.bytes.now = omega arith in
    sym h ∙ sym g

pub returns-then-stops : goal.returns-then-stops
returns-then-stops c =
    let z : c.loop-i.lines ≡ 0 = omega arith in
    let f = rw z at c.loop-i.invariant in
    let s = stop c.args.encoding c.args.bytes.now c.loop-i.i c.loop-i-test.true c.loop-i.units _ f (sym c.if-stops.ensures) in
    sym (s)

pub loop-i-preserved : goal.loop-i-preserved
loop-i-preserved c =
    elim c.if-lines-gt0.branch [
      | then-lines-gt0+then-ends_line w ↦ rw (w.lines-is, w.units-is) (go_line c.args.encoding c.args.bytes.now c.loop-i.i c.loop-i-test.true c.loop-i.lines c.loop-i.units _ w.if-lines-gt0.true c.loop-i.invariant (sym w.if-ends_line.ensures))
      | then-lines-gt0+else-ends_line w ↦ rw (w.lines-is, w.units-is) (go_skip c.args.encoding c.args.bytes.now c.loop-i.i c.loop-i-test.true c.loop-i.lines c.loop-i.units _ w.if-lines-gt0.true c.loop-i.invariant (sym w.if-ends_line.ensures))
      | else-lines-gt0+else-stops w ↦
          let z : c.loop-i.lines ≡ 0 = omega arith in
          let f = rw z at c.loop-i.invariant in
          rw (w.lines-is, w.units-is, z, w.saturating_sub-units.ensures, w.unit_count.ensures.count) (go_on c.args.encoding c.args.bytes.now c.loop-i.i c.loop-i-test.true c.loop-i.units _ f (sym w.if-stops.ensures))
    ]
