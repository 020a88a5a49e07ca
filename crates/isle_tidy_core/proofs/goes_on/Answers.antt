use Rattle.std.proofs.Common.{◌+◌, ◌-◌, length, take, drop, sym, ap, ◌∙◌, arith}
use Rattle.std.specs.Cmp.Lexicographic.{same_text, other_text}
use Rattle.isle_tidy_core.proofs.Comparing.{part_follows, part_there, part_room}
use Rattle.isle_tidy_core.proofs.goes_on.Goals as goal
use Rattle.isle_tidy_core.proofs.goes_on.Goals.{else-end-text-via-then-end-text+else-eq, else-end-text-via-else-end-text}

pub returns-then-eq-clause-some : goal.returns-then-eq-clause-some
returns-then-eq-clause-some c =
    let at = c.args.at in
    let count = at + length c.args.part.now - at in
    let same = same_text (take count (drop at c.as_bytes.result.now)) c.as_bytes-then-end-text.result.now (sym c.if-eq.true ∙ c.eq.ensures) in
    (omega arith, part_follows c.args.text.now c.args.part.now at (ap (λ xs. take count (drop at xs)) (sym c.as_bytes.ensures.value) ∙ same ∙ c.as_bytes-then-end-text.ensures.value))

pub returns-else-end-text-clause-none : goal.returns-else-end-text-clause-none
returns-else-end-text-clause-none c = λ _ rest e.
    let at = c.args.at in
    let count = at + length c.args.part.now - at in
    let there = part_there c.args.text.now c.args.part.now rest at c.requires e in
    let room = part_room c.args.text.now c.args.part.now rest at c.requires e in
    elim c.else-end-text.branch [
      | else-end-text-via-then-end-text+else-eq w ↦ other_text (take count (drop at w.as_bytes.result.now)) w.as_bytes-then-end-text.result.now (sym w.if-eq.false ∙ w.eq.ensures)
          (ap (λ xs. take count (drop at xs)) w.as_bytes.ensures.value ∙ there ∙ sym w.as_bytes-then-end-text.ensures.value)
      | else-end-text-via-else-end-text w ↦ absurd (omega (arith, room, w.if-end-text.false))
    ]
