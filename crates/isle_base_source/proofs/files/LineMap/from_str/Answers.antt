use Rattle.std.proofs.Common.{◌≡◌, arith, take}
use Rattle.std.proofs.lemmas.Bool.Decides.{nat_tests}
use Rattle.std.proofs.lemmas.Grind.{common_steps}
use Rattle.isle_base_source.specs.Lines.{line_ends}
use Rattle.isle_base_source.proofs.LineLemmas.{line_ends_more, line_ends-rise, line_ends-each, length-line_ends_from}
use Rattle.isle_base_source.proofs.files.LineMap.from_str.Goals as goal
use Rattle.isle_base_source.proofs.files.LineMap.from_str.Goals.{then-byte-eq10+in_ok-push, else-byte-eq10}

pub loop-offset-preserved : goal.loop-offset-preserved
loop-offset-preserved c =
    let more = line_ends_more c.args.text.now c.loop-offset.offset (omega (arith, c.as_bytes-byte-items.ensures.len)) in
    elim c.if-byte-eq10.branch [ then-byte-eq10+in_ok-push w ↦ grind (arith, nat_tests) | else-byte-eq10 w ↦ grind (arith, nat_tests, common_steps) ]

pub invariant_of-result : goal.invariant_of-result
invariant_of-result c = rw c.loop-offset.invariant (line_ends-rise (take c.loop-offset.offset c.args.text.now))

pub returns-clause-each : goal.returns-clause-each
returns-clause-each c =
    let ends : c.loop-offset.line_ends.items ≡ line_ends c.args.text.now = grind (arith, common_steps) in
    rw ends (line_ends-each c.args.text.now)

pub returns-clause-count : goal.returns-clause-count
returns-clause-count c =
    let ends : c.loop-offset.line_ends.items ≡ line_ends c.args.text.now = grind (arith, common_steps) in
    rw ends (length-line_ends_from 0 c.args.text.now)
