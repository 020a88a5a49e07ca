use Rattle.std.proofs.Common.{◌≡◌, length, arith, sym, ◌∙◌}
use Rattle.std.proofs.lemmas.List.{length-map}
use Rattle.isle_check_typing.specs.Views.{faults_of, progress_of, variable_of}
use Rattle.isle_check_typing.proofs.Hiding.{hidden-length, hidden-none, next-hidden}
use Rattle.isle_check_typing.proofs.progress.hide_since.Goals as goal

pub loop-number-preserved : goal.loop-number-preserved
loop-number-preserved c =
    let before = c.loop-number.progress in
    next-hidden (faults_of before.faults.items) before.bound.items c.loop-number.number c.index_mut.result.now c.index_mut.ensures.value
    ∙ c.loop-number.invariant

pub returns : goal.returns
returns c =
    let after = c.loop-number.progress in
    let before = c.args.progress.now in
    let same : length (progress_of after).bound ≡ length (progress_of before).bound =
    hidden-length c.loop-number.number c.args.count (progress_of after) (progress_of before) c.loop-number.invariant in
    let counted = length-map before.bound.items variable_of in
    let end = c.len-number-end.ensures in
    let over = c.loop-number-test.false in
    sym (hidden-none (progress_of after) c.loop-number.number (omega arith)) ∙ c.loop-number.invariant
