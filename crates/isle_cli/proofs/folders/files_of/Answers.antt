use Rattle.std.proofs.Common.{not, sym, map, rules, string_bytes, tests, ◌∙◌}
use Rattle.isle_cli.proofs.SourceLemmas.{taken_more, tells_both, tells_one}
use Rattle.isle_cli.proofs.folders.files_of.Goals as goal
use Rattle.isle_cli.proofs.folders.files_of.Goals.{then-not-is_taken, in-Some-2+in_ok-push_entries-in-Some-2, in-Some-3+in_ok-push-in-Some-3}

pub returns-in-Err-clause-told : goal.returns-in-Err-clause-told
returns-in-Err-clause-told g c =
    let told = c.in_ok-push_fault-in-Err.ensures in
    tells_one c.args.program.now c.args.name.now told.0 _ _ told.1

pub loop-preserved : goal.loop-preserved
loop-preserved g c =
    elim c.if-not-is_taken.branch [
      | then-not-is_taken w ↦ rw w.faults-is rw w.files-is c.loop.invariant
      | in-Some-2+in_ok-push_entries-in-Some-2 w ↦ rw w.faults-is rw w.files-is record {
        told = tells_both c.args.program.now _ _ _ c.loop.invariant.told w.in_ok-push_entries-in-Some-2.ensures;
        taken = c.loop.invariant.taken;
      }
      | in-Some-3+in_ok-push-in-Some-3 w ↦ rw w.faults-is rw w.files-is record {
        told = c.loop.invariant.told;
        taken = rw w.in_ok-push-in-Some-3.ensures.items (taken_more (map string_bytes c.args.excluded.now) c.args.name.now _ _ c.loop.invariant.taken (search (tests, rules)));
      }
    ]
