use Rattle.isle_cli.proofs.SourceLemmas.{one_told, tells_both, tells_one}
use Rattle.isle_cli.proofs.folders.push_entries.Goals as goal

pub returns-in-Err : goal.returns-in-Err
returns-in-Err g c = one_told c.args.program.now c.args.folder.now _ _ c.push_fault.result c.push_fault.ensures

pub loop-entry-preserved : goal.loop-entry-preserved
loop-entry-preserved g c =
    let told = c.in_ok-push_fault-in-Err-and_then.ensures in
    tells_both c.args.program.now _ _ _ c.loop-entry.invariant (tells_one c.args.program.now c.args.folder.now told.0 _ _ told.1)
