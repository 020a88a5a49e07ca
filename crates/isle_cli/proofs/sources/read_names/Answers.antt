use Rattle.isle_cli.proofs.SourceLemmas.{one_name_on, unread_on}
use Rattle.isle_cli.proofs.sources.read_names.Goals as goal

pub loop-name-preserved : goal.loop-name-preserved
loop-name-preserved g c =
    let gives = rw c.as_str.ensures.value at c.in_ok-read_name.ensures in
    record {
      given = one_name_on _ c.args.stdin_name.now c.args.program.now c.args.names.now c.loop-name.name-index c.name-item.result _ _ _ _ _ _ _ c.loop-name-test.true c.name-item.is c.loop-name.invariant.given gives;
      unread = unread_on _ c.args.stdin_name.now c.args.program.now c.args.names.now c.loop-name.name-index c.name-item.result _ _ _ _ _ _ _ c.loop-name-test.true c.name-item.is c.loop-name.invariant.unread gives;
    }
