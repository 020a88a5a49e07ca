use Rattle.std.proofs.Common.{string_bytes}
use Rattle.isle_cli.proofs.MessageLemmas.{fault-parts}
use Rattle.isle_cli.proofs.sources.fault_line.Goals as goal

pub returns : goal.returns
returns c =
    fault-parts c.args.program.now c.args.name.now c.args.fault (string_bytes c.in_ok-reason.reason) c.format.result
    c.in_ok-reason.ensures c.format.ensures.ok
