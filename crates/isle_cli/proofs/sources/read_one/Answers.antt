use Rattle.std.proofs.Common.{string_bytes}
use Rattle.isle_cli.proofs.SourceLemmas.{one_line_more, one_text_more}
use Rattle.isle_cli.proofs.sources.read_one.Goals as goal

pub returns-in-Ok : goal.returns-in-Ok
returns-in-Ok g c = one_text_more c.args.program.now c.args.path.now (string_bytes c.in-Ok.text) _ _ _ _ c.push.result c.push.ensures.list c.push.ensures.faults

pub returns-in-Err : goal.returns-in-Err
returns-in-Err g c = one_line_more c.args.program.now c.args.path.now c.in-Err.fault _ _ _ _ c.push_fault.result c.push_fault.ensures.list c.push_fault.ensures.faults
