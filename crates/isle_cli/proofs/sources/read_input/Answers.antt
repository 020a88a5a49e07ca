use Rattle.std.proofs.Common.{string_bytes}
use Rattle.std.proofs.lemmas.Str.{IsUtf8-string_bytes}
use Rattle.isle_cli.proofs.SourceLemmas.{one_source_more, one_fault_more}
use Rattle.isle_cli.proofs.sources.read_input.Goals as goal

pub returns-in-Ok : goal.returns-in-Ok
returns-in-Ok g c =
    one_source_more c.args.stdin_name.now c.args.program.now _ _ _ _ _ _ (string_bytes c.in-Ok.text) _ (IsUtf8-string_bytes c.in-Ok.text) c.in-Ok.ensures.consumed c.in-Ok.ensures.ended c.push.ensures.list c.push.ensures.faults

pub returns-in-Err : goal.returns-in-Err
returns-in-Err g c = one_fault_more c.args.stdin_name.now c.args.program.now _ _ _ _ _ _ _ _ c.in-Err.ensures.fault c.push_fault.ensures.list c.push_fault.ensures.faults
