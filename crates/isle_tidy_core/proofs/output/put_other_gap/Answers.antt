use Rattle.std.proofs.Common.{string_bytes}
use Rattle.isle_tidy_core.specs.Streams.{gap_text_from}
use Rattle.isle_tidy_core.proofs.Pending.{puts_all_then}
use Rattle.isle_tidy_core.proofs.output.put_other_gap.Goals as goal

pub returns : goal.returns
returns c =
    puts_all_then c.put_gap_after.result c.args.text.now c.args.pending c.args.start (string_bytes c.args.out.now) (string_bytes c.put_pending.new.out) (string_bytes c.put_gap_after.new.out)
    (gap_text_from c.args.before c.args.placed) c.in_ok-put_pending.ensures c.requires.first c.put_gap_after.ensures
