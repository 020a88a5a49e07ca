use Rattle.std.proofs.Common.{◌∙◌, string_bytes}
use Rattle.isle_tidy_core.specs.Streams.{gap_text_from}
use Rattle.isle_tidy_core.proofs.Pending.{puts_nothing}
use Rattle.isle_tidy_core.proofs.output.put_gap.Goals as goal

pub returns-then-stays : goal.returns-then-stays
returns-then-stays c =
    puts_nothing c.args.text.now c.args.pending c.args.span.start (string_bytes c.args.out.now) (gap_text_from c.args.before c.args.placed) c.requires.pending c.requires.order
    (c.requires.canonical c.if-span.true ∙ c.stays.ensures c.if-stays.true)
