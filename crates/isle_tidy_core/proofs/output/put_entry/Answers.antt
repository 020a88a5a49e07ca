use Rattle.std.proofs.Common.{string_bytes}
use Rattle.isle_tidy_core.specs.Streams.{gap_text_from}
use Rattle.isle_tidy_layout.specs.EntriesView.{lexeme_of}
use Rattle.isle_tidy_layout.specs.Placing.{tidied}
use Rattle.isle_tidy_layout.specs.Writing.{spelling}
use Rattle.isle_tidy_core.proofs.Pending.{puts_three}
use Rattle.isle_tidy_core.proofs.output.put_entry.Goals as goal

pub returns : goal.returns
returns c =
    puts_three c.put_much.result c.args.text.now c.args.pending c.in_ok-from.from c.args.span.start c.in_ok-from-2.from c.args.span.end (string_bytes c.args.out.now) (string_bytes c.put_gap.new.out)
    (string_bytes c.put_lexeme_at.new.out) (string_bytes c.put_much.new.out) (gap_text_from c.args.before c.args.placed) (spelling (tidied (lexeme_of c.args.entry.now.lexeme)))
    c.in_ok-from.ensures c.in_ok-from-2.ensures c.put_much.ensures
