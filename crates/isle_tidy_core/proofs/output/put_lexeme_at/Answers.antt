use Rattle.std.proofs.Common.{sym, ap, ◌∙◌, string_bytes, arith}
use Rattle.isle_tidy_layout.specs.EntriesView.{lexeme_of}
use Rattle.isle_tidy_layout.specs.Placing.{tidied}
use Rattle.isle_tidy_layout.specs.Writing.{spelling}
use Rattle.isle_tidy_core.proofs.Pending.{puts_nothing, stands_part}
use Rattle.isle_tidy_core.proofs.output.put_lexeme_at.Goals as goal

pub returns-then-is_tidy : goal.returns-then-is_tidy
returns-then-is_tidy c =
    let x = lexeme_of c.args.lexeme.now in
    puts_nothing c.args.text.now c.args.pending c.args.end (string_bytes c.args.out.now) (spelling (tidied x)) c.requires.pending (omega (arith, c.requires.stands.1))
    (stands_part c.args.text.now x c.args.pending.to c.args.end c.requires.stands ∙ ap spelling (sym (c.is_tidy.ensures c.if-is_tidy.true)))
