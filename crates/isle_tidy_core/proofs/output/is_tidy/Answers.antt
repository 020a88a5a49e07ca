use Rattle.std.proofs.Common.{sym, ap, ◌∙◌}
use Rattle.isle_tidy_layout.specs.EntriesView.{lexeme_of}
use Rattle.isle_tidy_core.proofs.Pending.{tidy_comment}
use Rattle.isle_tidy_core.proofs.output.is_tidy.Goals as goal

pub returns-else-is_empty : goal.returns-else-is_empty
returns-else-is_empty c = λ h.
    tidy_comment c.args.lexeme.now c.in-LineComment.text.now c.as_bytes-bytes.result.now c.is_space_or_tab.result
    (ap lexeme_of c.in-LineComment.is) c.as_bytes-bytes.ensures.value (sym c.if-is_empty.false ∙ c.is_empty.ensures) c.is_space_or_tab.ensures h
