use Rattle.std.proofs.Common.{string_bytes}
use Rattle.isle_tidy.proofs.StreamLemmas.{changes-parts}
use Rattle.isle_tidy.proofs.program.changes_text.Goals as goal

pub returns : goal.returns
returns c =
    changes-parts c.args.task.now.program.now c.args.task.now.listing c.args.untidy (string_bytes c.in_ok-files.files) c.option_of-option.result.now c.format.result
    c.if-untidy-eq0.false c.in_ok-files.ensures c.option_of-option.ensures c.format.ensures.ok
