use Rattle.isle_lsp_text.proofs.EditSteps.{line_start_boundary}
use Rattle.isle_lsp_text.proofs.edits.replacement.Goals as goal

pub range-requires-clause-start_boundary : goal.range-requires-clause-start_boundary
range-requires-clause-start_boundary c = λ _. line_start_boundary c.args.new.now c.args.edit.from c.utf8.new c.requires.from

pub range-requires-clause-end_boundary : goal.range-requires-clause-end_boundary
range-requires-clause-end_boundary c = line_start_boundary c.args.new.now c.args.edit.to c.utf8.new c.requires.to
