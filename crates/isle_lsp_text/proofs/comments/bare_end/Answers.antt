use Rattle.std.proofs.lemmas.Bool.{ne_eqb}
use Rattle.isle_base.proofs.Places.{run_within}
use Rattle.isle_base.specs.Skips.{in_line}
use Rattle.isle_lsp_text.proofs.Covered.{covers_byte, covers_line}
use Rattle.isle_lsp_text.proofs.comments.bare_end.Goals as goal
use Rattle.std.proofs.Common.{◌+◌, arith}

pub returns-then-text-at-eq59-clause-within : goal.returns-then-text-at-eq59-clause-within
returns-then-text-at-eq59-clause-within c = run_within in_line c.args.text.now (c.args.at + 1) _ (omega arith) c.line_comment_end.ensures

pub returns-then-text-at-eq59-clause-covers : goal.returns-then-text-at-eq59-clause-covers
returns-then-text-at-eq59-clause-covers c = covers_line c.args.text.now c.args.at _ c.requires.at c.if-text-at-eq59.true c.line_comment_end.ensures

pub returns-else-text-at-eq59-clause-covers : goal.returns-else-text-at-eq59-clause-covers
returns-else-text-at-eq59-clause-covers c = covers_byte c.args.text.now c.args.at c.requires.at c.requires.opens (ne_eqb _ _ c.if-text-at-eq59.false)
