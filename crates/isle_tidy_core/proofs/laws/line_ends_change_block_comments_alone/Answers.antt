use Rattle.isle_tidy_core.proofs.EndedDocuments.{document_kept}
use Rattle.isle_tidy_core.proofs.laws.line_ends_change_block_comments_alone.Goals as goal

pub returns : goal.returns
returns c = document_kept
