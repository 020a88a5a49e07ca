use Rattle.isle_tidy_core.proofs.Existing.{lexed_document, document_lexed}
use Rattle.isle_tidy_core.proofs.laws.matched_texts_have_documents.Goals as goal

pub returns-clause-matched : goal.returns-clause-matched
returns-clause-matched c = lexed_document

pub returns-clause-only : goal.returns-clause-only
returns-clause-only c = document_lexed
