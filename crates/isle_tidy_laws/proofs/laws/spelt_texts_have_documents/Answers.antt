use Rattle.isle_tidy_laws.proofs.Trees.{spelt_document}
use Rattle.isle_tidy_laws.proofs.laws.spelt_texts_have_documents.Goals as goal

pub returns : goal.returns
returns c = spelt_document
