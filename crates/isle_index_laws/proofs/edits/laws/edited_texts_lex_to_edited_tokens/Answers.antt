use Rattle.isle_index_laws.proofs.edits.Edited.{edited_lexes}
use Rattle.isle_index_laws.proofs.edits.laws.edited_texts_lex_to_edited_tokens.Goals as goal

pub returns : goal.returns
returns c = edited_lexes
