use Rattle.isle_index_laws.proofs.actions.Prefixing.{all_prefixed}
use Rattle.isle_index_laws.proofs.actions.laws.prefixed_texts_lex_to_prefixed_tokens.Goals as goal

pub returns : goal.returns
returns c = all_prefixed
