use Rattle.isle_index_laws.proofs.RenamedTokens.{renamed_tokens_spell}
use Rattle.isle_index_laws.proofs.laws.renamed_tokens_spell_renamed_definitions.Goals as goal

pub returns : goal.returns
returns c = renamed_tokens_spell
