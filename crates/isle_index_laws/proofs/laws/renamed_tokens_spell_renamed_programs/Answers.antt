use Rattle.isle_index_laws.proofs.Programs.{program_spells}
use Rattle.isle_index_laws.proofs.laws.renamed_tokens_spell_renamed_programs.Goals as goal

pub returns : goal.returns
returns c = program_spells
