use Rattle.isle_index_laws.proofs.edits.Parsed.{edited_program_spells}
use Rattle.isle_index_laws.proofs.edits.laws.edited_programs_spell_renamed_definitions.Goals as goal

pub returns : goal.returns
returns c = edited_program_spells
