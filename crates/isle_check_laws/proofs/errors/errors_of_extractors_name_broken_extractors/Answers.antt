use Rattle.isle_check_laws.proofs.ExtractorErrors.{extractors_broken}
use Rattle.isle_check_laws.proofs.errors.errors_of_extractors_name_broken_extractors.Goals as goal

pub returns : goal.returns
returns c = extractors_broken
