use Rattle.isle_check_laws.proofs.TermErrors.{terms_broken}
use Rattle.isle_check_laws.proofs.errors.errors_of_terms_name_broken_terms.Goals as goal

pub returns : goal.returns
returns c = terms_broken
