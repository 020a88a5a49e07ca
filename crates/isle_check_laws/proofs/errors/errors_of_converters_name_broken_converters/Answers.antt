use Rattle.isle_check_laws.proofs.ConverterErrors.{converters_broken}
use Rattle.isle_check_laws.proofs.errors.errors_of_converters_name_broken_converters.Goals as goal

pub returns : goal.returns
returns c = converters_broken
