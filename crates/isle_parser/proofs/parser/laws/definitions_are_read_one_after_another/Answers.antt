use Rattle.isle_parser.proofs.Reading.Definitions.{one_definition}
use Rattle.isle_parser.proofs.parser.laws.definitions_are_read_one_after_another.Goals as goal

pub returns : goal.returns
returns c = record { one_after_another = λ d ds all. (λ h. h, λ h. h); once = one_definition }
