use Rattle.isle_parser_rules.proofs.ReadOnce.{one_pattern, one_expression}
use Rattle.isle_parser.proofs.parser.laws.patterns_and_expressions_are_read_once.Goals as goal

pub returns : goal.returns
returns c = record { patterns = one_pattern; expressions = one_expression }
