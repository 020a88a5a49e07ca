use Rattle.std.proofs.Common.{rules, tests}
use Rattle.isle_parser.specs.DefinitionReaders.{as_definition}
use Rattle.isle_parser_cursor.specs.Reading.{closed}
use Rattle.isle_parser.proofs.parser.definitions.parse_etor_def.Goals as goal

pub returns-clause-reads : goal.returns-clause-reads
unfolding as_definition closed
returns-clause-reads c = search (tests, rules)
