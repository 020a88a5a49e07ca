use Rattle.isle_ast_names.proofs.IdentifierBytes.{identifier_begins_symbol, identifier_in_symbol, identifier_is_symbol}
use Rattle.isle_ast_names.proofs.laws.identifiers_are_symbols.Goals as goal

pub returns : goal.returns
returns c = record { begins = identifier_begins_symbol; none_ends = identifier_in_symbol; one_symbol = identifier_is_symbol }
