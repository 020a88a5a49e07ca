use Rattle.std.proofs.Common.{ap}
use Rattle.isle_ast_names.specs.NameOrder.{name_hash}
use Rattle.isle_ast_names.proofs.NameOrders.{names_equal, equal_names, name_hashes_equal}
use Rattle.isle_ast_names.specs.TreeView.{name_of}
use Rattle.isle_ast_names.proofs.laws.identifiers_are_ordered.Goals as goal

pub returns-clause-equal_in_order : goal.returns-clause-equal_in_order
returns-clause-equal_in_order c a b = (names_equal (name_of a) (name_of b), equal_names (name_of a) (name_of b))

pub returns-clause-equal_in_hash : goal.returns-clause-equal_in_hash
returns-clause-equal_in_hash c m n l r = (name_hashes_equal m n l r, ap name_hash)
