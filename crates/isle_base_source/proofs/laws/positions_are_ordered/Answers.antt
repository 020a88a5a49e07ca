use Rattle.std.proofs.Common.{ap}
use Rattle.isle_base_source.proofs.PositionOrders.{positions_equal, equal_positions, hashes_equal}
use Rattle.isle_base_source.specs.PositionOrder.{position_hash}
use Rattle.isle_base_source.proofs.laws.positions_are_ordered.Goals as goal

pub returns-clause-equal_in_order : goal.returns-clause-equal_in_order
returns-clause-equal_in_order c a b = (positions_equal a b, equal_positions a b)

pub returns-clause-equal_in_hash : goal.returns-clause-equal_in_hash
returns-clause-equal_in_hash c a b l m = (hashes_equal a b l m, ap position_hash)
