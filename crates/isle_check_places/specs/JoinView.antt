-- Places that stand for others, of code, as pure values.
use Rattle.std.specs.Prelude.{List, map}
use Rattle.isle_check_places.specs.declared.following.Join.{Join}
use Rattle.isle_check_places.specs.Following.{JoinNode, join}
use Rattle.isle_check_places.specs.Views.{place_of}

abbrev pub join_of : Join → JoinNode
join_of j = join (place_of j.from.now) (place_of j.to.now)

abbrev pub joins_of : List Join → List JoinNode
joins_of js = map join_of js
