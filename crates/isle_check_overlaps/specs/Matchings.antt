-- What rules match.
use Rattle.std.specs.Prelude.{ℕ, ℤ, List, Bool}
use Rattle.isle_base_source.specs.declared.pos.Pos.{Pos}
use Rattle.isle_check_places.specs.Clashes.{ClashNode}
use Rattle.isle_check_places.specs.Settling.{SettledNode}

-- what a rule matches
pub record MatchingNode : Type 0 where
  pub term : List ℕ
  -- whether the term is multi
  pub is_multi : Bool
  -- whether a pattern of the rule looks at each of several answers, of which there may be none
  pub has_several : Bool
  pub prio : ℤ
  pub pos : Pos
  pub clashes : List ClashNode
  pub settled : SettledNode
