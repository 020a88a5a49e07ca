-- The words of each kind of error of rules beside one another: the name of the kind, and the message.
use Rattle.std.specs.Prelude.{ℕ, List, [], ◌∷◌, ◌++◌, Bool, true, false, codes}
use Rattle.isle_check_places.specs.values.Values.{ValueNode}
use Rattle.isle_check_overlaps.specs.Faults.{KindNode, OtherNode, two_constraints, unequal_constraints, part_of_itself, overlaps, shadows, shadows_with_equals}
use Rattle.isle_check_messages.specs.Words.{WordsNode, words}

abbrev pub match_text : (is_sure : Bool) → List ℕ
match_text true = codes "both match "
match_text false = codes "both may match "

-- a value that two rules match
abbrev pub both_text : ValueNode → List ℕ
both_text v = match_text v.is_sure ++ v.text

-- the value that a rule and the first of the others match
abbrev pub first_text : List OtherNode → List ℕ
first_text [] = []
first_text (o ∷ os) = codes ": " ++ both_text o.value

abbrev pub overlap_words : KindNode → WordsNode
overlap_words (two_constraints first second) = words (codes "unreachable-rule") (codes "rule requires binding to match both " ++ first ++ codes " and " ++ second ++ codes "")
overlap_words unequal_constraints = words (codes "unreachable-rule") (codes "rule requires equal bindings to match both of two")
overlap_words part_of_itself = words (codes "part-of-itself") (codes "rule requires a value that is a part of itself")
overlap_words (overlaps others _) = words (codes "rule-overlap") (codes "rules are overlapping" ++ first_text others)
overlap_words (shadows _ _) = words (codes "rule-shadow") (codes "more general higher-priority rule shadows other rules")
overlap_words (shadows_with_equals _ _) = words (codes "shadow-with-equal-values") (codes "more general higher-priority rule shadows other rules that ask for equal values")
