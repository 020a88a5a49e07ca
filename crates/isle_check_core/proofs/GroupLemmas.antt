-- Groups of errors, of which the first that has any is told.
use Rattle.std.proofs.Common.{◌≡◌, ◌<◌, List, [], ◌∷◌, length, refl, arith}
use Rattle.isle_check_core.specs.Findings.{FindingNode, or_next}

pub group_told : (group later : List FindingNode) → 0 < length group → or_next group later ≡ group
group_told [] later some = absurd (omega (arith, some))
group_told (f ∷ fs) later some = refl

pub group_passed : (group later : List FindingNode) → length group ≡ 0 → or_next group later ≡ later
group_passed [] later none = refl
group_passed (f ∷ fs) later none = absurd (omega (arith, none))
