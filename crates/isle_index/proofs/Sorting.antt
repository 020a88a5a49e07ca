-- Orders by several keys.
use Rattle.std.proofs.Common.{◌≡◌, false, refl}
use Rattle.std.specs.Ordering.{is_lt, ordering_then}
use Rattle.std.specs.declared.cmp.Ordering.{Ordering}
use Rattle.std.specs.declared.cmp.Ordering.TheVariants.{Equal, Greater, Less}

-- what isn't less by two comparisons isn't less by the first
pub first-not_less : (o p : Ordering) → is_lt (ordering_then o p) ≡ false → is_lt o ≡ false
first-not_less Less p not_less = not_less
first-not_less Equal p not_less = refl
first-not_less Greater p not_less = refl
