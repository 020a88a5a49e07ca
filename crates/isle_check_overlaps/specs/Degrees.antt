-- How many rules overlap with each rule.
use Rattle.std.specs.Prelude.{◌≡◌, ◌<◌, ℕ, ◌+◌, ◌==◌, List, length, get_or, nat_lt, set, if◌then◌else◌}
use Rattle.isle_check_overlaps.specs.Stars.{PairNode, degree}

-- one more for a number
abbrev pub counted : List ℕ → (number : ℕ) → List ℕ
counted counts number = if nat_lt number (length counts) then set counts number (get_or counts number 0 + 1) else counts

abbrev pub counted_pair : List ℕ → PairNode → List ℕ
counted_pair counts p =
    if p.second.number == p.first.number then counted counts p.first.number else counted (counted counts p.first.number) p.second.number

-- for each number that has a count, it is how many rules overlap with the rule of that number
abbrev pub AreDegrees : List ℕ → List PairNode → Type 0
AreDegrees counts ps = (number : ℕ) → number < length counts → get_or counts number 0 ≡ degree ps number
