use Rattle.std.proofs.Common.{◌≡◌, drop, map}
use Rattle.isle_index.specs.Entries.{all_of}
use Rattle.isle_index.specs.Renaming.{has_member}
use Rattle.isle_index.proofs.rename.has_member.Given as goal

abbrev pub invariant-loop-member : goal.invariant-loop-member
invariant-loop-member l =
    has_member l.new (map (λ m. m.now) (drop l.member-index l.members)) (all_of l.entries)
    ≡ has_member l.new (map (λ m. m.now) l.members) (all_of l.entries)
