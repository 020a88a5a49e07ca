use Rattle.std.proofs.Common.{◌≡◌, drop, map}
use Rattle.isle_index.specs.Renaming.{is_member}
use Rattle.isle_index.proofs.rename.is_member.Given as goal

abbrev pub invariant-loop-member : goal.invariant-loop-member
invariant-loop-member l =
    is_member l.owner (map (λ m. m.now) (drop l.member-index l.members)) l.text ≡ is_member l.owner (map (λ m. m.now) l.members) l.text
