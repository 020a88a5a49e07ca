use Rattle.std.proofs.Common.{◌≡◌, ◌-◌, [], get_or, length, map}
use Rattle.isle_check_recursion.specs.Walks.{ends_from}
use Rattle.isle_check_recursion.specs.Recursion.{endless, endless_walk, walk}
use Rattle.isle_check_recursion.proofs.walks.endless_walk.Given as goal

abbrev pub invariant-loop-taken : goal.invariant-loop-taken
invariant-loop-taken l =
    let next = map (λ v. v.items) l.next in
    walk (length next - l.taken) (λ place. endless (ends_from next) (get_or next place [])) l.path.items l.place ≡ endless_walk next l.root
