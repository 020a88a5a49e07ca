use Rattle.std.proofs.Common.{map, sym, subst}
use Rattle.std.proofs.lemmas.List.{length-map}
use Rattle.isle_check_recursion.specs.Walks.{IsClosed}
use Rattle.isle_check_recursion.proofs.Marking.{are_ends}
use Rattle.isle_check_recursion.proofs.cycles.ends.Goals as goal

pub returns-then-not-more : goal.returns-then-not-more
returns-then-not-more c =
    let next = map (λ v. v.items) c.args.next.now in
    are_ends next c.add_ended.new.ends.items c.in_ok-more.ensures.sound
    (subst (IsClosed next c.add_ended.new.ends.items) (sym (length-map c.args.next.now (λ v. v.items))) (c.in_ok-more.ensures.closed c.if-not-more.true))
