use Rattle.std.proofs.Common.{List, ℕ, ◌<◌, [], false, get_or, length, map, slice_set, true, subst, sym, arith}
use Rattle.std.proofs.lemmas.List.{length-map}
use Rattle.isle_expand_core.specs.Order.{IsOrder, all_end}
use Rattle.isle_expand_core.proofs.Orders.{order_push, ready_ends, ready_unset, unended_set}
use Rattle.isle_expand_core.proofs.order.add_template.Goals as goal

pub returns-clause-order : goal.returns-clause-order
returns-clause-order c =
    let cs : List (List ℕ) = map (λ v. v.items) c.args.callees.now in
    let flags = c.args.order.now.ends.items in
    let place = c.args.place in
    let within : place < length cs = omega (arith, length-map c.args.callees.now (λ v. v.items), c.requires.within) in
    subst (IsOrder cs (slice_set flags place true)) (sym c.in_ok-push.ensures.items)
    (order_push cs flags c.args.order.now.places.items place c.requires.order within
    (ready_ends (get_or flags place false) (all_end flags (get_or cs place [])) c.requires.ready))

pub returns-clause-fewer : goal.returns-clause-fewer
returns-clause-fewer c =
    let cs : List (List ℕ) = map (λ v. v.items) c.args.callees.now in
    let flags = c.args.order.now.ends.items in
    let place = c.args.place in
    let within : place < length flags = omega (arith, length-map c.args.callees.now (λ v. v.items), c.requires.within, c.requires.order.count) in
    unended_set flags place within (ready_unset (get_or flags place false) (all_end flags (get_or cs place [])) c.requires.ready)
