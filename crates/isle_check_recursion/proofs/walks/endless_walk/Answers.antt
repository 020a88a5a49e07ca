use Rattle.std.proofs.Common.{◌≡◌, ◌==◌, ◌<◌, ℕ, List, Bool, [], ap, false, get_or, length, map, sym, true, ◌∙◌, arith}
use Rattle.std.specs.List.{list_any}
use Rattle.std.proofs.lemmas.List.{length-map}
use Rattle.isle_check_recursion.specs.Walks.{ends_from}
use Rattle.isle_check_recursion.specs.Recursion.{endless, endless_walk}
use Rattle.isle_check_recursion.proofs.WalkLemmas.{same_step, walk_closes, walk_on}
use Rattle.isle_check_recursion.proofs.walks.endless_walk.Goals as goal

pub returns-then-has : goal.returns-then-has
returns-then-has c =
    let next : List (List ℕ) = map (λ v. v.items) c.args.next.now in
    let place = c.loop-taken.place in
    let count : length next ≡ length c.args.next.now = length-map c.args.next.now (λ v. v.items) in
    let within : c.loop-taken.taken < length next = let t = c.loop-taken-test.true in omega (arith, count, t) in
    let again : list_any (λ p. p == place) c.loop-taken.path.items ≡ true =
    ap (λ ps. list_any (λ p. p == place) ps) (sym c.deref.ensures.value) ∙ sym c.has.ensures ∙ c.if-has.true in
    c.in_ok-push.ensures.items
    ∙ walk_closes (length next) c.loop-taken.taken (λ p. endless (ends_from next) (get_or next p [])) c.loop-taken.path.items place (endless_walk next c.args.root)
    c.loop-taken.invariant within again

pub loop-taken-preserved : goal.loop-taken-preserved
loop-taken-preserved c =
    let next : List (List ℕ) = map (λ v. v.items) c.args.next.now in
    let place = c.loop-taken.place in
    let count : length next ≡ length c.args.next.now = length-map c.args.next.now (λ v. v.items) in
    let within : c.loop-taken.taken < length next = let t = c.loop-taken-test.true in omega (arith, count, t) in
    let new : list_any (λ p. p == place) c.loop-taken.path.items ≡ false =
    ap (λ ps. list_any (λ p. p == place) ps) (sym c.deref.ensures.value) ∙ sym c.has.ensures ∙ c.if-has.false in
    walk_on (length next) c.loop-taken.taken (λ p. endless (ends_from next) (get_or next p [])) c.loop-taken.path.items place (endless_walk next c.args.root)
    c.loop-taken.invariant c.push-in-loop-taken.new.self.items c.step-place.result within new c.in_ok-push-2.ensures.items
    (c.step-place.ensures ∙ same_step next c.args.ends.now place c.requires)
