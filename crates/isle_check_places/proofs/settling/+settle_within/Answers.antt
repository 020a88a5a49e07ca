use Rattle.std.proofs.Common.{◌≡◌, IfOk, sym, ◌∙◌, subst}
use Rattle.isle_check_places.specs.Views.{all_constrained_of, all_equalities_of, settled_of, sweep_of}
use Rattle.isle_check_places.proofs.SettleLemmas.{settle_continues}
use Rattle.isle_check_places.proofs.settling.+settle_within.Goals as goal

pub returns : goal.returns
returns t c =
    subst (λ r. IfOk c.settle_within.result (λ made. settled_of made ≡ r))
    (settle_continues c.args.sweeps (all_constrained_of c.args.constraints.items) (all_equalities_of c.args.equal.items) (sweep_of c.in_ok-swept.swept)
    c.if-sweeps-eq0.false c.in_ok-swept.ensures c.if-swept.false c.if-not-swept.false (sym c.are_too_many.ensures ∙ c.if-are_too_many.false))
    c.settle_within.ensures
