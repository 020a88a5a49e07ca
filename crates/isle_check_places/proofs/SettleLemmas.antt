-- What follows a sweep.
use Rattle.std.proofs.Common.{◌≡◌, ℕ, zero, suc, ◌≢◌, ◌-◌, List, length, nat_lt, true, false, refl, sym, ap, ◌∙◌, arith, if◌then◌else◌}
use Rattle.isle_check_places.specs.Places.{ConstrainedNode}
use Rattle.isle_check_places.specs.Settling.{EqualityNode, SettledNode, settled, unequal, endless, SweepNode, after, begun, most_equal, settle, sweep}

after_next : (next : SettledNode) (s : SweepNode) → s.clashes ≡ false → s.is_opened ≡ true → nat_lt most_equal (length s.equal) ≡ false → after next s ≡ next
after_next next s a b c =
    ap (λ x. if x then unequal else (if s.is_opened then (if nat_lt most_equal (length s.equal) then endless else next) else settled s.constraints s.equal)) a
    ∙ (ap (λ x. if x then (if nat_lt most_equal (length s.equal) then endless else next) else settled s.constraints s.equal) b
    ∙ ap (λ x. if x then endless else next) c)

pub settle_continues : (n : ℕ) (cs : List ConstrainedNode) (es : List EqualityNode) (s : SweepNode) → n ≢ 0 → s ≡ sweep (begun cs) es →
    s.clashes ≡ false → s.is_opened ≡ true → nat_lt most_equal (length s.equal) ≡ false → settle (n - 1) s.constraints s.equal ≡ settle n cs es
settle_continues zero cs es s h e a b c = absurd (h refl)
settle_continues (suc n) cs es s h e a b c =
    let m : suc n - 1 ≡ n = omega arith in
    ap (λ k. settle k s.constraints s.equal) m
    ∙ (sym (after_next (settle n s.constraints s.equal) s a b c)
    ∙ ap (λ x. after (settle n x.constraints x.equal) x) e)
