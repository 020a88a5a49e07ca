use Rattle.std.proofs.Common.{ap, ◌∙◌, length, subst, sym, ◌<◌, ◌≤◌, ◌+◌, ℕ, List, get_or}
use Rattle.isle_check_overlaps.specs.Views.{pair_of}
use Rattle.isle_check_overlaps.proofs.DegreeLemmas.{degrees_step, length_pair, small_pair}
use Rattle.isle_check_overlaps.proofs.stars.degrees.Goals as goal

pub loop-pair-preserved : goal.loop-pair-preserved
loop-pair-preserved c =
    let counts : List ℕ = c.loop-pair.degrees.items in
    record {
      count = ap length c.count_pair.ensures ∙ (length_pair counts (pair_of c.pair-item.result) ∙ c.loop-pair.invariant.count);
      each = degrees_step counts c.count_pair.new.counts.items c.args.pairs.now c.loop-pair.pair-index c.pair-item.result c.loop-pair-test.true c.pair-item.is
          c.count_pair.ensures c.loop-pair.invariant.each;
      small = subst (λ l. (number : ℕ) → number < length l → get_or l number 0 ≤ c.loop-pair.pair-index + 1) (sym c.count_pair.ensures)
          (small_pair counts (pair_of c.pair-item.result) c.loop-pair.pair-index c.loop-pair.invariant.small);
    }
