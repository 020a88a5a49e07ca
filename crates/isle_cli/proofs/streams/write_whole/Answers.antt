use Rattle.std.proofs.Common.{ℕ, arith, length-drop, length-take}
use Rattle.std.proofs.KnownBytes.{Appends-kept}
use Rattle.isle_cli.proofs.StreamLemmas.{Appends-more}
use Rattle.isle_cli.proofs.streams.write_whole.Goals as goal
use Rattle.isle_cli.proofs.streams.write_whole.Goals.{in-Ok, in-Err}

pub loop-preserved : goal.loop-preserved
loop-preserved g c =
    elim c.match-write.branch [
      | in-Ok w ↦ rw w.written-is (record {
        part = Appends-more _ _ _ _ _ _ c.loop.invariant.part w.in-Ok.ensures.bytes;
        within = omega (arith, w.in-Ok.ensures.bound, length-take {A = ℕ}, length-drop {A = ℕ});
      })
      | in-Err w ↦ rw w.written-is (record {
        part = Appends-kept _ _ _ _ c.loop.invariant.part w.in-Err.ensures.bytes;
        within = c.loop.invariant.within;
      })
    ]
