use Rattle.std.proofs.Common.{not, refl, arith}
use Rattle.std.proofs.lemmas.Simd.{zip2_of_maps, zip2_splat}
use Rattle.isle_base.specs.Skips.{is_blank}
use Rattle.isle_base.proofs.LaneLemmas.{masked}
use Rattle.isle_base.proofs.scanner.lanes.BlankClass.misses.Goals as goal

pub returns : goal.returns
unfolding is_blank
returns c =
    let v = c.args.bytes in
    let long = c.fits-bytes.0 in
    masked _ (λ b. not (is_blank b)) v _ (omega arith) c.fits-bytes.1
    (zip2_of_maps _ _ _ v (zip2_of_maps _ _ _ v (zip2_of_maps _ _ _ v (zip2_splat _ v 32 _ long) (zip2_splat _ v 32 _ long)) (zip2_splat _ v 32 _ long)) (zip2_splat _ v 32 _ long)) refl
