use Rattle.std.proofs.Common.{ℕ, cond, leb, not, refl, arith}
use Rattle.std.proofs.lemmas.Simd.{zip2_of_maps, zip2_splat, zip2_splat_left}
use Rattle.isle_base.proofs.LaneLemmas.{masked}
use Rattle.isle_tidy_layout.specs.Columns.{is_printable}
use Rattle.isle_tidy_layout.proofs.columns.misses.Goals as goal

pub returns : goal.returns
unfolding is_printable
returns c =
    let v = c.args.bytes in
    let long = c.fits-bytes.0 in
    masked _ (λ b. not (is_printable b)) v _ (omega arith) c.fits-bytes.1
    (zip2_of_maps _ _ _ v (zip2_splat _ v 32 _ long) (zip2_splat_left (λ (a b : ℕ). cond (leb a b) 255 0) 127 32 v long)) refl
