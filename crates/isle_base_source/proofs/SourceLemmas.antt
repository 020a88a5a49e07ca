-- What is read of a known file.
use Rattle.std.proofs.Common.{◌≡◌, ℕ, zero, suc, List, [], ◌∷◌, Some}
use Rattle.std.specs.Prelude.{slice_get}
use Rattle.std.specs.Option.{option_map}
use Rattle.isle_base_source.specs.Source.{Source, source_at}

pub source_at-read : {X : Type 0} (read : Source → X) (files : List Source) (file : ℕ) (x : X) → Some x ≡ option_map read (slice_get files file) → x ≡ read (source_at files file)
source_at-read read [] file x found = cc
source_at-read read (source ∷ files) zero x found = cc
source_at-read read (source ∷ files) (suc file) x found = source_at-read read files file x found
