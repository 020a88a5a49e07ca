use Rattle.std.proofs.Common.{◌≡◌, ◌++◌, drop, map, string_bytes}
use Rattle.isle_check.specs.Listing.{listing, program_of}
use Rattle.isle_check.proofs.listing.listing.Given as goal

abbrev pub invariant-loop-program : goal.invariant-loop-program
invariant-loop-program l = string_bytes l.text ++ listing (map program_of (drop l.program-index l.programs)) ≡ listing (map program_of l.programs)
