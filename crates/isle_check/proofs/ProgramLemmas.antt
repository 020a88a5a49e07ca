-- The programs that are read, one program more.
use Rattle.std.proofs.Common.{◌≡◌, List, true, false, Option, ◌∷◌}
use Rattle.isle_base_source.specs.declared.error.Error.{Error}
use Rattle.isle_check.specs.Programs.{is_read, read_parts}
use Rattle.isle_program_findings.specs.Programs.{Part}

module _ (refusals : List (Option Error)) (Left : List Part → Type 0) (part : Part) (parts : List Part) where
  -- one whose texts are read
  pub read-more : is_read refusals 0 part.has ≡ true → Left (read_parts refusals (part ∷ parts)) → Left (part ∷ read_parts refusals parts)
  read-more is left = rw is at left

  -- one with a text that is refused
  pub read-same : is_read refusals 0 part.has ≡ false → Left (read_parts refusals (part ∷ parts)) → Left (read_parts refusals parts)
  read-same is left = rw is at left
