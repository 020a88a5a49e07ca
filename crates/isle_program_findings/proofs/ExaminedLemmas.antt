-- Programs that are examined one after another.
use Rattle.std.proofs.Common.{◌≡◌, List, [], ◌∷◌, ◌++◌, refl, sym, ap, subst, append_assoc, ◌∙◌}
use Rattle.std.proofs.lemmas.List.{append-nil}
use Rattle.isle_base_source.specs.Source.{Source}
use Rattle.isle_program_findings.specs.Programs.{AddsExamined, AreExamined, Examined, Part}

module _ {A : Type 0} (IsTold : List Source → List A → Type 0) (sources : List Source) where
  -- what those so far become with those of the programs that are left
  abbrev pub Goes-on : (parts : List Part) → (examined : List (Examined A)) → (left : List Part) → Type 0
  Goes-on parts examined left = (more : List (Examined A)) → AreExamined IsTold sources left more → AreExamined IsTold sources parts (examined ++ more)

  -- one program on
  pub one-on : (parts : List Part) (part : Part) (left : List Part) (old new : List (Examined A)) → AddsExamined IsTold sources part old new
      → Goes-on parts old (part ∷ left) → Goes-on parts new left
  one-on parts part left old new adds so_far more rest =
      let one : Examined A = record { part = part; told = adds.told } in
      subst (AreExamined IsTold sources parts) (sym (append_assoc old (one ∷ []) more) ∙ ap (λ es. es ++ more) (sym adds.grown))
      (so_far (one ∷ more) (refl, adds.is_told, rest))

  -- behind the last program
  pub all-examined : (parts : List Part) (examined : List (Examined A)) → Goes-on parts examined [] → AreExamined IsTold sources parts examined
  all-examined parts examined so_far = subst (AreExamined IsTold sources parts) (append-nil examined) (so_far [] tt)
