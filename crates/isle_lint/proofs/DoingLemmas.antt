-- What is done with what was read.
use Rattle.std.proofs.Common.{◌≡◌, ◌≤◌, ℕ, List, [], ◌∷◌, ◌++◌, Bool, Option, arith, length, ne_eqb, refl, ◌∙◌, false, true}
use Rattle.isle_base_source.specs.Source.{Source}
use Rattle.isle_cli.specs.Arguments.{Given}
use Rattle.isle_cli.specs.Sources.{IsReadFrom}
use Rattle.isle_cli.specs.Streams.{AppendsBeginning, WritesBeginning}
use Rattle.isle_cli.specs.declared.failure.Failure.{Failure}
use Rattle.isle_cli.specs.declared.failure.Failure.TheVariants as failures
use Rattle.isle_cli.specs.declared.program.Program.{Program}
use Rattle.isle_lint.specs.Doing.{Explains, ExplainsTexts, IsCut, IsProgram, Reads, Tells, Told, is_empty, told_status}
use Rattle.isle_lint.specs.Options.{are_usable}
use Rattle.isle_program.specs.SeveralPrograms.{IsNote}

module _ (given : List Given) (program : Program) (sources : List Source) (lines : List ℕ) (input input' output output' faults faults' : Option (List ℕ))
    (usable : are_usable given ≡ true) (is_program : IsProgram program) (read : IsReadFrom given program input input' sources lines) where
  -- what is said of the texts is said of the arguments
  reads : (Holds : (lines : List ℕ) → List Source → Type 0) → Holds lines sources → Reads given input input' Holds
  reads Holds holds =
      record {
        usable = usable;
        program = program;
        is_program = is_program;
        sources = sources;
        lines = lines;
        read = read;
        holds = holds;
      }

  pub told_whole : (status : ℕ) → Told given status output output' faults faults' lines sources → Tells given status input input' output output' faults faults'
  told_whole status told = reads (Told given status output output' faults faults') told

  pub explained : (failure : Failure) → ExplainsTexts failure given output output' lines sources → Explains failure given input input' output output'
  explained (failures.Refused _) why = why
  explained failures.Usage why = absurd why
  explained failures.Input why = why
  explained failures.Memory why = why
  explained failures.Output why = reads (IsCut given output output') why

-- a name that can't be read gives 3
unread-status : (is_read is_clean : Bool) → is_read ≡ false → told_status is_read is_clean ≡ 3
unread-status true is_clean is = absurd (cc)
unread-status false is_clean is = refl

-- nothing else but the note is told with status 0 or 1
pub told-quiet : (given : List Given) (status : ℕ) (input input' output output' faults faults' : Option (List ℕ))
    → Tells given status input input' output output' faults faults' → status ≤ 1 → WritesBeginning faults faults' IsNote
told-quiet given status input input' output output' faults faults' tells low = cases tells.lines tells.holds
  where
    cases : (lines : List ℕ) → Told given status output output' faults faults' lines tells.sources → WritesBeginning faults faults' IsNote
    cases [] told = (told.note, (tells.sources, told.is_report.definitions, told.is_report.noted), told.begun)
    cases (x ∷ xs) told =
        let three : status ≡ 3 = told.ends ∙ unread-status (is_empty (x ∷ xs)) told.report.is_clean (ne_eqb (length (x ∷ xs)) 0 (λ e. omega arith)) in
        absurd (omega (arith, three, low))
