-- What is done with what was read.
use Rattle.std.proofs.Common.{◌≡◌, ◌<◌, ◌≤◌, ℕ, List, Option, arith, inl, inr, length, refl, subst, true}
use Rattle.std.proofs.KnownBytes.{Keeps-refl}
use Rattle.isle_base_source.specs.Source.{Source}
use Rattle.isle_cli.specs.Arguments.{Given}
use Rattle.isle_cli.specs.Sources.{IsReadFrom}
use Rattle.isle_cli.specs.Streams.{AppendsBeginning, WritesBeginning}
use Rattle.isle_cli.specs.declared.failure.Failure.{Failure}
use Rattle.isle_cli.specs.declared.failure.Failure.TheVariants as failures
use Rattle.isle_cli.specs.declared.program.Program.{Program}
use Rattle.isle_check.specs.Doing.{CutReport, Explains, ExplainsTexts, IsCut, IsProgram, Reads, Tells, Told, ToldReport}
use Rattle.isle_check.specs.Options.{are_usable}
use Rattle.isle_program.specs.SeveralPrograms.{IsNote}

module _ (given : List Given) (program : Program) (sources : List Source) (lines : List ℕ) (input input' output output' faults faults' : Option (List ℕ))
    (usable : are_usable given ≡ true) (is_program : IsProgram program) (read : IsReadFrom given program input input' sources lines) where
  -- what is said of the texts is said of the arguments
  reads : (Holds : List ℕ → List Source → Type 0) → Holds lines sources → Reads given input input' Holds
  reads Holds holds =
      record {
        usable = usable;
        program = program;
        is_program = is_program;
        sources = sources;
        lines = lines;
        read = read;
        holds = holds;
      }

  -- all texts can be read, and the report on them is told
  pub told_whole : length lines ≡ 0 → (texts : List Source) → texts ≡ sources → (status : ℕ)
      → ToldReport given status output output' faults faults' texts → Tells given status input input' output output' faults faults'
  told_whole empty texts same status told =
      reads (Told given status output output' faults faults') (inr (empty, subst (ToldReport given status output output' faults faults') same told))

  pub explained : length lines ≡ 0 → (texts : List Source) → texts ≡ sources → (failure : Failure) → ExplainsTexts failure given output output' texts
      → Explains failure given input input' output output'
  explained empty texts same (failures.Refused _) why = why
  explained empty texts same failures.Usage why = absurd why
  explained empty texts same failures.Input why = why
  explained empty texts same failures.Memory why = why
  explained empty texts same failures.Output why = reads (IsCut given output output') (empty, subst (CutReport given output output') same why)

-- some text can't be read, and standard error got the lines that say so
pub told_faults : (given : List Given) (program : Program) (sources : List Source) (lines : List ℕ) (input input' output faults faults' : Option (List ℕ))
    → are_usable given ≡ true → IsProgram program
    → IsReadFrom given program input input' sources lines → 0 < length lines → AppendsBeginning faults faults' lines
    → Tells given 3 input input' output output faults faults'
told_faults given program sources lines input input' output faults faults' usable is_program read some begun =
    record {
      usable = usable;
      program = program;
      is_program = is_program;
      sources = sources;
      lines = lines;
      read = read;
      holds = inl (some, refl, Keeps-refl output, begun);
    }

-- nothing else but the note is told with status 0 or 1
pub told-quiet : (given : List Given) (status : ℕ) (input input' output output' faults faults' : Option (List ℕ))
    → Tells given status input input' output output' faults faults' → status ≤ 1 → WritesBeginning faults faults' IsNote
told-quiet given status input input' output output' faults faults' tells low = cases tells.holds
  where
    cases : Told given status output output' faults faults' tells.lines tells.sources → WritesBeginning faults faults' IsNote
    cases (inl (some, three, keeps, begun)) = absurd (omega (arith, three, low))
    cases (inr (empty, told)) = (told.1, (tells.sources, told.2.definitions, told.2.noted), told.5)
