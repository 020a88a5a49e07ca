-- Two writes taken together, and what comes of standard input.
use Rattle.std.proofs.Common.{◌≡◌, ◌≢◌, ◌++◌, [], ◌∷◌, Some, ℕ, List, Option, Result, Ok, Err, IfErr, IfOk, ap, codes, ◌==◌, if◌then◌else◌, Bool, true, false, string_bytes, sym, subst, ◌∙◌, inl, inr, ⊎_elim, ◌⊎◌, arith, IsUtf8, refl}
use Rattle.std.proofs.KnownBytes.{Appends-nil, Keeps-refl}
use Rattle.std.proofs.lemmas.Bool.Decides.{nat_tests}
use Rattle.std.specs.Io.KnownBytes.{Appends, Consumes, IsAtEnd}
use Rattle.isle_cli.proofs.FailureLemmas.{diagnostic-of}
use Rattle.isle_cli.proofs.StreamLemmas.{AppendsBeginning-behind, AppendsBeginning-front}
use Rattle.isle_cli.specs.Arguments.{AnswersTo, Asked, Given, name_list, work_asked}
use Rattle.isle_cli.specs.Failure.{IsDiagnostic, status_of, text_of}
use Rattle.std.specs.declared.alloc.AllocError.{AllocError}
use Rattle.std.specs.declared.alloc.Global.{Global}
use Rattle.std.specs.declared.string.String.{String}
use Rattle.isle_cli.specs.Messages.{counted}
use Rattle.isle_cli.specs.Sources.{fault_line}
use Rattle.isle_cli.specs.Streams.{AppendsBeginning, IsStreamFault, ReadsText, WritesBeginning}
use Rattle.isle_cli.specs.declared.failure.Failure.{Failure}
use Rattle.isle_cli.specs.declared.failure.Failure.TheVariants as failures
use Rattle.isle_cli.specs.declared.program.Program.{Program}
use Rattle.isle_cli.specs.declared.streams.ReadFault.{ReadFault}
use Rattle.isle_tidy.specs.declared.listings.Listing.{Listing}
use Rattle.isle_tidy.specs.Doing.{CutsText, DoesText, EndsInput, EndsText, Explains, FindsText, HasNames, ListsText, TellsText, changes_text, option_of}

-- what a call says that writes the front, or what is behind it, of the whole
pub cut-front : (a b : Option (List ℕ)) (xs ys : List ℕ) (failure : Failure) → (failure ≡ failures.Output) × AppendsBeginning a b xs → (failure ≡ failures.Output) × AppendsBeginning a b (xs ++ ys)
cut-front a b xs ys failure said = (said.0, AppendsBeginning-front a b xs ys said.1)

pub cut-behind : {T : Type 0} (a b c : Option (List ℕ)) (xs ys : List ℕ) (result : Result T Failure) → Appends a b xs
    → IfErr result (λ failure. (failure ≡ failures.Output) × AppendsBeginning b c ys) → IfErr result (λ failure. (failure ≡ failures.Output) × AppendsBeginning a c (xs ++ ys))
cut-behind a b c xs ys (Ok x) front said = tt
cut-behind a b c xs ys (Err failure) front said = (said.0, AppendsBeginning-behind a b c xs ys front said.1)

-- where nothing with names is asked for, there are none
empty-by : {A : Type 0} (xs : List A) → ¬ (xs ≢ []) → xs ≡ []
empty-by [] none = refl
empty-by (x ∷ xs) none = absurd (none (λ e. absurd (cc)))

pub without-names : (answer : Option Asked) (list : List Given) → answer ≡ Some (work_asked list) → ¬ (AnswersTo answer HasNames) → name_list list ≡ []
without-names answer list is none = empty-by (name_list list) (λ some. none (work_asked list, is, some))

-- What comes of a text: it is done, or listed, or that fails.
module _ (program : Program) (listing : Option Listing) (name text : List ℕ) where
  text_done : (output output' faults : Option (List ℕ)) → DoesText listing name text output output' → EndsText program listing name text 0 output output' faults faults
  text_done output output' faults does = record {
    known = omega arith;
    used = λ e. omega (arith, e);
    read = λ e. omega (arith, e);
    done = λ e. does;
    found = λ e. absurd (omega (arith, e));
    cut = λ e. absurd (omega (arith, e));
    unwritten = λ past e. absurd (omega (arith, past));
    quiet = λ e. Keeps-refl faults;
    told = λ past. absurd (omega (arith, past));
  }

  text_listed : (output output' faults : Option (List ℕ)) → ListsText listing name text output output' → EndsText program listing name text 1 output output' faults faults
  text_listed output output' faults lists = record {
    known = omega arith;
    used = λ e. omega (arith, e);
    read = λ e. omega (arith, e);
    done = λ e. absurd (omega (arith, e));
    found = λ e. inr (lists, Keeps-refl faults);
    cut = λ e. absurd (omega (arith, e));
    unwritten = λ past e. absurd (omega (arith, past));
    quiet = λ e. absurd (omega (arith, e));
    told = λ past. absurd (omega (arith, past));
  }

  pub text-done : (is_done : Bool) (output output' faults : Option (List ℕ)) → is_done ≡ true → TellsText is_done listing name text output output' → EndsText program listing name text 0 output output' faults faults
  text-done is_done output output' faults is tells = text_done output output' faults (subst (λ b. TellsText b listing name text output output') is tells)

  pub text-listed : (is_done : Bool) (output output' faults : Option (List ℕ)) → is_done ≡ false → TellsText is_done listing name text output output' → EndsText program listing name text 1 output output' faults faults
  text-listed is_done output output' faults is tells = text_listed output output' faults (subst (λ b. TellsText b listing name text output output') is tells)

  text_fails : (failure : Failure) (output output' faults faults' : Option (List ℕ)) → Explains failure listing name text output output' → AppendsBeginning faults faults' (text_of program failure)
      → EndsText program listing name text (status_of failure) output output' faults faults'
  text_fails (failures.Refused line) output output' faults faults' why told = record {
    known = omega arith;
    used = λ e. omega (arith, e);
    read = λ e. omega (arith, e);
    done = λ e. absurd (omega (arith, e));
    found = λ e. inl (why.0.0, (string_bytes line, why.0.1, told), why.1);
    cut = λ e. absurd (omega (arith, e));
    unwritten = λ past e. absurd (omega (arith, past));
    quiet = λ e. absurd (omega (arith, e));
    told = λ past. absurd (omega (arith, past));
  }
  text_fails failures.Usage output output' faults faults' why told = absurd why.0
  text_fails failures.Input output output' faults faults' why told = absurd why.0
  text_fails failures.Memory output output' faults faults' why told = record {
    known = omega arith;
    used = λ e. omega (arith, e);
    read = λ e. omega (arith, e);
    done = λ e. absurd (omega (arith, e));
    found = λ e. absurd (omega (arith, e));
    cut = λ e. absurd (omega (arith, e));
    unwritten = λ past e. why.1;
    quiet = λ e. absurd (omega (arith, e));
    told = λ past. (text_of program failures.Memory, diagnostic-of program failures.Memory, told);
  }
  text_fails failures.Output output output' faults faults' why told = record {
    known = omega arith;
    used = λ e. omega (arith, e);
    read = λ e. omega (arith, e);
    done = λ e. absurd (omega (arith, e));
    found = λ e. absurd (omega (arith, e));
    cut = λ e. why;
    unwritten = λ past e. absurd (e refl);
    quiet = λ e. absurd (omega (arith, e));
    told = λ past. (text_of program failures.Output, diagnostic-of program failures.Output, told);
  }

  pub text-fails : (status : ℕ) (failure : Failure) (output output' faults faults' : Option (List ℕ)) → Explains failure listing name text output output' → AppendsBeginning faults faults' (text_of program failure)
      → status ≡ status_of failure → EndsText program listing name text status output output' faults faults'
  text-fails status failure output output' faults faults' why told is =
      subst (λ s. EndsText program listing name text s output output' faults faults') (sym is) (text_fails failure output output' faults faults' why told)

-- What comes of standard input: what comes of its text, or it has none.
module _ (program : Program) (listing : Option Listing) (name : List ℕ) (input input' : Option (List ℕ)) where
  reads : (text : List ℕ) (P : List ℕ → Type 0) → Consumes input input' text → IsAtEnd input' → IsUtf8 text → P text → ReadsText input input' P
  reads text P consumed ended utf8 holds = record { text = text; consumed = consumed; ended = ended; utf8 = utf8; holds = holds }

  pub input-ends : (text : List ℕ) (status : ℕ) (output output' faults faults' : Option (List ℕ)) → Consumes input input' text → IsAtEnd input' → IsUtf8 text
      → EndsText program listing name text status output output' faults faults' → EndsInput program listing name status input input' output output' faults faults'
  input-ends text status output output' faults faults' consumed ended utf8 ends = record {
    known = ends.known;
    used = ends.used;
    done = λ e. reads text (λ t. DoesText listing name t output output') consumed ended utf8 (ends.done e);
    found = λ e. reads text (λ t. FindsText listing name t output output' faults faults') consumed ended utf8 (ends.found e);
    cut = λ e. reads text (λ t. CutsText listing name t output output') consumed ended utf8 (ends.cut e);
    unwritten = ends.unwritten;
    quiet = ends.quiet;
    told = λ past e. ends.told past;
    missed = λ e. absurd (ends.read e);
  }

  pub input-missed : (fault : ReadFault) (status : ℕ) (output faults faults' : Option (List ℕ)) → IsStreamFault input input' fault → (status ≡ 3) ⊎ (status ≡ 4)
      → (status ≡ 3 → AppendsBeginning faults faults' (fault_line program name fault)) → (status ≡ 4 → WritesBeginning faults faults' (IsDiagnostic program status))
      → EndsInput program listing name status input input' output output faults faults'
  input-missed fault status output faults faults' why which missed starved = record {
    known = ⊎_elim (λ e. omega (arith, e)) (λ e. omega (arith, e)) which;
    used = λ two. ⊎_elim (λ e. omega (arith, e, two)) (λ e. omega (arith, e, two)) which;
    done = λ zero. absurd (⊎_elim (λ e. omega (arith, e, zero)) (λ e. omega (arith, e, zero)) which);
    found = λ one. absurd (⊎_elim (λ e. omega (arith, e, one)) (λ e. omega (arith, e, one)) which);
    cut = λ five. absurd (⊎_elim (λ e. omega (arith, e, five)) (λ e. omega (arith, e, five)) which);
    unwritten = λ past e. Keeps-refl output;
    quiet = λ zero. absurd (⊎_elim (λ e. omega (arith, e, zero)) (λ e. omega (arith, e, zero)) which);
    told = λ past other. ⊎_elim (λ e. absurd (other e)) (λ e. starved e) which;
    missed = λ e. (fault, why, missed e);
  }

-- where nothing is written, that is a beginning
pub none-of : (a : Option (List ℕ)) (bytes : List ℕ) → AppendsBeginning a a bytes
none-of a bytes = (0, Appends-nil a)

-- the parts of the line that says how many files would change
parts-of : (program : Program) (listing : Option Listing) (untidy : ℕ) (test : Bool) → (untidy == 0) ≡ test → test ≡ false
    → program.name.now ++ (codes ": " ++ (counted untidy (codes "file") ++ (codes " would change; run the same command without " ++ (option_of listing ++ codes "\n")))) ≡ changes_text program listing untidy
parts-of program listing untidy test is off =
    sym (ap (λ b. if b then [] else program.name.now ++ (codes ": " ++ (counted untidy (codes "file") ++ (codes " would change; run the same command without " ++ (option_of listing ++ codes "\n"))))) (is ∙ off))

some-untidy : (untidy : ℕ) → untidy ≢ 0 → (untidy == 0) ≡ false
some-untidy untidy some = grind (arith, nat_tests)

pub changes-parts : (program : Program) (listing : Option Listing) (untidy : ℕ) (files option : List ℕ) (result : Result (String Global) AllocError) → untidy ≢ 0 → files ≡ counted untidy (codes "file") → option ≡ option_of listing
    → IfOk result (λ s. string_bytes s ≡ program.name.now ++ (codes ": " ++ (files ++ (codes " would change; run the same command without " ++ (option ++ codes "\n")))))
    → IfOk result (λ s. string_bytes s ≡ changes_text program listing untidy)
changes-parts program listing untidy files option (Ok s) some files_are option_is made =
    made
    ∙ ap (λ x. program.name.now ++ (codes ": " ++ (x ++ (codes " would change; run the same command without " ++ (option ++ codes "\n"))))) files_are
    ∙ ap (λ x. program.name.now ++ (codes ": " ++ (counted untidy (codes "file") ++ (codes " would change; run the same command without " ++ (x ++ codes "\n"))))) option_is
    ∙ parts-of program listing untidy (untidy == 0) refl (some-untidy untidy some)
changes-parts program listing untidy files option (Err e) some files_are option_is made = tt
