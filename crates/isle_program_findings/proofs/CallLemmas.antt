-- What a call promises, from what it asks for, and from why it fails.
use Rattle.std.proofs.Common.{◌≡◌, ◌≢◌, ◌≤◌, ◌⊎◌, inl, inr, ℕ, List, [], ◌∷◌, ◌++◌, Option, None, Some, Bool, true, false, cond, append-nil, arith, refl, subst, sym, ap, ◌∙◌}
use Rattle.std.specs.Io.KnownBytes.{Appends, Keeps}
use Rattle.std.specs.List.{list_all}
use Rattle.std.specs.Prelude.{◌&&◌, codes}
use Rattle.isle_cli.proofs.FailureLemmas.{first-told-text}
use Rattle.isle_cli.proofs.UsageLemmas.{understood, words-told}
use Rattle.isle_cli.specs.Arguments.{Asked, Given, asked, help_asked, setting_given, version_asked}
use Rattle.isle_cli.specs.Failure.{IsDiagnostic, status_of, text_of}
use Rattle.isle_cli.specs.Streams.{AppendsBeginning, WritesBeginning}
use Rattle.isle_cli.specs.declared.arguments.Options.{Options}
use Rattle.isle_cli.specs.declared.failure.Failure.{Failure}
use Rattle.isle_cli.specs.declared.failure.Failure.TheVariants as failures
use Rattle.isle_cli.specs.declared.program.Program.{Program}
use Rattle.isle_program_findings.specs.Calls.{AsAsked, Ask, ExplainsBy, IsAside, IsFailureText, IsFailureTextOf, TellsAside, TellsText}
use Rattle.isle_program.specs.SeveralPrograms.{IsNote}
use Rattle.isle_program_findings.specs.declared.calls.Aside.{Aside}
use Rattle.isle_program_findings.specs.declared.calls.Aside.TheVariants as asides
use Rattle.isle_program.specs.reports.Colours.{colour_in, is_auto, settled}

-- where nothing is told, the note is empty
pub kept-quiet : (faults faults' : Option (List ℕ)) → Keeps faults faults' → WritesBeginning faults faults' IsNote
kept-quiet faults faults' keeps = ([], ([], [], refl), begun faults faults' keeps)
  where
    begun : (old new : Option (List ℕ)) → Keeps old new → AppendsBeginning old new []
    begun None new keeps = (0, tt)
    begun (Some bytes) None keeps = absurd keeps
    begun (Some bytes) (Some _) keeps = (0, keeps ∙ sym (append-nil bytes))

-- ---- colours are no misuse

module _ (is_usable : Given → Bool) where
  usable-at-end : (g : Given) (given : List Given) → is_usable g ≡ true → list_all is_usable (given ++ g ∷ []) ≡ list_all is_usable given
  usable-at-end g [] is = ap (λ b. b && true) is
  usable-at-end g (x ∷ given) is = ap (λ b. is_usable x && b) (usable-at-end g given is)

  pub settled-usable : (shows_colours : Bool) (given : List Given) → is_usable (setting_given (codes "--color") (codes "always")) ≡ true
      → list_all is_usable (settled shows_colours given) ≡ list_all is_usable given
  settled-usable shows_colours given is = cases (shows_colours && is_auto (colour_in given))
    where
      cases : (b : Bool) → list_all is_usable (cond b (given ++ setting_given (codes "--color") (codes "always") ∷ []) given) ≡ list_all is_usable given
      cases true = usable-at-end (setting_given (codes "--color") (codes "always")) given is
      cases false = refl

-- ---- a call that asks for no work

-- what is said of the text of a status, of the words that ask for something
pub asked-told : (IsProgram : Program → Type 0) (AreOptions AreAllOptions : Options → Type 0) (own all : Options) (words : List (List ℕ)) (what : Asked) (status : ℕ) (faults faults' : Option (List ℕ))
    → AreOptions own → AreAllOptions all → asked own words ≡ Some what
    → WritesBeginning faults faults' (IsFailureText IsProgram status) → WritesBeginning faults faults' (IsFailureTextOf IsProgram AreOptions AreAllOptions words status)
asked-told IsProgram AreOptions AreAllOptions own all words what status faults faults' are are_all asks told =
    let program = told.1.0 in
    (told.0, (program, own, all, told.1.1, are, are_all, understood program own all words what status told.0 asks told.1.2), told.2)

module _ (program : Program) (own all : Options) (words : List (List ℕ)) (status : ℕ) (output output' faults faults' : Option (List ℕ)) where
  abbrev pub Tells : Aside → Type 0
  Tells aside = TellsAside program all words aside status output output' faults faults'

  text-statuses : {text : List ℕ} → TellsText program text status output output' faults faults' → status ≤ 5
  text-statuses tells = elim tells.statuses [ inl zero ↦ omega (arith, zero) | inr five ↦ omega (arith, five) ]

  failed-statuses : (failure : Failure) → IsAside own words (asides.Failed failure) → status ≡ status_of failure → (status ≡ 2) × (asked own words ≡ None) ⊎ (status ≡ 4)
  failed-statuses failure (inl memory) is = inr (is ∙ ap status_of memory)
  failed-statuses failure (inr usage) is = inl (is ∙ ap status_of usage.0, usage.1)

  pub aside-statuses : (aside : Aside) → IsAside own words aside → Tells aside → status ≤ 5
  aside-statuses asides.Help asks tells = text-statuses tells
  aside-statuses asides.Version asks tells = text-statuses tells
  aside-statuses (asides.Failed failure) why tells =
      elim (failed-statuses failure why tells.0) [ inl usage ↦ let two = usage.0 in omega (arith, two) | inr four ↦ omega (arith, four) ]

  text-not : {text : List ℕ} (A : Type 0) → TellsText program text status output output' faults faults' → (status ≢ 0) → (status ≢ 5) → A
  text-not A tells not_zero not_five = elim tells.statuses [ inl zero ↦ absurd (not_zero zero) | inr five ↦ absurd (not_five five) ]

  pub aside-usage : (aside : Aside) → IsAside own words aside → Tells aside → status ≡ 2 → asked own words ≡ None
  aside-usage asides.Help asks tells two = text-not _ tells (λ zero. omega (arith, zero, two)) (λ five. omega (arith, five, two))
  aside-usage asides.Version asks tells two = text-not _ tells (λ zero. omega (arith, zero, two)) (λ five. omega (arith, five, two))
  aside-usage (asides.Failed failure) why tells two =
      elim (failed-statuses failure why tells.0) [ inl usage ↦ usage.1 | inr four ↦ absurd (omega (arith, four, two)) ]

  pub aside-unwritten : (aside : Aside) → Tells aside → (status ≡ 2) ⊎ (status ≡ 4) → Keeps output output'
  aside-unwritten asides.Help tells (inl two) = text-not _ tells (λ zero. omega (arith, zero, two)) (λ five. omega (arith, five, two))
  aside-unwritten asides.Help tells (inr four) = text-not _ tells (λ zero. omega (arith, zero, four)) (λ five. omega (arith, five, four))
  aside-unwritten asides.Version tells (inl two) = text-not _ tells (λ zero. omega (arith, zero, two)) (λ five. omega (arith, five, two))
  aside-unwritten asides.Version tells (inr four) = text-not _ tells (λ zero. omega (arith, zero, four)) (λ five. omega (arith, five, four))
  aside-unwritten (asides.Failed failure) tells which = tells.1

  pub aside-quiet : (aside : Aside) → IsAside own words aside → Tells aside → status ≤ 1 → WritesBeginning faults faults' IsNote
  aside-quiet asides.Help asks tells low = elim tells.statuses [ inl zero ↦ kept-quiet faults faults' (tells.quiet zero) | inr five ↦ absurd (omega (arith, five, low)) ]
  aside-quiet asides.Version asks tells low = elim tells.statuses [ inl zero ↦ kept-quiet faults faults' (tells.quiet zero) | inr five ↦ absurd (omega (arith, five, low)) ]
  aside-quiet (asides.Failed failure) why tells low =
      elim (failed-statuses failure why tells.0) [ inl usage ↦ let two = usage.0 in absurd (omega (arith, two, low)) | inr four ↦ absurd (omega (arith, four, low)) ]

  module _ (IsProgram : Program → Type 0) (AreOptions AreAllOptions : Options → Type 0) (is : IsProgram program) (are : AreOptions own) (are_all : AreAllOptions all) where
    text-told : {text : List ℕ} (what : Asked) → asked own words ≡ Some what → TellsText program text status output output' faults faults' → 2 ≤ status
        → WritesBeginning faults faults' (IsFailureTextOf IsProgram AreOptions AreAllOptions words status)
    text-told what asks tells two =
        elim tells.statuses [
          | inl zero ↦ absurd (omega (arith, zero, two))
          | inr five ↦
              let told = tells.told five in
              asked-told IsProgram AreOptions AreAllOptions own all words what status faults faults' are are_all asks (told.0, (program, is, told.1), told.2)
        ]

    pub aside-told : (aside : Aside) → IsAside own words aside → Tells aside → 2 ≤ status → WritesBeginning faults faults' (IsFailureTextOf IsProgram AreOptions AreAllOptions words status)
    aside-told asides.Help asks tells two = text-told help_asked asks tells two
    aside-told asides.Version asks tells two = text-told version_asked asks tells two
    aside-told (asides.Failed failure) why tells two =
        let said = words-told program own all words status failure faults faults' why tells.2 tells.0 in
        (said.0, (program, own, all, is, are, are_all, said.1), said.2)

    module _ (Does : Asked → Type 0) where
      -- the help and the version are told as the program says
      pub aside-done : (aside : Aside) → IsAside own words aside → Tells aside → status ≢ 2 → status ≢ 4 → status ≢ 5
          → ((status ≡ 0) → Appends output output' program.help.now → Keeps faults faults' → Does help_asked)
          → ((status ≡ 0) → Appends output output' program.version.now → Keeps faults faults' → Does version_asked)
          → AsAsked AreOptions words Does
      aside-done asides.Help asks tells two four five help version =
          elim tells.statuses [ inl zero ↦ (help_asked, (own, are, asks), help zero (tells.done zero) (tells.quiet zero)) | inr is_five ↦ absurd (five is_five) ]
      aside-done asides.Version asks tells two four five help version =
          elim tells.statuses [ inl zero ↦ (version_asked, (own, are, asks), version zero (tells.done zero) (tells.quiet zero)) | inr is_five ↦ absurd (five is_five) ]
      aside-done (asides.Failed failure) why tells two four five help version =
          elim (failed-statuses failure why tells.0) [ inl usage ↦ absurd (two usage.0) | inr is_four ↦ absurd (four is_four) ]

      pub aside-cut : (aside : Aside) → IsAside own words aside → Tells aside → status ≡ 5
          → (AppendsBeginning output output' program.help.now → Does help_asked) → (AppendsBeginning output output' program.version.now → Does version_asked)
          → AsAsked AreOptions words Does
      aside-cut asides.Help asks tells five help version = (help_asked, (own, are, asks), help (tells.cut five))
      aside-cut asides.Version asks tells five help version = (version_asked, (own, are, asks), version (tells.cut five))
      aside-cut (asides.Failed failure) why tells five help version =
          elim (failed-statuses failure why tells.0) [ inl usage ↦ let two = usage.0 in absurd (omega (arith, two, five)) | inr four ↦ absurd (omega (arith, four, five)) ]

-- ---- work that fails

module _ (Misused Kept Cut : Type 0) (failure : Failure) (status : ℕ) (why : ExplainsBy Misused Kept Cut failure) (is : status ≡ status_of failure) where
  abbrev Fails : Type 0
  Fails = (status ≡ 2) × Misused ⊎ (status ≡ 4) × Kept ⊎ (status ≡ 5) × Cut

  which : Fails
  which = cases failure why is
    where
      cases : (f : Failure) → ExplainsBy Misused Kept Cut f → status ≡ status_of f → Fails
      cases (failures.Refused _) said same = absurd said
      cases failures.Usage said same = inl (same, said)
      cases failures.Input said same = absurd said
      cases failures.Memory said same = inr (inl (same, said))
      cases failures.Output said same = inr (inr (same, said))

  pub fails-statuses : status ≤ 5
  fails-statuses = cases which
    where
      cases : Fails → status ≤ 5
      cases (inl (two, _)) = omega (arith, two)
      cases (inr (inl (four, _))) = omega (arith, four)
      cases (inr (inr (five, _))) = omega (arith, five)

  pub fails-past-one : status ≤ 1 → ⊥
  fails-past-one low = cases which
    where
      cases : Fails → ⊥
      cases (inl (two, _)) = omega (arith, two, low)
      cases (inr (inl (four, _))) = omega (arith, four, low)
      cases (inr (inr (five, _))) = omega (arith, five, low)

  pub fails-not-three : status ≡ 3 → ⊥
  fails-not-three three = cases which
    where
      cases : Fails → ⊥
      cases (inl (two, _)) = omega (arith, two, three)
      cases (inr (inl (four, _))) = omega (arith, four, three)
      cases (inr (inr (five, _))) = omega (arith, five, three)

  pub fails-misused : status ≡ 2 → Misused
  fails-misused two = cases which
    where
      cases : Fails → Misused
      cases (inl (_, misused)) = misused
      cases (inr (inl (four, _))) = absurd (omega (arith, four, two))
      cases (inr (inr (five, _))) = absurd (omega (arith, five, two))

  pub fails-kept : status ≡ 4 → Kept
  fails-kept four = cases which
    where
      cases : Fails → Kept
      cases (inl (two, _)) = absurd (omega (arith, two, four))
      cases (inr (inl (_, kept))) = kept
      cases (inr (inr (five, _))) = absurd (omega (arith, five, four))

  pub fails-cut : status ≡ 5 → Cut
  fails-cut five = cases which
    where
      cases : Fails → Cut
      cases (inl (two, _)) = absurd (omega (arith, two, five))
      cases (inr (inl (four, _))) = absurd (omega (arith, four, five))
      cases (inr (inr (_, cut))) = cut

  -- the work is done with no other status
  pub fails-none-else : status ≢ 2 → status ≢ 4 → status ≢ 5 → ⊥
  fails-none-else not_two not_four not_five = cases which
    where
      cases : Fails → ⊥
      cases (inl (two, _)) = not_two two
      cases (inr (inl (four, _))) = not_four four
      cases (inr (inr (five, _))) = not_five five

-- where the output is left alone with either status
pub fails-unwritten : (Kept Cut : Type 0) (failure : Failure) (status : ℕ) → ExplainsBy Kept Kept Cut failure → status ≡ status_of failure → (status ≡ 2) ⊎ (status ≡ 4) → Kept
fails-unwritten Kept Cut failure status why is (inl two) = fails-misused Kept Kept Cut failure status why is two
fails-unwritten Kept Cut failure status why is (inr four) = fails-kept Kept Kept Cut failure status why is four

-- What standard error gets of a failure, where nothing was told before. `text_of` looks at no place of the program's texts.
pub failure-told : (IsProgram : Program → Type 0) (program : Program) → IsProgram program → (failure : Failure) (status : ℕ) (faults kept faults' : Option (List ℕ)) → Keeps faults kept → status ≡ status_of failure
    → AppendsBeginning kept faults' (text_of program failure) → WritesBeginning faults faults' (IsFailureText IsProgram status)
failure-told IsProgram program is_program failure status faults kept faults' keeps is told =
    let said = first-told-text program status failure faults kept faults' keeps told is in
    (said.0, (program, is_program, said.1), said.2)
