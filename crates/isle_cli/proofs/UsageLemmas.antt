-- What is told of words that are none of the usage.
use Rattle.std.proofs.Common.{◌≡◌, ◌⊎◌, inl, inr, ℕ, ◌+◌, ◌<◌, ◌≤◌, List, [], ◌∷◌, Option, None, Some, map, drop, length, get_or, string_bytes, refl, sym, ap, subst, ◌∙◌}
use Rattle.std.proofs.lemmas.List.{drop_all}
use Rattle.std.specs.Borrow.{Bor}
use Rattle.std.specs.Option.{option_map}
use Rattle.std.specs.declared.alloc.Global.{Global}
use Rattle.std.specs.declared.string.String.{String}
use Rattle.isle_cli.specs.Arguments.{Asked, Awaited, Given, asked, taken}
use Rattle.isle_cli.specs.Failure.{IsDiagnostic, status_of}
use Rattle.isle_cli.specs.Streams.{AppendsBeginning, WritesBeginning}
use Rattle.isle_cli.specs.Usage.{IsDiagnosticOf, unknown_word, unless_taken, usage_of, words_text}
use Rattle.isle_cli.specs.declared.arguments.Options.{Options}
use Rattle.isle_cli.specs.declared.failure.Failure.{Failure}
use Rattle.isle_cli.specs.declared.failure.Failure.TheVariants as failures
use Rattle.isle_cli.specs.declared.program.Program.{Program}
use Rattle.isle_cli.proofs.ArgumentLemmas.{from_here}

-- options of these names, wherever they lie
abbrev borrowed : List ℕ → Bor (List ℕ)
borrowed text = record { ref_ptr = (0, 0); now = text }

abbrev pub options_of : (flags settings : List (List ℕ)) → Options
options_of flags settings =
    record {
      flags = record { ref_ptr = (0, 0); now = map borrowed flags };
      settings = record { ref_ptr = (0, 0); now = map borrowed settings };
    }

-- words that ask for something are told the usage alone
pub understood : (program : Program) (own all : Options) (words : List (List ℕ)) (request : Asked) (status : ℕ) (text : List ℕ) → asked own words ≡ Some request
    → IsDiagnostic program status text → IsDiagnosticOf program own all words status text
understood program own all words request status text is said =
    record { usage = λ e. said.usage e ∙ sym (ap (usage_of program all words) is); input = said.input; memory = said.memory; output = said.output }

pub understood-told : (program : Program) (own all : Options) (words : List (List ℕ)) (request : Asked) (status : ℕ) (faults faults' : Option (List ℕ)) → asked own words ≡ Some request
    → WritesBeginning faults faults' (IsDiagnostic program status) → WritesBeginning faults faults' (IsDiagnosticOf program own all words status)
understood-told program own all words request status faults faults' is told =
    (told.0, understood program own all words request status told.0 is told.1, told.2)

-- the text of a failure of the words goes with its status
diagnostic_of_words : (program : Program) (own all : Options) (words : List (List ℕ)) (failure : Failure) → (failure ≡ failures.Memory) ⊎ (failure ≡ failures.Usage) × (asked own words ≡ None)
    → IsDiagnosticOf program own all words (status_of failure) (words_text program all words failure)
diagnostic_of_words program own all words failure (inl memory) =
    subst (λ f. IsDiagnosticOf program own all words (status_of f) (words_text program all words f)) (sym memory)
    (record { usage = λ e. absurd (cc); input = λ e. absurd (cc); memory = λ e. refl; output = λ e. absurd (cc) })
diagnostic_of_words program own all words failure (inr usage) =
    subst (λ f. IsDiagnosticOf program own all words (status_of f) (words_text program all words f)) (sym usage.0)
    (record { usage = λ e. sym (ap (usage_of program all words) usage.1); input = λ e. absurd (cc); memory = λ e. absurd (cc); output = λ e. absurd (cc) })

-- what a report of a failure of the words writes
pub words-told : (program : Program) (own all : Options) (words : List (List ℕ)) (status : ℕ) (failure : Failure) (faults faults' : Option (List ℕ)) → (failure ≡ failures.Memory) ⊎ (failure ≡ failures.Usage) × (asked own words ≡ None)
    → AppendsBeginning faults faults' (words_text program all words failure) → status ≡ status_of failure → WritesBeginning faults faults' (IsDiagnosticOf program own all words status)
words-told program own all words status failure faults faults' why told is =
    let text = words_text program all words failure in
    (text, subst (λ s. IsDiagnosticOf program own all words s text) (sym is) (diagnostic_of_words program own all words failure why), told)

-- one word more
taken_on : (word : List ℕ) (t : Option (Option Given × Awaited)) (next : Awaited) (more : Awaited → Option (List ℕ)) → Some next ≡ option_map (λ taken. taken.1) t → unless_taken word t more ≡ more next
taken_on word None next more is = absurd (cc)
taken_on word (Some t) next more is = let same : next ≡ t.1 = cc in ap more (sym same)

not_taken : (word : List ℕ) (t : Option (Option Given × Awaited)) (more : Awaited → Option (List ℕ)) → None ≡ option_map (λ taken. taken.1) t → unless_taken word t more ≡ Some word
not_taken word None more is = refl
not_taken word (Some t) more is = absurd (cc)

one_word : (options : Options) (a : Awaited) (word : List ℕ) (words : List (List ℕ)) → unknown_word options a (word ∷ words) ≡ unless_taken word (taken options a word) (λ next. unknown_word options next words)
unfolding unknown_word
one_word options a word words = refl

no_word : (options : Options) (a : Awaited) → unknown_word options a [] ≡ None
unfolding unknown_word
no_word options a = refl

-- the word at this place, and those behind it
here : (options : Options) (a : Awaited) (words : List (String Global)) (i : ℕ) (w : String Global) (word : List ℕ) → i < length words → w ≡ get_or words i w → word ≡ string_bytes w
    → unknown_word options a (map string_bytes (drop i words)) ≡ unless_taken word (taken options a word) (λ next. unknown_word options next (map string_bytes (drop (i + 1) words)))
here options a words i w word within is text =
    ap (λ ws. unknown_word options a (map string_bytes ws)) (sym (from_here words i w within is))
    ∙ one_word options a (string_bytes w) (map string_bytes (drop (i + 1) words))
    ∙ ap (λ bytes. unless_taken bytes (taken options a bytes) (λ next. unknown_word options next (map string_bytes (drop (i + 1) words)))) (sym text)

pub known_word : (options : Options) (a : Awaited) (words : List (String Global)) (i : ℕ) (w : String Global) (word : List ℕ) (next : Awaited) (total : Option (List ℕ))
    → i < length words → w ≡ get_or words i w → word ≡ string_bytes w → Some next ≡ option_map (λ taken. taken.1) (taken options a word)
    → unknown_word options a (map string_bytes (drop i words)) ≡ total → unknown_word options next (map string_bytes (drop (i + 1) words)) ≡ total
known_word options a words i w word next total within is text goes_on so_far =
    sym (taken_on word (taken options a word) next (λ n. unknown_word options n (map string_bytes (drop (i + 1) words))) goes_on)
    ∙ sym (here options a words i w word within is text) ∙ so_far

pub word_of_none : (options : Options) (a : Awaited) (words : List (String Global)) (i : ℕ) (w : String Global) (word : List ℕ) (total : Option (List ℕ))
    → i < length words → w ≡ get_or words i w → word ≡ string_bytes w → None ≡ option_map (λ taken. taken.1) (taken options a word)
    → unknown_word options a (map string_bytes (drop i words)) ≡ total → Some word ≡ total
word_of_none options a words i w word total within is text ends so_far =
    sym (not_taken word (taken options a word) (λ n. unknown_word options n (map string_bytes (drop (i + 1) words))) ends)
    ∙ sym (here options a words i w word within is text) ∙ so_far

pub none_unknown : (options : Options) (a : Awaited) (words : List (String Global)) (i : ℕ) (total : Option (List ℕ))
    → length words ≤ i → unknown_word options a (map string_bytes (drop i words)) ≡ total → None ≡ total
none_unknown options a words i total past so_far =
    sym (ap (λ ws. unknown_word options a (map string_bytes ws)) (drop_all i words past) ∙ no_word options a) ∙ so_far
