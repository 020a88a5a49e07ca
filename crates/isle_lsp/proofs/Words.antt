-- What is asked for and printed, and what standard error gets.
use Rattle.std.proofs.Common.{◌≡◌, ◌≢◌, ◌⊎◌, inl, inr, ◌≤◌, ℕ, List, [], ◌∷◌, ◌++◌, Option, None, Some, true, arith, refl, sym, ◌∙◌, ap, subst, option_map, option_and_then, option_to_list}
use Rattle.std.specs.Io.KnownBytes.{Appends, Keeps}
use Rattle.std.specs.Prelude.{codes}
use Rattle.isle_cli.specs.Arguments.{Asked, Awaited, Given, anything_awaited, asked, asked_by, given, help_asked, names_awaited, parts_at_equals, setting_at, taken, value_awaited, version_asked}
use Rattle.isle_cli.specs.Failure.{IsDiagnostic, status_of, text_of}
use Rattle.isle_cli.specs.Streams.{AppendsBeginning, WritesBeginning}
use Rattle.isle_cli.specs.declared.arguments.Options.{Options}
use Rattle.isle_cli.specs.declared.failure.Failure.{Failure}
use Rattle.isle_cli.specs.declared.failure.Failure.TheVariants.{Refused, Usage, Input, Memory, Output}
use Rattle.isle_cli.specs.declared.program.Program.{Program}
use Rattle.isle_cli.proofs.FailureLemmas.{told-text}
use Rattle.isle_lsp_frames.specs.declared.frames.FrameFault.{FrameFault}
use Rattle.isle_lsp_frames.specs.declared.frames.FrameFault.TheVariants as frame_faults
use Rattle.isle_lsp.specs.CommandLine.{AreNone, AskFor, HasText, IsFailureText, IsProgram, Prints, is_no_help, usage}
use Rattle.isle_lsp.specs.Conversations.{FromFault, IsRefusal}
use Rattle.isle_lsp.specs.declared.program.TheConstants.{HELP, VERSION}

-- nothing is changed
pub kept-same : (a : Option (List ℕ)) → Keeps a a
kept-same None = tt
kept-same (Some xs) = refl

-- this program, wherever its texts lie; a failure shows neither its help nor its version
abbrev pub this : Program
this =
    record {
      name = record { ref_ptr = (0, 0); now = codes "isle-lsp" };
      usage = record { ref_ptr = (0, 0); now = codes "usage: isle-lsp [--stdio | --help | --version]\n" };
      help = record { ref_ptr = (0, 0); now = codes "" };
      version = record { ref_ptr = (0, 0); now = codes "" };
    }

-- ---- the words

same_joined : (a b : Options) (parts : Option (List ℕ × List ℕ)) → AreNone a → AreNone b → option_and_then (setting_at a) parts ≡ option_and_then (setting_at b) parts
same_joined a b None x y = refl
same_joined a b (Some parts) x y = rw (x.settings, y.settings) refl

same_taken : (a b : Options) (awaited : Awaited) (word : List ℕ) → AreNone a → AreNone b → taken a awaited word ≡ taken b awaited word
same_taken a b anything_awaited word x y = rw (same_joined a b (parts_at_equals word) x y, x.flags, x.settings, y.flags, y.settings) refl
same_taken a b (value_awaited option) word x y = refl
same_taken a b names_awaited word x y = refl

on_from : (a b : Options) (words : List (List ℕ)) (t : Option (Option Given × Awaited)) → ((awaited : Awaited) → given a awaited words ≡ given b awaited words) →
    option_and_then (λ t. option_map (λ more. option_to_list t.0 ++ more) (given a t.1 words)) t ≡ option_and_then (λ t. option_map (λ more. option_to_list t.0 ++ more) (given b t.1 words)) t
on_from a b words None same = refl
on_from a b words (Some t) same = ap (option_map (λ more. option_to_list t.0 ++ more)) (same t.1)

same_given : (a b : Options) (words : List (List ℕ)) → AreNone a → AreNone b → (awaited : Awaited) → given a awaited words ≡ given b awaited words
unfolding given
same_given a b [] x y awaited = refl
same_given a b (word ∷ words) x y awaited =
    ap (option_and_then (λ t. option_map (λ more. option_to_list t.0 ++ more) (given a t.1 words))) (same_taken a b awaited word x y)
    ∙ on_from a b words (taken b awaited word) (same_given a b words x y)

-- all that have no options of their own are asked for the same
pub same_asked : (a b : Options) (words : List (List ℕ)) → AreNone a → AreNone b → asked a words ≡ asked b words
same_asked a b words x y = ap (option_map asked_by) (same_given a b words x y anything_awaited)

-- wrong words ask for nothing that is printed
pub asks_no_help : (options : Options) (words : List (List ℕ)) (what : Option Asked) → AreNone options → asked options words ≡ what → AskFor words (λ o. is_no_help o ≡ true) → is_no_help what ≡ true
asks_no_help options words what none asks wrong = ap is_no_help (sym asks ∙ same_asked options wrong.0 words none wrong.1) ∙ wrong.2

-- ---- the output

pub no_failure : (status : ℕ) → (status ≡ 0) ⊎ (status ≡ 5) → (status ≡ 2) ⊎ (status ≡ 4) → ⊥
no_failure status (inl a) (inl b) = omega (arith, a, b)
no_failure status (inl a) (inr b) = omega (arith, a, b)
no_failure status (inr a) (inl b) = omega (arith, a, b)
no_failure status (inr a) (inr b) = omega (arith, a, b)

told_statuses : (status : ℕ) → (status ≡ 0) ⊎ (status ≡ 5) → (status ≢ 1) × (status ≢ 3)
told_statuses status (inl a) = (λ e. omega (arith, a, e), λ e. omega (arith, a, e))
told_statuses status (inr a) = (λ e. omega (arith, a, e), λ e. omega (arith, a, e))

module _ (options : Options) (words : List (List ℕ)) (status : ℕ) (output output' : Option (List ℕ)) (none : AreNone options) (ends : (status ≡ 0) ⊎ (status ≡ 5)) where
  pub prints_help : asked options words ≡ Some help_asked → (status ≡ 0 → Appends output output' HELP.now) → (status ≡ 5 → AppendsBeginning output output' HELP.now) → Prints words status output output'
  prints_help asks done cut = record {
    done = λ z. (options, none, subst (HasText (Appends output output')) (sym asks) (done z));
    cut = λ z. (options, none, subst (HasText (AppendsBeginning output output')) (sym asks) (cut z));
    unwritten = λ failed. absurd (no_failure status ends failed);
    statuses = told_statuses status ends;
  }

  pub prints_version : asked options words ≡ Some version_asked → (status ≡ 0 → Appends output output' VERSION.now) → (status ≡ 5 → AppendsBeginning output output' VERSION.now) → Prints words status output output'
  prints_version asks done cut = record {
    done = λ z. (options, none, subst (HasText (Appends output output')) (sym asks) (done z));
    cut = λ z. (options, none, subst (HasText (AppendsBeginning output output')) (sym asks) (cut z));
    unwritten = λ failed. absurd (no_failure status ends failed);
    statuses = told_statuses status ends;
  }

pub prints_nothing : (words : List (List ℕ)) (status : ℕ) (output : Option (List ℕ)) → (status ≡ 2) ⊎ (status ≡ 4) → Prints words status output output
prints_nothing words status output failed = record {
  done = λ z. absurd (no_failure status (inl z) failed);
  cut = λ z. absurd (no_failure status (inr z) failed);
  unwritten = λ again. kept-same output;
  statuses = elim failed [
    | inl e ↦ (λ z. omega (arith, e, z), λ z. omega (arith, e, z))
    | inr e ↦ (λ z. omega (arith, e, z), λ z. omega (arith, e, z))
  ];
}

-- ---- an error of the words, which are none of the usage, or of memory

-- the words ask for nothing
abbrev IsOfWords : Options → List (List ℕ) → Failure → Type 0
IsOfWords options words failure = (failure ≡ Memory) ⊎ ((failure ≡ Usage) × (asked options words ≡ None))

pub error_usage : (options : Options) (words : List (List ℕ)) (failure : Failure) (status : ℕ) → AreNone options → IsOfWords options words failure → status ≡ status_of failure → status ≡ 2 → AskFor words (λ what. is_no_help what ≡ true)
error_usage options words failure status none (inl is) told two = let four : status ≡ 4 = told ∙ ap status_of is in absurd (omega (arith, four, two))
error_usage options words failure status none (inr why) told two = (options, none, ap is_no_help why.1)

pub error_wrong : (options : Options) (words : List (List ℕ)) (failure : Failure) (status : ℕ) (faults faults' : Option (List ℕ)) → IsOfWords options words failure → status ≡ status_of failure → AppendsBeginning faults faults' (text_of this failure) →
    (status ≡ 4) ⊎ ((status ≡ 2) × AppendsBeginning faults faults' usage)
error_wrong options words failure status faults faults' (inl is) told text = inl (told ∙ ap status_of is)
error_wrong options words failure status faults faults' (inr why) told text = inr (told ∙ ap status_of why.0, subst (λ f. AppendsBeginning faults faults' (text_of this f)) why.0 text)

-- ---- standard error

-- the text of a failure of this program
pub told_why : (program : Program) (status : ℕ) (faults faults' : Option (List ℕ)) → IsProgram program → WritesBeginning faults faults' (IsDiagnostic program status) → WritesBeginning faults faults' (IsFailureText status)
told_why program status faults faults' this told = (told.0, (program, this, told.1), told.2)

-- `text_of` looks at no place of the program's texts
pub failure_told : (failure : Failure) (status : ℕ) (faults faults' : Option (List ℕ)) → status ≡ status_of failure → AppendsBeginning faults faults' (text_of this failure) → WritesBeginning faults faults' (IsFailureText status)
failure_told failure status faults faults' is told = told_why this status faults faults' (refl, refl) (told-text this status failure faults faults' told is)

-- past 1 the help or the version was cut
pub cut_why : (program : Program) (status : ℕ) (faults faults' : Option (List ℕ)) → IsProgram program → (status ≡ 0) ⊎ (status ≡ 5) → (status ≡ 5 → WritesBeginning faults faults' (IsDiagnostic program status)) → 2 ≤ status → WritesBeginning faults faults' (IsFailureText status)
cut_why program status faults faults' this (inl e) told past = absurd (omega (arith, e, past))
cut_why program status faults faults' this (inr e) told past = told_why program status faults faults' this (told e)

-- ---- the status

pub some_status : (failure : Failure) → status_of failure ≢ 0
some_status (Refused text) e = cc
some_status Usage e = cc
some_status Input e = cc
some_status Memory e = cc
some_status Output e = cc

-- 2 is the status of usage alone
pub not_two : (failure : Failure) → failure ≢ Usage → status_of failure ≢ 2
not_two (Refused text) n e = omega (arith, e)
not_two Usage n e = n refl
not_two Input n e = omega (arith, e)
not_two Memory n e = omega (arith, e)
not_two Output n e = omega (arith, e)

pub refused_not_usage : (failure : Failure) → IsRefusal failure → failure ≢ Usage
refused_not_usage failure r e = subst IsRefusal e r

-- a message that cannot be read is no wrong usage
pub fault_not_usage : (fault : FrameFault) (failure : Failure) → FromFault fault failure → failure ≢ Usage
fault_not_usage frame_faults.Malformed failure r = refused_not_usage failure r
fault_not_usage frame_faults.Cut failure r = refused_not_usage failure r
fault_not_usage frame_faults.TooLong failure r = refused_not_usage failure r
fault_not_usage frame_faults.Unreadable failure is = λ e. let never : Input ≡ Usage = sym is ∙ e in cc
fault_not_usage frame_faults.Memory failure is = λ e. let never : Memory ≡ Usage = sym is ∙ e in cc

pub answer_not_usage : (failure : Failure) → (failure ≡ Memory) ⊎ (failure ≡ Output) → failure ≢ Usage
answer_not_usage failure (inl is) e = let never : Memory ≡ Usage = sym is ∙ e in cc
answer_not_usage failure (inr is) e = let never : Output ≡ Usage = sym is ∙ e in cc
