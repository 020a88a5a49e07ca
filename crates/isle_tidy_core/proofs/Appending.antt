-- Appending more of an output, several times.
use Rattle.std.proofs.Common.{◌≡◌, ℕ, List, [], ◌++◌, sym, ap, subst, ◌∙◌, append_assoc, append-nil}
use Rattle.isle_tidy_core.specs.declared.tidying.Tidying.{Tidying}

-- what holds of a text, and of what is written of it
abbrev pub Has : Type 1
Has = List ℕ → List ℕ → Tidying → Type 0

-- more is appended to these bytes
abbrev pub More : Has → (old new : Tidying) (before after : List ℕ) → Type 0
More has old new before after = (text out : List ℕ) → has text out old → (put : List ℕ) × (after ≡ before ++ put) × has text (out ++ put) new

-- the rest is, and then this holds of the text and of all that is written
abbrev pub Last : Has → (List ℕ → List ℕ → Type 0) → (old : Tidying) (before after : List ℕ) → Type 0
Last has all old before after = (text out : List ℕ) → has text out old → (put : List ℕ) × (after ≡ before ++ put) × all text (out ++ put)

pub nothing_appended : (has : Has) (t : Tidying) (before : List ℕ) → More has t t before before
nothing_appended has t before = λ text out h. ([], sym (append-nil before), subst (λ xs. has text xs t) (sym (append-nil out)) h)

pub more_appended : (has : Has) (t mid new : Tidying) (before now after : List ℕ) → More has t mid before now → More has mid new now after → More has t new before after
more_appended has t mid new before now after first second = λ text out h.
    let a = first text out h in
    let b = second text (out ++ a.0) a.2 in
    (a.0 ++ b.0, b.1 ∙ ap (λ xs. xs ++ b.0) a.1 ∙ append_assoc before a.0 b.0, subst (λ xs. has text xs new) (append_assoc out a.0 b.0) b.2)

pub last_appended : (has : Has) (all : List ℕ → List ℕ → Type 0) (t mid : Tidying) (before now after : List ℕ) → More has t mid before now → Last has all mid now after → Last has all t before after
last_appended has all t mid before now after first last = λ text out h.
    let a = first text out h in
    let b = last text (out ++ a.0) a.2 in
    (a.0 ++ b.0, b.1 ∙ ap (λ xs. xs ++ b.0) a.1 ∙ append_assoc before a.0 b.0, subst (λ xs. all text xs) (append_assoc out a.0 b.0) b.2)
