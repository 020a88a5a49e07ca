-- Tidying a text part by part: what is written so far begins its tidy text.
use Rattle.std.proofs.Common.{◌≡◌, ℕ, List, [], ◌++◌, length, ◌≤◌, ◌<◌, ◌-◌, Option, Some, None, string_bytes, refl, sym, ap, subst, ◌∙◌, arith}
use Rattle.std.specs.declared.alloc.Global.{Global}
use Rattle.std.specs.declared.string.String.{String}
use Rattle.isle_tidy_core.specs.Streams.{IsBegun, IsMade, IsPlain, HasLaidOut, HasWritten, LaysLast, LaysMore, PutsMore, PutsLast}
use Rattle.isle_tidy_core.specs.Tidied.{IsTidyTextOf}
use Rattle.isle_tidy_core.specs.declared.tidying.Tidying.{Tidying}
use Rattle.isle_tidy_core.proofs.Appending.{last_appended, more_appended, nothing_appended}
use Rattle.isle_tidy_core.proofs.Laying.{begins_laid}
use Rattle.isle_tidy_core.proofs.TidyTexts.{plain_tidy}

-- A tidying of a plain text, and one whose tidy text is made.

pub begun_plain : (t : Tidying) (text out : List ℕ) → IsPlain text → HasLaidOut text out t → HasWritten text out t
begun_plain t text out plain laid = record {
  same_text = laid.same_text;
  within = laid.within;
  begun = subst (IsBegun text out t) (sym laid.not_made) (plain, laid);
}

pub plain_laid : (t : Tidying) (text out : List ℕ) → t.made ≡ None → HasWritten text out t → IsPlain text × HasLaidOut text out t
plain_laid t text out none has = subst (IsBegun text out t) none has.begun

none_since : {A : Type 0} (made : Option A) → ((x : A) → made ≡ Some x → ⊥) → made ≡ None
none_since None h = refl
none_since (Some x) h = absurd (h x refl)

pub not_made : (t : Tidying) → ((made : String Global) → t.made ≡ Some made → ⊥) → t.made ≡ None
not_made t h = none_since t.made h

-- with the tidy text, or without one if the text is plain
pub begun_with : (t new : Tidying) (text : List ℕ) (made : Option (String Global)) → HasLaidOut text [] t → IsMade text made → new ≡ record t { made = made } → HasWritten text [] new
begun_with t new text None laid is e =
    let same : record t { made = None } ≡ t = ap (λ (m : Option (String Global)). let u : Tidying = record t { made = m } in u) (sym laid.not_made) in
    subst (HasWritten text []) (sym (e ∙ same)) (begun_plain t text [] is laid)
begun_with t new text (Some made) laid is e =
    let has : HasWritten text [] (record t { made = Some made }) = record { same_text = laid.same_text; within = laid.within; begun = is } in
    subst (HasWritten text []) (sym e) has

pub puts_laid : (t new : Tidying) (before after : List ℕ) → t.made ≡ None → LaysMore t new before after → PutsMore t new before after
puts_laid t new before after none lays = λ text out has.
    let h = plain_laid t text out none has in
    let m = lays text out h.1 in
    (m.0, m.1, begun_plain new text (out ++ m.0) h.0 m.2)

pub puts_laid_last : (t : Tidying) (before after : List ℕ) → t.made ≡ None → LaysLast t before after → PutsLast t before after
puts_laid_last t before after none lays = λ text out has.
    let h = plain_laid t text out none has in
    let m = lays text out h.1 in
    (m.0, m.1, plain_tidy text (out ++ m.0) h.0 m.2)

pub puts_made : (t : Tidying) (made : String Global) (before after : List ℕ) → t.made ≡ Some made → after ≡ before ++ string_bytes made → PutsLast t before after
puts_made t made before after is put = λ text out has. (string_bytes made, put, subst (IsBegun text out t) is has.begun)

pub put_on : (t new : Tidying) (text before after : List ℕ) → HasWritten text before t → PutsMore t new before after → HasWritten text after new
put_on t new text before after has more = let m = more text before has in subst (λ xs. HasWritten text xs new) (sym m.1) m.2

-- The rest is no more than is left.

pub moved_on : (t new : Tidying) (text out before after : List ℕ) → HasWritten text out t → PutsMore t new before after → t.at < new.at → length text - new.at < length text - t.at
moved_on t new text out before after has more moves =
    let there = (more text out has).2 in
    let within : new.at ≤ length text = there.within in
    omega arith

pub all_put : (t : Tidying) (text before after : List ℕ) → HasWritten text before t → PutsLast t before after → IsTidyTextOf text after
all_put t text before after has last = let whole = last text before has in subst (λ xs. IsTidyTextOf text xs) (sym whole.1) whole.2

-- what is written so far begins the tidy text

begins_by : (t : Tidying) (text out : List ℕ) (made : Option (String Global)) → IsBegun text out t made → (rest : List ℕ) × IsTidyTextOf text (out ++ rest)
begins_by t text out None has = let whole = begins_laid t text out has.1 in (whole.0, plain_tidy text (out ++ whole.0) has.0 whole.1)
begins_by t text out (Some made) has = (string_bytes made, has)

pub begins_tidy : (t : Tidying) (text out : List ℕ) → HasWritten text out t → (rest : List ℕ) × IsTidyTextOf text (out ++ rest)
begins_tidy t text out has = begins_by t text out t.made has.begun

pub goes_with : (t new : Tidying) (before after : List ℕ) → (text : List ℕ) × (out : List ℕ) × HasWritten text out t → PutsMore t new before after → t.at < new.at → length new.text.now - new.at < length t.text.now - t.at
goes_with t new before after has more moves =
    let there = (more has.0 has.1 has.2).2 in
    let within : new.at ≤ length has.0 = there.within in
    let same : length t.text.now ≡ length has.0 = ap length has.2.same_text in
    let same_too : length new.text.now ≡ length has.0 = ap length there.same_text in
    omega (arith, within, same, same_too, moves)

pub nothing_put : (t : Tidying) (before : List ℕ) → PutsMore t t before before
nothing_put t before = nothing_appended HasWritten t before

pub more_put : (t mid new : Tidying) (before now after : List ℕ) → PutsMore t mid before now → PutsMore mid new now after → PutsMore t new before after
more_put = more_appended HasWritten

pub last_put : (t mid : Tidying) (before now after : List ℕ) → PutsMore t mid before now → PutsLast mid now after → PutsLast t before after
last_put = last_appended HasWritten IsTidyTextOf
