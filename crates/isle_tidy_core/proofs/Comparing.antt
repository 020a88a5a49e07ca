-- Comparing a text with its tidy text, part by part.
use Rattle.std.proofs.Common.{◌≡◌, ◌≢◌, ℕ, ◌+◌, ◌-◌, ◌<◌, ◌≤◌, List, [], ◌++◌, drop, take, length, sym, ap, ◌∙◌, subst, arith, append_assoc, append-nil, length-append}
use Rattle.std.proofs.lemmas.List.{append_cancel_left, length-take-le, take_at, take-append-drop, take_all}
use lib.Seq.{take-add}
use Rattle.isle_tidy_core.specs.Streams.{HasWritten, PutsMore, PutsLast}
use Rattle.isle_tidy_core.specs.Tidied.{IsTidyTextOf, IsUntidy}
use Rattle.isle_tidy_core.specs.declared.tidying.Tidying.{Tidying}
use Rattle.isle_tidy_core.proofs.Streams.{begins_tidy, moved_on}

pub part_follows : (text part : List ℕ) (at : ℕ) → take (at + length part - at) (drop at text) ≡ part → take (at + length part) text ≡ take at text ++ part
part_follows text part at e =
    let count : at + length part - at ≡ length part = omega arith in
    take-add at (length part) text ∙ ap (λ xs. take at text ++ xs) (sym (ap (λ n. take n (drop at text)) count) ∙ e)

behind : (text part rest : List ℕ) (at : ℕ) → text ≡ take at text ++ (part ++ rest) → drop at text ≡ part ++ rest
behind text part rest at e = append_cancel_left (take at text) (drop at text) (part ++ rest) (take-append-drop at text ∙ e)

pub part_there : (text part rest : List ℕ) (at : ℕ) → at ≤ length text → text ≡ take at text ++ (part ++ rest) → take (at + length part - at) (drop at text) ≡ part
part_there text part rest at within e =
    let count : length part ≡ at + length part - at = omega arith in
    ap (take (at + length part - at)) (behind text part rest at e) ∙ take_at part rest (at + length part - at) count

pub part_room : (text part rest : List ℕ) (at : ℕ) → at ≤ length text → text ≡ take at text ++ (part ++ rest) → at + length part ≤ length text
part_room text part rest at within e =
    omega (arith, ap length e, length-append (take at text) (part ++ rest), length-append part rest, length-take-le at text within)

-- So much of the text is what is written of its tidy text.
pub record IsCompared (text : List ℕ) (at : ℕ) (t : Tidying) : Type 0 where
  pub has : HasWritten text (take at text) t
  pub within : at ≤ length text

pub begun_comparing : (text : List ℕ) (t : Tidying) → HasWritten text [] t → IsCompared text 0 t
begun_comparing text t has = record { has = has; within = omega arith }

-- the part that was put goes on in the text
pub compared_more : (text : List ℕ) (at next : ℕ) (old new : Tidying) (before part : List ℕ) → IsCompared text at old → before ≡ [] → PutsMore old new before part → next ≤ length text → take next text ≡ take at text ++ part → IsCompared text next new
compared_more text at next old new before part is none more within e =
    let m = more text (take at text) is.has in
    let put : part ≡ m.0 = m.1 ∙ ap (λ xs. xs ++ m.0) none in
    record {
      has = subst (λ xs. HasWritten text xs new) (ap (λ xs. take at text ++ xs) (sym put) ∙ sym e) m.2;
      within = within;
    }

untidy_by : (text answer : List ℕ) (out part rest : List ℕ) → IsTidyTextOf text answer → answer ≡ (out ++ part) ++ rest → ((xs : List ℕ) → text ≢ out ++ (part ++ xs)) → IsUntidy text
untidy_by text answer out part rest t e never =
    (answer, t, λ same. never rest (sym same ∙ e ∙ append_assoc out part rest))

-- or it doesn't, and the text is another one
pub compared_other : (text : List ℕ) (at : ℕ) (old new : Tidying) (before part : List ℕ) → IsCompared text at old → before ≡ [] → PutsMore old new before part → ((xs : List ℕ) → text ≢ take at text ++ (part ++ xs)) → IsUntidy text
compared_other text at old new before part is none more never =
    let m = more text (take at text) is.has in
    let put : part ≡ m.0 = m.1 ∙ ap (λ xs. xs ++ m.0) none in
    let whole = begins_tidy new text (take at text ++ m.0) m.2 in
    untidy_by text ((take at text ++ m.0) ++ whole.0) (take at text) part whole.0 whole.1 (ap (λ xs. (take at text ++ xs) ++ whole.0) (sym put)) never

-- The last part.

pub compared_all : (text : List ℕ) (at next : ℕ) (old : Tidying) (before part : List ℕ) → IsCompared text at old → before ≡ [] → PutsLast old before part → take next text ≡ take at text ++ part → next ≡ length text → IsTidyTextOf text text
compared_all text at next old before part is none last e whole =
    let m = last text (take at text) is.has in
    let put : part ≡ m.0 = m.1 ∙ ap (λ xs. xs ++ m.0) none in
    let all : take at text ++ m.0 ≡ text = ap (λ xs. take at text ++ xs) (sym put) ∙ sym e ∙ take_all next text (omega arith) in
    subst (IsTidyTextOf text) all m.2

pub compared_short : (text : List ℕ) (at next : ℕ) (old : Tidying) (before part : List ℕ) → IsCompared text at old → before ≡ [] → PutsLast old before part → next ≤ length text → take next text ≡ take at text ++ part → next ≢ length text → IsUntidy text
compared_short text at next old before part is none last within e less =
    let m = last text (take at text) is.has in
    let put : part ≡ m.0 = m.1 ∙ ap (λ xs. xs ++ m.0) none in
    let all : take at text ++ m.0 ≡ take next text = ap (λ xs. take at text ++ xs) (sym put) ∙ sym e in
    (take at text ++ m.0, m.2, λ same. less (sym (length-take-le next text within) ∙ ap length (sym all ∙ same)))

pub compared_past : (text : List ℕ) (at : ℕ) (old : Tidying) (before part : List ℕ) → IsCompared text at old → before ≡ [] → PutsLast old before part → ((xs : List ℕ) → text ≢ take at text ++ (part ++ xs)) → IsUntidy text
compared_past text at old before part is none last never =
    let m = last text (take at text) is.has in
    let put : part ≡ m.0 = m.1 ∙ ap (λ xs. xs ++ m.0) none in
    (take at text ++ m.0, m.2, λ same. never [] (sym same ∙ ap (λ xs. take at text ++ xs) (sym put) ∙ ap (λ xs. take at text ++ xs) (sym (append-nil part))))

pub compared_smaller : (text : List ℕ) (at : ℕ) (old new : Tidying) (before part : List ℕ) → IsCompared text at old → PutsMore old new before part → old.at < new.at → length text - new.at < length text - old.at
compared_smaller text at old new before part is more moves = moved_on old new text (take at text) before part is.has more moves
