-- Texts, each once: those that are known, and then the others of which some may be known.
use Rattle.std.proofs.Common.{◌≡◌, ℕ, suc, ◌+◌, ◌<◌, length, drop, get_or, add-one, drop-cons, List, [], ◌∷◌, ◌++◌, Bool, true, false, not, ◌||◌, Option, None, Some, refl, sym, ap, ◌∙◌, append_assoc, append-nil, if◌then◌else◌}
use Rattle.std.specs.List.{filter, list_any}
use Rattle.std.specs.Str.{bytes_eq}
use Rattle.std.proofs.lemmas.List.Folds.{list_any-append}
use Rattle.isle_check_places.specs.declared.places.Constrained.{Constrained}
use Rattle.isle_check_places.specs.Places.{StepNode, Place, extracted}
use Rattle.isle_check_places.specs.Views.{all_constrained_of, place_of}
use Rattle.isle_check_places.specs.values.Next.{next_step}
use Rattle.isle_check_places.specs.values.Said.{distinct, extractor_by, extractors_from}
use Rattle.isle_check_places.proofs.values.SameLemmas.{same_text}

abbrev Texts : Type 0
Texts = List (List ℕ)

abbrev is_known : (known : Texts) → List ℕ → Bool
is_known known t = list_any (bytes_eq t) known

abbrev pub unknown : (known : Texts) → Texts → Texts
unknown known ts = filter (λ t. not (list_any (bytes_eq t) known)) ts

abbrev others : List ℕ → Texts → Texts
others g ts = filter (λ other. not (bytes_eq other g)) ts

pub none_known : (ts : Texts) → unknown [] ts ≡ ts
none_known [] = refl
none_known (t ∷ ts) = ap (λ more. t ∷ more) (none_known ts)

first_known : (known : Texts) (t : List ℕ) (ts : Texts) → is_known known t ≡ true → unknown known (t ∷ ts) ≡ unknown known ts
first_known known t ts e = ap (λ b. if not b then t ∷ unknown known ts else unknown known ts) e

first_new : (known : Texts) (t : List ℕ) (ts : Texts) → is_known known t ≡ false → unknown known (t ∷ ts) ≡ t ∷ unknown known ts
first_new known t ts e = ap (λ b. if not b then t ∷ unknown known ts else unknown known ts) e

left_out_by : (known : Texts) (g t : List ℕ) (ts : Texts) → is_known known g ≡ true → unknown known (others g ts) ≡ unknown known ts → (q : Bool) → bytes_eq t g ≡ q →
    unknown known (if not q then t ∷ others g ts else others g ts) ≡ unknown known (t ∷ ts)
left_out_by known g t ts e rest true same = rest ∙ sym (first_known known t ts (ap (is_known known) (same_text t g same) ∙ e))
left_out_by known g t ts e rest false same = ap (λ more. if not (is_known known t) then t ∷ more else more) rest

-- one that is known is left out anyway
left_out : (known : Texts) (g : List ℕ) (ts : Texts) → is_known known g ≡ true → unknown known (others g ts) ≡ unknown known ts
left_out known g [] e = refl
left_out known g (t ∷ ts) e = left_out_by known g t ts e (left_out known g ts e) (bytes_eq t g) refl

both_out : (p : Bool) (t : List ℕ) (ts : Texts) → ts ≡ (if not (p || true) then t ∷ ts else ts)
both_out true t ts = refl
both_out false t ts = refl

one_out : (p : Bool) (t : List ℕ) (ts : Texts) → (if not p then t ∷ ts else ts) ≡ (if not (p || false) then t ∷ ts else ts)
one_out true t ts = refl
one_out false t ts = refl

-- one more is known
known_or_other : (known : Texts) (g t : List ℕ) (ts : Texts) (q : Bool) →
    unknown known (if not q then t ∷ ts else ts) ≡ (if not (is_known known t || (q || false)) then t ∷ unknown known ts else unknown known ts)
known_or_other known g t ts true = both_out (is_known known t) t (unknown known ts)
known_or_other known g t ts false = one_out (is_known known t) t (unknown known ts)

one_more_known : (known : Texts) (g : List ℕ) (ts : Texts) → unknown (known ++ g ∷ []) ts ≡ unknown known (others g ts)
one_more_known known g [] = refl
one_more_known known g (t ∷ ts) =
    ap (λ more. if not (is_known (known ++ g ∷ []) t) then t ∷ more else more) (one_more_known known g ts)
    ∙ (ap (λ b. if not b then t ∷ unknown known (others g ts) else unknown known (others g ts)) (list_any-append (bytes_eq t) known (g ∷ []))
    ∙ sym (known_or_other known g t (others g ts) (bytes_eq t g)))

one_more_by : (known : Texts) (g : List ℕ) (ts : Texts) (b : Bool) → is_known known g ≡ b →
    (known ++ unknown known (g ∷ [])) ++ unknown (known ++ unknown known (g ∷ [])) ts ≡ known ++ unknown known (g ∷ others g ts)
one_more_by known g ts true e =
    ap (λ now. now ++ unknown now ts) (ap (λ more. known ++ more) (first_known known g [] e) ∙ append-nil known)
    ∙ ap (λ more. known ++ more) (sym (first_known known g (others g ts) e ∙ left_out known g ts e))
one_more_by known g ts false e =
    ap (λ now. now ++ unknown now ts) (ap (λ more. known ++ more) (first_new known g [] e))
    ∙ (append_assoc known (g ∷ []) (unknown (known ++ g ∷ []) ts)
    ∙ ap (λ more. known ++ more) (ap (λ more. g ∷ more) (one_more_known known g ts) ∙ sym (first_new known g (others g ts) e)))

no_more : (known now ts : Texts) → now ≡ known ++ [] → now ++ unknown now ts ≡ known ++ unknown known ts
no_more known now ts now_is = ap (λ n. n ++ unknown n ts) (now_is ∙ append-nil known)

-- what one more place adds
pub place_step : (known now ts : Texts) (o : Option StepNode) → now ≡ known ++ unknown known (extractor_by o) →
    now ++ unknown now (distinct ts) ≡ known ++ unknown known (distinct (extractor_by o ++ ts))
place_step known now ts (Some (extracted g)) now_is =
    ap (λ n. n ++ unknown n (distinct ts)) now_is ∙ one_more_by known g (distinct ts) (is_known known g) refl
place_step known now ts None now_is = no_more known now (distinct ts) now_is
place_step known now ts (Some _) now_is = no_more known now (distinct ts) now_is

pub place_after : (cs : List Constrained) (i : ℕ) (c : Constrained) (at : Place) (o : Option StepNode) (known now whole : Texts) →
    i < length cs → c ≡ get_or cs i c → o ≡ next_step at (place_of c.at.items) → now ≡ known ++ unknown known (extractor_by o) →
    known ++ unknown known (distinct (extractors_from (all_constrained_of (drop i cs)) at)) ≡ whole →
    now ++ unknown now (distinct (extractors_from (all_constrained_of (drop (i + 1) cs)) at)) ≡ whole
place_after cs i c at o known now whole less is step_is now_is so_far =
    let first : drop i cs ≡ c ∷ drop (suc i) cs = drop-cons cs i c less ∙ ap (λ x. x ∷ drop (suc i) cs) (sym is) in
    let rest : Texts = extractors_from (all_constrained_of (drop (suc i) cs)) at in
    ap (λ n. now ++ unknown now (distinct (extractors_from (all_constrained_of (drop n cs)) at))) (add-one i)
    ∙ (place_step known now rest o now_is
    ∙ (ap (λ s. known ++ unknown known (distinct (extractor_by s ++ rest))) step_is
    ∙ (ap (λ xs. known ++ unknown known (distinct (extractors_from (all_constrained_of xs) at))) (sym first)
    ∙ so_far)))
