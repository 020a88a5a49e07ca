-- The texts of a program whose known definitions an index has.
use Rattle.std.proofs.Common.{◌≡◌, ◌==◌, ℕ, ◌+◌, ◌-◌, ◌<◌, ◌≤◌, List, [], ◌∷◌, ◌++◌, Bool, not, cond, Some, length, map, refl, sym, ap, subst, ◌∙◌, suc, zero, arith, append_assoc, take, drop, slice_set, get_or, string_bytes}
use Rattle.std.specs.List.{flat_map, slice_get, sum_by}
use Rattle.std.proofs.lemmas.Grind.{flat_map-append}
use Rattle.std.proofs.lemmas.List.{drop-map, length-append, length-drop, length-map, length-take-le, map-append, take-map}
use Rattle.std.proofs.lemmas.List.Sums.{sum_by-append}
use Rattle.isle_ast.specs.Tree.{Definition}
use Rattle.isle_resolve.specs.Events.{definition_events}
use Rattle.isle_index.specs.Held.{IsIndexOf, event_count}
use Rattle.isle_index.specs.declared.Index.{Index}
use Rattle.isle_lsp_features.specs.Programs.{Text, bytes_of, text_of}
use Rattle.isle_lsp_features.specs.declared.Text.{Text as CodeText}
use Rattle.isle_lsp_features.specs.declared.known.Known.{Known}
use Rattle.isle_lsp_features.specs.Gathered.{AreKept, AreParts, IsGathered, IsKept, IsOf, IsPart, Kept, Part, Renews, all_known, bytes_in, events_in, kept_of, refused_count, refused_in}
use Rattle.isle_lsp_features.specs.Pieces.{AddsText, is_refused, known}
use Rattle.isle_lsp_features.specs.declared.pieces.Refusal.{Refusal}

next : (i : ℕ) → suc i ≡ i + 1
next i = omega arith

-- a list with another element at one place
set-there : {A : Type 0} (xs : List A) (i : ℕ) (x : A) → i < length xs → slice_set xs i x ≡ take i xs ++ x ∷ drop (suc i) xs
set-there [] i x within = absurd (omega (arith, within))
set-there (y ∷ ys) zero x within = refl
set-there (y ∷ ys) (suc i) x within = ap (λ zs. y ∷ zs) (set-there ys i x (omega (arith, within)))

pub set-parts : {A : Type 0} (xs : List A) (i : ℕ) (x : A) → i < length xs → slice_set xs i x ≡ take i xs ++ x ∷ drop (i + 1) xs
set-parts xs i x within = set-there xs i x within ∙ ap (λ n. take i xs ++ x ∷ drop n xs) (next i)

one-on : (file n : ℕ) → file + suc n ≡ (file + 1) + n
one-on file n = omega arith

-- what is kept of texts before a place, and from it on
kept-front : (file i : ℕ) (ks : List Kept) (ps : List Part) → AreKept file ks ps → AreKept file (take i ks) (take i ps)
kept-front file zero ks ps each = tt
kept-front file (suc i) [] [] each = tt
kept-front file (suc i) [] (p ∷ ps) each = absurd each
kept-front file (suc i) (k ∷ ks) [] each = absurd each
kept-front file (suc i) (k ∷ ks) (p ∷ ps) each = (each.0, kept-front (file + 1) i ks ps each.1)

kept-back : (file i : ℕ) (ks : List Kept) (ps : List Part) → AreKept file ks ps → AreKept (file + i) (drop i ks) (drop i ps)
kept-back file zero ks ps each = let none : file ≡ file + 0 = omega arith in subst (λ n. AreKept n ks ps) none each
kept-back file (suc i) [] [] each = tt
kept-back file (suc i) [] (p ∷ ps) each = absurd each
kept-back file (suc i) (k ∷ ks) [] each = absurd each
kept-back file (suc i) (k ∷ ks) (p ∷ ps) each =
    subst (λ n. AreKept n (drop i ks) (drop i ps)) (sym (one-on file i)) (kept-back (file + 1) i ks ps each.1)

kept-both : (file : ℕ) (xs ys : List Kept) (ps qs : List Part) → AreKept file xs ps → AreKept (file + length xs) ys qs → AreKept file (xs ++ ys) (ps ++ qs)
kept-both file [] ys [] qs first second = let none : file + 0 ≡ file = omega arith in subst (λ n. AreKept n ys qs) none second
kept-both file [] ys (p ∷ ps) qs first second = absurd first
kept-both file (x ∷ xs) ys [] qs first second = absurd first
kept-both file (x ∷ xs) ys (p ∷ ps) qs first second =
    (first.0, kept-both (file + 1) xs ys ps qs first.1 (subst (λ n. AreKept n ys qs) (one-on file (length xs)) second))

-- the definitions before a place, at it and behind it
all-both : (ps qs : List Part) → all_known (ps ++ qs) ≡ all_known ps ++ all_known qs
all-both ps qs = flat_map-append known ps qs

split-there : {A : Type 0} (i : ℕ) (xs : List A) → xs ≡ take i xs ++ take 1 (drop i xs) ++ drop (suc i) xs
split-there zero [] = refl
split-there zero (x ∷ xs) = refl
split-there (suc i) [] = refl
split-there (suc i) (x ∷ xs) = ap (λ ys. x ∷ ys) (split-there i xs)

split-at : {A : Type 0} (i : ℕ) (xs : List A) → xs ≡ take i xs ++ take 1 (drop i xs) ++ drop (i + 1) xs
split-at i xs = split-there i xs ∙ ap (λ n. take i xs ++ take 1 (drop i xs) ++ drop n xs) (next i)

one-more : {A : Type 0} (i : ℕ) (xs : List A) → take (suc i) xs ≡ take i xs ++ take 1 (drop i xs)
one-more zero [] = refl
one-more zero (x ∷ xs) = refl
one-more (suc i) [] = refl
one-more (suc i) (x ∷ xs) = ap (λ ys. x ∷ ys) (one-more i xs)

pub up-to : {A : Type 0} (i : ℕ) (xs : List A) → take (i + 1) xs ≡ take i xs ++ take 1 (drop i xs)
up-to i xs = ap (λ n. take n xs) (sym (next i)) ∙ one-more i xs

plain : (n : ℕ) → 0 + n ≡ n
plain n = omega arith

sum-on : {A : Type 0} (f : A → ℕ) (x : A) (xs : List A) → sum_by f (x ∷ xs) ≡ f x + sum_by f xs
sum-on f x xs = sum_by-append f (x ∷ []) xs ∙ ap (λ n. n + sum_by f xs) (plain (f x))

count-both : (xs ys : List Definition) → event_count (xs ++ ys) ≡ event_count xs + event_count ys
count-both xs ys = ap length (flat_map-append definition_events xs ys) ∙ length-append (flat_map definition_events xs) (flat_map definition_events ys)

-- their numbers of events
kept-count : (file : ℕ) (ks : List Kept) (ps : List Part) → AreKept file ks ps → events_in ks ≡ event_count (all_known ps)
kept-count file [] [] each = refl
kept-count file [] (p ∷ ps) each = absurd each
kept-count file (k ∷ ks) [] each = absurd each
kept-count file (k ∷ ks) (p ∷ ps) each =
    let later = kept-count (file + 1) ks ps each.1 in
    let both = count-both (known p) (all_known ps) in
    sum-on (λ x. x.events) k ks ∙ ap (λ n. k.events + n) later ∙ ap (λ n. n + event_count (all_known ps)) each.0.1 ∙ sym both

abbrev pub refused-if : Bool → ℕ
refused-if is = cond is 1 0

kept-refused : (file : ℕ) (ks : List Kept) (ps : List Part) → AreKept file ks ps → refused_in ks ≡ refused_count ps
kept-refused file [] [] each = refl
kept-refused file [] (p ∷ ps) each = absurd each
kept-refused file (k ∷ ks) [] each = absurd each
kept-refused file (k ∷ ks) (p ∷ ps) each =
    let later = kept-refused (file + 1) ks ps each.1 in
    let own : refused-if k.is_refused ≡ refused-if (is_refused p) = ap refused-if each.0.2 in
    sum-on (λ x. refused-if x.is_refused) k ks
    ∙ ap (λ n. refused-if k.is_refused + n) later
    ∙ ap (λ n. n + refused_count ps) own
    ∙ sym (sum-on (λ x. refused-if (is_refused x)) p ps)

kept-parts : (file : ℕ) (ss : List Text) (ks : List Kept) (ps : List Part) → map bytes_of ss ≡ bytes_in ks → AreKept file ks ps → AreParts file ss ps
kept-parts file [] [] [] same each = tt
kept-parts file [] [] (p ∷ ps) same each = absurd each
kept-parts file [] (k ∷ ks) ps same each = absurd (cc same)
kept-parts file (s ∷ ss) [] ps same each = absurd (cc same)
kept-parts file (s ∷ ss) (k ∷ ks) [] same each = absurd each
kept-parts file (s ∷ ss) (k ∷ ks) (p ∷ ps) same each =
    let first : k.bytes ≡ bytes_of s = cc same in
    let later : map bytes_of ss ≡ bytes_in ks = cc same in
    (subst (λ text. IsPart file text p) first each.0.0, kept-parts (file + 1) ss ks ps later each.1)

-- the index of kept texts is that of each program that has these
pub gathered-of : (program : List Text) (ks : List Kept) (index : Index) → map bytes_of program ≡ bytes_in ks → IsOf ks index → IsGathered program index (refused_in ks)
gathered-of program ks index same h =
    record { parts = h.parts; read = kept-parts 0 program ks h.parts same h.read; holds = h.holds; count = kept-refused 0 ks h.parts h.read }

-- the definitions of the last events take the place of others
abbrev pub Replaces : (start stop end : ℕ) → Index → Index → Type 0
Replaces start stop end old new = (before gone after_them more : List Definition) → IsIndexOf (before ++ gone ++ after_them ++ more) old → start ≡ event_count before →
    stop ≡ event_count (before ++ gone) → end ≡ event_count (before ++ gone ++ after_them) → IsIndexOf (before ++ more ++ after_them) new

-- one text is added at the end, and then moves to the place of another
pub renewed : (ks : List Kept) (file : ℕ) (text : List ℕ) (k : Kept) (old more new : Index) (rs : List Refusal) (start stop end events : ℕ) →
    file ≤ length ks → IsOf ks old → AddsText file text old more rs → start ≡ events_in (take file ks) → stop ≡ events_in (take (file + 1) ks) →
    ((ds : List Definition) → IsIndexOf ds old → end ≡ event_count ds) → ((ds : List Definition) → IsIndexOf ds more → events ≡ event_count ds) →
    Replaces start stop end more new → k.bytes ≡ text → k.events ≡ events - end → k.is_refused ≡ not (length rs == 0) →
    IsOf (take file ks ++ k ∷ drop (file + 1) ks) new
renewed ks file text k old more new rs start stop end events within before adds at_start at_stop at_end at_events replaces is_text has_events is_not =
    let ps = before.parts in
    let p = adds.pieces in
    let a = all_known (take file ps) in
    let b = all_known (take 1 (drop file ps)) in
    let c = all_known (drop (file + 1) ps) in
    let d = known p in
    let whole : all_known ps ≡ a ++ b ++ c =
    ap all_known (split-at file ps) ∙ all-both (take file ps ++ take 1 (drop file ps)) (drop (file + 1) ps)
    ∙ ap (λ ds. ds ++ c) (all-both (take file ps) (take 1 (drop file ps))) in
    let four : all_known ps ++ d ≡ a ++ b ++ c ++ d = ap (λ ds. ds ++ d) whole in
    let grown : IsIndexOf (all_known ps ++ d) more = adds.holds (all_known ps) before.holds in
    let front = kept-front 0 file ks ps before.read in
    let first : start ≡ event_count a = at_start ∙ kept-count 0 (take file ks) (take file ps) front in
    let second : stop ≡ event_count (a ++ b) =
    at_stop ∙ kept-count 0 (take (file + 1) ks) (take (file + 1) ps) (kept-front 0 (file + 1) ks ps before.read)
    ∙ ap event_count (ap all_known (up-to file ps) ∙ all-both (take file ps) (take 1 (drop file ps))) in
    let third : end ≡ event_count (a ++ b ++ c) = at_end (all_known ps) before.holds ∙ ap event_count whole in
    let held : IsIndexOf (a ++ d ++ c) new = replaces a b c d (subst (λ ds. IsIndexOf ds more) four grown) first second third in
    let ended : end ≡ event_count (all_known ps) = at_end (all_known ps) before.holds in
    let all : events ≡ event_count (all_known ps ++ d) = at_events (all_known ps ++ d) grown in
    let both = count-both (all_known ps) d in
    let own : k.events ≡ event_count d = omega (arith, has_events, ended, all, both) in
    let one : IsKept file k p = (subst (λ t. IsPart file t p) (sym is_text) adds.are, own, is_not ∙ ap (λ xs. not (length xs == 0)) adds.refused) in
    let Back : ℕ → Type 0 = λ n. AreKept n (drop (file + 1) ks) (drop (file + 1) ps) in
    let next : 0 + (file + 1) ≡ file + 1 = omega arith in
    let back = subst Back next (kept-back 0 (file + 1) ks ps before.read) in
    let reached : file ≡ 0 + length (take file ks) = sym (plain (length (take file ks)) ∙ length-take-le file ks within) in
    let From : ℕ → Type 0 = λ n. AreKept n (k ∷ drop (file + 1) ks) (p ∷ drop (file + 1) ps) in
    record {
      parts = take file ps ++ p ∷ drop (file + 1) ps;
      read = kept-both 0 (take file ks) (k ∷ drop (file + 1) ks) (take file ps) (p ∷ drop (file + 1) ps) front (subst From reached (one, back));
      holds = subst (λ ds. IsIndexOf ds new) (append_assoc a d c ∙ sym (all-both (take file ps) (p ∷ drop (file + 1) ps))) held;
    }

-- ---- which texts

same-there : (ps ks : List (List ℕ)) (i : ℕ) (t : List ℕ) → take i ps ≡ take i ks → slice_get ps i ≡ Some t → slice_get ks i ≡ Some t → take (suc i) ps ≡ take (suc i) ks
same-there [] ks i t same one other = absurd (cc one)
same-there (p ∷ ps) [] i t same one other = absurd (cc other)
same-there (p ∷ ps) (k ∷ ks) zero t same one other =
    let first : p ≡ t = cc one in
    let second : k ≡ t = cc other in
    ap (λ x. x ∷ []) (first ∙ sym second)
same-there (p ∷ ps) (k ∷ ks) (suc i) t same one other =
    let first : p ≡ k = cc same in
    let later : take i ps ≡ take i ks = cc same in
    ap (λ x. x ∷ take (suc i) ps) first ∙ ap (λ xs. k ∷ xs) (same-there ps ks i t later one other)

-- the texts up to a place are the same if those before it are, and the one there
pub same-more : (ps ks : List (List ℕ)) (i : ℕ) (t : List ℕ) → take i ps ≡ take i ks → slice_get ps i ≡ Some t → slice_get ks i ≡ Some t → take (i + 1) ps ≡ take (i + 1) ks
same-more ps ks i t same one other = ap (λ n. take n ps) (sym (next i)) ∙ same-there ps ks i t same one other ∙ ap (λ n. take n ks) (next i)

front-there : {A : Type 0} (ks rest : List A) (i : ℕ) (k : A) → i ≤ length ks → take (suc i) (take i ks ++ k ∷ rest) ≡ take i ks ++ k ∷ []
front-there [] rest zero k within = refl
front-there [] rest (suc i) k within = absurd (omega (arith, within))
front-there (x ∷ xs) rest zero k within = refl
front-there (x ∷ xs) rest (suc i) k within = ap (λ ys. x ∷ ys) (front-there xs rest i k (omega (arith, within)))

pub put-front : {A : Type 0} (ks rest : List A) (i : ℕ) (k : A) → i ≤ length ks → take (i + 1) (take i ks ++ k ∷ rest) ≡ take i ks ++ k ∷ []
put-front ks rest i k within = ap (λ n. take n (take i ks ++ k ∷ rest)) (sym (next i)) ∙ front-there ks rest i k within

-- the text at a place
pub text-at : (xs : List Known) (i : ℕ) (d : Known) → i < length xs → slice_get (bytes_in (map kept_of xs)) i ≡ Some (string_bytes (get_or xs i d).text)
text-at [] i d within = absurd (omega (arith, within))
text-at (x ∷ xs) zero d within = refl
text-at (x ∷ xs) (suc i) d within = text-at xs i d (omega (arith, within))

-- ---- a program, text by text

in-range : {A : Type 0} (xs : List A) (i : ℕ) (x : A) → slice_get xs i ≡ Some x → i < length xs
in-range [] i x is = absurd (cc is)
in-range (y ∷ ys) zero x is = omega arith
in-range (y ∷ ys) (suc i) x is = let within = in-range ys i x is in omega (arith, within)

take-whole : {A : Type 0} (xs : List A) (n : ℕ) → length xs ≤ n → take n xs ≡ xs
take-whole [] zero few = refl
take-whole [] (suc n) few = refl
take-whole (x ∷ xs) zero few = absurd (omega (arith, few))
take-whole (x ∷ xs) (suc n) few = ap (λ ys. x ∷ ys) (take-whole xs n (omega (arith, few)))

more-there : {A : Type 0} (xs : List A) (i : ℕ) (x : A) → slice_get xs i ≡ Some x → take (suc i) xs ≡ take i xs ++ x ∷ []
more-there [] i x is = absurd (cc is)
more-there (y ∷ ys) zero x is = let same : y ≡ x = cc is in ap (λ z. z ∷ []) same
more-there (y ∷ ys) (suc i) x is = ap (λ zs. y ∷ zs) (more-there ys i x is)

take-more : {A : Type 0} (xs : List A) (i : ℕ) (x : A) → slice_get xs i ≡ Some x → take (i + 1) xs ≡ take i xs ++ x ∷ []
take-more xs i x is = ap (λ n. take n xs) (sym (next i)) ∙ more-there xs i x is

-- the texts before a place of a program are those whose definitions the index has
pub record Reached (program : List (List ℕ)) (ks : List Kept) (index : Index) (file : ℕ) : Type 0 where
  pub kept : IsOf ks index
  pub few : length ks ≤ length program
  pub reached : file ≤ length ks
  pub same : take file program ≡ take file (bytes_in ks)

pub reached-same : (program : List (List ℕ)) (ks : List Kept) (index : Index) (file : ℕ) (t : List ℕ) → slice_get program file ≡ Some t → slice_get (bytes_in ks) file ≡ Some t →
    Reached program ks index file → Reached program ks index (file + 1)
reached-same program ks index file t is other h =
    let within : file < length (bytes_in ks) = in-range (bytes_in ks) file t other in
    let count : length (bytes_in ks) ≡ length ks = length-map ks (λ k. k.bytes) in
    record { kept = h.kept; few = h.few; reached = omega (arith, within, count); same = same-more program (bytes_in ks) file t h.same is other }

pub reached-more : (program : List (List ℕ)) (ks new : List Kept) (old index : Index) (file : ℕ) (t : List ℕ) → slice_get program file ≡ Some t → Renews file t ks new → IsOf new index →
    Reached program ks old file → Reached program new index (file + 1)
reached-more program ks new old index file t is r held h =
    let within : file < length program = in-range program file t is in
    let front : length (take file ks) ≡ file = length-take-le file ks h.reached in
    let back : length (drop (file + 1) ks) ≡ length ks - (file + 1) = length-drop (file + 1) ks in
    let parts : length (take file ks ++ r.kept ∷ drop (file + 1) ks) ≡ length (take file ks) + length (r.kept ∷ drop (file + 1) ks) = length-append (take file ks) (r.kept ∷ drop (file + 1) ks) in
    let count : length new ≡ length (take file ks) + length (r.kept ∷ drop (file + 1) ks) = ap length r.at_place ∙ parts in
    let one : length (r.kept ∷ drop (file + 1) ks) ≡ length (drop (file + 1) ks) + 1 = next (length (drop (file + 1) ks)) in
    record {
      kept = held;
      few = omega (arith, within, front, back, count, one, h.few, h.reached);
      reached = omega (arith, front, count, one);
      same =
          take-more program file t is
          ∙ ap (λ ts. ts ++ t ∷ []) (h.same ∙ take-map (λ k. k.bytes) file ks)
          ∙ ap (λ b. bytes_in (take file ks) ++ b ∷ []) (sym r.is)
          ∙ sym (map-append (λ k. k.bytes) (take file ks) (r.kept ∷ []))
          ∙ ap bytes_in (sym (put-front ks (drop (file + 1) ks) file r.kept h.reached))
          ∙ ap (λ xs. bytes_in (take (file + 1) xs)) (sym r.at_place)
          ∙ sym (take-map (λ k. k.bytes) (file + 1) new);
    }

pub reached-all : (program : List (List ℕ)) (ks : List Kept) (index : Index) (file : ℕ) → length program ≤ file → Reached program ks index file → program ≡ bytes_in ks
reached-all program ks index file end h =
    let count : length (bytes_in ks) ≡ length ks = length-map ks (λ k. k.bytes) in
    sym (take-whole program file end) ∙ h.same ∙ take-whole (bytes_in ks) file (omega (arith, count, h.few, end))

-- a list of texts with another one at a place
pub kept-put : (xs : List Known) (i : ℕ) (x : Known) → map kept_of (take i xs ++ x ∷ drop (i + 1) xs) ≡ take i (map kept_of xs) ++ kept_of x ∷ drop (i + 1) (map kept_of xs)
kept-put xs i x =
    map-append kept_of (take i xs) (x ∷ drop (i + 1) xs)
    ∙ ap (λ ys. ys ++ kept_of x ∷ map kept_of (drop (i + 1) xs)) (sym (take-map kept_of i xs))
    ∙ ap (λ ys. take i (map kept_of xs) ++ kept_of x ∷ ys) (sym (drop-map kept_of (i + 1) xs))

-- the text of a program at a place
pub program-at : (xs : List CodeText) (i : ℕ) (d : CodeText) → i < length xs → slice_get (map bytes_of (map text_of xs)) i ≡ Some (get_or xs i d).text.now
program-at [] i d within = absurd (omega (arith, within))
program-at (x ∷ xs) zero d within = refl
program-at (x ∷ xs) (suc i) d within = program-at xs i d (omega (arith, within))

pub of-none : (index : Index) (ks : List Kept) → ks ≡ [] → IsIndexOf [] index → IsOf ks index
of-none index [] is h = record { parts = []; read = tt; holds = h }
of-none index (k ∷ ks) is h = absurd (cc is)
