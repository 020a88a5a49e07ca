-- An index of which a part moves.
use Rattle.std.proofs.Common.{◌≡◌, ℕ, ◌+◌, List, [], ◌∷◌, ◌++◌, length, map, refl, sym, ap, subst, ◌∙◌, suc, zero, arith, take, drop}
use Rattle.std.specs.List.{AllByRecursion}
use Rattle.std.proofs.lemmas.Grind.{flat_map-append}
use Rattle.std.specs.declared.alloc.Global.{Global}
use Rattle.std.specs.declared.string.String.{String}
use Rattle.isle_ast.specs.Tree.{Definition}
use Rattle.isle_resolve.specs.Event.{EventNode}
use Rattle.isle_resolve.specs.Events.{definition_events, events}
use Rattle.isle_index.specs.declared.Index.{Index}
use Rattle.isle_index.specs.declared.entries.Entry.{Entry}
use Rattle.isle_index.specs.Entries.{moved, unpacked, unpacked_from}
use Rattle.isle_index.specs.Held.{HasTexts, IsIndexOf, event_count}
use Rattle.isle_resolve.specs.Scopes.{BoundNode, after, binder, seen_from}
use Rattle.isle_index.proofs.Adding.{length-unpacked}
use Rattle.isle_index.proofs.Closing.{bound_after, definitions_end, length-seen, seen-append}
use Rattle.isle_index.proofs.Shifting.{moved-are, moved-have}

-- entries that have their texts, and are those of these events from this number on
pub record Holds (texts : List (String Global)) (number : ℕ) (es : List Entry) (events : List EventNode) : Type 0 where
  pub has : AllByRecursion (HasTexts texts) es
  pub are : unpacked_from texts number es ≡ seen_from number [] events

one-on : (i n : ℕ) → i + suc n ≡ (i + 1) + n
one-on i n = omega arith

take-has : (texts : List (String Global)) (n : ℕ) (es : List Entry) → AllByRecursion (HasTexts texts) es → AllByRecursion (HasTexts texts) (take n es)
take-has texts zero es has = tt
take-has texts (suc n) [] has = tt
take-has texts (suc n) (e ∷ es) has = (has.0, take-has texts n es has.1)

drop-has : (texts : List (String Global)) (n : ℕ) (es : List Entry) → AllByRecursion (HasTexts texts) es → AllByRecursion (HasTexts texts) (drop n es)
drop-has texts zero es has = has
drop-has texts (suc n) [] has = tt
drop-has texts (suc n) (e ∷ es) has = drop-has texts n es has.1

join-has : (texts : List (String Global)) (es fs : List Entry) → AllByRecursion (HasTexts texts) es → AllByRecursion (HasTexts texts) fs → AllByRecursion (HasTexts texts) (es ++ fs)
join-has texts [] fs has more = more
join-has texts (e ∷ es) fs has more = (has.0, join-has texts es fs has.1 more)

front-are : (texts : List (String Global)) (i : ℕ) (bound : List BoundNode) (es : List Entry) (xs ys : List EventNode) →
    unpacked_from texts i es ≡ seen_from i bound (xs ++ ys) → unpacked_from texts i (take (length xs) es) ≡ seen_from i bound xs
front-are texts i bound es [] ys is = refl
front-are texts i bound [] (x ∷ xs) ys is = absurd (cc is)
front-are texts i bound (e ∷ es) (x ∷ xs) ys is =
    let first : unpacked texts i e ≡ record { event = x; number = i; binder = binder x i bound } = cc is in
    let later : unpacked_from texts (i + 1) es ≡ seen_from (i + 1) (after x i bound) (xs ++ ys) = cc is in
    ap (λ s. s ∷ unpacked_from texts (i + 1) (take (length xs) es)) first
    ∙ ap (λ ss. record { event = x; number = i; binder = binder x i bound } ∷ ss) (front-are texts (i + 1) (after x i bound) es xs ys later)

back-are : (texts : List (String Global)) (i : ℕ) (bound : List BoundNode) (es : List Entry) (xs ys : List EventNode) →
    unpacked_from texts i es ≡ seen_from i bound (xs ++ ys) →
    unpacked_from texts (i + length xs) (drop (length xs) es) ≡ seen_from (i + length xs) (bound_after i bound xs) ys
back-are texts i bound es [] ys is =
    let none : i ≡ i + 0 = omega arith in
    ap (λ n. unpacked_from texts n es) (sym none) ∙ is ∙ ap (λ n. seen_from n bound ys) none
back-are texts i bound [] (x ∷ xs) ys is = absurd (cc is)
back-are texts i bound (e ∷ es) (x ∷ xs) ys is =
    let later : unpacked_from texts (i + 1) es ≡ seen_from (i + 1) (after x i bound) (xs ++ ys) = cc is in
    ap (λ n. unpacked_from texts n (drop (length xs) es)) (one-on i (length xs))
    ∙ back-are texts (i + 1) (after x i bound) es xs ys later
    ∙ ap (λ n. seen_from n (bound_after (i + 1) (after x i bound) xs) ys) (sym (one-on i (length xs)))

front-holds : (texts : List (String Global)) (i n : ℕ) (es : List Entry) (xs ys : List EventNode) → n ≡ length xs → Holds texts i es (xs ++ ys) → Holds texts i (take n es) xs
front-holds texts i n es xs ys count h = record {
  has = take-has texts n es h.has;
  are = ap (λ k. unpacked_from texts i (take k es)) count ∙ front-are texts i [] es xs ys h.are;
}

-- where no variable is bound after the first events
back-holds : (texts : List (String Global)) (i n : ℕ) (es : List Entry) (xs ys : List EventNode) → bound_after i [] xs ≡ [] → n ≡ length xs → Holds texts i es (xs ++ ys) →
    Holds texts (i + n) (drop n es) ys
back-holds texts i n es xs ys ended count h = record {
  has = drop-has texts n es h.has;
  are =
      ap (λ k. unpacked_from texts (i + k) (drop k es)) count ∙ back-are texts i [] es xs ys h.are
      ∙ ap (λ b. seen_from (i + length xs) b ys) ended ∙ ap (λ k. seen_from (i + k) [] ys) (sym count);
}

unpacked-append : (texts : List (String Global)) (i : ℕ) (es fs : List Entry) → unpacked_from texts i (es ++ fs) ≡ unpacked_from texts i es ++ unpacked_from texts (i + length es) fs
unpacked-append texts i [] fs = let at : i ≡ i + 0 = omega arith in ap (λ j. unpacked_from texts j fs) at
unpacked-append texts i (e ∷ es) fs =
    ap (λ ss. unpacked texts i e ∷ ss)
    (unpacked-append texts (i + 1) es fs ∙ ap (λ j. unpacked_from texts (i + 1) es ++ unpacked_from texts j fs) (sym (one-on i (length es))))

count-holds : (texts : List (String Global)) (i : ℕ) (es : List Entry) (xs : List EventNode) → Holds texts i es xs → length es ≡ length xs
count-holds texts i es xs h = sym (length-unpacked texts i es) ∙ ap length h.are ∙ length-seen i [] xs

holds-both : (texts : List (String Global)) (es fs : List Entry) (xs ys : List EventNode) → bound_after 0 [] xs ≡ [] → Holds texts 0 es xs → Holds texts (length es) fs ys →
    Holds texts 0 (es ++ fs) (xs ++ ys)
holds-both texts es fs xs ys ended first second = record {
  has = join-has texts es fs first.has second.has;
  are =
      let at : 0 + length es ≡ length es = omega arith in
      let one : 0 + length xs ≡ length xs = omega arith in
      unpacked-append texts 0 es fs
      ∙ ap (λ n. unpacked_from texts 0 es ++ unpacked_from texts n fs) at
      ∙ ap (λ ss. ss ++ unpacked_from texts (length es) fs) first.are
      ∙ ap (λ ss. seen_from 0 [] xs ++ ss) second.are
      ∙ ap (λ n. seen_from 0 [] xs ++ seen_from n [] ys) (count-holds texts 0 es xs first ∙ sym one)
      ∙ ap (λ b. seen_from 0 [] xs ++ seen_from (0 + length xs) b ys) (sym ended)
      ∙ sym (seen-append 0 [] xs ys);
}

moved-holds : (texts : List (String Global)) (p q : ℕ) (es : List Entry) (xs : List EventNode) → Holds texts p es xs → Holds texts q (map (moved p q) es) xs
moved-holds texts p q es xs h = record { has = moved-have texts p q es h.has; are = moved-are texts p q es xs h.are }

-- ---- definitions

both-events : (xs ys : List Definition) → events (xs ++ ys) ≡ events xs ++ events ys
both-events xs ys = flat_map-append definition_events xs ys

-- entries of these definitions
abbrev pub IsOf : List (String Global) → ℕ → List Entry → List Definition → Type 0
IsOf texts number es ds = Holds texts number es (events ds)

split-of : (texts : List (String Global)) (n : ℕ) (es : List Entry) (xs ys : List Definition) → n ≡ event_count xs → IsOf texts 0 es (xs ++ ys) →
    IsOf texts 0 (take n es) xs × IsOf texts n (drop n es) ys
split-of texts n es xs ys count h =
    let both : Holds texts 0 es (events xs ++ events ys) = subst (Holds texts 0 es) (both-events xs ys) h in
    let at : 0 + n ≡ n = omega arith in (
      front-holds texts 0 n es (events xs) (events ys) count both,
      subst (λ k. Holds texts k (drop n es) (events ys)) at (back-holds texts 0 n es (events xs) (events ys) (definitions_end 0 xs) count both),
    )

join-of : (texts : List (String Global)) (p : ℕ) (es fs : List Entry) (xs ys : List Definition) → IsOf texts 0 es xs → IsOf texts p fs ys →
    IsOf texts 0 (es ++ map (moved p (length es)) fs) (xs ++ ys)
join-of texts p es fs xs ys first second =
    subst (Holds texts 0 (es ++ map (moved p (length es)) fs)) (sym (both-events xs ys))
    (holds-both texts es (map (moved p (length es)) fs) (events xs) (events ys) (definitions_end 0 xs) first
    (moved-holds texts p (length es) fs (events ys) second))

pub of-index : (ds : List Definition) (index : Index) → IsIndexOf ds index → IsOf index.texts.items.items 0 index.entries.items ds
of-index ds index h = record { has = h.whole; are = h.is }

pub count-is : (ds : List Definition) (index : Index) → IsIndexOf ds index → length index.entries.items ≡ event_count ds
count-is ds index h = count-holds index.texts.items.items 0 index.entries.items (events ds) (of-index ds index h)

-- definitions at the end take the place of others
pub replaced : (texts : List (String Global)) (es front tail kept behind begun half all : List Entry) (before old after_them new : List Definition) (start stop end : ℕ) →
    front ≡ take end es → tail ≡ drop end es → kept ≡ take stop front → behind ≡ drop stop front → begun ≡ take start kept →
    half ≡ begun ++ map (moved end (length begun)) tail → all ≡ half ++ map (moved stop (length half)) behind →
    IsOf texts 0 es (before ++ old ++ after_them ++ new) → start ≡ event_count before → stop ≡ event_count (before ++ old) → end ≡ event_count (before ++ old ++ after_them) →
    IsOf texts 0 all (before ++ new ++ after_them)
replaced texts es front tail kept behind begun half all before old after_them new start stop end is_front is_tail is_kept is_behind is_begun is_half is_all h at_start at_stop at_end =
    let one = split-of texts end es (before ++ old ++ after_them) new at_end h in
    let first : IsOf texts 0 front (before ++ old ++ after_them) = subst (λ xs. IsOf texts 0 xs (before ++ old ++ after_them)) (sym is_front) one.0 in
    let last : IsOf texts end tail new = subst (λ xs. IsOf texts end xs new) (sym is_tail) one.1 in
    let two = split-of texts stop front (before ++ old) after_them at_stop first in
    let second : IsOf texts 0 kept (before ++ old) = subst (λ xs. IsOf texts 0 xs (before ++ old)) (sym is_kept) two.0 in
    let later : IsOf texts stop behind after_them = subst (λ xs. IsOf texts stop xs after_them) (sym is_behind) two.1 in
    let three = split-of texts start kept before old at_start second in
    let third : IsOf texts 0 begun before = subst (λ xs. IsOf texts 0 xs before) (sym is_begun) three.0 in
    let with_new : IsOf texts 0 half (before ++ new) = subst (λ xs. IsOf texts 0 xs (before ++ new)) (sym is_half) (join-of texts end begun tail before new third last) in
    subst (λ xs. IsOf texts 0 xs (before ++ new ++ after_them)) (sym is_all) (join-of texts stop half behind (before ++ new) after_them with_new later)
