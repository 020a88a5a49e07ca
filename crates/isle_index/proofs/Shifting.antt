-- Entries get other numbers.
use Rattle.std.proofs.Common.{◌≡◌, ℕ, ◌+◌, ◌-◌, List, [], ◌∷◌, Option, None, Some, length, map, option_map, refl, sym, ap, subst, ◌∙◌, arith, bytes_eq, cond, Bool, true, false, is_some, take}
use Rattle.std.specs.List.{AllByRecursion}
use Rattle.std.proofs.lemmas.List.{length-map, map-append, take-map}
use Rattle.std.specs.declared.alloc.Global.{Global}
use Rattle.std.specs.declared.string.String.{String}
use Rattle.isle_ast_names.specs.Tree.{Name}
use Rattle.isle_resolve.specs.Event.{EventNode, defines, uses, defines_variant, occurs, binds, reads, closes, ends}
use Rattle.isle_index.specs.declared.entries.Entry.{Entry}
use Rattle.isle_index.specs.declared.entries.Entry.TheVariants as entries
use Rattle.isle_index.specs.Entries.{moved, moved_number, unpacked, unpacked_from, with_binder, word_at}
use Rattle.isle_index.specs.Held.{HasTexts}
use Rattle.isle_resolve.specs.Scopes.{BoundNode, after, binder, bound_more, last_bound, or_else, seen_from}

-- a bound variable, whose number counts from another one
abbrev at_one : ℕ → BoundNode → BoundNode
at_one base b = record { text = b.text; number = base + b.number }

abbrev at : ℕ → List BoundNode → List BoundNode
at base bs = map (at_one base) bs

first-bound : (f : ℕ → ℕ) (n : ℕ) (is : Bool) → cond is (Some (f n)) None ≡ option_map f (cond is (Some n) None)
first-bound f n true = refl
first-bound f n false = refl

or-else-map : (f : ℕ → ℕ) (a b : Option ℕ) → or_else (option_map f a) (option_map f b) ≡ option_map f (or_else a b)
or-else-map f None b = refl
or-else-map f (Some n) b = refl

last-at : (base : ℕ) (bs : List BoundNode) (text : List ℕ) → last_bound (at base bs) text ≡ option_map (λ n. base + n) (last_bound bs text)
last-at base [] text = refl
last-at base (b ∷ bs) text =
    let f : ℕ → ℕ = λ n. base + n in
    ap (λ last. or_else last (cond (bytes_eq b.text text) (Some (base + b.number)) None)) (last-at base bs text)
    ∙ ap (or_else (option_map f (last_bound bs text))) (first-bound f b.number (bytes_eq b.text text))
    ∙ or-else-map f (last_bound bs text) (cond (bytes_eq b.text text) (Some b.number) None)

binder-at : (base i : ℕ) (e : EventNode) (bs : List BoundNode) → binder e (base + i) (at base bs) ≡ option_map (λ n. base + n) (binder e i bs)
binder-at base i (defines k n) bs = refl
binder-at base i (uses k n) bs = refl
binder-at base i (defines_variant o m) bs = refl
binder-at base i (occurs r n) bs =
    let f : ℕ → ℕ = λ n. base + n in
    ap (λ last. or_else last (Some (base + i))) (last-at base bs n.text) ∙ or-else-map f (last_bound bs n.text) (Some i)
binder-at base i (binds n) bs = refl
binder-at base i (reads n) bs = last-at base bs n.text
binder-at base i closes bs = refl
binder-at base i ends bs = refl

more-at : (base i : ℕ) (bs : List BoundNode) (n : Name) → bound_more (at base bs) n (base + i) ≡ at base (bound_more bs n i)
more-at base i bs n = sym (map-append (at_one base) bs (record { text = n.text; number = i } ∷ []))

unless-bound : (base i : ℕ) (bs : List BoundNode) (n : Name) (last : Option ℕ) →
    cond (is_some (option_map (λ n. base + n) last)) (at base bs) (bound_more (at base bs) n (base + i)) ≡ at base (cond (is_some last) bs (bound_more bs n i))
unless-bound base i bs n None = more-at base i bs n
unless-bound base i bs n (Some m) = refl

after-at : (base i : ℕ) (e : EventNode) (bs : List BoundNode) → after e (base + i) (at base bs) ≡ at base (after e i bs)
after-at base i (defines k n) bs = refl
after-at base i (uses k n) bs = refl
after-at base i (defines_variant o m) bs = refl
after-at base i (occurs r n) bs =
    ap (λ last. cond (is_some last) (at base bs) (bound_more (at base bs) n (base + i))) (last-at base bs n.text)
    ∙ unless-bound base i bs n (last_bound bs n.text)
after-at base i (binds n) bs = more-at base i bs n
after-at base i (reads n) bs = refl
after-at base i closes bs =
    ap (λ len. take (len - 1) (at base bs)) (length-map bs (at_one base)) ∙ take-map (at_one base) (length bs - 1) bs
after-at base i ends bs = refl

-- where the number of an event counts from another base, so does that of its binder
quiet : (p q i : ℕ) (event other : EventNode) (b : Option ℕ) → with_binder event (p + i) None ≡ with_binder other (p + i) (option_map (λ n. p + n) b) →
    with_binder event (q + i) None ≡ with_binder other (q + i) (option_map (λ n. q + n) b)
quiet p q i event other None is = ap (λ s. with_binder s.event (q + i) None) is
quiet p q i event other (Some n) is = absurd (cc (ap (λ s. s.binder) is))

moved-on : (p q n : ℕ) → moved_number p q (p + n) ≡ q + n
moved-on p q n = omega arith

bound-by : (p q i m : ℕ) (event other : EventNode) (b : Option ℕ) → with_binder event (p + i) (Some m) ≡ with_binder other (p + i) (option_map (λ n. p + n) b) →
    with_binder event (q + i) (Some (moved_number p q m)) ≡ with_binder other (q + i) (option_map (λ n. q + n) b)
bound-by p q i m event other None is = absurd (cc (ap (λ s. s.binder) is))
bound-by p q i m event other (Some n) is =
    let same : m ≡ p + n = cc (ap (λ s. s.binder) is) in
    ap (λ s. with_binder s.event (q + i) (Some (moved_number p q m))) is
    ∙ ap (λ k. with_binder other (q + i) (Some (moved_number p q k))) same
    ∙ ap (λ k. with_binder other (q + i) (Some k)) (moved-on p q n)

reads-by : (p q i : ℕ) (m : Option ℕ) (event other : EventNode) (b : Option ℕ) → with_binder event (p + i) m ≡ with_binder other (p + i) (option_map (λ n. p + n) b) →
    with_binder event (q + i) (option_map (moved_number p q) m) ≡ with_binder other (q + i) (option_map (λ n. q + n) b)
reads-by p q i None event other b is = quiet p q i event other b is
reads-by p q i (Some m) event other b is = bound-by p q i m event other b is

moved-one : (texts : List (String Global)) (p q i : ℕ) (e : Entry) (event : EventNode) (b : Option ℕ) →
    unpacked texts (p + i) e ≡ with_binder event (p + i) (option_map (λ n. p + n) b) →
    unpacked texts (q + i) (moved p q e) ≡ with_binder event (q + i) (option_map (λ n. q + n) b)
moved-one texts p q i (entries.Defines kind s) event b is = quiet p q i (defines kind (word_at texts s)) event b is
moved-one texts p q i (entries.Uses kind s) event b is = quiet p q i (uses kind (word_at texts s)) event b is
moved-one texts p q i (entries.DefinesVariant o m) event b is = quiet p q i (defines_variant (word_at texts o) (word_at texts m)) event b is
moved-one texts p q i (entries.Occurs role s n) event b is = bound-by p q i n (occurs role (word_at texts s)) event b is
moved-one texts p q i (entries.Binds s) event b is =
    ap (λ n. with_binder (binds (word_at texts s)) (q + i) (Some n)) (sym (moved-on p q i)) ∙ bound-by p q i (p + i) (binds (word_at texts s)) event b is
moved-one texts p q i (entries.Reads s n) event b is = reads-by p q i n (reads (word_at texts s)) event b is
moved-one texts p q i entries.Closes event b is = quiet p q i closes event b is
moved-one texts p q i entries.Ends event b is = quiet p q i ends event b is

next : (base i : ℕ) → base + i + 1 ≡ base + (i + 1)
next base i = omega arith

moved-all : (texts : List (String Global)) (p q i : ℕ) (bs : List BoundNode) (es : List Entry) (events : List EventNode) →
    unpacked_from texts (p + i) es ≡ seen_from (p + i) (at p bs) events → unpacked_from texts (q + i) (map (moved p q) es) ≡ seen_from (q + i) (at q bs) events
moved-all texts p q i bs [] [] is = refl
moved-all texts p q i bs [] (x ∷ xs) is = absurd (cc is)
moved-all texts p q i bs (e ∷ es) [] is = absurd (cc is)
moved-all texts p q i bs (e ∷ es) (x ∷ xs) is =
    let first : unpacked texts (p + i) e ≡ with_binder x (p + i) (binder x (p + i) (at p bs)) = cc is in
    let later : unpacked_from texts (p + i + 1) es ≡ seen_from (p + i + 1) (after x (p + i) (at p bs)) xs = cc is in
    let one = moved-one texts p q i e x (binder x i bs) (first ∙ ap (with_binder x (p + i)) (binder-at p i x bs)) in
    let rest =
    moved-all texts p q (i + 1) (after x i bs) es xs
    (ap (λ n. unpacked_from texts n es) (sym (next p i)) ∙ later
    ∙ ap (λ b. seen_from (p + i + 1) b xs) (after-at p i x bs)
    ∙ ap (λ n. seen_from n (at p (after x i bs)) xs) (next p i)) in
    ap (λ s. s ∷ unpacked_from texts (q + i + 1) (map (moved p q) es)) (one ∙ ap (with_binder x (q + i)) (sym (binder-at q i x bs)))
    ∙ ap (λ ss. with_binder x (q + i) (binder x (q + i) (at q bs)) ∷ ss)
    (ap (λ n. unpacked_from texts n (map (moved p q) es)) (next q i) ∙ rest
    ∙ ap (λ n. seen_from n (at q (after x i bs)) xs) (sym (next q i))
    ∙ ap (λ b. seen_from (q + i + 1) b xs) (sym (after-at q i x bs)))

-- entries of events stay entries of these when they get other numbers
pub moved-are : (texts : List (String Global)) (p q : ℕ) (es : List Entry) (events : List EventNode) →
    unpacked_from texts p es ≡ seen_from p [] events → unpacked_from texts q (map (moved p q) es) ≡ seen_from q [] events
moved-are texts p q es events is =
    let none : (n : ℕ) → n + 0 ≡ n = λ n. omega arith in
    let From : ℕ → Type 0 = λ n. unpacked_from texts n es ≡ seen_from n [] events in
    let To : ℕ → Type 0 = λ n. unpacked_from texts n (map (moved p q) es) ≡ seen_from n [] events in
    subst To (none q) (moved-all texts p q 0 [] es events (subst From (sym (none p)) is))

-- and they keep their texts
moved-has : (texts : List (String Global)) (p q : ℕ) (e : Entry) → HasTexts texts e → HasTexts texts (moved p q e)
moved-has texts p q (entries.Defines kind s) has = has
moved-has texts p q (entries.Uses kind s) has = has
moved-has texts p q (entries.DefinesVariant o m) has = has
moved-has texts p q (entries.Occurs role s n) has = has
moved-has texts p q (entries.Binds s) has = has
moved-has texts p q (entries.Reads s n) has = has
moved-has texts p q entries.Closes has = has
moved-has texts p q entries.Ends has = has

pub moved-have : (texts : List (String Global)) (p q : ℕ) (es : List Entry) → AllByRecursion (HasTexts texts) es → AllByRecursion (HasTexts texts) (map (moved p q) es)
moved-have texts p q [] has = tt
moved-have texts p q (e ∷ es) has = (moved-has texts p q e has.0, moved-have texts p q es has.1)
