-- Positions in order, and the offsets of tokens, are the same list.
use Rattle.std.proofs.Common.{◌≡◌, ℕ, ◌+◌, ◌-◌, ◌<◌, ◌≤◌, List, [], ◌∷◌, Bool, true, false, cond, not, ◌&&◌, ◌||◌, ◌==◌, refl, sym, ap, subst, ◌∙◌, length, filter, map, get_or, eq-eqb, arith}
use Rattle.std.proofs.lemmas.Bool.{and_parts, and_from, eqb-true, ne_eqb}
use Rattle.std.proofs.lemmas.Bool.Decides.{nat_tests}
use Rattle.std.proofs.lemmas.List.{get_or-append-add}
use Rattle.std.specs.List.{AllByRecursion, list_any}
use Rattle.std.specs.List.Sorted.{IsSorted}
use Rattle.std.specs.Ordering.{is_lt}
use Rattle.isle_base.specs.Lexing.{Lexes}
use Rattle.isle_base.specs.Place.{in_file}
use Rattle.isle_base.specs.Token.{Lexeme, end}
use Rattle.isle_base.proofs.Complete.{Skip-le, Spelling-shorter}
use Rattle.isle_base_source.specs.PositionOrder.{position_cmp}
use Rattle.isle_base_source.specs.declared.pos.Pos.{Pos}
use Rattle.isle_index.specs.Renamed.{are_apart, same_place}
use Rattle.isle_index.proofs.Texts.{or-false}
use Rattle.isle_index_laws.proofs.edits.Lexed.{marked_offsets}
use Rattle.isle_index_laws.proofs.KeptNames.{clash}
use Rattle.isle_index_laws.proofs.NewNames.{not-false}

-- numbers that rise

abbrev pub Above : ℕ → List ℕ → Type 0
Above n [] = Unit {0}
Above n (m ∷ ms) = (n < m) × Above n ms

abbrev pub Rising : List ℕ → Type 0
Rising [] = Unit {0}
Rising (n ∷ ns) = Above n ns × Rising ns

abbrev pub has : ℕ → List ℕ → Bool
has n ns = list_any (λ m. n == m) ns

above_more : (m n : ℕ) (ns : List ℕ) → m ≤ n → Above n ns → Above m ns
above_more m n [] le h = tt
above_more m n (k ∷ ns) le h = (omega (arith, h.0), above_more m n ns le h.1)

not_above : (n : ℕ) (ns : List ℕ) → Above n ns → has n ns ≡ false
not_above n [] h = refl
not_above n (m ∷ ns) h =
    let less = h.0 in
    let other : (n == m) ≡ false = ne_eqb n m (λ e. omega arith) in
    ap (λ b. b || has n ns) other ∙ not_above n ns h.1

-- what rises behind a number is greater
greater_by : (n m k : ℕ) (ns : List ℕ) → Above n (k ∷ ns) → has m (k ∷ ns) ≡ true → (b : Bool) → (m == k) ≡ b → (has m ns ≡ true → n < m) → n < m
greater_by n m k ns h there true e later = let same : m ≡ k = eqb-true m k e in let less = h.0 in omega arith
greater_by n m k ns h there false e later = later (sym (ap (λ b. b || has m ns) e) ∙ there)

greater : (n m : ℕ) (ns : List ℕ) → Above n ns → has m ns ≡ true → n < m
greater n m [] h there = let never : false ≡ true = there in absurd (cc)
greater n m (k ∷ ns) h there = greater_by n m k ns h there (m == k) refl (greater n m ns h.1)

-- without a number that is another one
has_later : (n m : ℕ) (ns : List ℕ) → n < m → has m (n ∷ ns) ≡ has m ns
has_later n m ns less = ap (λ b. b || has m ns) (ne_eqb m n (λ e. omega arith))

-- The offsets of the tokens that are marked are some numbers, if both rise and have the same.

module _ (mark : ℕ → Bool) where
  abbrev pub offsets : List Lexeme → List ℕ
  offsets xs = map (λ x. x.offset) xs

  abbrev pub Marks : List ℕ → List Lexeme → Type 0
  Marks os xs = AllByRecursion (λ x. mark x.offset ≡ has x.offset os) xs

  abbrev pub Found : List Lexeme → List ℕ → Type 0
  Found xs os = AllByRecursion (λ o. has o (offsets xs) ≡ true) os

  -- numbers above the first offset are those of later tokens
  found_later : (n : ℕ) (xs : List Lexeme) (o : Lexeme) (os : List ℕ) → Above o.offset os → Found (o ∷ xs) os → Found xs os
  found_later n xs o [] h f = tt
  found_later n xs o (m ∷ os) h f =
      (sym (has_later o.offset m (offsets xs) h.0) ∙ f.0, found_later n xs o os h.1 f.1)

  -- tokens above a number are marked by those behind it
  marks_later : (n : ℕ) (os : List ℕ) (xs : List Lexeme) → Above n (offsets xs) → Marks (n ∷ os) xs → Marks os xs
  marks_later n os [] h m = tt
  marks_later n os (x ∷ xs) h m = (m.0 ∙ has_later n x.offset os h.0, marks_later n os xs h.1 m.1)

  starts_are_by : (x : Lexeme) (xs : List Lexeme) (o : ℕ) (os : List ℕ) → Above x.offset (offsets xs) → Rising (o ∷ os) → Found (x ∷ xs) (o ∷ os) → Marks (o ∷ os) (x ∷ xs) →
      ((ns : List ℕ) → Rising ns → Found xs ns → Marks ns xs → marked_offsets mark xs ≡ ns) →
      (b : Bool) → (o == x.offset) ≡ b → marked_offsets mark (x ∷ xs) ≡ o ∷ os
  starts_are_by x xs o os up rise f m later true e =
      let same : o ≡ x.offset = eqb-true o x.offset e in
      let here : has x.offset (o ∷ os) ≡ true = ap (λ b. b || has x.offset os) (eq-eqb x.offset o (sym same)) in
      let above : Above x.offset os = subst (λ n. Above n os) same rise.0 in
      let rest = later os rise.1 (found_later o xs x os above f.1) (marks_later o os xs (subst (λ n. Above n (offsets xs)) (sym same) up) m.1) in
      ap (λ b. cond b (x.offset ∷ marked_offsets mark xs) (marked_offsets mark xs)) (m.0 ∙ here)
      ∙ ap (λ n. n ∷ marked_offsets mark xs) (sym same) ∙ ap (λ ns. o ∷ ns) rest
  starts_are_by x xs o os up rise f m later false e =
      let there : has o (offsets xs) ≡ true = sym (ap (λ b. b || has o (offsets xs)) e) ∙ f.0 in
      let less : x.offset < o = greater x.offset o (offsets xs) up there in
      let above : Above x.offset (o ∷ os) = (less, above_more x.offset o os (omega arith) rise.0) in
      let none : has x.offset (o ∷ os) ≡ false = not_above x.offset (o ∷ os) above in
      ap (λ b. cond b (x.offset ∷ marked_offsets mark xs) (marked_offsets mark xs)) (m.0 ∙ none)
      ∙ later (o ∷ os) rise (found_later o xs x (o ∷ os) above f) m.1

  none_start : (xs : List Lexeme) → Marks [] xs → marked_offsets mark xs ≡ []
  none_start [] m = refl
  none_start (x ∷ xs) m = ap (λ b. cond b (x.offset ∷ marked_offsets mark xs) (marked_offsets mark xs)) m.0 ∙ none_start xs m.1

  pub starts_are : (xs : List Lexeme) (os : List ℕ) → Rising (offsets xs) → Rising os → Found xs os → Marks os xs → marked_offsets mark xs ≡ os
  starts_are xs [] up rise f m = none_start xs m
  starts_are [] (o ∷ os) up rise f m = let never : false ≡ true = f.0 in absurd (cc)
  starts_are (x ∷ xs) (o ∷ os) up rise f m =
      starts_are_by x xs o os up.0 rise f m (λ ns r g n. starts_are xs ns up.1 r g n) (o == x.offset) refl

-- the offsets of tokens rise

at_least : (n size : ℕ) (text : List ℕ) (xs : List Lexeme) → Lexes size text xs end → length text ≤ size → n + 1 ≤ size - length text → Above n (map (λ x. x.offset) xs)
at_least n size text [] l fits low = tt
at_least n size text (x ∷ xs) l fits low =
    let skip = Skip-le l.2 in
    let shorter = Spelling-shorter l.0 x.token l.1 l.3 in
    let place : x.offset ≡ size - length l.0 = l.4 in
    (omega arith, at_least n size l.1 xs l.6 (omega arith) (omega arith))

pub tokens_rise : (size : ℕ) (text : List ℕ) (xs : List Lexeme) → Lexes size text xs end → length text ≤ size → Rising (map (λ x. x.offset) xs)
tokens_rise size text [] l fits = tt
tokens_rise size text (x ∷ xs) l fits =
    let skip = Skip-le l.2 in
    let shorter = Spelling-shorter l.0 x.token l.1 l.3 in
    let place : x.offset ≡ size - length l.0 = l.4 in
    (at_least x.offset size l.1 xs l.6 (omega arith) (omega arith), tokens_rise size l.1 xs l.6 (omega arith))

-- positions in order

abbrev AtMost : Pos → Pos → Type 0
AtMost p q = (p.file ≤ q.file) × (p.file ≡ q.file → p.offset ≤ q.offset)

at_most_trans : (p q r : Pos) → AtMost p q → AtMost q r → AtMost p r
at_most_trans p q r one other =
    let file = one.0 in
    let files = other.0 in (
      omega arith,
      λ e.
          let same : p.file ≡ q.file = omega arith in
          let there : q.file ≡ r.file = omega arith in
          let less = one.1 same in
          let least = other.1 there in
          omega arith,
    )

at_most_file : (p q : Pos) → is_lt (position_cmp q p) ≡ false → p.file ≤ q.file
at_most_file p q h = grind (arith, nat_tests)

at_most_offset : (p q : Pos) → is_lt (position_cmp q p) ≡ false → p.file ≡ q.file → p.offset ≤ q.offset
at_most_offset p q h e = grind (arith, nat_tests)

-- each is at most each later one
abbrev Ordered : List Pos → Type 0
Ordered [] = Unit {0}
Ordered (p ∷ ps) = AllByRecursion (λ q. AtMost p q) ps × Ordered ps

tail_sorted : (p : Pos) (ps : List Pos) → IsSorted position_cmp (p ∷ ps) → IsSorted position_cmp ps
tail_sorted p ps s = λ k d low less.
    let one : get_or (p ∷ ps) (k + 1 + 1) d ≡ get_or ps (k + 1) d = ap (λ n. get_or (p ∷ ps) n d) (omega arith) ∙ get_or-append-add (p ∷ []) ps (k + 1) d in
    let other : get_or (p ∷ ps) (k + 1) d ≡ get_or ps k d = ap (λ n. get_or (p ∷ ps) n d) (omega arith) ∙ get_or-append-add (p ∷ []) ps k d in
    sym (ap (λ x. is_lt (position_cmp x (get_or (p ∷ ps) (k + 1) d))) one ∙ ap (λ x. is_lt (position_cmp (get_or ps (k + 1) d) x)) other) ∙ s (k + 1) d (omega arith) (omega arith)

all_after : (p q : Pos) (ps : List Pos) → AtMost p q → AllByRecursion (λ r. AtMost q r) ps → AllByRecursion (λ r. AtMost p r) ps
all_after p q [] h all = tt
all_after p q (r ∷ ps) h all = (at_most_trans p q r h all.0, all_after p q ps h all.1)

ordered : (ps : List Pos) → IsSorted position_cmp ps → Ordered ps
ordered [] s = tt
ordered (p ∷ []) s = (tt, tt)
ordered (p ∷ q ∷ ps) s =
    let more = ordered (q ∷ ps) (tail_sorted p (q ∷ ps) s) in
    let first = s 0 p (omega arith) (omega arith) in
    let least : AtMost p q = (at_most_file p q first, at_most_offset p q first) in
    ((least, all_after p q ps least more.0), more)

-- the offsets of positions in a file
abbrev pub offsets_of : ℕ → List Pos → List ℕ
offsets_of file ps = map (λ p. p.offset) (filter (λ p. file == p.file) ps)

same_there : (p q : Pos) → p.file ≡ q.file → p.offset ≡ q.offset → same_place p q ≡ true
same_there p q file offset = and_from (p.file == q.file) (p.offset == q.offset) (eq-eqb p.file q.file file) (eq-eqb p.offset q.offset offset)

above_by : (file n : ℕ) (q : Pos) (ps : List Pos) (b : Bool) → (b ≡ true → n < q.offset) → Above n (offsets_of file ps) →
    Above n (map (λ p. p.offset) (cond b (q ∷ filter (λ p. file == p.file) ps) (filter (λ p. file == p.file) ps)))
above_by file n q ps true h more = (h refl, more)
above_by file n q ps false h more = more

above : (file : ℕ) (p : Pos) (ps : List Pos) → p.file ≡ file → AllByRecursion (λ q. AtMost p q) ps → list_any (same_place p) ps ≡ false → Above p.offset (offsets_of file ps)
above file p [] in_it all away = tt
above file p (q ∷ ps) in_it all away =
    let both = or-false (same_place p q) (list_any (same_place p) ps) away in
    above_by file p.offset q ps (file == q.file)
    (λ e.
    let there : file ≡ q.file = eqb-true file q.file e in
    let most : p.offset ≤ q.offset = all.0.1 (in_it ∙ there) in
    let other : p.offset ≡ q.offset → ⊥ = λ (s : p.offset ≡ q.offset). clash (same_place p q) (same_there p q (in_it ∙ there) s) both.0 in
    omega arith)
    (above file p ps in_it all.1 both.1)

rise_by : (file : ℕ) (p : Pos) (ps : List Pos) (b : Bool) → (b ≡ true → Above p.offset (offsets_of file ps)) → Rising (offsets_of file ps) →
    Rising (map (λ q. q.offset) (cond b (p ∷ filter (λ q. file == q.file) ps) (filter (λ q. file == q.file) ps)))
rise_by file p ps true h more = (h refl, more)
rise_by file p ps false h more = more

offsets_rise : (file : ℕ) (ps : List Pos) → Ordered ps → are_apart ps ≡ true → Rising (offsets_of file ps)
offsets_rise file [] up away = tt
offsets_rise file (p ∷ ps) up away =
    let both = and_parts (not (list_any (same_place p) ps)) (are_apart ps) away in
    rise_by file p ps (file == p.file)
    (λ e. above file p ps (sym (eqb-true file p.file e)) up.0 (not-false (list_any (same_place p) ps) both.0))
    (offsets_rise file ps up.1 both.1)

pub places_rise : (file : ℕ) (ps : List Pos) → IsSorted position_cmp ps → are_apart ps ≡ true → Rising (offsets_of file ps)
places_rise file ps s away = offsets_rise file ps (ordered ps s) away

-- whether a token is at one of the positions

marked_by : (file offset : ℕ) (p : Pos) (ps : List Pos) (b : Bool) → list_any (same_place (in_file file offset)) ps ≡ has offset (offsets_of file ps) →
    (b && (offset == p.offset)) || list_any (same_place (in_file file offset)) ps
    ≡ has offset (map (λ q. q.offset) (cond b (p ∷ filter (λ q. file == q.file) ps) (filter (λ q. file == q.file) ps)))
marked_by file offset p ps true more =
    ap (λ b. (offset == p.offset) || b) more
marked_by file offset p ps false more = more

pub is_marked : (file offset : ℕ) (ps : List Pos) → list_any (same_place (in_file file offset)) ps ≡ has offset (offsets_of file ps)
is_marked file offset [] = refl
is_marked file offset (p ∷ ps) = marked_by file offset p ps (file == p.file) (is_marked file offset ps)

pub are_marked : (file : ℕ) (ps : List Pos) (xs : List Lexeme) → Marks (λ n. list_any (same_place (in_file file n)) ps) (offsets_of file ps) xs
are_marked file ps [] = tt
are_marked file ps (x ∷ xs) = (is_marked file x.offset ps, are_marked file ps xs)
