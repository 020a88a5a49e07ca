-- Lists of names: what they contain, what they have by text, and what a text means in them.
use Rattle.std.proofs.Common.{◌≡◌, ℕ, ◌+◌, ◌≤◌, List, [], ◌∷◌, ◌++◌, Bool, true, false, cond, ◌||◌, Some, Contains, bytes_eq, refl, sym, ap, subst, ◌∙◌, arith, ⊎_elim, if◌then◌else◌}
use Rattle.std.specs.List.{count_by, filter, sum_by}
use Rattle.std.proofs.lemmas.List.Elements.{Contains-append_cases, Contains-append_right}
use Rattle.std.proofs.lemmas.List.Folds.{list_any-append}
use Rattle.std.proofs.lemmas.List.Sums.{sum_by-append}
use Rattle.isle_ast_names.specs.Tree.{Name}
use Rattle.isle_index_laws.specs.scopes.Reads.{meant}
use Rattle.isle_index_laws.proofs.scopes.Occurrences.{no_element}
use Rattle.isle_index_laws.proofs.scopes.Programs.{alone, here}
use Rattle.isle_lint_core.specs.Names.{has, kept_if}

-- elements

pub kept_is : (b : Bool) (n name : Name) → Contains (kept_if b n) name → (b ≡ true) × (n ≡ name)
kept_is true n name h = (refl, alone n name h)
kept_is false n name h = absurd (no_element name h)

pub kept : (b : Bool) (n : Name) → b ≡ true → Contains (kept_if b n) n
kept true n e = here [] n
kept false n e = absurd (cc)

pub filtered : (test : Name → Bool) (ns : List Name) (n : Name) → Contains (filter test ns) n → Contains ns n × (test n ≡ true)
filtered test [] n h = absurd (no_element n h)
filtered test (x ∷ xs) n h = by (test x) refl (λ r. filtered test xs n r) h
  where
    by : (b : Bool) → test x ≡ b → (Contains (filter test xs) n → Contains xs n × (test n ≡ true)) →
        Contains (cond b (x ∷ filter test xs) (filter test xs)) n → Contains (x ∷ xs) n × (test n ≡ true)
    by true e go h =
        ⊎_elim
        (λ this. let same : x ≡ n = alone x n this in (subst (Contains (x ∷ xs)) same (here xs x), ap test (sym same) ∙ e))
        (λ later. let rest = go later in (Contains-append_right (x ∷ []) xs n rest.0, rest.1))
        (Contains-append_cases (x ∷ []) (filter test xs) n h)
    by false e go h = let rest = go h in (Contains-append_right (x ∷ []) xs n rest.0, rest.1)

pub passed : (test : Name → Bool) (ns : List Name) (n : Name) → Contains ns n → test n ≡ true → Contains (filter test ns) n
passed test [] n h e = absurd (no_element n h)
passed test (x ∷ xs) n h e =
    ⊎_elim
    (λ this. let same : x ≡ n = alone x n this in first (test x) (ap test same ∙ e) same)
    (λ later. rest (test x) (passed test xs n later e))
    (Contains-append_cases (x ∷ []) xs n h)
  where
    first : (b : Bool) → b ≡ true → x ≡ n → Contains (cond b (x ∷ filter test xs) (filter test xs)) n
    first true e same = subst (Contains (x ∷ filter test xs)) same (here (filter test xs) x)
    first false e same = absurd (cc)

    rest : (b : Bool) → Contains (filter test xs) n → Contains (cond b (x ∷ filter test xs) (filter test xs)) n
    rest true h = Contains-append_right (x ∷ []) (filter test xs) n h
    rest false h = h

-- a name that two lists contain is counted twice

once : (test : Name → Bool) (ns : List Name) (n : Name) → Contains ns n → test n ≡ true → 1 ≤ count_by test ns
once test [] n h e = absurd (no_element n h)
once test (x ∷ xs) n h e =
    let f : Name → ℕ = λ y. cond (test y) 1 0 in
    let all : sum_by f (x ∷ xs) ≡ sum_by f (x ∷ []) + sum_by f xs = sum_by-append f (x ∷ []) xs in
    ⊎_elim
    (λ this.
    let one : f x ≡ 1 = ap f (alone x n this) ∙ ap (λ b. cond b 1 0) e in
    let counted : sum_by f (x ∷ []) ≡ 0 + f x = refl in
    omega (arith, all, one, counted))
    (λ later. let rest : 1 ≤ sum_by f xs = once test xs n later e in omega (arith, all, rest))
    (Contains-append_cases (x ∷ []) xs n h)

pub twice : (test : Name → Bool) (xs ys : List Name) (n : Name) → Contains xs n → Contains ys n → test n ≡ true → count_by test (xs ++ ys) ≡ 1 → ⊥
twice test xs ys n a b e one =
    let f : Name → ℕ = λ y. cond (test y) 1 0 in
    let all : sum_by f (xs ++ ys) ≡ sum_by f xs + sum_by f ys = sum_by-append f xs ys in
    let first : 1 ≤ sum_by f xs = once test xs n a e in
    let second : 1 ≤ sum_by f ys = once test ys n b e in
    let is : sum_by f (xs ++ ys) ≡ 1 = one in
    omega (arith, all, first, second, is)

-- and where one is counted, two are the same
pub single : (test : Name → Bool) (ns : List Name) (m n : Name) → count_by test ns ≡ 1 → Contains ns m → Contains ns n → test m ≡ true → test n ≡ true → m ≡ n
single test [] m n one a b e f = absurd (no_element m a)
single test (x ∷ xs) m n one a b e f =
    let score : Name → ℕ = λ y. cond (test y) 1 0 in
    let all : sum_by score (x ∷ xs) ≡ sum_by score (x ∷ []) + sum_by score xs = sum_by-append score (x ∷ []) xs in
    let is : sum_by score (x ∷ xs) ≡ 1 = one in
    ⊎_elim
    (λ first. ⊎_elim
    (λ also. sym (alone x m first) ∙ alone x n also)
    (λ later.
    let front : 1 ≤ sum_by score (x ∷ []) = once test (x ∷ []) m first e in
    let back : 1 ≤ sum_by score xs = once test xs n later f in
    absurd (omega (arith, all, is, front, back)))
    (Contains-append_cases (x ∷ []) xs n b))
    (λ later. ⊎_elim
    (λ first.
    let front : 1 ≤ sum_by score (x ∷ []) = once test (x ∷ []) n first f in
    let back : 1 ≤ sum_by score xs = once test xs m later e in
    absurd (omega (arith, all, is, front, back)))
    (λ also.
    let back : 1 ≤ sum_by score xs = once test xs m later e in
    let rest : sum_by score xs ≡ 1 = omega (arith, all, is, back) in
    single test xs m n rest later also e f)
    (Contains-append_cases (x ∷ []) xs n b))
    (Contains-append_cases (x ∷ []) xs m a)

-- lists that have the same texts

abbrev pub SameTexts : (xs ys : List Name) → Type 0
SameTexts xs ys = (text : List ℕ) → has xs text ≡ has ys text

or_push : (a b : Bool) → a || (b || false) ≡ b || a
or_push true true = refl
or_push true false = refl
or_push false true = refl
or_push false false = refl

pub same_push : (xs ys : List Name) (n : Name) → SameTexts xs ys → SameTexts (xs ++ n ∷ []) (n ∷ ys)
same_push xs ys n same text =
    list_any-append (λ m. bytes_eq m.text text) xs (n ∷ [])
    ∙ or_push (has xs text) (bytes_eq n.text text)
    ∙ ap (λ b. bytes_eq n.text text || b) (same text)

pub same_more : (xs ys ns : List Name) → SameTexts xs ys → SameTexts (xs ++ ns) (ys ++ ns)
same_more xs ys ns same text =
    list_any-append (λ m. bytes_eq m.text text) xs ns
    ∙ ap (λ b. b || has ns text) (same text)
    ∙ sym (list_any-append (λ m. bytes_eq m.text text) ys ns)

-- a text means something in a list that has it

pub meant_had : (ns : List Name) (text : List ℕ) → has ns text ≡ true → (n : Name) × (meant ns text ≡ Some n)
meant_had [] text h = let never : false ≡ true = h in absurd (cc)
meant_had (x ∷ xs) text h = by (bytes_eq x.text text) (λ r. meant_had xs text r) h
  where
    by : (b : Bool) → (has xs text ≡ true → (n : Name) × (meant xs text ≡ Some n)) → b || has xs text ≡ true →
        (n : Name) × ((if b then Some x else meant xs text) ≡ Some n)
    by true go h = (x, refl)
    by false go h = go h

pub had_meant : (ns : List Name) (text : List ℕ) (n : Name) → meant ns text ≡ Some n → has ns text ≡ true
had_meant [] text n e = absurd (cc)
had_meant (x ∷ xs) text n e = by (bytes_eq x.text text) (λ r. had_meant xs text n r) e
  where
    by : (b : Bool) → (meant xs text ≡ Some n → has xs text ≡ true) → (if b then Some x else meant xs text) ≡ Some n → b || has xs text ≡ true
    by true go e = refl
    by false go e = go e
