-- What comes of names, one after another.
use Rattle.std.proofs.Common.{◌≡◌, ◌≢◌, ◌<◌, ◌≤◌, ◌+◌, ◌++◌, [], ◌∷◌, ℕ, zero, suc, None, max, get_or, length, map, take, List, Option, Bool, true, false, ◌||◌, codes, string_bytes, inl, inr, ⊎_elim, ◌⊎◌, refl, sym, ap, ◌∙◌, subst, arith}
use Rattle.std.proofs.KnownBytes.{Keeps-refl, Keeps-trans}
use Rattle.std.proofs.Math.Nat.{max-le}
use Rattle.std.proofs.lemmas.List.{map-append, take_all, take_more}
use Rattle.std.proofs.lemmas.Slice.Eq.{bytes_eq-Decides}
use Rattle.std.specs.Io.KnownBytes.{Keeps}
use Rattle.std.specs.Str.{bytes_eq}
use Rattle.std.specs.declared.alloc.Global.{Global}
use Rattle.std.specs.declared.string.String.{String}
use Rattle.isle_cli.specs.Arguments.{given_of, is_among, name_list, stdin_name, work_asked}
use Rattle.isle_cli.specs.Sources.{IsListing, empty_line}
use Rattle.isle_cli.specs.declared.arguments.Argument.{Argument}
use Rattle.isle_cli.specs.declared.program.Program.{Program}
use Rattle.isle_tidy.specs.declared.listings.Listing.{Listing}
use Rattle.isle_tidy.specs.Doing.{EndsName, EndNames, EndsSome, RunsAndTells, RunsOnAll, RunsOnAsked, RunsOnNames, greatest, listing_of}
use Rattle.isle_tidy.proofs.FileLemmas.{ends-then, runs-end, some-none}

some-behind : (xs ys : List ℕ) → ys ≢ [] → xs ++ ys ≢ []
some-behind [] ys some = some
some-behind (x ∷ xs) ys some = λ none. absurd (cc)

empty-told : (program : Program) (name : List ℕ) → empty_line program name ≢ []
empty-told program name = some-behind program.name.now (codes ": no .isle file in '" ++ (name ++ codes "'\n")) (λ none. absurd (cc))

pub nothing-behind : (xs ys zs : List ℕ) → zs ≡ xs ++ ys → zs ≡ [] → ys ≡ []
nothing-behind [] ys zs is none = sym is ∙ none
nothing-behind (x ∷ xs) ys zs is none = absurd (let no : x ∷ (xs ++ ys) ≡ [] = sym is ∙ none in cc)

-- where nothing is reported, a name stands for files
pub some-found : (program : Program) (excluded : List (List ℕ)) (name : List ℕ) (paths : List (String Global)) (told : List ℕ) → IsListing program excluded name (map string_bytes paths) told → told ≡ [] → 1 ≤ length paths
some-found program excluded name [] told (inl (_, _, some)) none = absurd (some refl none)
some-found program excluded name [] told (inr (_, is)) none = absurd (empty-told program name (sym is ∙ none))
some-found program excluded name (p ∷ paths) told listing none = omega arith

-- a name that is found to be another
pub other-than : (name other : List ℕ) → bytes_eq name other ≡ false → name ≢ other
other-than name other differs same = let both : true ≡ false = sym ((bytes_eq-Decides name other).1 same) ∙ differs in cc

-- what always holds of a status: it is one of the program's, and with 0 standard error got nothing
abbrev pub IsUsual : (status : ℕ) → (faults faults' : Option (List ℕ)) → Type 0
IsUsual status faults faults' = (status ≤ 5) × (status ≢ 2) × (status ≡ 0 → Keeps faults faults')

usual-then : (s t : ℕ) (p q r : Option (List ℕ)) → IsUsual s p q → IsUsual t q r → IsUsual (max s t) p r
usual-then s t p q r (known, used, quiet) (known', used', quiet') = (
  max-le known known',
  λ two. omega (arith, two, used, used'),
  λ zero. Keeps-trans p q r (quiet (omega (arith, zero))) (quiet' (omega (arith, zero))),
)

names-taken : (n : ℕ) (names : List (String Global)) → map string_bytes (take n names) ≡ take n (map string_bytes names)
names-taken zero names = refl
names-taken (suc n) [] = refl
names-taken (suc n) (name ∷ names) = ap (λ ns. string_bytes name ∷ ns) (names-taken n names)

module _ (program : Program) (listing : Option Listing) (stdin_name : List ℕ) where
  name-usual : (name : List ℕ) (s : ℕ) (i j a b p q : Option (List ℕ)) → EndsName program listing stdin_name name s i j a b p q → IsUsual s p q
  name-usual name s i j a b p q (inl (_, ends)) = (ends.known, ends.used, ends.quiet)
  name-usual name s i j a b p q (inr (_, _, runs)) = let ends = runs-end listing 1 s a b p q runs in (ends.known, ends.used, ends.quiet)

  names-usual : (names : List (List ℕ)) (ss : List ℕ) (i j a b p q : Option (List ℕ)) → EndNames program listing stdin_name names ss i j a b p q → IsUsual (greatest ss) p q
  names-usual [] [] i j a b p q none = (omega arith, (λ two. omega (arith, two)), λ zero. subst (λ x. Keeps p x) (sym none.2) (Keeps-refl p))
  names-usual [] (s ∷ ss) i j a b p q ends = absurd ends
  names-usual (n ∷ names) [] i j a b p q ends = absurd ends
  names-usual (n ∷ names) (s ∷ ss) i j a b p q (left, mid, said, first, rest) =
      usual-then s (greatest ss) p said q (name-usual n s i left a mid p said first) (names-usual names ss left j mid b said q rest)

  -- so it is of all of them
  pub names-end : (names : List (List ℕ)) (status : ℕ) (i j a b p q : Option (List ℕ)) → RunsOnNames program listing stdin_name names status i j a b p q → IsUsual status p q
  names-end names status i j a b p q (n, all, (ss, is, ends)) = subst (λ s. IsUsual s p q) (sym is) (names-usual (take n names) ss i j a b p q ends)

  other-first : (name : List ℕ) (names : List (List ℕ)) → is_among (name ∷ names) (codes "-") ≡ false → (name ≢ codes "-") × (is_among names (codes "-") ≡ false)
  other-first name names none = cases (bytes_eq name (codes "-")) refl
    where
      cases : (b : Bool) → bytes_eq name (codes "-") ≡ b → (name ≢ codes "-") × (is_among names (codes "-") ≡ false)
      cases true is = absurd (let no : true ≡ false = sym (ap (λ b. b || is_among names (codes "-")) is) ∙ none in cc)
      cases false is = (other-than name (codes "-") is, sym (ap (λ b. b || is_among names (codes "-")) is) ∙ none)

  -- names of files alone: the input isn't read, and the same holds of them as of one file
  names-files : (names : List (List ℕ)) (ss : List ℕ) (i j a b p q : Option (List ℕ)) → is_among names (codes "-") ≡ false → EndNames program listing stdin_name names ss i j a b p q
      → Keeps i j × EndsSome listing (greatest ss) a b p q
  names-files [] [] i j a b p q alone none = (
    subst (λ x. Keeps i x) (sym none.0) (Keeps-refl i),
    subst (λ x. EndsSome listing 0 a x p q) (sym none.1) (subst (λ y. EndsSome listing 0 a a p y) (sym none.2) (some-none listing a p)),
  )
  names-files [] (s ∷ ss) i j a b p q alone ends = absurd ends
  names-files (n ∷ names) [] i j a b p q alone ends = absurd ends
  names-files (n ∷ names) (s ∷ ss) i j a b p q alone (left, mid, said, inl (dash, _), rest) = absurd ((other-first n names alone).0 dash)
  names-files (n ∷ names) (s ∷ ss) i j a b p q alone (left, mid, said, inr (_, kept, runs), rest) =
      let others = names-files names ss left j mid b said q (other-first n names alone).1 rest in
      (Keeps-trans i left j kept others.0, ends-then listing s (greatest ss) a mid b p said q (runs-end listing 1 s a mid p said runs) others.1)

  first-alone : (n : ℕ) (names : List (List ℕ)) → is_among names (codes "-") ≡ false → is_among (take n names) (codes "-") ≡ false
  first-alone zero names alone = refl
  first-alone (suc n) [] alone = refl
  first-alone (suc n) (name ∷ names) alone =
      let both = other-first name names alone in
      or-none (bytes_eq name (codes "-")) (is_among (take n names) (codes "-")) (differs name (codes "-") both.0) (first-alone n names both.1)
    where
      or-none : (b c : Bool) → b ≡ false → c ≡ false → (b || c) ≡ false
      or-none false c none other = other
      or-none true c none other = absurd (cc)

      differs : (x y : List ℕ) → x ≢ y → bytes_eq x y ≡ false
      differs x y other = cases (bytes_eq x y) refl
        where
          cases : (b : Bool) → bytes_eq x y ≡ b → bytes_eq x y ≡ false
          cases false is = is
          cases true is = absurd (other ((bytes_eq-Decides x y).0 is))

  pub files-end : (names : List (List ℕ)) (status : ℕ) (i j a b p q : Option (List ℕ)) → RunsOnNames program listing stdin_name names status i j a b p q → is_among names (codes "-") ≡ false
      → Keeps i j × EndsSome listing status a b p q
  files-end names status i j a b p q (n, whole, (ss, is, ends)) alone =
      let all = names-files (take n names) ss i j a b p q (first-alone n names alone) ends in (all.0, subst (λ s. EndsSome listing s a b p q) (sym is) all.1)

  -- all names, or only the first ones
  pub names-all : (names : List (List ℕ)) (status : ℕ) (i j a b p q : Option (List ℕ)) → RunsOnAll program listing stdin_name names status i j a b p q → RunsOnNames program listing stdin_name names status i j a b p q
  names-all names status i j a b p q runs =
      let whole : take (length names) names ≡ names = take_all (length names) names (omega arith) in
      (length names, inl whole, subst (λ ns. RunsOnAll program listing stdin_name ns status i j a b p q) (sym whole) runs)

  pub names-some : (names : List (String Global)) (n status : ℕ) (i j a b p q : Option (List ℕ)) → listing ≢ None → status ≡ 5 → RunsOnAll program listing stdin_name (map string_bytes (take n names)) status i j a b p q
      → RunsOnNames program listing stdin_name (map string_bytes names) status i j a b p q
  names-some names n status i j a b p q listed five runs = (n, inr (listed, five), subst (λ ns. RunsOnAll program listing stdin_name ns status i j a b p q) (names-taken n names) runs)

  pub names-done : (names : List (String Global)) (n status : ℕ) (i j a b p q : Option (List ℕ)) → length names ≤ n → RunsOnAll program listing stdin_name (map string_bytes (take n names)) status i j a b p q
      → RunsOnNames program listing stdin_name (map string_bytes names) status i j a b p q
  names-done names n status i j a b p q past runs =
      names-all (map string_bytes names) status i j a b p q (subst (λ ns. RunsOnAll program listing stdin_name (map string_bytes ns) status i j a b p q) (take_all n names past) runs)

  -- no name
  pub no-names : (i a p : Option (List ℕ)) → RunsOnAll program listing stdin_name [] 0 i i a a p p
  no-names i a p = ([], refl, (refl, refl, refl))

  greatest-last : (ss : List ℕ) (s : ℕ) → greatest (ss ++ s ∷ []) ≡ max (greatest ss) s
  greatest-last [] s = omega arith
  greatest-last (t ∷ ss) s = ap (max t) (greatest-last ss s) ∙ omega arith

  names-last : (names : List (List ℕ)) (name : List ℕ) (ss : List ℕ) (s : ℕ) (i j k a b c p q r : Option (List ℕ)) → EndNames program listing stdin_name names ss i j a b p q
      → EndsName program listing stdin_name name s j k b c q r → EndNames program listing stdin_name (names ++ name ∷ []) (ss ++ s ∷ []) i k a c p r
  names-last [] name [] s i j k a b c p q r none ends =
      let At : Option (List ℕ) → Option (List ℕ) → Option (List ℕ) → Type 0 = λ x y z. EndsName program listing stdin_name name s x k y c z r in
      (k, c, r, subst (λ x. At x a p) none.0 (subst (λ y. At j y p) none.1 (subst (λ z. At j b z) none.2 ends)), (refl, refl, refl))
  names-last [] name (t ∷ ss) s i j k a b c p q r before ends = absurd before
  names-last (n ∷ names) name [] s i j k a b c p q r before ends = absurd before
  names-last (n ∷ names) name (t ∷ ss) s i j k a b c p q r (left, mid, said, first, rest) ends =
      (left, mid, said, first, names-last names name ss s left j k mid b c said q r rest ends)

  -- one name more
  pub one-name-on : (names : List (String Global)) (n : ℕ) (name : String Global) (status done all : ℕ) (i j k a b c p q r : Option (List ℕ)) → n < length names → name ≡ get_or names n name
      → RunsOnAll program listing stdin_name (map string_bytes (take n names)) status i j a b p q → EndsName program listing stdin_name (string_bytes name) done j k b c q r → all ≡ max status done
      → RunsOnAll program listing stdin_name (map string_bytes (take (n + 1) names)) all i k a c p r
  one-name-on names n name status done all i j k a b c p q r within is (ss, so_far, before) ends greater =
      let longer : map string_bytes (take n names) ++ string_bytes name ∷ [] ≡ map string_bytes (take (n + 1) names) =
      sym (ap (map string_bytes) (take_more names n name within ∙ ap (λ y. take n names ++ y ∷ []) (sym is)) ∙ map-append string_bytes (take n names) (name ∷ [])) in (
        ss ++ done ∷ [],
        greater ∙ ap (λ s. max s done) so_far ∙ sym (greatest-last ss done),
        subst (λ ns. EndNames program listing stdin_name ns (ss ++ done ∷ []) i k a c p r) longer (names-last (map string_bytes (take n names)) (string_bytes name) ss done i j k a b c p q r before ends),
      )

either-way : (names : List (List ℕ)) (A B : Type 0) → (names ≢ [] → A ⊎ B) → A ⊎ (names ≢ [] → B)
either-way [] A B named = inr (λ some. absurd (some refl))
either-way (n ∷ names) A B named = ⊎_elim (λ a. inl a) (λ b. inr (λ _. b)) (named (λ e. absurd (cc)))

-- what is said of the arguments, of what they ask for
pub asked-named : (program : Program) (xs ys : List Argument) (status : ℕ) (i j a b p q : Option (List ℕ)) → xs ≡ ys
    → (name_list (map given_of xs) ≢ [] → (status ≡ 4) × Keeps i j × Keeps a b
    ⊎ RunsAndTells program (listing_of (map given_of xs)) (stdin_name (map given_of xs)) (name_list (map given_of xs)) status i j a b p q)
    → (status ≡ 4) × Keeps i j × Keeps a b ⊎ RunsOnAsked program (work_asked (map given_of ys)) status i j a b p q
asked-named program xs ys status i j a b p q same named =
    let Of : List Argument → Type 0 = λ zs. (status ≡ 4) × Keeps i j × Keeps a b ⊎ RunsOnAsked program (work_asked (map given_of zs)) status i j a b p q in
    subst Of same (either-way (name_list (map given_of xs)) _ _ named)

-- the same of what the arguments say
pub named-as : (program : Program) (l l' : Option Listing) (s s' : List ℕ) (ns ns' : List (List ℕ)) (status : ℕ) (i j a b p q : Option (List ℕ)) → l ≡ l' → s ≡ s' → ns ≡ ns'
    → RunsAndTells program l s ns status i j a b p q → RunsAndTells program l' s' ns' status i j a b p q
named-as program l l' s s' ns ns' status i j a b p q listed called named runs =
    subst (λ x. RunsAndTells program x s' ns' status i j a b p q) listed
    (subst (λ x. RunsAndTells program l x ns' status i j a b p q) called (subst (λ x. RunsAndTells program l s x status i j a b p q) named runs))
