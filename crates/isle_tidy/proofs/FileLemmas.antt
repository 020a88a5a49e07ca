-- What comes of files, one after another.
use Rattle.std.proofs.Common.{◌≡◌, ◌≢◌, ◌<◌, ◌≤◌, ◌+◌, ◌⊎◌, inl, inr, ⊎_elim, ◌++◌, [], ◌∷◌, ℕ, max, length, take, List, Option, None, Some, refl, sym, ap, ap₂, ◌∙◌, subst, arith}
use Rattle.std.proofs.KnownBytes.{Keeps-refl, Keeps-trans}
use Rattle.std.proofs.Math.Nat.{max-le}
use Rattle.std.proofs.lemmas.List.{length-append, length-take-le, take_all}
use Rattle.std.specs.Io.KnownBytes.{Keeps}
use Rattle.isle_cli.specs.Failure.{status_of}
use Rattle.isle_cli.specs.declared.failure.Failure.{Failure}
use Rattle.isle_cli.specs.declared.failure.Failure.TheVariants as failures
use Rattle.isle_cli.specs.Streams.{Writes}
use Rattle.isle_tidy_core.specs.Tidied.{IsUntidy}
use Rattle.isle_tidy.specs.declared.listings.Listing.{Listing}
use Rattle.isle_tidy.specs.Doing.{EndsFile, EndFiles, EndsPrograms, EndsSome, FailsListing, IsFileFailure, IsListing, ListsFile, RunsOnFiles, greatest}

-- where the output is left alone
pub lists-kept : (listing : Option Listing) (status : ℕ) (a : Option (List ℕ)) → ListsFile listing status a a
lists-kept None status a = Keeps-refl a
lists-kept (Some l) status a = inl (Keeps-refl a)

module _ (listing : Option Listing) where
  pub runs-none : (output faults : Option (List ℕ)) → RunsOnFiles listing 0 0 output output faults faults
  runs-none output faults = ([], inl (omega arith), refl, (refl, refl))

  pub runs-one : (status : ℕ) (output output' faults faults' : Option (List ℕ)) → EndsFile listing status output output' faults faults' → RunsOnFiles listing 1 status output output' faults faults'
  runs-one status output output' faults faults' ends = (status ∷ [], inl (omega arith), omega arith, (output', faults', ends, (refl, refl)))

  greatest-both : (ss ts : List ℕ) → greatest (ss ++ ts) ≡ max (greatest ss) (greatest ts)
  greatest-both [] ts = omega arith
  greatest-both (s ∷ ss) ts = ap (max s) (greatest-both ss ts) ∙ omega arith

  ends-both : (ss ts : List ℕ) (a b c p q r : Option (List ℕ)) → EndFiles listing ss a b p q → EndFiles listing ts b c q r → EndFiles listing (ss ++ ts) a c p r
  ends-both [] ts a b c p q r none rest = subst (λ x. EndFiles listing ts x c p r) none.0 (subst (λ x. EndFiles listing ts b c x r) none.1 rest)
  ends-both (s ∷ ss) ts a b c p q r ends rest = (ends.0, ends.1, ends.2, ends-both ss ts ends.0 b c ends.1 q r ends.3 rest)

  -- of no file, and of two
  pub some-none : (a p : Option (List ℕ)) → EndsSome listing 0 a a p p
  some-none a p = record { known = omega arith; used = λ two. omega (arith, two); unwritten = λ zero. Keeps-refl a; quiet = λ zero. Keeps-refl p; in_place = λ off. Keeps-refl a }

  pub ends-none : (a p : Option (List ℕ)) → EndsFile listing 0 a a p p
  ends-none a p = (some-none a p, lists-kept listing 0 a)

  pub ends-then : (s t : ℕ) (a b c p q r : Option (List ℕ)) → EndsSome listing s a b p q → EndsSome listing t b c q r → EndsSome listing (max s t) a c p r
  ends-then s t a b c p q r first second = record {
    known = max-le first.known second.known;
    used = λ two. let here : s ≢ 2 = first.used in let further : t ≢ 2 = second.used in omega (arith, two, here, further);
    unwritten = λ zero. Keeps-trans a b c (first.unwritten (omega (arith, zero))) (second.unwritten (omega (arith, zero)));
    quiet = λ zero. Keeps-trans p q r (first.quiet (omega (arith, zero))) (second.quiet (omega (arith, zero)));
    in_place = λ off. Keeps-trans a b c (first.in_place off) (second.in_place off);
  }

  ends-all : (ss : List ℕ) (a b p q : Option (List ℕ)) → EndFiles listing ss a b p q → EndsSome listing (greatest ss) a b p q
  ends-all [] a b p q none = subst (λ x. EndsSome listing 0 a x p q) (sym none.0) (subst (λ y. EndsSome listing 0 a a p y) (sym none.1) (some-none a p))
  ends-all (s ∷ ss) a b p q (mid, said, first, rest) = ends-then s (greatest ss) a mid b p said q first.0 (ends-all ss mid b said q rest)

  -- more files
  least-both : (m n s t : ℕ) (ss ts : List ℕ) → s ≤ 5 → t ≤ 5 → (m ≤ length ss) ⊎ ((listing ≢ None) × (s ≡ 5)) → (n ≤ length ts) ⊎ ((listing ≢ None) × (t ≡ 5))
      → (m + n ≤ length (ss ++ ts)) ⊎ ((listing ≢ None) × (max s t ≡ 5))
  least-both m n s t ss ts few low (inl some) (inl others) = inl (omega (arith, some, others, length-append ss ts))
  least-both m n s t ss ts few low (inl some) (inr over) = inr (over.0, omega (arith, few, over.1))
  least-both m n s t ss ts few low (inr over) others = inr (over.0, omega (arith, low, over.1))

  pub runs-then : (m n s t : ℕ) (a b c p q r : Option (List ℕ)) → RunsOnFiles listing m s a b p q → RunsOnFiles listing n t b c q r → RunsOnFiles listing (m + n) (max s t) a c p r
  runs-then m n s t a b c p q r (ss, some, first, ends) (ts, others, second, end) =
      let few : s ≤ 5 = subst (λ x. x ≤ 5) (sym first) (ends-all ss a b p q ends).known in
      let low : t ≤ 5 = subst (λ x. x ≤ 5) (sym second) (ends-all ts b c q r end).known in
      (ss ++ ts, least-both m n s t ss ts few low some others, ap₂ max first second ∙ sym (greatest-both ss ts), ends-both ss ts a b c p q r ends end)

  least-as : (least all m k : ℕ) (ss : List ℕ) → least ≤ m → all ≡ k → (m ≤ length ss) ⊎ ((listing ≢ None) × (k ≡ 5)) → (least ≤ length ss) ⊎ ((listing ≢ None) × (all ≡ 5))
  least-as least all m k ss fewer is (inl some) = inl (omega (arith, fewer, some))
  least-as least all m k ss fewer is (inr over) = inr (over.0, is ∙ over.1)

  pub runs-then-as : (m n s t least all : ℕ) (a b c p q r : Option (List ℕ)) → RunsOnFiles listing m s a b p q → RunsOnFiles listing n t b c q r → least ≤ m + n → all ≡ max s t → RunsOnFiles listing least all a c p r
  runs-then-as m n s t least all a b c p q r first second fewer is =
      let both = runs-then m n s t a b c p q r first second in
      (both.0, least-as least all (m + n) (max s t) both.0 fewer is both.1, is ∙ both.2, both.3)

  -- the output failed
  pub runs-over : (m n status : ℕ) (a b p q : Option (List ℕ)) → listing ≢ None → status ≡ 5 → RunsOnFiles listing m status a b p q → RunsOnFiles listing n status a b p q
  runs-over m n status a b p q listed five (ss, some, is, ends) = (ss, inr (listed, five), is, ends)

  -- one element more
  pub runs-next : {A : Type 0} (names : List A) (i s t all : ℕ) (a b c p q r : Option (List ℕ)) → i < length names → RunsOnFiles listing (length (take i names)) s a b p q → RunsOnFiles listing 1 t b c q r → all ≡ max s t
      → RunsOnFiles listing (length (take (i + 1) names)) all a c p r
  runs-next {A} names i s t all a b c p q r within first second is =
      runs-then-as (length (take i names)) 1 s t (length (take (i + 1) names)) all a b c p q r first second (omega (arith, within, length-take-le i names (omega (arith, within)), length-take-le (i + 1) names (omega (arith, within)))) is

  -- all elements
  pub runs-done : {A : Type 0} (names : List A) (i status : ℕ) (a b p q : Option (List ℕ)) → length names ≤ i → RunsOnFiles listing (length (take i names)) status a b p q → RunsOnFiles listing (length names) status a b p q
  runs-done names i status a b p q past runs = subst (λ ns. RunsOnFiles listing (length ns) status a b p q) (take_all i names past) runs

  -- files are found
  pub runs-some : (n s : ℕ) (a b p q : Option (List ℕ)) → 1 ≤ n → RunsOnFiles listing n s a b p q → RunsOnFiles listing 1 s a b p q
  runs-some n s a b p q some (ss, least, is, ends) = (ss, least-as 1 s n s ss some refl least, is, ends)

  -- a status past 0
  ends-some : (status : ℕ) (a b p q : Option (List ℕ)) → 1 ≤ status → status ≤ 5 → status ≢ 2 → (listing ≡ None → Keeps a b) → EndsSome listing status a b p q
  ends-some status a b p q some most used kept = record {
    known = most;
    used = used;
    unwritten = λ zero. absurd (omega (arith, zero, some));
    quiet = λ zero. absurd (omega (arith, zero, some));
    in_place = kept;
  }

  -- nothing is listed of a file
  kept-ends : (status : ℕ) (a p q : Option (List ℕ)) → 1 ≤ status → status ≤ 5 → status ≢ 2 → EndsFile listing status a a p q
  kept-ends status a p q some most used = (ends-some status a a p q some most used (λ off. Keeps-refl a), lists-kept listing status a)

  -- it fails
  pub failed-ends : (failure : Failure) (status : ℕ) (a p q : Option (List ℕ)) → IsFileFailure failure → status ≡ status_of failure → EndsFile listing status a a p q
  failed-ends (failures.Refused line) status a p q why is = kept-ends status a p q (omega (arith, is)) (omega (arith, is)) (λ two. omega (arith, is, two))
  failed-ends failures.Usage status a p q why is = absurd (why refl)
  failed-ends failures.Input status a p q why is = kept-ends status a p q (omega (arith, is)) (omega (arith, is)) (λ two. omega (arith, is, two))
  failed-ends failures.Memory status a p q why is = kept-ends status a p q (omega (arith, is)) (omega (arith, is)) (λ two. omega (arith, is, two))
  failed-ends failures.Output status a p q why is = kept-ends status a p q (omega (arith, is)) (omega (arith, is)) (λ two. omega (arith, is, two))

  -- it can't be read, or memory was refused
  pub unread-ends : (status : ℕ) (a p q : Option (List ℕ)) → (status ≡ 3) ⊎ (status ≡ 4) → EndsFile listing status a a p q
  unread-ends status a p q which =
      kept-ends status a p q (⊎_elim (λ e. omega (arith, e)) (λ e. omega (arith, e)) which) (⊎_elim (λ e. omega (arith, e)) (λ e. omega (arith, e)) which)
      (λ two. ⊎_elim (λ e. omega (arith, e, two)) (λ e. omega (arith, e, two)) which)

  -- some names can't be read, and then files are done
  pub missed-first : (n status all : ℕ) (a b p q r : Option (List ℕ)) → RunsOnFiles listing n status a b q r → all ≡ max status 3 → RunsOnFiles listing 1 all a b p r
  missed-first n status all a b p q r runs is =
      runs-then-as 1 n 3 status 1 all a a b p q r (runs-one 3 a a p q (unread-ends 3 a p q (inl refl))) runs (omega arith) (omega (arith, is))

  -- memory was refused
  pub starved : (status : ℕ) (a p q : Option (List ℕ)) → status ≡ 4 → RunsOnFiles listing 1 status a a p q
  starved status a p q is = runs-one status a a p q (unread-ends status a p q (inr is))

  -- of all of them the same holds as of one
  pub runs-end : (n status : ℕ) (a b p q : Option (List ℕ)) → RunsOnFiles listing n status a b p q → EndsSome listing status a b p q
  runs-end n status a b p q (ss, some, is, ends) = subst (λ s. EndsSome listing s a b p q) (sym is) (ends-all ss a b p q ends)

  -- what comes of the files of programs, too
  pub programs-known : (status : ℕ) (a b : Option (List ℕ)) → EndsPrograms listing status a b → status ≤ 5
  programs-known status a b (inl (low, high, kept)) = omega (arith, high)
  programs-known status a b (inr (p, q, runs)) = (runs-end 0 status a b p q runs).known

  pub programs-unwritten : (status : ℕ) (a b : Option (List ℕ)) → EndsPrograms listing status a b → status ≡ 0 → Keeps a b
  programs-unwritten status a b (inl (low, high, kept)) zero = kept
  programs-unwritten status a b (inr (p, q, runs)) zero = (runs-end 0 status a b p q runs).unwritten zero

  pub programs-in_place : (status : ℕ) (a b : Option (List ℕ)) → EndsPrograms listing status a b → listing ≡ None → Keeps a b
  programs-in_place status a b (inl (low, high, kept)) off = kept
  programs-in_place status a b (inr (p, q, runs)) off = (runs-end 0 status a b p q runs).in_place off

  pub programs-none : (status : ℕ) (a b : Option (List ℕ)) → (status ≡ 2) ⊎ (status ≡ 3) → Keeps a b → EndsPrograms listing status a b
  programs-none status a b (inl two) kept = inl (omega (arith, two), omega (arith, two), kept)
  programs-none status a b (inr three) kept = inl (omega (arith, three), omega (arith, three), kept)

  pub programs-fail : (failure : Failure) (status : ℕ) (a b : Option (List ℕ)) → (failure ≡ failures.Memory) ⊎ (failure ≡ failures.Usage) → status ≡ status_of failure → Keeps a b → EndsPrograms listing status a b
  programs-fail failure status a b (inl memory) is kept = let four : status ≡ 4 = is ∙ ap status_of memory in inl (omega (arith, four), omega (arith, four), kept)
  programs-fail failure status a b (inr usage) is kept = let two : status ≡ 2 = is ∙ ap status_of usage in inl (omega (arith, two), omega (arith, two), kept)

  pub programs-run : (own : Option Listing) (n status : ℕ) (a b p q : Option (List ℕ)) → own ≡ listing → RunsOnFiles own n status a b p q → EndsPrograms listing status a b
  programs-run own n status a b p q is (ss, some, all, ends) = inr (p, q, (ss, inl (omega arith), all, subst (λ k. EndFiles k ss a b p q) is ends))

-- A file that would change is listed.
module _ (l : Listing) (name text : List ℕ) where
  pub listed-done : (a b p : Option (List ℕ)) → IsUntidy text → Writes a b (IsListing l name text) → EndsFile (Some l) 1 a b p p
  listed-done a b p untidy written = (
    ends-some (Some l) 1 a b p p (omega arith) (omega arith) (λ two. omega (arith, two)) (λ off. absurd (cc)),
    inr (name, text, untidy, inl (refl, written)),
  )

  -- that fails
  pub listed-fails : (failure : Failure) (status : ℕ) (a b p q : Option (List ℕ)) → IsUntidy text → FailsListing failure l name text a b → status ≡ status_of failure → EndsFile (Some l) status a b p q
  listed-fails (failures.Refused line) status a b p q untidy why is =
      (ends-some (Some l) status a b p q (omega (arith, is)) (omega (arith, is)) (λ two. omega (arith, is, two)) (λ off. why.1), inl why.1)
  listed-fails failures.Usage status a b p q untidy why is = absurd why.0
  listed-fails failures.Input status a b p q untidy why is = absurd why.0
  listed-fails failures.Memory status a b p q untidy why is =
      (ends-some (Some l) status a b p q (omega (arith, is)) (omega (arith, is)) (λ two. omega (arith, is, two)) (λ off. why.1), inl why.1)
  listed-fails failures.Output status a b p q untidy why is =
      (ends-some (Some l) status a b p q (omega (arith, is)) (omega (arith, is)) (λ two. omega (arith, is, two)) (λ off. absurd (cc)), inr (name, text, untidy, inr (is, why)))

-- the same of what is asked for
pub listed-as : (listing : Option Listing) (l : Listing) (status : ℕ) (a b p q : Option (List ℕ)) → listing ≡ Some l → EndsFile (Some l) status a b p q → EndsFile listing status a b p q
listed-as listing l status a b p q is ends = subst (λ x. EndsFile x status a b p q) (sym is) ends
