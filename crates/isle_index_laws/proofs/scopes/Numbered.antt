-- Events with numbers say the same of scopes as those with names.
use Rattle.std.proofs.Common.{◌≡◌, ◌⊎◌, inl, inr, ℕ, ◌+◌, ◌-◌, List, [], ◌∷◌, ◌++◌, Bool, true, false, Option, None, Some, bytes_eq, length, take, refl, sym, ap, subst, ◌∙◌, arith, zero, suc, if◌then◌else◌, Contains, ⊎_elim}
use Rattle.std.specs.Option.{is_some}
use Rattle.std.proofs.lemmas.List.Elements.{Contains-append_cases}
use Rattle.isle_ast_names.specs.Tree.{Name}
use Rattle.isle_resolve.specs.declared.event.Role.{Role}
use Rattle.isle_resolve.specs.Event.{EventNode, defines, uses, defines_variant, occurs, binds, reads, closes, ends}
use Rattle.isle_resolve.specs.Scopes.{BoundNode, SeenNode, after, binder, bound_more, last_bound, seen_from}
use Rattle.isle_resolve.specs.Scopes as scopes
use Rattle.isle_index_laws.specs.scopes.Uses.{variable_of}
use Rattle.isle_index_laws.proofs.scopes.Programs.{alone}
use Rattle.isle_index_laws.proofs.scopes.Scoped.{HasBy, IsOccurrenceOf, IsRead, last, named, or_else, step}

-- the name that the event of a number binds
module _ (who : ℕ → Option Name) where
  -- events, the first of which has this number
  abbrev pub AreNumbered : ℕ → List EventNode → Type 0
  AreNumbered i [] = Unit {0}
  AreNumbered i (e ∷ es) = (who i ≡ variable_of e) × AreNumbered (i + 1) es

  -- variables in scope by numbers and by names
  abbrev pub Match : List BoundNode → List Name → Type 0
  Match [] [] = Unit {0}
  Match [] (n ∷ ns) = ⊥
  Match (b ∷ bs) [] = ⊥
  Match (b ∷ bs) (n ∷ ns) = ((b.text ≡ n.text) × (who b.number ≡ Some n)) × Match bs ns

  -- a number and a name, if there is one
  abbrev pub Same : Option ℕ → Option Name → Type 0
  Same None None = Unit {0}
  Same None (Some n) = ⊥
  Same (Some k) None = ⊥
  Same (Some k) (Some n) = who k ≡ Some n

  same_or : (o q : Option ℕ) (p r : Option Name) → Same o p → Same q r → Same (scopes.or_else o q) (or_else p r)
  same_or None q None r first second = second
  same_or None q (Some n) r first second = absurd first
  same_or (Some k) q None r first second = absurd first
  same_or (Some k) q (Some n) r first second = first

  same_if : (b : Bool) (k : ℕ) (n : Name) → who k ≡ Some n → Same (if b then Some k else None) (if b then Some n else None)
  same_if true k n is = is
  same_if false k n is = tt

  pub match_last : (bound : List BoundNode) (names : List Name) (text : List ℕ) → Match bound names → Same (last_bound bound text) (last names text)
  match_last [] [] text m = tt
  match_last [] (n ∷ ns) text m = absurd m
  match_last (b ∷ bs) [] text m = absurd m
  match_last (b ∷ bs) (n ∷ ns) text m =
      same_or (last_bound bs text) (if bytes_eq b.text text then Some b.number else None) (last ns text) (named n text) (match_last bs ns text m.1)
      (subst (λ t. Same (if bytes_eq b.text text then Some b.number else None) (if bytes_eq t text then Some n else None)) m.0.0
      (same_if (bytes_eq b.text text) b.number n m.0.1))

  match_push : (bound : List BoundNode) (names : List Name) (n : Name) (i : ℕ) → who i ≡ Some n → Match bound names → Match (bound_more bound n i) (names ++ n ∷ [])
  match_push [] [] n i is m = ((refl, is), tt)
  match_push [] (x ∷ ns) n i is m = absurd m
  match_push (b ∷ bs) [] n i is m = absurd m
  match_push (b ∷ bs) (x ∷ ns) n i is m = (m.0, match_push bs ns n i is m.1)

  match_take : (k : ℕ) (bound : List BoundNode) (names : List Name) → Match bound names → Match (take k bound) (take k names)
  match_take zero bound names m = tt
  match_take (suc k) [] [] m = tt
  match_take (suc k) [] (x ∷ ns) m = absurd m
  match_take (suc k) (b ∷ bs) [] m = absurd m
  match_take (suc k) (b ∷ bs) (x ∷ ns) m = (m.0, match_take k bs ns m.1)

  match_length : (bound : List BoundNode) (names : List Name) → Match bound names → length bound ≡ length names
  match_length [] [] m = refl
  match_length [] (x ∷ ns) m = absurd m
  match_length (b ∷ bs) [] m = absurd m
  match_length (b ∷ bs) (x ∷ ns) m = ap suc (match_length bs ns m.1)

  same_some : (o : Option ℕ) (p : Option Name) → Same o p → is_some o ≡ is_some p
  same_some None None s = refl
  same_some None (Some n) s = absurd s
  same_some (Some k) None s = absurd s
  same_some (Some k) (Some n) s = refl

  match_if : (b : Bool) (bound more : List BoundNode) (names others : List Name) → Match bound names → Match more others →
      Match (if b then bound else more) (if b then names else others)
  match_if true bound more names others first second = first
  match_if false bound more names others first second = second

  pub match_step : (e : EventNode) (i : ℕ) (bound : List BoundNode) (names : List Name) → who i ≡ variable_of e → Match bound names → Match (after e i bound) (step e names)
  match_step (defines k n) i bound names is m = m
  match_step (uses k n) i bound names is m = m
  match_step (defines_variant o n) i bound names is m = m
  match_step (occurs role n) i bound names is m =
      let same = same_some (last_bound bound n.text) (last names n.text) (match_last bound names n.text m) in
      subst (λ b. Match (if is_some (last_bound bound n.text) then bound else bound_more bound n i) (if b then names else names ++ n ∷ [])) same
      (match_if (is_some (last_bound bound n.text)) bound (bound_more bound n i) names (names ++ n ∷ []) m (match_push bound names n i is m))
  match_step (binds n) i bound names is m = match_push bound names n i is m
  match_step (reads n) i bound names is m = m
  match_step closes i bound names is m =
      subst (λ k. Match (take (length bound - 1) bound) (take (k - 1) names)) (match_length bound names m) (match_take (length bound - 1) bound names m)
  match_step ends i bound names is m = tt

  -- one of the events has this, with the number of its binder
  abbrev pub AnyOf : (EventNode → Option ℕ → Type 0) → List SeenNode → Type 0
  AnyOf P [] = ⊥
  AnyOf P (s ∷ ss) = P s.event s.binder ⊎ AnyOf P ss

  pub seen_has : (P : EventNode → Option ℕ → Type 0) (Q : List Name → EventNode → Type 0) →
      ((e : EventNode) (i : ℕ) (bound : List BoundNode) (names : List Name) → who i ≡ variable_of e → Match bound names → P e (binder e i bound) → Q names e) →
      (es : List EventNode) (i : ℕ) (bound : List BoundNode) (names : List Name) → AreNumbered i es → Match bound names →
      AnyOf P (seen_from i bound es) → HasBy Q names es
  seen_has P Q one [] i bound names are m l = l
  seen_has P Q one (e ∷ es) i bound names are m (inl l) = inl (one e i bound names are.0 m l)
  seen_has P Q one (e ∷ es) i bound names are m (inr l) =
      inr (seen_has P Q one es (i + 1) (after e i bound) (step e names) are.1 (match_step e i bound names are.0 m) l)

  pub has_seen : (P : EventNode → Option ℕ → Type 0) (Q : List Name → EventNode → Type 0) →
      ((e : EventNode) (i : ℕ) (bound : List BoundNode) (names : List Name) → who i ≡ variable_of e → Match bound names → Q names e → P e (binder e i bound)) →
      (es : List EventNode) (i : ℕ) (bound : List BoundNode) (names : List Name) → AreNumbered i es → Match bound names →
      HasBy Q names es → AnyOf P (seen_from i bound es)
  has_seen P Q one [] i bound names are m r = r
  has_seen P Q one (e ∷ es) i bound names are m (inl r) = inl (one e i bound names are.0 m r)
  has_seen P Q one (e ∷ es) i bound names are m (inr r) =
      inr (has_seen P Q one es (i + 1) (after e i bound) (step e names) are.1 (match_step e i bound names are.0 m) r)

  -- an event that is seen is numbered
  pub numbered_seen : (es : List EventNode) (i : ℕ) (bound : List BoundNode) (t : SeenNode) → AreNumbered i es → Contains (seen_from i bound es) t →
      who t.number ≡ variable_of t.event
  numbered_seen [] i bound t are has = absurd (omega (arith, has.1))
  numbered_seen (e ∷ es) i bound t are has =
      let first : SeenNode = record { event = e; number = i; binder = binder e i bound } in
      let rest = seen_from (i + 1) (after e i bound) es in
      ⊎_elim
      (λ this. subst (λ x. who x.number ≡ variable_of x.event) (alone first t this) are.0)
      (λ later. numbered_seen es (i + 1) (after e i bound) t are.1 later)
      (Contains-append_cases (first ∷ []) rest t has)

  -- reads without a binder

  abbrev pub IsLost : Name → EventNode → Option ℕ → Type 0
  IsLost name e number = (variable_of e ≡ Some name) × (number ≡ None)

  no_number : (o : Option ℕ) (k : ℕ) → scopes.or_else o (Some k) ≡ None → ⊥
  no_number None k e = cc
  no_number (Some n) k e = cc

  none_too : (o : Option ℕ) (p : Option Name) → Same o p → o ≡ None → p ≡ None
  none_too None None s e = refl
  none_too None (Some n) s e = absurd s
  none_too (Some k) p s e = absurd (cc)

  none_back : (o : Option ℕ) (p : Option Name) → Same o p → p ≡ None → o ≡ None
  none_back None p s e = refl
  none_back (Some k) None s e = absurd s
  none_back (Some k) (Some n) s e = absurd (cc)

  pub lost_is_read : (name : Name) (e : EventNode) (i : ℕ) (bound : List BoundNode) (names : List Name) → Match bound names →
      IsLost name e (binder e i bound) → IsRead name None names e
  lost_is_read name (defines k n) i bound names m l = let never : None ≡ Some name = l.0 in absurd (cc)
  lost_is_read name (uses k n) i bound names m l = let never : None ≡ Some name = l.0 in absurd (cc)
  lost_is_read name (defines_variant o n) i bound names m l = let never : None ≡ Some name = l.0 in absurd (cc)
  lost_is_read name (occurs role n) i bound names m l = absurd (no_number (last_bound bound n.text) i l.1)
  lost_is_read name (binds n) i bound names m l = let never : Some i ≡ None = l.1 in absurd (cc)
  lost_is_read name (reads n) i bound names m l =
      let some : Some n ≡ Some name = l.0 in
      let same : n ≡ name = cc in
      (ap reads same, subst (λ x. last names x.text ≡ None) same (none_too (last_bound bound n.text) (last names n.text) (match_last bound names n.text m) l.1))
  lost_is_read name closes i bound names m l = let never : None ≡ Some name = l.0 in absurd (cc)
  lost_is_read name ends i bound names m l = let never : None ≡ Some name = l.0 in absurd (cc)

  pub read_is_lost : (name : Name) (e : EventNode) (i : ℕ) (bound : List BoundNode) (names : List Name) → Match bound names →
      IsRead name None names e → IsLost name e (binder e i bound)
  read_is_lost name e i bound names m r =
      subst (λ x. IsLost name x (binder x i bound)) (sym r.0) (refl, none_back (last_bound bound name.text) (last names name.text) (match_last bound names name.text m) r.1)

  -- reads with a binder

  abbrev pub IsKnown : Name → Name → EventNode → Option ℕ → Type 0
  IsKnown name b e number = (e ≡ reads name) × (k : ℕ) × (number ≡ Some k) × (who k ≡ Some b)

  some_too : (o : Option ℕ) (p : Option Name) (k : ℕ) (b : Name) → Same o p → o ≡ Some k → who k ≡ Some b → p ≡ Some b
  some_too None p k b s e is = absurd (cc)
  some_too (Some j) None k b s e is = absurd s
  some_too (Some j) (Some n) k b s e is = let same : j ≡ k = cc in sym s ∙ ap who same ∙ is

  some_back : (o : Option ℕ) (p : Option Name) (b : Name) → Same o p → p ≡ Some b → (k : ℕ) × (o ≡ Some k) × (who k ≡ Some b)
  some_back None None b s e = absurd (cc)
  some_back None (Some n) b s e = absurd s
  some_back (Some j) None b s e = absurd s
  some_back (Some j) (Some n) b s e = (j, refl, s ∙ e)

  pub known_is_read : (name b : Name) (e : EventNode) (i : ℕ) (bound : List BoundNode) (names : List Name) → Match bound names →
      IsKnown name b e (binder e i bound) → IsRead name (Some b) names e
  known_is_read name b e i bound names m l =
      let binder_is : binder e i bound ≡ last_bound bound name.text = ap (λ x. binder x i bound) l.0 in
      (l.0, some_too (last_bound bound name.text) (last names name.text) l.1 b (match_last bound names name.text m) (sym binder_is ∙ l.2) l.3)

  pub read_is_known : (name b : Name) (e : EventNode) (i : ℕ) (bound : List BoundNode) (names : List Name) → Match bound names →
      IsRead name (Some b) names e → IsKnown name b e (binder e i bound)
  read_is_known name b e i bound names m r =
      let found = some_back (last_bound bound name.text) (last names name.text) b (match_last bound names name.text m) r.1 in
      (r.0, found.0, ap (λ x. binder x i bound) r.0 ∙ found.1, found.2)

  -- occurrences in patterns

  abbrev pub IsOccurrence : Name → Name → EventNode → Option ℕ → Type 0
  IsOccurrence name b e number = (role : Role) × (e ≡ occurs role name) × (k : ℕ) × (number ≡ Some k) × (who k ≡ Some b)

  same_own : (i : ℕ) (n : Name) (o : Option ℕ) (p : Option Name) → who i ≡ Some n → Same o p → Same (scopes.or_else o (Some i)) (or_else p (Some n))
  same_own i n o p is s = same_or o (Some i) p (Some n) s is

  pub occurrence_is : (name b : Name) (e : EventNode) (i : ℕ) (bound : List BoundNode) (names : List Name) → who i ≡ variable_of e → Match bound names →
      IsOccurrence name b e (binder e i bound) → IsOccurrenceOf name b names e
  occurrence_is name b e i bound names is m l =
      let own : who i ≡ Some name = is ∙ ap variable_of l.1 in
      let binder_is : binder e i bound ≡ scopes.or_else (last_bound bound name.text) (Some i) = ap (λ x. binder x i bound) l.1 in
      let same = same_own i name (last_bound bound name.text) (last names name.text) own (match_last bound names name.text m) in
      (l.0, l.1, some_too (scopes.or_else (last_bound bound name.text) (Some i)) (or_else (last names name.text) (Some name)) l.2 b same (sym binder_is ∙ l.3) l.4)

  pub is_occurrence : (name b : Name) (e : EventNode) (i : ℕ) (bound : List BoundNode) (names : List Name) → who i ≡ variable_of e → Match bound names →
      IsOccurrenceOf name b names e → IsOccurrence name b e (binder e i bound)
  is_occurrence name b e i bound names is m r =
      let own : who i ≡ Some name = is ∙ ap variable_of r.1 in
      let same = same_own i name (last_bound bound name.text) (last names name.text) own (match_last bound names name.text m) in
      let found = some_back (scopes.or_else (last_bound bound name.text) (Some i)) (or_else (last names name.text) (Some name)) b same r.2 in
      (r.0, r.1, found.0, ap (λ x. binder x i bound) r.1 ∙ found.1, found.2)
