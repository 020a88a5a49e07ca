-- The events that bind variables, and the definitions of these.
use Rattle.std.proofs.Common.{◌≡◌, ◌≢◌, inl, inr, ◌⊎◌, ℕ, ◌+◌, ◌-◌, ◌<◌, ◌≤◌, ◌==◌, Bool, true, false, if◌then◌else◌, List, [], ◌∷◌, ◌++◌, Option, None, Some, Contains, filter, filter_map, length, is_some, sym, ap, subst, refl, ◌∙◌, arith, ⊎_elim, take, drop}
use Rattle.std.proofs.lemmas.Bool.Decides.{nat_tests}
use Rattle.std.proofs.lemmas.List.{take-append-drop}
use Rattle.std.proofs.lemmas.List.Elements.{Contains-append_cases, Contains-append_left, Contains-append_right, filter-append, filter_map-append}
use Rattle.std.specs.Str.{bytes_eq}
use Rattle.isle_ast_names.specs.Tree.{Name}
use Rattle.isle_ast.specs.Tree.{Definition}
use Rattle.isle_resolve.specs.Events.{events}
use Rattle.isle_resolve.specs.Event.{EventNode, defines, uses, defines_variant, occurs, binds, reads, closes, ends}
use Rattle.isle_resolve.specs.Names.{NameNode, is_of, meaning, variable}
use Rattle.isle_index.specs.Occurrences.{definitions, occurrence, occurrence_of, place}
use Rattle.isle_resolve.specs.Scopes.{BoundNode, SeenNode, after, binder, bound_more, last_bound, or_else, seen, seen_from}
use Rattle.isle_index.specs.declared.occurrences.Occurrence.{Occurrence}
use Rattle.isle_index_laws.specs.scopes.Definitions.{IsKnownAs, definition_at}
use Rattle.isle_index_laws.specs.scopes.Reads.{IsReadAs}
use Rattle.isle_index_laws.specs.scopes.Uses.{variable_of}
use Rattle.isle_index_laws.proofs.scopes.Binders.{known_variables}
use Rattle.isle_index_laws.proofs.scopes.Programs.{alone, here}

-- ---- who binds

-- a variable in scope has this number
abbrev HasNumber : ℕ → List BoundNode → Type 0
HasNumber n bound = (b : BoundNode) × Contains bound b × (b.number ≡ n)

-- the event of this number is seen, and binds its own variable
abbrev pub IsOwner : ℕ → List SeenNode → Type 0
IsOwner n ss = (t : SeenNode) × Contains ss t × (t.number ≡ n) × (t.binder ≡ Some n)

behind : {A : Type 0} (xs : List A) (x y : A) → Contains xs y → Contains (x ∷ xs) y
behind xs x y h = Contains-append_right (x ∷ []) xs y h

abbrev from_some : Option ℕ → ℕ
from_some None = 0
from_some (Some k) = k

pick_has : (o : Option ℕ) (c : Bool) (b : BoundNode) (bs : List BoundNode) (n : ℕ) → (o ≡ Some n → HasNumber n bs) → or_else o (if c then Some b.number else None) ≡ Some n → HasNumber n (b ∷ bs)
pick_has (Some k) c b bs n f h = let found = f h in (found.0, behind bs b found.0 found.1, found.2)
pick_has None true b bs n f h = (b, here bs b, ap from_some h)
pick_has None false b bs n f h = absurd (cc)

last_has : (bound : List BoundNode) (text : List ℕ) (n : ℕ) → last_bound bound text ≡ Some n → HasNumber n bound
last_has [] text n h = absurd (cc)
last_has (b ∷ bs) text n h = pick_has (last_bound bs text) (bytes_eq b.text text) b bs n (last_has bs text n) h

occurrence_binds : (o : Option ℕ) (i n : ℕ) (bound : List BoundNode) → (o ≡ Some n → HasNumber n bound) → or_else o (Some i) ≡ Some n → HasNumber n bound ⊎ (n ≡ i)
occurrence_binds (Some k) i n bound f h = inl (f h)
occurrence_binds None i n bound f h = inr (sym (ap from_some h))

-- who binds the variable of an event: one in scope, or the event itself
head_binder : (e : EventNode) (i n : ℕ) (bound : List BoundNode) → binder e i bound ≡ Some n → HasNumber n bound ⊎ (n ≡ i)
head_binder (defines _ _) i n bound h = absurd (cc)
head_binder (uses _ _) i n bound h = absurd (cc)
head_binder (defines_variant _ _) i n bound h = absurd (cc)
head_binder (occurs _ name) i n bound h = occurrence_binds (last_bound bound name.text) i n bound (last_has bound name.text n) h
head_binder (binds name) i n bound h = inr (sym (ap from_some h))
head_binder (reads name) i n bound h = inl (last_has bound name.text n h)
head_binder closes i n bound h = absurd (cc)
head_binder ends i n bound h = absurd (cc)

pushed_number : (bound : List BoundNode) (name : Name) (i n : ℕ) → HasNumber n (bound_more bound name i) → HasNumber n bound ⊎ (n ≡ i)
pushed_number bound name i n h =
    ⊎_elim
    (λ old. inl (h.0, old, h.2))
    (λ new. inr (sym h.2 ∙ sym (ap (λ b. b.number) (alone (record { text = name.text; number = i }) h.0 new))))
    (Contains-append_cases bound (record { text = name.text; number = i } ∷ []) h.0 h.1)

occurrence_pushes : (o : Option ℕ) (bound : List BoundNode) (name : Name) (i n : ℕ) → HasNumber n (if is_some o then bound else bound_more bound name i)
    → HasNumber n bound ⊎ ((n ≡ i) × (or_else o (Some i) ≡ Some i))
occurrence_pushes (Some k) bound name i n h = inl h
occurrence_pushes None bound name i n h = ⊎_elim (λ old. inl old) (λ new. inr (new, refl)) (pushed_number bound name i n h)

taken : (k : ℕ) (bound : List BoundNode) (n : ℕ) → HasNumber n (take k bound) → HasNumber n bound
taken k bound n h = (h.0, subst (λ xs. Contains xs h.0) (take-append-drop k bound) (Contains-append_left (take k bound) (drop k bound) h.0 h.1), h.2)

-- a variable that is in scope after an event was so before it, or the event binds its own
after_binder : (e : EventNode) (i n : ℕ) (bound : List BoundNode) → HasNumber n (after e i bound) → HasNumber n bound ⊎ ((n ≡ i) × (binder e i bound ≡ Some i))
after_binder (defines _ _) i n bound h = inl h
after_binder (uses _ _) i n bound h = inl h
after_binder (defines_variant _ _) i n bound h = inl h
after_binder (occurs _ name) i n bound h = occurrence_pushes (last_bound bound name.text) bound name i n h
after_binder (binds name) i n bound h = ⊎_elim (λ old. inl old) (λ new. inr (new, refl)) (pushed_number bound name i n h)
after_binder (reads name) i n bound h = inl h
after_binder closes i n bound h = inl (taken (length bound - 1) bound n h)
after_binder ends i n bound h = absurd (omega (arith, h.1.1))

-- the variable of an event that is seen is one in scope, or has an owner
owned : (es : List EventNode) (i n : ℕ) (bound : List BoundNode) (s : SeenNode) → Contains (seen_from i bound es) s → s.binder ≡ Some n
    → HasNumber n bound ⊎ IsOwner n (seen_from i bound es)
owned [] i n bound s has l = absurd (omega (arith, has.1))
owned (e ∷ es) i n bound s has l =
    let first : SeenNode = record { event = e; number = i; binder = binder e i bound } in
    let rest : List SeenNode = seen_from (i + 1) (after e i bound) es in
    ⊎_elim
    (λ f.
    let own : binder e i bound ≡ Some n = ap (λ x. x.binder) (alone first s f) ∙ l in
    ⊎_elim (λ old. inl old) (λ is. inr (first, here rest first, sym is, own)) (head_binder e i n bound own))
    (λ r.
    ⊎_elim
    (λ new.
    ⊎_elim
    (λ old. inl old)
    (λ is. inr (first, here rest first, sym is.0, is.1 ∙ ap Some (sym is.0)))
    (after_binder e i n bound new))
    (λ owner. inr (owner.0, behind rest first owner.0 owner.1, owner.2, owner.3))
    (owned es (i + 1) n (after e i bound) s r l))
    (Contains-append_cases (first ∷ []) rest s has)

-- ---- numbers

numbers_from : (es : List EventNode) (i : ℕ) (bound : List BoundNode) (s : SeenNode) → Contains (seen_from i bound es) s → i ≤ s.number
numbers_from [] i bound s has = absurd (omega (arith, has.1))
numbers_from (e ∷ es) i bound s has =
    let first : SeenNode = record { event = e; number = i; binder = binder e i bound } in
    let rest : List SeenNode = seen_from (i + 1) (after e i bound) es in
    ⊎_elim
    (λ f. let same : i ≡ s.number = ap (λ x. x.number) (alone first s f) in omega (arith, same))
    (λ r. let later : i + 1 ≤ s.number = numbers_from es (i + 1) (after e i bound) s r in omega (arith, later))
    (Contains-append_cases (first ∷ []) rest s has)

-- two events of one number are one
one_number : (es : List EventNode) (i : ℕ) (bound : List BoundNode) (s t : SeenNode) → Contains (seen_from i bound es) s → Contains (seen_from i bound es) t → s.number ≡ t.number → s ≡ t
one_number [] i bound s t has other same = absurd (omega (arith, has.1))
one_number (e ∷ es) i bound s t has other same =
    let first : SeenNode = record { event = e; number = i; binder = binder e i bound } in
    let rest : List SeenNode = seen_from (i + 1) (after e i bound) es in
    ⊎_elim
    (λ f.
    ⊎_elim
    (λ g. sym (alone first s f) ∙ alone first t g)
    (λ r.
    let at : i ≡ s.number = ap (λ x. x.number) (alone first s f) in
    let later : i + 1 ≤ t.number = numbers_from es (i + 1) (after e i bound) t r in
    absurd (omega (arith, at, later, same)))
    (Contains-append_cases (first ∷ []) rest t other))
    (λ r.
    ⊎_elim
    (λ g.
    let at : i ≡ t.number = ap (λ x. x.number) (alone first t g) in
    let later : i + 1 ≤ s.number = numbers_from es (i + 1) (after e i bound) s r in
    absurd (omega (arith, at, later, same)))
    (λ q. one_number es (i + 1) (after e i bound) s t r q same)
    (Contains-append_cases (first ∷ []) rest t other))
    (Contains-append_cases (first ∷ []) rest s has)

-- ---- definitions

definitions-append : (name : NameNode) (xs ys : List SeenNode) → definitions name (xs ++ ys) ≡ definitions name xs ++ definitions name ys
definitions-append name xs ys =
    ap (λ l. filter (λ o. o.is_definition) (filter_map occurrence l)) (filter-append (is_of name) xs ys)
    ∙ ap (filter (λ o. o.is_definition)) (filter_map-append occurrence (filter (is_of name) xs) (filter (is_of name) ys))
    ∙ filter-append (λ o. o.is_definition) (filter_map occurrence (filter (is_of name) xs)) (filter_map occurrence (filter (is_of name) ys))

-- the event is about this variable
abbrev IsAbout : EventNode → Name → Type 0
IsAbout e name = (own : Bool) → occurrence_of e own ≡ place name (length name.text) own

number_other : (k n : ℕ) → k ≢ n → (k == n) ≡ false
number_other k n h = grind (arith, nat_tests)

number_same : (k : ℕ) → (k == k) ≡ true
number_same k = grind (arith, nat_tests)

none_by : (e : EventNode) (name : Name) (k i n : ℕ) (text : List ℕ) (v : Bool) → IsAbout e name → n ≢ i → (k == n) ≡ v
    → definitions (variable n text) (record { event = e; number = i; binder = Some k } ∷ []) ≡ []
none_by e name k i n text false about other is = rw is refl
none_by e name k i n text true about other is =
    let same : k ≡ n = grind (arith, nat_tests) in
    let not_own : (k == i) ≡ false = number_other k i (λ at. other (sym same ∙ at)) in
    rw (is, about (k == i), not_own) refl

none_of : (e : EventNode) (name : Name) (b : Option ℕ) (i n : ℕ) (text : List ℕ) → IsAbout e name → n ≢ i
    → definitions (variable n text) (record { event = e; number = i; binder = b } ∷ []) ≡ []
none_of e name None i n text about other = refl
none_of e name (Some k) i n text about other = none_by e name k i n text (k == n) about other refl

-- an event of another number doesn't define the variable
others_define_none : (e : EventNode) (i n : ℕ) (bound : List BoundNode) (text : List ℕ) → n ≢ i
    → definitions (variable n text) (record { event = e; number = i; binder = binder e i bound } ∷ []) ≡ []
others_define_none (defines _ _) i n bound text other = refl
others_define_none (uses _ _) i n bound text other = refl
others_define_none (defines_variant _ _) i n bound text other = refl
others_define_none (occurs role name) i n bound text other = none_of (occurs role name) name (binder (occurs role name) i bound) i n text (λ own. refl) other
others_define_none (binds name) i n bound text other = none_of (binds name) name (Some i) i n text (λ own. refl) other
others_define_none (reads name) i n bound text other = none_of (reads name) name (last_bound bound name.text) i n text (λ own. refl) other
others_define_none closes i n bound text other = refl
others_define_none ends i n bound text other = refl

none_defined : (es : List EventNode) (i n : ℕ) (bound : List BoundNode) (text : List ℕ) → n < i → definitions (variable n text) (seen_from i bound es) ≡ []
none_defined [] i n bound text h = refl
none_defined (e ∷ es) i n bound text h =
    let first : SeenNode = record { event = e; number = i; binder = binder e i bound } in
    let rest : List SeenNode = seen_from (i + 1) (after e i bound) es in
    let other : n ≢ i = λ at. omega (arith, h, at) in
    definitions-append (variable n text) (first ∷ []) rest
    ∙ ap (λ l. l ++ definitions (variable n text) rest) (others_define_none e i n bound text other)
    ∙ none_defined es (i + 1) n (after e i bound) text (omega (arith, h))

own_at : (e : EventNode) (name : Name) (k i : ℕ) (text : List ℕ) → IsAbout e name → (k == i) ≡ true
    → definitions (variable i text) (record { event = e; number = i; binder = Some k } ∷ []) ≡ definition_at name ∷ []
own_at e name k i text about is = rw (is, about (k == i), is) refl

own_by : (e : EventNode) (name : Name) (i : ℕ) (text : List ℕ) → IsAbout e name
    → definitions (variable i text) (record { event = e; number = i; binder = Some i } ∷ []) ≡ definition_at name ∷ []
own_by e name i text about = own_at e name i i text about (number_same i)

no_name : Name
no_name = record { text = []; pos = record { file = 0; offset = 0 } }

abbrev named : Option Name → Occurrence
named None = definition_at no_name
named (Some name) = definition_at name

own_defined : (e : EventNode) (b : Name) (i : ℕ) (text : List ℕ) → variable_of e ≡ Some b
    → definitions (variable i text) (record { event = e; number = i; binder = Some i } ∷ []) ≡ definition_at b ∷ []
own_defined (defines _ _) b i text is = absurd (cc)
own_defined (uses _ _) b i text is = absurd (cc)
own_defined (defines_variant _ _) b i text is = absurd (cc)
own_defined (occurs role name) b i text is = own_by (occurs role name) name i text (λ own. refl) ∙ ap (λ o. named o ∷ []) is
own_defined (binds name) b i text is = own_by (binds name) name i text (λ own. refl) ∙ ap (λ o. named o ∷ []) is
own_defined (reads name) b i text is = own_by (reads name) name i text (λ own. refl) ∙ ap (λ o. named o ∷ []) is
own_defined closes b i text is = absurd (cc)
own_defined ends b i text is = absurd (cc)

defined_by_owner : (es : List EventNode) (i n : ℕ) (bound : List BoundNode) (text : List ℕ) (t : SeenNode) (b : Name) → Contains (seen_from i bound es) t
    → t.number ≡ n → t.binder ≡ Some n → variable_of t.event ≡ Some b → definitions (variable n text) (seen_from i bound es) ≡ definition_at b ∷ []
defined_by_owner [] i n bound text t b has at own is = absurd (omega (arith, has.1))
defined_by_owner (e ∷ es) i n bound text t b has at own is =
    let first : SeenNode = record { event = e; number = i; binder = binder e i bound } in
    let rest : List SeenNode = seen_from (i + 1) (after e i bound) es in
    ⊎_elim
    (λ f.
    let same : first ≡ t = alone first t f in
    let here_at : i ≡ n = ap (λ x. x.number) same ∙ at in
    let own_here : binder e i bound ≡ Some i = ap (λ x. x.binder) same ∙ own ∙ ap Some (sym here_at) in
    let one : definitions (variable i text) (first ∷ []) ≡ definition_at b ∷ [] =
    ap (λ o. definitions (variable i text) (record { event = e; number = i; binder = o } ∷ [])) own_here
    ∙ own_defined e b i text (ap (λ x. variable_of x.event) same ∙ is) in
    ap (λ k. definitions (variable k text) (first ∷ rest)) (sym here_at)
    ∙ definitions-append (variable i text) (first ∷ []) rest
    ∙ ap (λ l. l ++ definitions (variable i text) rest) one
    ∙ ap (λ l. definition_at b ∷ l) (none_defined es (i + 1) i (after e i bound) text (omega arith)))
    (λ r.
    let later : i + 1 ≤ t.number = numbers_from es (i + 1) (after e i bound) t r in
    definitions-append (variable n text) (first ∷ []) rest
    ∙ ap (λ l. l ++ definitions (variable n text) rest) (others_define_none e i n bound text (λ same. omega (arith, later, at, same)))
    ∙ defined_by_owner es (i + 1) n (after e i bound) text t b r at own is)
    (Contains-append_cases (first ∷ []) rest t has)

meaning_of : (read : Name) (s : SeenNode) (n : ℕ) → s.event ≡ reads read → s.binder ≡ Some n → meaning s.event s.binder ≡ Some (variable n read.text)
meaning_of read s n event own = ap (λ e. meaning e s.binder) event ∙ ap (meaning (reads read)) own

-- the index finds one definition of a variable that is read: the variable that it means
pub found_definition : (ds : List Definition) (read b : Name) → IsReadAs ds read (Some b)
    → (name : NameNode) × IsKnownAs read name (seen (events ds)) × (definitions name (seen (events ds)) ≡ definition_at b ∷ [])
found_definition ds read b h =
    let known = (known_variables ds read b).1 h in
    let s : SeenNode = known.0 in
    let t : SeenNode = known.3 in
    let owner : IsOwner t.number (seen (events ds)) =
    ⊎_elim (λ none. absurd (omega (arith, none.1.1))) (λ it. it) (owned (events ds) 0 t.number [] s known.1 known.5) in
    let same : owner.0 ≡ t = one_number (events ds) 0 [] owner.0 t owner.1 known.4 owner.2 in (
      variable t.number read.text,
      (s, known.1, known.2, meaning_of read s t.number known.2 known.5),
      defined_by_owner (events ds) 0 t.number [] read.text t b known.4 refl (ap (λ x. x.binder) (sym same) ∙ owner.3) known.6,
    )
