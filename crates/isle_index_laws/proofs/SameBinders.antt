-- Each variable keeps its binder when one of them gets a text that no other one has.
use Rattle.std.proofs.Common.{◌≡◌, ℕ, zero, suc, ◌+◌, ◌-◌, List, [], ◌∷◌, ◌++◌, Bool, true, false, cond, ◌&&◌, ◌==◌, eq-eqb, Option, None, Some, bytes_eq, is_some, length, map, take, refl, sym, ap, ◌∙◌, if◌then◌else◌}
use Rattle.std.proofs.lemmas.Bool.{and_parts, and_from}
use Rattle.std.specs.List.{AllByRecursion}
use Rattle.isle_ast_names.specs.Tree.{Name}
use Rattle.isle_resolve.specs.declared.event.Role.{Role}
use Rattle.isle_resolve.specs.Event.{EventNode, defines, uses, defines_variant, occurs, binds, reads, closes, ends}
use Rattle.isle_resolve.specs.Scopes.{BoundNode, SeenNode, after, binder, bound_more, last_bound, or_else, seen_from}
use Rattle.isle_resolve.specs.Names.{is_number}
use Rattle.isle_index.specs.Renaming.{renamed_variable, same_binder, same_binders, with_text}
use Rattle.isle_resolve.proofs.Texts.{bytes-are, bytes-false, bytes-true}

-- a bound variable, with the new text if it is the one that is renamed
abbrev changed : ℕ → List ℕ → List ℕ → BoundNode → BoundNode
changed b old new x = if (x.number == b) && bytes_eq x.text old then record { text = new; number = x.number } else x

abbrev IsOther : List ℕ → BoundNode → Type 0
IsOther new x = x.text ≡ new → ⊥

-- the variable of an event has another text
abbrev pub HasOther : List ℕ → EventNode → Type 0
HasOther new (defines _ _) = Unit {0}
HasOther new (uses _ _) = Unit {0}
HasOther new (defines_variant _ _) = Unit {0}
HasOther new (occurs _ name) = name.text ≡ new → ⊥
HasOther new (binds name) = name.text ≡ new → ⊥
HasOther new (reads name) = name.text ≡ new → ⊥
HasOther new closes = Unit {0}
HasOther new ends = Unit {0}

stays : (b : ℕ) (old new : List ℕ) (x : BoundNode) → (x.number == b) && bytes_eq x.text old ≡ false → changed b old new x ≡ x
stays b old new x is = ap (λ c. cond c (record { text = new; number = x.number }) x) is

changes : (b : ℕ) (old new : List ℕ) (x : BoundNode) → (x.number == b) && bytes_eq x.text old ≡ true → changed b old new x ≡ record { text = new; number = x.number }
changes b old new x is = ap (λ c. cond c (record { text = new; number = x.number }) x) is

and-false : (a b : Bool) → b ≡ false → a && b ≡ false
and-false true b e = e
and-false false b e = refl

-- the number of a variable, if it has this text
abbrev if_called : List ℕ → BoundNode → Option ℕ
if_called text x = if bytes_eq x.text text then Some x.number else None

-- another text finds the variable that it found

called-changed : (b : ℕ) (old new text : List ℕ) (x : BoundNode) (found : Option ℕ) → (text ≡ new → ⊥) → (d : Bool) → bytes_eq x.text text ≡ d → (x.number == b) && bytes_eq x.text old ≡ true →
    cond d (Some x.number) None ≡ found → is_number b found && bytes_eq text old ≡ false → if_called text (record { text = new; number = x.number }) ≡ found
called-changed b old new text x found other false is chosen here free =
    ap (λ d. cond d (Some x.number) None) (bytes-false new text (λ e. other (sym e))) ∙ here
called-changed b old new text x found other true is chosen here free =
    let parts = and_parts (x.number == b) (bytes_eq x.text old) chosen in
    let same : bytes_eq text old ≡ true = ap (λ t. bytes_eq t old) (sym (bytes-are x.text text is)) ∙ parts.1 in
    let found_it : is_number b found ≡ true = ap (is_number b) (sym here) ∙ parts.0 in
    let never : is_number b found && bytes_eq text old ≡ true = and_from (is_number b found) (bytes_eq text old) found_it same in
    absurd (cc)

called-by : (b : ℕ) (old new text : List ℕ) (x : BoundNode) (found : Option ℕ) → (text ≡ new → ⊥) → (c : Bool) → (x.number == b) && bytes_eq x.text old ≡ c →
    if_called text x ≡ found → is_number b found && bytes_eq text old ≡ false → if_called text (changed b old new x) ≡ found
called-by b old new text x found other true chosen here free =
    ap (if_called text) (changes b old new x chosen) ∙ called-changed b old new text x found other (bytes_eq x.text text) refl chosen here free
called-by b old new text x found other false chosen here free = ap (if_called text) (stays b old new x chosen) ∙ here

found-by : (b : ℕ) (old new text : List ℕ) (x : BoundNode) (bound : List BoundNode) (found : Option ℕ) → (text ≡ new → ⊥) → (tail : Option ℕ) → last_bound bound text ≡ tail →
    ((o : Option ℕ) → last_bound bound text ≡ o → is_number b o && bytes_eq text old ≡ false → last_bound (map (changed b old new) bound) text ≡ o) →
    or_else tail (if_called text x) ≡ found → is_number b found && bytes_eq text old ≡ false →
    or_else (last_bound (map (changed b old new) bound) text) (if_called text (changed b old new x)) ≡ found
found-by b old new text x bound found other (Some n) is later here free =
    ap (λ o. or_else o (if_called text (changed b old new x))) (later (Some n) is (ap (λ o. is_number b o && bytes_eq text old) here ∙ free)) ∙ here
found-by b old new text x bound found other None is later here free =
    ap (λ o. or_else o (if_called text (changed b old new x))) (later None is refl)
    ∙ called-by b old new text x found other ((x.number == b) && bytes_eq x.text old) refl here free

finds : (b : ℕ) (old new text : List ℕ) → (text ≡ new → ⊥) → (bound : List BoundNode) (found : Option ℕ) → last_bound bound text ≡ found → is_number b found && bytes_eq text old ≡ false →
    last_bound (map (changed b old new) bound) text ≡ found
finds b old new text other [] found here free = here
finds b old new text other (x ∷ bound) found here free =
    found-by b old new text x bound found other (last_bound bound text) refl (λ o is fails. finds b old new text other bound o is fails) here free

-- the new text finds nothing where the old one found nothing

none-of : (o p : Option ℕ) → or_else o p ≡ None → (o ≡ None) × (p ≡ None)
none-of None p e = (refl, e)
none-of (Some n) p e = absurd (cc)

not-called : (d : Bool) (n : ℕ) → cond d (Some n) None ≡ None → d ≡ false
not-called true n e = absurd (cc)
not-called false n e = refl

finds_none : (b : ℕ) (old new : List ℕ) (bound : List BoundNode) → AllByRecursion (IsOther new) bound → last_bound bound old ≡ None → last_bound (map (changed b old new) bound) new ≡ None
finds_none b old new [] others none = refl
finds_none b old new (x ∷ bound) others none =
    let parts = none-of (last_bound bound old) (if_called old x) none in
    let free : (x.number == b) && bytes_eq x.text old ≡ false = and-false (x.number == b) (bytes_eq x.text old) (not-called (bytes_eq x.text old) x.number parts.1) in
    ap (λ o. or_else o (if_called new (changed b old new x))) (finds_none b old new bound others.1 parts.0)
    ∙ ap (if_called new) (stays b old new x free)
    ∙ ap (λ d. cond d (Some x.number) None) (bytes-false x.text new others.0)

-- the new text finds the variable that is renamed

new-called : (b : ℕ) (old new : List ℕ) (x : BoundNode) (m : ℕ) → m == b ≡ true → (d : Bool) → bytes_eq x.text old ≡ d → cond d (Some x.number) None ≡ Some m →
    if_called new (changed b old new x) ≡ Some m
new-called b old new x m same true is here =
    let number : x.number == b ≡ true = ap (is_number b) here ∙ same in
    ap (if_called new) (changes b old new x (and_from (x.number == b) (bytes_eq x.text old) number is))
    ∙ ap (λ d. cond d (Some x.number) None) (bytes-true new new refl)
    ∙ here
new-called b old new x m same false is here = absurd (cc)

new-by : (b : ℕ) (old new : List ℕ) (x : BoundNode) (bound : List BoundNode) (m : ℕ) → m == b ≡ true → AllByRecursion (IsOther new) bound → (tail : Option ℕ) → last_bound bound old ≡ tail →
    ((n : ℕ) → last_bound bound old ≡ Some n → n == b ≡ true → last_bound (map (changed b old new) bound) new ≡ Some n) → or_else tail (if_called old x) ≡ Some m →
    or_else (last_bound (map (changed b old new) bound) new) (if_called new (changed b old new x)) ≡ Some m
new-by b old new x bound m same others (Some n) is later here =
    ap (λ o. or_else o (if_called new (changed b old new x))) (later n is (ap (is_number b) here ∙ same)) ∙ here
new-by b old new x bound m same others None is later here =
    ap (λ o. or_else o (if_called new (changed b old new x))) (finds_none b old new bound others is)
    ∙ new-called b old new x m same (bytes_eq x.text old) refl here

finds_new : (b : ℕ) (old new : List ℕ) (bound : List BoundNode) (m : ℕ) → AllByRecursion (IsOther new) bound → last_bound bound old ≡ Some m → m == b ≡ true →
    last_bound (map (changed b old new) bound) new ≡ Some m
finds_new b old new [] m others here same = absurd (cc)
finds_new b old new (x ∷ bound) m others here same =
    new-by b old new x bound m same others.1 (last_bound bound old) refl (λ n is eq. finds_new b old new bound n others.1 is eq) here

-- what a variable of an event finds, whether it is the one that is renamed or not
finds_renamed : (b : ℕ) (old new : List ℕ) (bound : List BoundNode) (n : Name) (found : Option ℕ) → (n.text ≡ new → ⊥) → AllByRecursion (IsOther new) bound → last_bound bound n.text ≡ found →
    (c : Bool) → is_number b found && bytes_eq n.text old ≡ c → last_bound (map (changed b old new) bound) (if c then new else n.text) ≡ found
finds_renamed b old new bound n found other others is false chosen = finds b old new n.text other bound found is chosen
finds_renamed b old new bound n (Some m) other others is true chosen =
    let parts = and_parts (m == b) (bytes_eq n.text old) chosen in
    finds_new b old new bound m others (ap (last_bound bound) (sym (bytes-are n.text old parts.1)) ∙ is) parts.0
finds_renamed b old new bound n None other others is true chosen = let never : false ≡ true = chosen in absurd (cc)

-- lists of bound variables

map-more : (f : BoundNode → BoundNode) (bound : List BoundNode) (x : BoundNode) → map f (bound ++ x ∷ []) ≡ map f bound ++ f x ∷ []
map-more f [] x = refl
map-more f (y ∷ bound) x = ap (λ ys. f y ∷ ys) (map-more f bound x)

map-take : (f : BoundNode → BoundNode) (n : ℕ) (bound : List BoundNode) → take n (map f bound) ≡ map f (take n bound)
map-take f zero bound = refl
map-take f (suc n) [] = refl
map-take f (suc n) (x ∷ bound) = ap (λ ys. f x ∷ ys) (map-take f n bound)

map-length : (f : BoundNode → BoundNode) (bound : List BoundNode) → length (map f bound) ≡ length bound
map-length f [] = refl
map-length f (x ∷ bound) = ap suc (map-length f bound)

others-more : (new : List ℕ) (bound : List BoundNode) (x : BoundNode) → AllByRecursion (IsOther new) bound → IsOther new x → AllByRecursion (IsOther new) (bound ++ x ∷ [])
others-more new [] x others other = (other, tt)
others-more new (y ∷ bound) x others other = (others.0, others-more new bound x others.1 other)

others-take : (new : List ℕ) (n : ℕ) (bound : List BoundNode) → AllByRecursion (IsOther new) bound → AllByRecursion (IsOther new) (take n bound)
others-take new zero bound others = tt
others-take new (suc n) [] others = tt
others-take new (suc n) (x ∷ bound) others = (others.0, others-take new n bound others.1)

others-if : (new : List ℕ) (bound : List BoundNode) (n : Name) (i : ℕ) (b : Bool) → AllByRecursion (IsOther new) bound → (n.text ≡ new → ⊥) → AllByRecursion (IsOther new) (if b then bound else bound_more bound n i)
others-if new bound n i true others other = others
others-if new bound n i false others other = others-more new bound (record { text = n.text; number = i }) others other

others-after : (new : List ℕ) (i : ℕ) (bound : List BoundNode) (e : EventNode) → AllByRecursion (IsOther new) bound → HasOther new e → AllByRecursion (IsOther new) (after e i bound)
others-after new i bound (defines k n) others other = others
others-after new i bound (uses k n) others other = others
others-after new i bound (defines_variant o m) others other = others
others-after new i bound (occurs role n) others other = others-if new bound n i (is_some (last_bound bound n.text)) others other
others-after new i bound (binds n) others other = others-more new bound (record { text = n.text; number = i }) others other
others-after new i bound (reads n) others other = others
others-after new i bound closes others other = others-take new (length bound - 1) bound others
others-after new i bound ends others other = tt

-- a variable that is bound, in both lists
bound-by : (b : ℕ) (old new : List ℕ) (i : ℕ) (bound : List BoundNode) (n : Name) (c : Bool) → (i == b) && bytes_eq n.text old ≡ c →
    map (changed b old new) bound ++ record { text = if c then new else n.text; number = i } ∷ [] ≡ map (changed b old new) (bound_more bound n i)
bound-by b old new i bound n true chosen =
    sym (map-more (changed b old new) bound (record { text = n.text; number = i })
    ∙ ap (λ x. map (changed b old new) bound ++ x ∷ []) (changes b old new (record { text = n.text; number = i }) chosen))
bound-by b old new i bound n false chosen =
    sym (map-more (changed b old new) bound (record { text = n.text; number = i })
    ∙ ap (λ x. map (changed b old new) bound ++ x ∷ []) (stays b old new (record { text = n.text; number = i }) chosen))

-- an event keeps its binder, and the same variables are bound after it
abbrev Keeps : ℕ → List ℕ → List ℕ → ℕ → List BoundNode → (renamed e : EventNode) → Type 0
Keeps b old new i bound renamed e =
    (binder renamed i (map (changed b old new) bound) ≡ binder e i bound)
    × (after renamed i (map (changed b old new) bound) ≡ map (changed b old new) (after e i bound))

reads-keep : (b : ℕ) (old new : List ℕ) (i : ℕ) (bound : List BoundNode) (n : Name) (c : Bool) → last_bound (map (changed b old new) bound) (if c then new else n.text) ≡ last_bound bound n.text →
    Keeps b old new i bound (if c then with_text new (reads n) else reads n) (reads n)
reads-keep b old new i bound n true found = (found, refl)
reads-keep b old new i bound n false found = (found, refl)

binds-keep : (b : ℕ) (old new : List ℕ) (i : ℕ) (bound : List BoundNode) (n : Name) (c : Bool) → (i == b) && bytes_eq n.text old ≡ c →
    Keeps b old new i bound (if c then with_text new (binds n) else binds n) (binds n)
binds-keep b old new i bound n true chosen = (refl, bound-by b old new i bound n true chosen)
binds-keep b old new i bound n false chosen = (refl, bound-by b old new i bound n false chosen)

-- a variable of a pattern, by what its text finds
abbrev FoundKeeps : ℕ → List ℕ → List ℕ → ℕ → List BoundNode → Role → Name → Option ℕ → Bool → Type 0
FoundKeeps b old new i bound role n found c =
    (binder (if c then with_text new (occurs role n) else occurs role n) i (map (changed b old new) bound) ≡ or_else found (Some i))
    × (after (if c then with_text new (occurs role n) else occurs role n) i (map (changed b old new) bound)
    ≡ map (changed b old new) (if is_some found then bound else bound_more bound n i))

occurs-by : (b : ℕ) (old new : List ℕ) (i : ℕ) (bound : List BoundNode) (role : Role) (n : Name) (found : Option ℕ) (c : Bool) →
    last_bound (map (changed b old new) bound) (if c then new else n.text) ≡ found → is_number b (or_else found (Some i)) && bytes_eq n.text old ≡ c → FoundKeeps b old new i bound role n found c
occurs-by b old new i bound role n (Some m) true here chosen = (
  ap (λ o. or_else o (Some i)) here,
  ap (λ o. if is_some o then map (changed b old new) bound else bound_more (map (changed b old new) bound) (record { text = new; pos = n.pos }) i) here,
)
occurs-by b old new i bound role n (Some m) false here chosen = (
  ap (λ o. or_else o (Some i)) here,
  ap (λ o. if is_some o then map (changed b old new) bound else bound_more (map (changed b old new) bound) n i) here,
)
occurs-by b old new i bound role n None true here chosen = (
  ap (λ o. or_else o (Some i)) here,
  ap (λ o. if is_some o then map (changed b old new) bound else bound_more (map (changed b old new) bound) (record { text = new; pos = n.pos }) i) here
      ∙ bound-by b old new i bound n true chosen,
)
occurs-by b old new i bound role n None false here chosen = (
  ap (λ o. or_else o (Some i)) here,
  ap (λ o. if is_some o then map (changed b old new) bound else bound_more (map (changed b old new) bound) n i) here
      ∙ bound-by b old new i bound n false chosen,
)

-- what the text of a variable of a pattern finds
occurs-finds : (b : ℕ) (old new : List ℕ) (i : ℕ) (bound : List BoundNode) (n : Name) (found : Option ℕ) → (n.text ≡ new → ⊥) → AllByRecursion (IsOther new) bound → last_bound bound n.text ≡ found →
    (c : Bool) → is_number b (or_else found (Some i)) && bytes_eq n.text old ≡ c → last_bound (map (changed b old new) bound) (if c then new else n.text) ≡ found
occurs-finds b old new i bound n (Some m) other others is c chosen = finds_renamed b old new bound n (Some m) other others is c chosen
occurs-finds b old new i bound n None other others is false chosen = finds b old new n.text other bound None is refl
occurs-finds b old new i bound n None other others is true chosen =
    let parts = and_parts (i == b) (bytes_eq n.text old) chosen in
    finds_none b old new bound others (ap (last_bound bound) (sym (bytes-are n.text old parts.1)) ∙ is)

event-keeps : (b : ℕ) (old new : List ℕ) (i : ℕ) (bound : List BoundNode) (e : EventNode) → HasOther new e → AllByRecursion (IsOther new) bound →
    Keeps b old new i bound (renamed_variable b old new (record { event = e; number = i; binder = binder e i bound })) e
event-keeps b old new i bound (defines k n) other others = (refl, refl)
event-keeps b old new i bound (uses k n) other others = (refl, refl)
event-keeps b old new i bound (defines_variant o m) other others = (refl, refl)
event-keeps b old new i bound (occurs role n) other others =
    let found : Option ℕ = last_bound bound n.text in
    let c : Bool = is_number b (or_else found (Some i)) && bytes_eq n.text old in
    occurs-by b old new i bound role n found c (occurs-finds b old new i bound n found other others refl c refl) refl
event-keeps b old new i bound (binds n) other others = binds-keep b old new i bound n ((i == b) && bytes_eq n.text old) refl
event-keeps b old new i bound (reads n) other others =
    let found : Option ℕ = last_bound bound n.text in
    let c : Bool = is_number b found && bytes_eq n.text old in
    reads-keep b old new i bound n c (finds_renamed b old new bound n found other others refl c refl)
event-keeps b old new i bound closes other others =
    (refl, ap (λ k. take (k - 1) (map (changed b old new) bound)) (map-length (changed b old new) bound) ∙ map-take (changed b old new) (length bound - 1) bound)
event-keeps b old new i bound ends other others = (refl, refl)

same-self : (o : Option ℕ) → same_binder o o ≡ true
same-self None = refl
same-self (Some n) = eq-eqb n n refl

binders-stay : (b : ℕ) (old new : List ℕ) (i : ℕ) (bound : List BoundNode) (es : List EventNode) → AllByRecursion (HasOther new) es → AllByRecursion (IsOther new) bound →
    same_binders (seen_from i (map (changed b old new) bound) (map (renamed_variable b old new) (seen_from i bound es))) (seen_from i bound es) ≡ true
binders-stay b old new i bound [] other others = refl
binders-stay b old new i bound (e ∷ es) other others =
    let renamed : EventNode = renamed_variable b old new (record { event = e; number = i; binder = binder e i bound }) in
    let step = event-keeps b old new i bound e other.0 others in
    let rest : List SeenNode = seen_from (i + 1) (after e i bound) es in
    let more : List EventNode = map (renamed_variable b old new) rest in
    let later = binders-stay b old new (i + 1) (after e i bound) es other.1 (others-after new i bound e others other.0) in
    ap (λ o. same_binder o (binder e i bound) && same_binders (seen_from (i + 1) (after renamed i (map (changed b old new) bound)) more) rest) step.0
    ∙ ap (λ xs. same_binder (binder e i bound) (binder e i bound) && same_binders (seen_from (i + 1) xs more) rest) step.1
    ∙ and_from (same_binder (binder e i bound) (binder e i bound)) _ (same-self (binder e i bound)) later

-- no variable of these events has the new text, so each keeps its binder
pub binders_stay : (b : ℕ) (old new : List ℕ) (es : List EventNode) → AllByRecursion (HasOther new) es →
    same_binders (seen_from 0 [] (map (renamed_variable b old new) (seen_from 0 [] es))) (seen_from 0 [] es) ≡ true
binders_stay b old new es other = binders-stay b old new 0 [] es other tt
