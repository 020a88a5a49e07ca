-- At each position that an accepted renaming changes stands the name, or a variant's with the name at its front.
use Rattle.std.proofs.Common.{◌≡◌, inl, inr, ℕ, ◌+◌, List, [], ◌∷◌, ◌++◌, Bool, true, false, cond, not, ◌&&◌, ◌||◌, Option, None, Some, bytes_eq, codes, refl, sym, ap, ◌∙◌, append_assoc, if◌then◌else◌}
use Rattle.std.proofs.lemmas.Bool.{and_parts}
use Rattle.std.proofs.lemmas.List.{append-nil}
use Rattle.std.proofs.lemmas.List.Sorted.{list_any-IsPermutation}
use Rattle.std.specs.List.{AllByRecursion, list_any}
use Rattle.isle_base_source.specs.declared.pos.Pos.{Pos}
use Rattle.isle_ast_names.specs.Tree.{Name}
use Rattle.isle_resolve.specs.declared.event.Kind.{Kind}
use Rattle.isle_resolve.specs.declared.event.Kind.TheVariants as kinds
use Rattle.isle_resolve.specs.Event.{EventNode, binds, closes, defines, defines_variant, ends, occurs, reads, uses}
use Rattle.isle_resolve.specs.Names.{NameNode, gives, global, is_number, joined, name_text, same_kind, variable}
use Rattle.isle_index.specs.Renamed.{are_apart, front, places_of, same_place}
use Rattle.isle_index.specs.Renaming.{IsAccepted, Part, VariantNode, alone_places, behind_type, changed_places, changes, first_variant, gives_variant, is_double, is_member, is_new_name, members, part_by, part_of, part_text, position, refusal, shares, whole_text, writes_member}
use Rattle.isle_resolve.specs.Scopes.{BoundNode, SeenNode, after, binder, seen, seen_from}
use Rattle.isle_index.proofs.Places.{At, at-all, chosen, is_at}
use Rattle.isle_resolve.proofs.Texts.{bytes-are}
use Rattle.isle_index.proofs.Texts.{or-false}
use Rattle.isle_index_laws.specs.RenamedTokens.{is_constant}
use Rattle.isle_index_laws.proofs.Marks.{is_constant_kind}
use Rattle.isle_index_laws.proofs.Fits.{fits}
use Rattle.isle_index_laws.proofs.Keeps.{any_over}
use Rattle.isle_index_laws.proofs.KeptNames.{clash}
use Rattle.isle_index_laws.proofs.Variants.{IsOwn, all_own, first_is, no_first}
use Rattle.isle_index_laws.proofs.NewNames.{member-of}
use Rattle.isle_index_laws.proofs.RenamedTokens.{choose}
use Rattle.isle_index_laws.proofs.edits.Positions.{position_is}
use Rattle.isle_index_laws.proofs.edits.Whole.{IsBehind}
use Rattle.isle_index_laws.proofs.edits.Tokened.{Has, name_of}

-- an event is about a name at this position that begins with this part and what is in front of it, a constant or not
abbrev pub Named : Bool → Part → Pos → EventNode → Type 0
Named c part p e = (n : Name) × (name_of e ≡ Some (c, n)) × (n.pos ≡ p) × ((behind : List ℕ) × (n.text ≡ (front part p ++ part_text part) ++ behind) × IsBehind behind)

-- one of some events is
abbrev pub AnyNamed : Bool → Part → Pos → List EventNode → Type 0
AnyNamed c part p es = (e : EventNode) × Has es e × Named c part p e

whole : (old text : List ℕ) → bytes_eq text old ≡ true → (behind : List ℕ) × (text ≡ old ++ behind) × IsBehind behind
whole old text h = ([], bytes-are text old h ∙ sym (append-nil old), tt)

variant : (old : List ℕ) (ms : List (List ℕ)) (text : List ℕ) → is_member old ms text ≡ true → (behind : List ℕ) × (text ≡ old ++ behind) × IsBehind behind
variant old ms text h = let m = member-of old ms text h in (codes "." ++ m.0, m.1 ∙ append_assoc old (codes ".") m.0, refl)

first_only : (a : Bool) → a || false ≡ true → a ≡ true
first_only true h = refl
first_only false h = h

never : {A : Type 0} → false ≡ true → A
never h = absurd (cc)

-- a global name where it is defined or used
global_named : (ms : List (List ℕ)) (kind : Kind) (old : List ℕ) (k : Kind) (n : Name) → changes ms (global kind old) (record { event = uses k n; number = 0; binder = None }) ≡ true →
    (is_constant_kind k ≡ is_constant (global kind old)) × ((behind : List ℕ) × (n.text ≡ old ++ behind) × IsBehind behind)
global_named ms kinds.Term old kinds.Term n h = (refl, whole old n.text h)
global_named ms kinds.Term old kinds.Type n h = never h
global_named ms kinds.Term old kinds.Constant n h = never h
global_named ms kinds.Type old kinds.Term n h = (refl, variant old ms n.text h)
global_named ms kinds.Type old kinds.Type n h = (refl, whole old n.text (first_only (bytes_eq n.text old) h))
global_named ms kinds.Type old kinds.Constant n h = never h
global_named ms kinds.Constant old kinds.Term n h = never h
global_named ms kinds.Constant old kinds.Type n h = never h
global_named ms kinds.Constant old kinds.Constant n h = (refl, whole old n.text h)

defined_as_used : (ms : List (List ℕ)) (kind : Kind) (old : List ℕ) (k : Kind) (n : Name) (i : ℕ) (b : Option ℕ) → changes ms (global kind old) (record { event = defines k n; number = i; binder = b }) ≡ true →
    changes ms (global kind old) (record { event = uses k n; number = 0; binder = None }) ≡ true
defined_as_used ms kinds.Term old k n i b h = h
defined_as_used ms kinds.Type old k n i b h = h
defined_as_used ms kinds.Constant old k n i b h = h

used_as_used : (ms : List (List ℕ)) (kind : Kind) (old : List ℕ) (k : Kind) (n : Name) (i : ℕ) (b : Option ℕ) → changes ms (global kind old) (record { event = uses k n; number = i; binder = b }) ≡ true →
    changes ms (global kind old) (record { event = uses k n; number = 0; binder = None }) ≡ true
used_as_used ms kinds.Term old k n i b h = h
used_as_used ms kinds.Type old k n i b h = h
used_as_used ms kinds.Constant old k n i b h = h

-- no name of the whole program is changed at a variable, nor where a variant is defined

no_variable : {A : Type 0} (ms : List (List ℕ)) (kind : Kind) (old : List ℕ) (e : EventNode) (i : ℕ) (b : Option ℕ) → ((k : Kind) → gives k old e ≡ false) → writes_member old ms e ≡ false →
    changes ms (global kind old) (record { event = e; number = i; binder = b }) ≡ true → A
no_variable ms kinds.Term old e i b one other h = clash (gives kinds.Term old e) h (one kinds.Term)
no_variable ms kinds.Type old e i b one other h = clash (gives kinds.Type old e || writes_member old ms e) h (ap (λ x. x || writes_member old ms e) (one kinds.Type) ∙ other)
no_variable ms kinds.Constant old e i b one other h = clash (gives kinds.Constant old e) h (one kinds.Constant)

-- whether an event defines a variant that is this name
abbrev given_variant : NameNode → EventNode → Bool
given_variant (global kinds.Term text) e = gives_variant text e
given_variant (global kinds.Type _) e = false
given_variant (global kinds.Constant _) e = false
given_variant (variable _ _) e = false

no_variant : {A : Type 0} (ms : List (List ℕ)) (kind : Kind) (old : List ℕ) (o m : Name) (i : ℕ) (b : Option ℕ) → given_variant (global kind old) (defines_variant o m) ≡ false →
    changes ms (global kind old) (record { event = defines_variant o m; number = i; binder = b }) ≡ true → A
no_variant ms kinds.Term old o m i b none h = clash (gives kinds.Term old (defines_variant o m)) h none
no_variant ms kinds.Type old o m i b none h = never h
no_variant ms kinds.Constant old o m i b none h = never h

-- what is known of an event that changes at a position
abbrev NamedIf : List (List ℕ) → NameNode → Part → Pos → SeenNode → Type 0
NamedIf ms given part p s = changes ms given s ≡ true → is_at p (position s.event) ≡ true → Named (is_constant given) part p s.event

-- of a name that changes as a whole

event_named : (ms : List (List ℕ)) (given : NameNode) (e : EventNode) (i : ℕ) (bound : List BoundNode) (p : Pos) → given_variant given e ≡ false →
    NamedIf ms given (whole_text (name_text given)) p (record { event = e; number = i; binder = binder e i bound })
event_named ms (global kind old) (defines k n) i bound p none h at =
    let g = global_named ms kind old k n (defined_as_used ms kind old k n i None h) in
    (n, ap (λ c. Some (c, n)) g.0, position_is p n.pos at, g.1)
event_named ms (global kind old) (uses k n) i bound p none h at =
    let g = global_named ms kind old k n (used_as_used ms kind old k n i None h) in
    (n, ap (λ c. Some (c, n)) g.0, position_is p n.pos at, g.1)
event_named ms (global kind old) (defines_variant o m) i bound p none h at = no_variant ms kind old o m i None none h
event_named ms (global kind old) (occurs r n) i bound p none h at = no_variable ms kind old (occurs r n) i (binder (occurs r n) i bound) (λ k. refl) refl h
event_named ms (global kind old) (binds n) i bound p none h at = no_variable ms kind old (binds n) i (binder (binds n) i bound) (λ k. refl) refl h
event_named ms (global kind old) (reads n) i bound p none h at = no_variable ms kind old (reads n) i (binder (reads n) i bound) (λ k. refl) refl h
event_named ms given closes i bound p none h at = never at
event_named ms given ends i bound p none h at = never at
event_named ms (variable number old) (defines k n) i bound p none h at = never h
event_named ms (variable number old) (uses k n) i bound p none h at = never h
event_named ms (variable number old) (defines_variant o m) i bound p none h at = never h
event_named ms (variable number old) (occurs r n) i bound p none h at =
    (n, refl, position_is p n.pos at, whole old n.text (and_parts (is_number number (binder (occurs r n) i bound)) (bytes_eq n.text old) h).1)
event_named ms (variable number old) (binds n) i bound p none h at =
    (n, refl, position_is p n.pos at, whole old n.text (and_parts (is_number number (binder (binds n) i bound)) (bytes_eq n.text old) h).1)
event_named ms (variable number old) (reads n) i bound p none h at =
    (n, refl, position_is p n.pos at, whole old n.text (and_parts (is_number number (binder (reads n) i bound)) (bytes_eq n.text old) h).1)

events_named : (ms : List (List ℕ)) (given : NameNode) (p : Pos) (i : ℕ) (bound : List BoundNode) (es : List EventNode) → list_any (given_variant given) es ≡ false →
    AllByRecursion (NamedIf ms given (whole_text (name_text given)) p) (seen_from i bound es)
events_named ms given p i bound [] none = tt
events_named ms given p i bound (e ∷ es) none =
    let free = or-false (given_variant given e) (list_any (given_variant given) es) none in
    (event_named ms given e i bound p free.0, events_named ms given p (i + 1) (after e i bound) es free.1)

-- of a variant

module _ (ms : List (List ℕ)) (owner text : List ℕ) (old : List ℕ) (whole_is : joined owner text ≡ old) (all : List SeenNode) (p : Pos) where
  abbrev here : Part
  here = behind_type owner text (alone_places old all)

  used : (n : Name) → n.pos ≡ p → list_any (same_place n.pos) (alone_places old all) ≡ false → bytes_eq n.text old ≡ true →
      (behind : List ℕ) × (n.text ≡ (front here p ++ text) ++ behind) × IsBehind behind
  used n at far same =
      let first : front here p ≡ owner ++ codes "." = ap (front here) (sym at) ∙ ap (λ b. cond b [] (owner ++ codes ".")) far in
      ([], bytes-are n.text old same ∙ sym whole_is ∙ ap (λ f. f ++ text) (sym first) ∙ sym (append-nil (front here p ++ text)), tt)

  defined : (o m : Name) → m.pos ≡ p → list_any (same_place m.pos) (alone_places old all) ≡ bytes_eq (joined o.text m.text) old → IsOwn owner text old (defines_variant o m) →
      bytes_eq (joined o.text m.text) old ≡ true → (behind : List ℕ) × (m.text ≡ (front here p ++ text) ++ behind) × IsBehind behind
  defined o m at near mine same =
      let first : front here p ≡ [] = ap (front here) (sym at) ∙ ap (λ b. cond b [] (owner ++ codes ".")) (near ∙ same) in
      ([], (mine same).1 ∙ ap (λ f. f ++ text) (sym first) ∙ sym (append-nil (front here p ++ text)), tt)

  used_at : (k : Kind) (n : Name) → same_place p n.pos ≡ true → list_any (same_place n.pos) (alone_places old all) ≡ false → same_kind kinds.Term k && bytes_eq n.text old ≡ true →
      (is_constant_kind k ≡ false) × ((behind : List ℕ) × (n.text ≡ (front here p ++ text) ++ behind) × IsBehind behind)
  used_at kinds.Term n at far h = (refl, used n (position_is p n.pos at) far h)
  used_at kinds.Type n at far h = never h
  used_at kinds.Constant n at far h = never h

  variant_named : (e : EventNode) (i : ℕ) (b : Option ℕ) → At (λ t. gives_variant old t.event) all (record { event = e; number = i; binder = b }) → IsOwn owner text old e →
      NamedIf ms (global kinds.Term old) here p (record { event = e; number = i; binder = b })
  variant_named (defines k n) i b own mine h at = let g = used_at k n at (own n.pos refl) h in (n, ap (λ c. Some (c, n)) g.0, position_is p n.pos at, g.1)
  variant_named (uses k n) i b own mine h at = let g = used_at k n at (own n.pos refl) h in (n, ap (λ c. Some (c, n)) g.0, position_is p n.pos at, g.1)
  variant_named (defines_variant o m) i b own mine h at = (m, refl, position_is p m.pos at, defined o m (position_is p m.pos at) (own m.pos refl) mine h)
  variant_named (occurs r n) i b own mine h at = never h
  variant_named (binds n) i b own mine h at = never h
  variant_named (reads n) i b own mine h at = never h
  variant_named closes i b own mine h at = never h
  variant_named ends i b own mine h at = never h

  variants_named : (i : ℕ) (bound : List BoundNode) (es : List EventNode) → AllByRecursion (At (λ t. gives_variant old t.event) all) (seen_from i bound es) → AllByRecursion (IsOwn owner text old) es →
      AllByRecursion (NamedIf ms (global kinds.Term old) here p) (seen_from i bound es)
  variants_named i bound [] own mine = tt
  variants_named i bound (e ∷ es) own mine = (variant_named e i (binder e i bound) own.0 mine.0, variants_named (i + 1) (after e i bound) es own.1 mine.1)

-- the events whose places change

or-cases : {A : Type 0} (a b : Bool) → a || b ≡ true → (a ≡ true → A) → (b ≡ true → A) → A
or-cases true b h one other = one refl
or-cases false b h one other = other h

place_named : (ms : List (List ℕ)) (given : NameNode) (part : Part) (p : Pos) (i : ℕ) (bound : List BoundNode) (es : List EventNode) →
    AllByRecursion (NamedIf ms given part p) (seen_from i bound es) →
    list_any (same_place p) (chosen (changes ms given) (seen_from i bound es)) ≡ true → AnyNamed (is_constant given) part p es
place_named ms given part p i bound [] known h = never h
place_named ms given part p i bound (e ∷ es) known h =
    let s : SeenNode = record { event = e; number = i; binder = binder e i bound } in
    let ss : List SeenNode = seen_from (i + 1) (after e i bound) es in
    or-cases (changes ms given s && is_at p (position e)) (list_any (same_place p) (chosen (changes ms given) ss))
    (sym (choose (changes ms given) p s ss (changes ms given s)) ∙ h)
    (λ one.
    let both = and_parts (changes ms given s) (is_at p (position e)) one in
    (e, inl refl, known.0 both.0 both.1))
    (λ later. let more = place_named ms given part p (i + 1) (after e i bound) es known.1 later in (more.0, inr more.1, more.2))

-- the new text of an accepted renaming is a new name

first_reason : {A : Type 0} (a : Bool) (x : A) (o : Option A) → (if not a then Some x else o) ≡ None → a ≡ true
first_reason true x o h = refl
first_reason false x o h = absurd (cc)

pub new_name : (given : NameNode) (new : List ℕ) (ss : List SeenNode) → refusal given new ss ≡ None → is_new_name new ≡ true
new_name given new ss none = first_reason (is_new_name new) _ _ none

none_of : (es : List EventNode) → list_any (λ e. false) es ≡ false
none_of [] = refl
none_of (e ∷ es) = none_of es

term_named : (es : List EventNode) (old : List ℕ) (p : Pos) (found : Option VariantNode) → first_variant old (seen es) ≡ found → are_apart (places_of (seen es)) ≡ true →
    is_double (part_by old found (seen es)) (seen es) ≡ false → AllByRecursion (NamedIf (members old (seen es)) (global kinds.Term old) (part_by old found (seen es)) p) (seen es)
term_named es old p None first apart single =
    events_named (members old (seen es)) (global kinds.Term old) p 0 [] es (sym (any_over (gives_variant old) 0 [] es) ∙ no_first old (seen es) first)
term_named es old p (Some v) first apart single =
    let whole_is : joined v.owner v.member ≡ old = first_is old v (seen es) first in
    variants_named (members old (seen es)) v.owner v.member old whole_is (seen es) p 0 [] es (at-all (λ t. gives_variant old t.event) (seen es) apart)
    (all_own v.owner v.member old es whole_is (sym (any_over (shares v.owner (v.member ∷ [])) 0 [] es) ∙ single))

all_named : (es : List EventNode) (given : NameNode) (new : List ℕ) (p : Pos) → are_apart (places_of (seen es)) ≡ true → refusal given new (seen es) ≡ None →
    AllByRecursion (NamedIf (members (name_text given) (seen es)) given (part_of given (seen es)) p) (seen es)
all_named es (global kinds.Term old) new p apart ok = term_named es old p (first_variant old (seen es)) refl apart (fits (global kinds.Term old) new (seen es) ok).not_double
all_named es (global kinds.Type old) new p apart ok = events_named (members old (seen es)) (global kinds.Type old) p 0 [] es (none_of es)
all_named es (global kinds.Constant old) new p apart ok = events_named (members old (seen es)) (global kinds.Constant old) p 0 [] es (none_of es)
all_named es (variable b old) new p apart ok = events_named (members old (seen es)) (variable b old) p 0 [] es (none_of es)

pub named : (es : List EventNode) (given : NameNode) (new : List ℕ) (places : List Pos) → are_apart (places_of (seen es)) ≡ true → IsAccepted given new (seen es) places → (p : Pos) →
    list_any (same_place p) places ≡ true → AnyNamed (is_constant given) (part_of given (seen es)) p es
named es given new places apart ok p there =
    place_named (members (name_text given) (seen es)) given (part_of given (seen es)) p 0 [] es (all_named es given new p apart ok.accepted)
    (list_any-IsPermutation (same_place p) (changed_places given (seen es)) places ok.exact ∙ there)
