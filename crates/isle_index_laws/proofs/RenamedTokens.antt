-- The tokens of a text with a new name spell the definitions with that name.
use Rattle.std.proofs.Common.{◌≡◌, ℕ, ◌+◌, ◌≤◌, List, [], ◌∷◌, ◌++◌, Bool, true, false, cond, not, ◌&&◌, ◌||◌, ◌==◌, Option, None, Some, eq-eqb, filter, length, map, refl, sym, ap, subst, ◌∙◌, arith}
use Rattle.std.proofs.lemmas.Bool.{and_parts, and_from, eqb-true}
use Rattle.std.proofs.lemmas.List.{append-nil}
use Rattle.std.proofs.lemmas.List.Sorted.{list_any-IsPermutation}
use Rattle.std.specs.List.{cons_option, filter_map, list_any}
use Rattle.isle_base.specs.Bytes.{dollar}
use Rattle.isle_base.specs.Place.{Placed}
use Rattle.isle_base.specs.Token.{symbol}
use Rattle.isle_base_source.specs.declared.pos.Pos.{Pos}
use Rattle.isle_ast_names.specs.Tree.{Name}
use Rattle.isle_ast_names.specs.Words.{SpellsAll}
use Rattle.isle_ast.specs.Grammar.{SpellsDefinition, SpellsDefinitions}
use Rattle.isle_ast.specs.Tree.{Definition}
use Rattle.isle_resolve.specs.declared.event.Kind.{Kind}
use Rattle.isle_resolve.specs.declared.event.Kind.TheVariants as kinds
use Rattle.isle_resolve.specs.Event.{EventNode, binds, closes, defines, defines_variant, ends, occurs, reads, uses}
use Rattle.isle_resolve.specs.Events.{events}
use Rattle.isle_resolve.specs.Mapped.{map_definitions}
use Rattle.isle_resolve.specs.Names.{NameNode, gives, global, name_text, variable}
use Rattle.isle_index.specs.Renamed.{are_apart, front, places_of, replaced, same_place, stands_at, with_new}
use Rattle.isle_index.specs.Renaming.{IsAccepted, Part, changed_places, changes, members, part_of, part_text, position, writes_member}
use Rattle.isle_resolve.specs.Scopes.{BoundNode, SeenNode, after, binder, seen, seen_from}
use Rattle.isle_index.proofs.Places.{chosen, is_at}
use Rattle.isle_index.proofs.Texts.{or-false}
use Rattle.isle_index_laws.specs.Kept.{AreKept}
use Rattle.isle_index_laws.specs.RenamedTokens.{is_constant, lead, positions, renamed_token, renamed_tokens, with_new_text}
use Rattle.isle_index_laws.proofs.FollowedDefinitions.{definitions_follow}
use Rattle.isle_index_laws.proofs.Follows.{Follow, KeepsPlaces}
use Rattle.isle_index_laws.proofs.Marks.{Mark, constant, events_at, hit, is_constant_kind, marked, marks_at, name, one_if, plain, token, tokens, tokens_of, wanted}
use Rattle.isle_index_laws.proofs.KeptNames.{clash}
use Rattle.isle_index_laws.proofs.NewNames.{not-false, same_text}
use Rattle.isle_index_laws.proofs.Renamings.{replacing_kept}

-- how many of some positions are this one

abbrev pub places_at : Pos → List Pos → ℕ
places_at p [] = 0
places_at p (q ∷ qs) = one_if (same_place p q) + places_at p qs

self : (p : Pos) → same_place p p ≡ true
self p = and_from (p.file == p.file) (p.offset == p.offset) (eq-eqb p.file p.file refl) (eq-eqb p.offset p.offset refl)

same : (p q : Pos) → same_place p q ≡ true → p ≡ q
same p q h =
    let both = and_parts (p.file == q.file) (p.offset == q.offset) h in
    let file = eqb-true p.file q.file both.0 in
    let offset = eqb-true p.offset q.offset both.1 in
    λ i. record { file = file i; offset = offset i }

none_at : (p : Pos) (qs : List Pos) → list_any (same_place p) qs ≡ false → places_at p qs ≡ 0
none_at p [] h = refl
none_at p (q ∷ qs) h =
    let both = or-false (same_place p q) (list_any (same_place p) qs) h in
    let first : one_if (same_place p q) ≡ 0 = ap one_if both.0 in
    let others = none_at p qs both.1 in
    omega arith

no_more_by : (p q : Pos) (qs : List Pos) (b : Bool) → same_place p q ≡ b → one_if (same_place p q) + places_at p qs ≡ 0 →
    (places_at p qs ≡ 0 → list_any (same_place p) qs ≡ false) → same_place p q || list_any (same_place p) qs ≡ false
no_more_by p q qs true is h later = let first : one_if (same_place p q) ≡ 1 = ap one_if is in absurd (omega arith)
no_more_by p q qs false is h later =
    let first : one_if (same_place p q) ≡ 0 = ap one_if is in
    ap (λ b. b || list_any (same_place p) qs) is ∙ later (omega arith)

no_more : (p : Pos) (qs : List Pos) → places_at p qs ≡ 0 → list_any (same_place p) qs ≡ false
no_more p [] h = refl
no_more p (q ∷ qs) h = no_more_by p q qs (same_place p q) refl h (λ k. no_more p qs k)

-- positions that are apart, by number

most : (p q : Pos) (qs : List Pos) (b : Bool) → same_place p q ≡ b → list_any (same_place q) qs ≡ false → places_at p qs ≤ 1 → one_if b + places_at p qs ≤ 1
most p q qs true is far h =
    let none : places_at p qs ≡ 0 = ap (λ r. places_at r qs) (same p q is) ∙ none_at q qs far in
    omega arith
most p q qs false is far h = omega arith

pub once : (qs : List Pos) → are_apart qs ≡ true → (p : Pos) → places_at p qs ≤ 1
once [] h p = omega arith
once (q ∷ qs) h p =
    let both = and_parts (not (list_any (same_place q) qs)) (are_apart qs) h in
    most p q qs (same_place p q) refl (not-false (list_any (same_place q) qs) both.0) (once qs both.1 p)

pub apart : (qs : List Pos) → ((p : Pos) → places_at p qs ≤ 1) → are_apart qs ≡ true
apart [] h = refl
apart (q ∷ qs) h =
    let own : one_if (same_place q q) ≡ 1 = ap one_if (self q) in
    let here = h q in
    and_from (not (list_any (same_place q) qs)) (are_apart qs) (ap not (no_more q qs (omega arith)))
    (apart qs (λ p. let there = h p in omega arith))

-- each token has one mark, and each event its own

abbrev plain_at : Pos → List Mark → ℕ
plain_at p [] = 0
plain_at p (plain t ∷ ms) = one_if (same_place p t.pos) + plain_at p ms
plain_at p (name n ∷ ms) = plain_at p ms
plain_at p (constant n ∷ ms) = plain_at p ms

each_token : (p : Pos) (ms : List Mark) → plain_at p ms + (marks_at false p ms + marks_at true p ms) ≡ places_at p (positions (tokens_of ms))
each_token p [] = refl
each_token p (plain t ∷ ms) = let more = each_token p ms in omega arith
each_token p (name n ∷ ms) = let more = each_token p ms in omega arith
each_token p (constant n ∷ ms) = let more = each_token p ms in omega arith

one_of_both : (p q : Pos) (b : Bool) → hit false p (Some (b, q)) + hit true p (Some (b, q)) ≡ one_if (same_place p q)
one_of_both p q true = omega arith
one_of_both p q false = omega arith

pub each_event : (p : Pos) (i : ℕ) (bound : List BoundNode) (es : List EventNode) → events_at false p es + events_at true p es ≡ places_at p (places_of (seen_from i bound es))
each_event p i bound [] = refl
each_event p i bound (defines k n ∷ es) =
    let more = each_event p (i + 1) (after (defines k n) i bound) es in
    let both = one_of_both p n.pos (is_constant_kind k) in
    omega arith
each_event p i bound (uses k n ∷ es) =
    let more = each_event p (i + 1) (after (uses k n) i bound) es in
    let both = one_of_both p n.pos (is_constant_kind k) in
    omega arith
each_event p i bound (defines_variant o m ∷ es) = let more = each_event p (i + 1) (after (defines_variant o m) i bound) es in omega arith
each_event p i bound (occurs r n ∷ es) = let more = each_event p (i + 1) (after (occurs r n) i bound) es in omega arith
each_event p i bound (binds n ∷ es) = let more = each_event p (i + 1) (after (binds n) i bound) es in omega arith
each_event p i bound (reads n ∷ es) = let more = each_event p (i + 1) (after (reads n) i bound) es in omega arith
each_event p i bound (closes ∷ es) = let more = each_event p (i + 1) (after closes i bound) es in omega arith
each_event p i bound (ends ∷ es) = let more = each_event p (i + 1) (after ends i bound) es in omega arith

-- names that stay as they are are kept
unchanged : (es : List EventNode) → AreKept (λ n. n) es
unchanged [] = tt
unchanged (defines k n ∷ es) = (same_text n.text, unchanged es)
unchanged (uses k n ∷ es) = (same_text n.text, unchanged es)
unchanged (defines_variant o m ∷ es) = ((same_text o.text, same_text m.text), unchanged es)
unchanged (occurs r n ∷ es) = (same_text n.text, unchanged es)
unchanged (binds n ∷ es) = (same_text n.text, unchanged es)
unchanged (reads n ∷ es) = (same_text n.text, unchanged es)
unchanged (closes ∷ es) = (tt, unchanged es)
unchanged (ends ∷ es) = (tt, unchanged es)

-- the marks of tokens that stand apart
abbrev Once : List Mark → Type 0
Once ms = (p : Pos) → plain_at p ms + (marks_at false p ms + marks_at true p ms) ≤ 1

marks_once : (ts : List Placed) (ms : List Mark) → are_apart (positions ts) ≡ true → ts ≡ tokens_of ms ++ [] → Once ms
marks_once ts ms h is p =
    let there : places_at p (positions (tokens_of ms)) ≤ 1 = once (positions (tokens_of ms)) (subst (λ us. are_apart (positions us) ≡ true) (is ∙ append-nil (tokens_of ms)) h) p in
    let number = each_token p ms in
    omega arith

-- at each place are at most as many names as tokens
pub names_at_most : (ds : List Definition) (ts : List Placed) → SpellsDefinitions ds ts → (p : Pos) → events_at false p (events ds) + events_at true p (events ds) ≤ places_at p (positions ts)
names_at_most ds ts h p =
    let one : Follow (λ n. n) (SpellsAll SpellsDefinition (map_definitions (λ n. n) ds)) (events ds) ts [] = definitions_follow (λ n. n) (λ n. refl) ds ts [] (unchanged (events ds)) h in
    let names = one.marked false p in
    let constants = one.marked true p in
    let number = each_token p one.marks in
    let all : places_at p (positions ts) ≡ places_at p (positions (tokens_of one.marks)) = ap (λ us. places_at p (positions us)) (one.is ∙ append-nil (tokens_of one.marks)) in
    omega arith

-- the names of a text stand apart, as its tokens do
pub names_apart : (ds : List Definition) (ts : List Placed) → SpellsDefinitions ds ts → are_apart (positions ts) ≡ true → are_apart (places_of (seen (events ds))) ≡ true
names_apart ds ts h away =
    apart (places_of (seen (events ds)))
    (λ p.
    let most = names_at_most ds ts h p in
    let single = once (positions ts) away p in
    let number = each_event p 0 [] (events ds) in
    omega arith)

-- the events whose places change

any-cons : (p : Pos) (o : Option Pos) (ps : List Pos) → list_any (same_place p) (cons_option o ps) ≡ (is_at p o || list_any (same_place p) ps)
any-cons p None ps = refl
any-cons p (Some q) ps = refl

pub choose : (C : SeenNode → Bool) (p : Pos) (s : SeenNode) (ss : List SeenNode) (b : Bool) →
    list_any (same_place p) (filter_map (λ x. position x.event) (cond b (s ∷ filter C ss) (filter C ss)))
    ≡ ((b && is_at p (position s.event)) || list_any (same_place p) (chosen C ss))
choose C p s ss true = any-cons p (position s.event) (chosen C ss)
choose C p s ss false = refl

global_hit : (ms : List (List ℕ)) (k : Kind) (text : List ℕ) (kind : Kind) (n : Name) → changes ms (global k text) (record { event = uses kind n; number = 0; binder = None }) ≡ true → (p : Pos) → same_place p n.pos ≡ true →
    hit (is_constant (global k text)) p (wanted (uses kind n)) ≡ 1
global_hit ms kinds.Term text kinds.Term n h p at = ap one_if at
global_hit ms kinds.Term text kinds.Type n h p at = ap one_if at
global_hit ms kinds.Term text kinds.Constant n h p at = let never : false ≡ true = h in absurd (cc)
global_hit ms kinds.Type text kinds.Term n h p at = ap one_if at
global_hit ms kinds.Type text kinds.Type n h p at = ap one_if at
global_hit ms kinds.Type text kinds.Constant n h p at = let never : false ≡ true = h in absurd (cc)
global_hit ms kinds.Constant text kinds.Term n h p at = let never : false ≡ true = h in absurd (cc)
global_hit ms kinds.Constant text kinds.Type n h p at = let never : false ≡ true = h in absurd (cc)
global_hit ms kinds.Constant text kinds.Constant n h p at = ap one_if at

defining_hit : (ms : List (List ℕ)) (k : Kind) (text : List ℕ) (kind : Kind) (n : Name) → changes ms (global k text) (record { event = defines kind n; number = 0; binder = None }) ≡ true → (p : Pos) → same_place p n.pos ≡ true →
    hit (is_constant (global k text)) p (wanted (defines kind n)) ≡ 1
defining_hit ms kinds.Term text kind n h p at = global_hit ms kinds.Term text kind n h p at
defining_hit ms kinds.Type text kind n h p at = global_hit ms kinds.Type text kind n h p at
defining_hit ms kinds.Constant text kind n h p at = global_hit ms kinds.Constant text kind n h p at

variant_hit : (ms : List (List ℕ)) (k : Kind) (text : List ℕ) (o m : Name) → changes ms (global k text) (record { event = defines_variant o m; number = 0; binder = None }) ≡ true → (p : Pos) → same_place p m.pos ≡ true →
    hit (is_constant (global k text)) p (wanted (defines_variant o m)) ≡ 1
variant_hit ms kinds.Term text o m h p at = ap one_if at
variant_hit ms kinds.Type text o m h p at = ap one_if at
variant_hit ms kinds.Constant text o m h p at = let never : false ≡ true = h in absurd (cc)

-- a name of the whole program is no variable
no_variable : (ms : List (List ℕ)) (k : Kind) (text : List ℕ) (e : EventNode) (i : ℕ) (b : Option ℕ) → gives k text e ≡ false → writes_member text ms e ≡ false →
    changes ms (global k text) (record { event = e; number = i; binder = b }) ≡ true → ⊥
no_variable ms kinds.Term text e i b one other h = clash (gives kinds.Term text e) h one
no_variable ms kinds.Type text e i b one other h = clash (gives kinds.Type text e || writes_member text ms e) h (ap (λ x. x || writes_member text ms e) one ∙ other)
no_variable ms kinds.Constant text e i b one other h = clash (gives kinds.Constant text e) h one

-- the same of any event
changed_hit : (ms : List (List ℕ)) (given : NameNode) (i : ℕ) (bound : List BoundNode) (e : EventNode) (p : Pos) →
    changes ms given (record { event = e; number = i; binder = binder e i bound }) ≡ true → is_at p (position e) ≡ true → hit (is_constant given) p (wanted e) ≡ 1
changed_hit ms (global kinds.Term text) i bound (defines kind n) p h at = defining_hit ms kinds.Term text kind n h p at
changed_hit ms (global kinds.Type text) i bound (defines kind n) p h at = defining_hit ms kinds.Type text kind n h p at
changed_hit ms (global kinds.Constant text) i bound (defines kind n) p h at = defining_hit ms kinds.Constant text kind n h p at
changed_hit ms (global kinds.Term text) i bound (uses kind n) p h at = global_hit ms kinds.Term text kind n h p at
changed_hit ms (global kinds.Type text) i bound (uses kind n) p h at = global_hit ms kinds.Type text kind n h p at
changed_hit ms (global kinds.Constant text) i bound (uses kind n) p h at = global_hit ms kinds.Constant text kind n h p at
changed_hit ms (global kinds.Term text) i bound (defines_variant o m) p h at = variant_hit ms kinds.Term text o m h p at
changed_hit ms (global kinds.Type text) i bound (defines_variant o m) p h at = variant_hit ms kinds.Type text o m h p at
changed_hit ms (global kinds.Constant text) i bound (defines_variant o m) p h at = variant_hit ms kinds.Constant text o m h p at
changed_hit ms (global k text) i bound (occurs r n) p h at = absurd (no_variable ms k text (occurs r n) i (binder (occurs r n) i bound) refl refl h)
changed_hit ms (global k text) i bound (binds n) p h at = absurd (no_variable ms k text (binds n) i (binder (binds n) i bound) refl refl h)
changed_hit ms (global k text) i bound (reads n) p h at = absurd (no_variable ms k text (reads n) i (binder (reads n) i bound) refl refl h)
changed_hit ms (global k text) i bound closes p h at = let never : false ≡ true = at in absurd (cc)
changed_hit ms (global k text) i bound ends p h at = let never : false ≡ true = at in absurd (cc)
changed_hit ms (variable b old) i bound (defines kind n) p h at = let never : false ≡ true = h in absurd (cc)
changed_hit ms (variable b old) i bound (uses kind n) p h at = let never : false ≡ true = h in absurd (cc)
changed_hit ms (variable b old) i bound (defines_variant o m) p h at = let never : false ≡ true = h in absurd (cc)
changed_hit ms (variable b old) i bound (occurs r n) p h at = ap one_if at
changed_hit ms (variable b old) i bound (binds n) p h at = ap one_if at
changed_hit ms (variable b old) i bound (reads n) p h at = ap one_if at
changed_hit ms (variable b old) i bound closes p h at = let never : false ≡ true = at in absurd (cc)
changed_hit ms (variable b old) i bound ends p h at = let never : false ≡ true = at in absurd (cc)

or-cases : {A : Type 0} (a b : Bool) → a || b ≡ true → (a ≡ true → A) → (b ≡ true → A) → A
or-cases true b h one other = one refl
or-cases false b h one other = other h

place_hit : (ms : List (List ℕ)) (given : NameNode) (p : Pos) (i : ℕ) (bound : List BoundNode) (es : List EventNode) →
    list_any (same_place p) (chosen (changes ms given) (seen_from i bound es)) ≡ true → 1 ≤ events_at (is_constant given) p es
place_hit ms given p i bound [] h = let never : false ≡ true = h in absurd (cc)
place_hit ms given p i bound (e ∷ es) h =
    let s : SeenNode = record { event = e; number = i; binder = binder e i bound } in
    let ss : List SeenNode = seen_from (i + 1) (after e i bound) es in
    or-cases (changes ms given s && is_at p (position e)) (list_any (same_place p) (chosen (changes ms given) ss))
    (sym (choose (changes ms given) p s ss (changes ms given s)) ∙ h)
    (λ here.
    let both = and_parts (changes ms given s) (is_at p (position e)) here in
    let one = changed_hit ms given i bound e p both.0 both.1 in
    omega arith)
    (λ later. let more = place_hit ms given p (i + 1) (after e i bound) es later in omega arith)

-- marks and the tokens after the renaming

-- how many marks are at a place
abbrev all_at : Pos → List Mark → ℕ
all_at p ms = plain_at p ms + (marks_at false p ms + marks_at true p ms)

-- where a mark stands at a place that changes, one of this kind does
abbrev Stand : Bool → List Pos → List Mark → Type 0
Stand c places ms = (p : Pos) → 1 ≤ all_at p ms → list_any (same_place p) places ≡ true → 1 ≤ marks_at c p ms

-- these marks are among all
abbrev Among : List Mark → List Mark → Type 0
Among ms all = (p : Pos) → (plain_at p ms ≤ plain_at p all) × (marks_at false p ms ≤ marks_at false p all) × (marks_at true p ms ≤ marks_at true p all)

not-here : (b : Bool) → (b ≡ true → ⊥) → b ≡ false
not-here true h = absurd (h refl)
not-here false h = refl

plain_free : (c : Bool) (places : List Pos) (t : Placed) (ms all : List Mark) → Once all → Stand c places all → Among (plain t ∷ ms) all → list_any (same_place t.pos) places ≡ false
plain_free true places t ms all alone stand among =
    not-here (list_any (same_place t.pos) places)
    (λ h.
    let own : one_if (same_place t.pos t.pos) ≡ 1 = ap one_if (self t.pos) in
    let least = alone t.pos in
    let more = (among t.pos).0 in
    let there = stand t.pos (omega arith) h in
    omega arith)
plain_free false places t ms all alone stand among =
    not-here (list_any (same_place t.pos) places)
    (λ h.
    let own : one_if (same_place t.pos t.pos) ≡ 1 = ap one_if (self t.pos) in
    let least = alone t.pos in
    let more = (among t.pos).0 in
    let there = stand t.pos (omega arith) h in
    omega arith)

name_free : (places : List Pos) (n : Name) (ms all : List Mark) → Once all → Stand true places all → Among (name n ∷ ms) all → list_any (same_place n.pos) places ≡ false
name_free places n ms all alone stand among =
    not-here (list_any (same_place n.pos) places)
    (λ h.
    let own : hit false n.pos (marked (name n)) ≡ 1 = ap one_if (self n.pos) in
    let least = alone n.pos in
    let more = (among n.pos).1 in
    let there = stand n.pos (omega arith) h in
    omega arith)

constant_free : (places : List Pos) (n : Name) (ms all : List Mark) → Once all → Stand false places all → Among (constant n ∷ ms) all → list_any (same_place n.pos) places ≡ false
constant_free places n ms all alone stand among =
    not-here (list_any (same_place n.pos) places)
    (λ h.
    let own : hit true n.pos (marked (constant n)) ≡ 1 = ap one_if (self n.pos) in
    let least = alone n.pos in
    let more = (among n.pos).2 in
    let there = stand n.pos (omega arith) h in
    omega arith)

abbrev parted : Part → List ℕ → Name → Name
parted part new n = record { text = with_new (length (front part n.pos)) (part_text part) new n.text; pos = n.pos }

name_by : (part : Part) (new : List ℕ) (n : Name) (b : Bool) →
    ◌≡◌ {A = Placed} (record { pos = n.pos; token = symbol (cond b (parted part new n) n).text })
    (cond b (record { pos = n.pos; token = symbol (with_new (length (lead false part n.pos)) (part_text part) new n.text) }) (record { pos = n.pos; token = symbol n.text }))
name_by part new n true = refl
name_by part new n false = refl

constant_by : (part : Part) (new : List ℕ) (n : Name) (b : Bool) →
    ◌≡◌ {A = Placed} (record { pos = n.pos; token = symbol (dollar ∷ (cond b (parted part new n) n).text) })
    (cond b (record { pos = n.pos; token = symbol (with_new (length (lead true part n.pos)) (part_text part) new (dollar ∷ n.text)) }) (record { pos = n.pos; token = symbol (dollar ∷ n.text) }))
constant_by part new n true = refl
constant_by part new n false = refl

still_name : (mark : List ℕ → List ℕ) (part : Part) (new : List ℕ) (n : Name) (b : Bool) (t : Placed) → b ≡ false →
    ◌≡◌ {A = Placed} (record { pos = n.pos; token = symbol (mark (cond b (parted part new n) n).text) }) (cond b t (record { pos = n.pos; token = symbol (mark n.text) }))
still_name mark part new n b t off =
    ap (λ x. record { pos = n.pos; token = symbol (mark (cond x (parted part new n) n).text) }) off ∙ sym (ap (λ x. cond x t (record { pos = n.pos; token = symbol (mark n.text) })) off)

token_moves : (c : Bool) (places : List Pos) (part : Part) (new : List ℕ) (m : Mark) (ms all : List Mark) → Once all → Stand c places all → Among (m ∷ ms) all →
    token (replaced places part new) m ≡ renamed_token places c part new (token (λ n. n) m)
token_moves c places part new (plain t) ms all alone stand among =
    sym (ap (λ b. cond b (record { pos = t.pos; token = with_new_text (length (lead c part t.pos)) (part_text part) new t.token }) t) (plain_free c places t ms all alone stand among))
token_moves true places part new (name n) ms all alone stand among =
    still_name (λ x. x) part new n (stands_at places n) _ (name_free places n ms all alone stand among)
token_moves false places part new (name n) ms all alone stand among = name_by part new n (stands_at places n)
token_moves true places part new (constant n) ms all alone stand among = constant_by part new n (stands_at places n)
token_moves false places part new (constant n) ms all alone stand among =
    still_name (λ x. dollar ∷ x) part new n (stands_at places n) _ (constant_free places n ms all alone stand among)

fewer : (m : Mark) (ms all : List Mark) → Among (m ∷ ms) all → Among ms all
fewer (plain t) ms all among p = let h = among p in (omega arith, omega arith, omega arith)
fewer (name n) ms all among p = let h = among p in (omega arith, omega arith, omega arith)
fewer (constant n) ms all among p = let h = among p in (omega arith, omega arith, omega arith)

tokens_move : (c : Bool) (places : List Pos) (part : Part) (new : List ℕ) (ms all : List Mark) → Once all → Stand c places all → Among ms all →
    tokens (replaced places part new) ms ≡ map (renamed_token places c part new) (tokens_of ms)
tokens_move c places part new [] all alone stand among = refl
tokens_move c places part new (m ∷ ms) all alone stand among =
    ap (λ t. t ∷ tokens (replaced places part new) ms) (token_moves c places part new m ms all alone stand among)
    ∙ ap (λ ts. renamed_token places c part new (token (λ n. n) m) ∷ ts) (tokens_move c places part new ms all alone stand (fewer m ms all among))

place_stays : (places : List Pos) (part : Part) (new : List ℕ) (n : Name) (b : Bool) → (cond b (parted part new n) n).pos ≡ n.pos
place_stays places part new n true = refl
place_stays places part new n false = refl

keeps_places : (places : List Pos) (part : Part) (new : List ℕ) → KeepsPlaces (replaced places part new)
keeps_places places part new n = place_stays places part new n (stands_at places n)

-- the tokens of definitions whose names are kept
pub tokens_spell : (ds : List Definition) (ts : List Placed) (given : NameNode) (part : Part) (new : List ℕ) (places : List Pos) → SpellsDefinitions ds ts → are_apart (positions ts) ≡ true →
    AreKept (replaced places part new) (events ds) →
    ((p : Pos) → 1 ≤ places_at p (positions ts) → list_any (same_place p) places ≡ true → 1 ≤ events_at (is_constant given) p (events ds)) →
    SpellsDefinitions (map_definitions (replaced places part new) ds) (renamed_tokens places given part new ts)
tokens_spell ds ts given part new places h away kept hits =
    let f : Name → Name = replaced places part new in
    let one : Follow f (SpellsAll SpellsDefinition (map_definitions f ds)) (events ds) ts [] = definitions_follow f (keeps_places places part new) ds ts [] kept h in
    let all : ts ≡ tokens_of one.marks = one.is ∙ append-nil (tokens_of one.marks) in
    let least : Once one.marks = marks_once ts one.marks away one.is in
    let stand : Stand (is_constant given) places one.marks = λ p here there.
    let number = each_token p one.marks in
    let same_number : places_at p (positions ts) ≡ places_at p (positions (tokens_of one.marks)) = ap (λ us. places_at p (positions us)) all in
    let hit_there = hits p (omega arith) there in
    let marks_there = one.marked (is_constant given) p in
    omega arith in
    let moved = tokens_move (is_constant given) places part new one.marks one.marks least stand (λ p. (omega arith, omega arith, omega arith)) in
    subst (SpellsDefinitions (map_definitions f ds))
    (append-nil (tokens f one.marks) ∙ moved ∙ sym (ap (renamed_tokens places given part new) all))
    (one.spelt [])

-- at each place that changes stands a name of the kind that is renamed
pub changed_names : (ds : List Definition) (given : NameNode) (new : List ℕ) (places : List Pos) → IsAccepted given new (seen (events ds)) places → (p : Pos) →
    list_any (same_place p) places ≡ true → 1 ≤ events_at (is_constant given) p (events ds)
changed_names ds given new places ok p there =
    place_hit (members (name_text given) (seen (events ds))) given p 0 [] (events ds)
    (list_any-IsPermutation (same_place p) (changed_places given (seen (events ds))) places ok.exact ∙ there)

pub renamed_tokens_spell : (ds : List Definition) (ts : List Placed) (given : NameNode) (new : List ℕ) (places : List Pos) → SpellsDefinitions ds ts → are_apart (positions ts) ≡ true →
    IsAccepted given new (seen (events ds)) places →
    SpellsDefinitions (map_definitions (replaced places (part_of given (seen (events ds))) new) ds) (renamed_tokens places given (part_of given (seen (events ds))) new ts)
renamed_tokens_spell ds ts given new places h away ok =
    tokens_spell ds ts given (part_of given (seen (events ds))) new places h away (replacing_kept ds given new places (names_apart ds ts h away) ok) (λ p _ there. changed_names ds given new places ok p there)
