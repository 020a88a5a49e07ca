-- Replacing the old text at the places that change renames the name.
use Rattle.std.proofs.Common.{◌≡◌, ℕ, ◌+◌, List, [], ◌∷◌, Bool, true, false, cond, ◌&&◌, ◌||◌, Option, None, Some, bytes_eq, codes, length, ◌++◌, filter, refl, sym, ap, ◌∙◌, if◌then◌else◌, append-nil}
use Rattle.std.proofs.lemmas.List.Sorted.{list_any-IsPermutation}
use Rattle.std.specs.List.{AllByRecursion, filter_map, list_any}
use Rattle.isle_base_source.specs.declared.pos.Pos.{Pos}
use Rattle.isle_ast.specs.Tree.{Definition}
use Rattle.isle_ast_names.specs.Tree.{Name}
use Rattle.isle_resolve.specs.declared.event.Kind.{Kind}
use Rattle.isle_resolve.specs.declared.event.Kind.TheVariants as kinds
use Rattle.isle_resolve.specs.declared.event.Role.{Role}
use Rattle.isle_resolve.specs.Event.{EventNode, defines, uses, defines_variant, occurs, binds, reads, closes, ends}
use Rattle.isle_resolve.specs.Events.{events}
use Rattle.isle_resolve.specs.Mapped.{map_event}
use Rattle.isle_resolve.specs.Scopes.{BoundNode, SeenNode, after, binder, seen, seen_from}
use Rattle.isle_resolve.specs.Names.{NameNode, global, variable, is_number, joined, name_text}
use Rattle.isle_index.specs.Renaming.{IsAccepted, VariantNode, alone_places, behind_type, changed_places, changes, first_variant, gives_variant, is_double, is_member, members, part_by, part_of, position, renamed_variable, shares, whole_text, with_part}
use Rattle.isle_index.specs.Renamed.{Renames, are_apart, new_event, new_member, places_of, replaced, same_place, stands_at, with_front, with_member, with_new, with_new_text}
use Rattle.isle_resolve.proofs.Texts.{bytes-are}
use Rattle.isle_index.proofs.Texts.{or-false, with_front-is}
use Rattle.isle_index_laws.proofs.Keeps.{any_over, each_by}
use Rattle.isle_index_laws.proofs.Fits.{fits}
use Rattle.isle_index_laws.proofs.Owners.{OwnerIs, TypeIs, owners}
use Rattle.isle_index.proofs.Places.{At, at-all}
use Rattle.isle_index_laws.proofs.Parts.{ended_new}
use Rattle.isle_index_laws.proofs.Variants.{IsOwn, all_own, first_is, no_first}

-- a name with the new text in front
abbrev front : List ℕ → List ℕ → Name → Name
front old new n = record { text = with_front old new n.text; pos = n.pos }

-- the new text is all that is left where the old one was all
whole : (old new text : List ℕ) → text ≡ old → with_front old new text ≡ new
whole old new text is = with_front-is old new [] text (is ∙ sym (append-nil old)) ∙ append-nil new

front-by : (old new : List ℕ) (n : Name) (b : Bool) → bytes_eq n.text old ≡ b → cond b (front old new n) n ≡ record { text = if b then new else n.text; pos = n.pos }
front-by old new n true is = ap (λ t. record { text = t; pos = n.pos }) (whole old new n.text (bytes-are n.text old is))
front-by old new n false is = refl

front-new : (old new : List ℕ) (n : Name) (w : Bool) → w ≡ bytes_eq n.text old → cond w (front old new n) n ≡ record { text = if bytes_eq n.text old then new else n.text; pos = n.pos }
front-new old new n w is = ap (λ b. cond b (front old new n) n) is ∙ front-by old new n (bytes_eq n.text old) refl

member-by : (old new : List ℕ) (n : Name) (b : Bool) → cond b (front old new n) n ≡ record { text = if b then with_front old new n.text else n.text; pos = n.pos }
member-by old new n true = refl
member-by old new n false = refl

stays : (old new : List ℕ) (n : Name) (w : Bool) → w ≡ false → cond w (front old new n) n ≡ n
stays old new n w is = ap (λ b. cond b (front old new n) n) is

or-nothing : (b : Bool) → b || false ≡ b
or-nothing true = refl
or-nothing false = refl

-- an event that names something, by itself
abbrev lone : EventNode → SeenNode
lone e = record { event = e; number = 0; binder = None }

-- a name of the whole program
name-new : (ms : List (List ℕ)) (kind : Kind) (old new : List ℕ) (k : Kind) (n : Name) (w : Bool) → w ≡ changes ms (global kind old) (lone (uses k n)) →
    cond w (front old new n) n ≡ with_new_text ms kind old new k n
name-new ms kinds.Term old new kinds.Term n w is = front-new old new n w is
name-new ms kinds.Term old new kinds.Type n w is = stays old new n w is
name-new ms kinds.Term old new kinds.Constant n w is = stays old new n w is
name-new ms kinds.Constant old new kinds.Term n w is = stays old new n w is
name-new ms kinds.Constant old new kinds.Type n w is = stays old new n w is
name-new ms kinds.Constant old new kinds.Constant n w is = front-new old new n w is
name-new ms kinds.Type old new kinds.Type n w is = front-new old new n w (is ∙ or-nothing (bytes_eq n.text old))
name-new ms kinds.Type old new kinds.Term n w is = ap (λ b. cond b (front old new n) n) is ∙ member-by old new n (is_member old ms n.text)
name-new ms kinds.Type old new kinds.Constant n w is = stays old new n w is

-- a variant has the name of no term that changes
abbrev VariantStays : List (List ℕ) → Kind → List ℕ → EventNode → Type 0
VariantStays ms kind old (defines_variant o m) = changes ms (global kind old) (lone (defines_variant o m)) ≡ false
VariantStays ms kind old (defines _ _) = Unit {0}
VariantStays ms kind old (uses _ _) = Unit {0}
VariantStays ms kind old (occurs _ _) = Unit {0}
VariantStays ms kind old (binds _) = Unit {0}
VariantStays ms kind old (reads _) = Unit {0}
VariantStays ms kind old closes = Unit {0}
VariantStays ms kind old ends = Unit {0}

term-variant : (ms : List (List ℕ)) (old : List ℕ) (e : EventNode) → gives_variant old e ≡ false → VariantStays ms kinds.Term old e
term-variant ms old (defines_variant o m) none = none
term-variant ms old (defines k n) none = tt
term-variant ms old (uses k n) none = tt
term-variant ms old (occurs role n) none = tt
term-variant ms old (binds n) none = tt
term-variant ms old (reads n) none = tt
term-variant ms old closes none = tt
term-variant ms old ends none = tt

type-variants : (ms : List (List ℕ)) (old : List ℕ) (es : List EventNode) → AllByRecursion (VariantStays ms kinds.Type old) es
type-variants ms old [] = tt
type-variants ms old (defines_variant o m ∷ es) = (refl, type-variants ms old es)
type-variants ms old (defines k n ∷ es) = (tt, type-variants ms old es)
type-variants ms old (uses k n ∷ es) = (tt, type-variants ms old es)
type-variants ms old (occurs role n ∷ es) = (tt, type-variants ms old es)
type-variants ms old (binds n ∷ es) = (tt, type-variants ms old es)
type-variants ms old (reads n ∷ es) = (tt, type-variants ms old es)
type-variants ms old (closes ∷ es) = (tt, type-variants ms old es)
type-variants ms old (ends ∷ es) = (tt, type-variants ms old es)

constant-variants : (ms : List (List ℕ)) (old : List ℕ) (es : List EventNode) → AllByRecursion (VariantStays ms kinds.Constant old) es
constant-variants ms old [] = tt
constant-variants ms old (defines_variant o m ∷ es) = (refl, constant-variants ms old es)
constant-variants ms old (defines k n ∷ es) = (tt, constant-variants ms old es)
constant-variants ms old (uses k n ∷ es) = (tt, constant-variants ms old es)
constant-variants ms old (occurs role n ∷ es) = (tt, constant-variants ms old es)
constant-variants ms old (binds n ∷ es) = (tt, constant-variants ms old es)
constant-variants ms old (reads n ∷ es) = (tt, constant-variants ms old es)
constant-variants ms old (closes ∷ es) = (tt, constant-variants ms old es)
constant-variants ms old (ends ∷ es) = (tt, constant-variants ms old es)

occurs-stays : (ms : List (List ℕ)) (kind : Kind) (old : List ℕ) (role : Role) (n : Name) (i : ℕ) (b : Option ℕ) → changes ms (global kind old) (record { event = occurs role n; number = i; binder = b }) ≡ false
occurs-stays ms kinds.Term old role n i b = refl
occurs-stays ms kinds.Type old role n i b = refl
occurs-stays ms kinds.Constant old role n i b = refl

binds-stays : (ms : List (List ℕ)) (kind : Kind) (old : List ℕ) (n : Name) (i : ℕ) (b : Option ℕ) → changes ms (global kind old) (record { event = binds n; number = i; binder = b }) ≡ false
binds-stays ms kinds.Term old n i b = refl
binds-stays ms kinds.Type old n i b = refl
binds-stays ms kinds.Constant old n i b = refl

reads-stays : (ms : List (List ℕ)) (kind : Kind) (old : List ℕ) (n : Name) (i : ℕ) (b : Option ℕ) → changes ms (global kind old) (record { event = reads n; number = i; binder = b }) ≡ false
reads-stays ms kinds.Term old n i b = refl
reads-stays ms kinds.Type old n i b = refl
reads-stays ms kinds.Constant old n i b = refl

lone-is : (ms : List (List ℕ)) (kind : Kind) (old : List ℕ) (e : EventNode) (i : ℕ) (b : Option ℕ) → changes ms (global kind old) (record { event = e; number = i; binder = b }) ≡ changes ms (global kind old) (lone e)
lone-is ms kinds.Term old e i b = refl
lone-is ms kinds.Type old e i b = refl
lone-is ms kinds.Constant old e i b = refl

defines-is : (ms : List (List ℕ)) (kind : Kind) (old : List ℕ) (k : Kind) (n : Name) → changes ms (global kind old) (lone (defines k n)) ≡ changes ms (global kind old) (lone (uses k n))
defines-is ms kinds.Term old k n = refl
defines-is ms kinds.Type old k n = refl
defines-is ms kinds.Constant old k n = refl

-- a name of a variable, with a new text if it changes
variable-by : (old new : List ℕ) (n : Name) (make : Name → EventNode) (w a b : Bool) → w ≡ a && b → bytes_eq n.text old ≡ b →
    make (cond w (front old new n) n) ≡ (if a && b then make (record { text = new; pos = n.pos }) else make n)
variable-by old new n make w true true is same =
    ap (λ x. make (cond x (front old new n) n)) is ∙ ap (λ t. make (record { text = t; pos = n.pos })) (whole old new n.text (bytes-are n.text old same))
variable-by old new n make w true false is same = ap (λ x. make (cond x (front old new n) n)) is
variable-by old new n make w false b is same = ap (λ x. make (cond x (front old new n) n)) is

-- what is known of places: whether a name stands at one tells whether its event changes
abbrev Stands : List Pos → List (List ℕ) → NameNode → SeenNode → Type 0
Stands places ms name s = (n : Name) → position s.event ≡ Some n.pos → stands_at places n ≡ changes ms name s

abbrev OfType : List Pos → List (List ℕ) → NameNode → Name → Type 0
OfType places ms name n = stands_at places n ≡ changes ms name (lone (uses kinds.Type n))

-- events change as they are to
globals-renamed : (places : List Pos) (ms : List (List ℕ)) (kind : Kind) (old new : List ℕ) (i : ℕ) (bound : List BoundNode) (es : List EventNode) →
    AllByRecursion (Stands places ms (global kind old)) (seen_from i bound es) → AllByRecursion (OwnerIs (OfType places ms (global kind old))) es →
    AllByRecursion (VariantStays ms kind old) es →
    AllByRecursion (λ s. map_event (replaced places (whole_text old) new) s.event ≡ new_event ms kind old new s.event) (seen_from i bound es)
globals-renamed places ms kind old new i bound [] stands owned none = tt
globals-renamed places ms kind old new i bound (defines k n ∷ es) stands owned none = (
  ap (defines k) (name-new ms kind old new k n (stands_at places n) (stands.0 n refl ∙ lone-is ms kind old (defines k n) i None ∙ defines-is ms kind old k n)),
  globals-renamed places ms kind old new (i + 1) bound es stands.1 owned.1 none.1,
)
globals-renamed places ms kind old new i bound (uses k n ∷ es) stands owned none = (
  ap (uses k) (name-new ms kind old new k n (stands_at places n) (stands.0 n refl ∙ lone-is ms kind old (uses k n) i None)),
  globals-renamed places ms kind old new (i + 1) bound es stands.1 owned.1 none.1,
)
globals-renamed places ms kind old new i bound (defines_variant o m ∷ es) stands owned none = (
  ap (λ x. defines_variant x (replaced places (whole_text old) new m)) (name-new ms kind old new kinds.Type o (stands_at places o) owned.0)
      ∙ ap (defines_variant (with_new_text ms kind old new kinds.Type o))
      (stays old new m (stands_at places m) (stands.0 m refl ∙ lone-is ms kind old (defines_variant o m) i None ∙ none.0)),
  globals-renamed places ms kind old new (i + 1) bound es stands.1 owned.1 none.1,
)
globals-renamed places ms kind old new i bound (occurs role n ∷ es) stands owned none = (
  ap (occurs role) (stays old new n (stands_at places n) (stands.0 n refl ∙ occurs-stays ms kind old role n i (binder (occurs role n) i bound))),
  globals-renamed places ms kind old new (i + 1) (after (occurs role n) i bound) es stands.1 owned.1 none.1,
)
globals-renamed places ms kind old new i bound (binds n ∷ es) stands owned none = (
  ap binds (stays old new n (stands_at places n) (stands.0 n refl ∙ binds-stays ms kind old n i (binder (binds n) i bound))),
  globals-renamed places ms kind old new (i + 1) (after (binds n) i bound) es stands.1 owned.1 none.1,
)
globals-renamed places ms kind old new i bound (reads n ∷ es) stands owned none = (
  ap reads (stays old new n (stands_at places n) (stands.0 n refl ∙ reads-stays ms kind old n i (binder (reads n) i bound))),
  globals-renamed places ms kind old new (i + 1) bound es stands.1 owned.1 none.1,
)
globals-renamed places ms kind old new i bound (closes ∷ es) stands owned none =
    (refl, globals-renamed places ms kind old new (i + 1) (after closes i bound) es stands.1 owned.1 none.1)
globals-renamed places ms kind old new i bound (ends ∷ es) stands owned none =
    (refl, globals-renamed places ms kind old new (i + 1) [] es stands.1 owned.1 none.1)

variables-renamed : (places : List Pos) (ms : List (List ℕ)) (b : ℕ) (old new : List ℕ) (i : ℕ) (bound : List BoundNode) (es : List EventNode) →
    AllByRecursion (Stands places ms (variable b old)) (seen_from i bound es) → AllByRecursion (OwnerIs (OfType places ms (variable b old))) es →
    AllByRecursion (λ s. map_event (replaced places (whole_text old) new) s.event ≡ renamed_variable b old new s) (seen_from i bound es)
variables-renamed places ms b old new i bound [] stands owned = tt
variables-renamed places ms b old new i bound (defines k n ∷ es) stands owned =
    (ap (defines k) (stays old new n (stands_at places n) (stands.0 n refl)), variables-renamed places ms b old new (i + 1) bound es stands.1 owned.1)
variables-renamed places ms b old new i bound (uses k n ∷ es) stands owned =
    (ap (uses k) (stays old new n (stands_at places n) (stands.0 n refl)), variables-renamed places ms b old new (i + 1) bound es stands.1 owned.1)
variables-renamed places ms b old new i bound (defines_variant o m ∷ es) stands owned = (
  ap (λ x. defines_variant x (replaced places (whole_text old) new m)) (stays old new o (stands_at places o) owned.0)
      ∙ ap (defines_variant o) (stays old new m (stands_at places m) (stands.0 m refl)),
  variables-renamed places ms b old new (i + 1) bound es stands.1 owned.1,
)
variables-renamed places ms b old new i bound (occurs role n ∷ es) stands owned = (
  variable-by old new n (occurs role) (stands_at places n) (is_number b (binder (occurs role n) i bound)) (bytes_eq n.text old) (stands.0 n refl) refl,
  variables-renamed places ms b old new (i + 1) (after (occurs role n) i bound) es stands.1 owned.1,
)
variables-renamed places ms b old new i bound (binds n ∷ es) stands owned = (
  variable-by old new n binds (stands_at places n) (is_number b (binder (binds n) i bound)) (bytes_eq n.text old) (stands.0 n refl) refl,
  variables-renamed places ms b old new (i + 1) (after (binds n) i bound) es stands.1 owned.1,
)
variables-renamed places ms b old new i bound (reads n ∷ es) stands owned = (
  variable-by old new n reads (stands_at places n) (is_number b (binder (reads n) i bound)) (bytes_eq n.text old) (stands.0 n refl) refl,
  variables-renamed places ms b old new (i + 1) bound es stands.1 owned.1,
)
variables-renamed places ms b old new i bound (closes ∷ es) stands owned =
    (refl, variables-renamed places ms b old new (i + 1) (after closes i bound) es stands.1 owned.1)
variables-renamed places ms b old new i bound (ends ∷ es) stands owned = (refl, variables-renamed places ms b old new (i + 1) [] es stands.1 owned.1)

-- a variant that changes: where it is a term, the part behind the type, and where it is defined, all of it

-- a name with the new text of its part
abbrev parted : (owner text : List ℕ) (stands_alone : Bool) → List ℕ → Name → Name
parted owner text alone new n = record { text = with_new (length (cond alone [] (owner ++ codes "."))) text new n.text; pos = n.pos }

behind-dot : (owner text old new : List ℕ) (n : Name) (b : Bool) → joined owner text ≡ old → bytes_eq n.text old ≡ b →
    cond b (parted owner text false new n) n ≡ record { text = cond b (joined owner new) n.text; pos = n.pos }
behind-dot owner text old new n true whole_is is =
    ap (λ t. record { text = t; pos = n.pos }) (ended_new text new (owner ++ codes ".") n.text (bytes-are n.text old is ∙ sym whole_is))
behind-dot owner text old new n false whole_is is = refl

term-new : (owner text old new : List ℕ) (n : Name) (w a : Bool) → joined owner text ≡ old → w ≡ bytes_eq n.text old → a ≡ false →
    cond w (parted owner text a new n) n ≡ record { text = cond (bytes_eq n.text old) (joined owner new) n.text; pos = n.pos }
term-new owner text old new n w a whole_is stands apart =
    ap (λ x. cond w (parted owner text x new n) n) apart ∙ ap (λ b. cond b (parted owner text false new n) n) stands
    ∙ behind-dot owner text old new n (bytes_eq n.text old) whole_is refl

still : (owner text new : List ℕ) (n : Name) (w a : Bool) → w ≡ false → cond w (parted owner text a new n) n ≡ n
still owner text new n w a stands = ap (λ b. cond b (parted owner text a new n) n) stands

variant-name : (ms : List (List ℕ)) (owner text old new : List ℕ) (k : Kind) (n : Name) (w a : Bool) → joined owner text ≡ old → w ≡ changes ms (global kinds.Term old) (lone (uses k n)) → a ≡ false →
    cond w (parted owner text a new n) n ≡ with_new_text ms kinds.Term old (joined owner new) k n
variant-name ms owner text old new kinds.Term n w a whole_is stands apart = term-new owner text old new n w a whole_is stands apart
variant-name ms owner text old new kinds.Type n w a whole_is stands apart = still owner text new n w a stands
variant-name ms owner text old new kinds.Constant n w a whole_is stands apart = still owner text new n w a stands

alone-by : (owner text old new : List ℕ) (o m : Name) (b : Bool) → bytes_eq (joined o.text m.text) old ≡ b → IsOwn owner text old (defines_variant o m) →
    cond b (parted owner text b new m) m ≡ cond b (record { text = new; pos = m.pos }) m
alone-by owner text old new o m true is mine = ap (λ t. record { text = t; pos = m.pos }) (whole text new m.text (mine is).1)
alone-by owner text old new o m false is mine = refl

member-new : (owner text old new : List ℕ) (o m : Name) (w a : Bool) → w ≡ bytes_eq (joined o.text m.text) old → a ≡ bytes_eq (joined o.text m.text) old → IsOwn owner text old (defines_variant o m) →
    cond w (parted owner text a new m) m ≡ new_member old new o m
member-new owner text old new o m w a stands own mine =
    ap (λ x. cond w (parted owner text x new m) m) own ∙ ap (λ b. cond b (parted owner text (bytes_eq (joined o.text m.text) old) new m) m) stands
    ∙ alone-by owner text old new o m (bytes_eq (joined o.text m.text) old) refl mine

-- what is known of the places where variants are defined
abbrev Alone : List Pos → List ℕ → SeenNode → Type 0
Alone alone old s = (p : Pos) → position s.event ≡ Some p → list_any (same_place p) alone ≡ gives_variant old s.event

module _ (places : List Pos) (ms : List (List ℕ)) (owner text : List ℕ) (alone : List Pos) (old new : List ℕ) (whole_is : joined owner text ≡ old) where
  abbrev f : Name → Name
  f = replaced places (behind_type owner text alone) new

  abbrev wanted : SeenNode → EventNode
  wanted s = with_member (behind_type owner text alone) old new (new_event ms kinds.Term old (joined owner new) s.event)

  -- a name where no variant is defined, and no name of a term stands
  abbrev Rests : Name → Type 0
  Rests n = f n ≡ n

  rests : (n : Name) → stands_at places n ≡ false → Rests n
  rests n stands = still owner text new n (stands_at places n) (list_any (same_place n.pos) alone) stands

  variants-renamed : (i : ℕ) (bound : List BoundNode) (es : List EventNode) → AllByRecursion (Stands places ms (global kinds.Term old)) (seen_from i bound es) →
      AllByRecursion (Alone alone old) (seen_from i bound es) → AllByRecursion (OwnerIs (OfType places ms (global kinds.Term old))) es → AllByRecursion (IsOwn owner text old) es →
      AllByRecursion (λ s. map_event f s.event ≡ wanted s) (seen_from i bound es)
  variants-renamed i bound [] stands lone_there owned mine = tt
  variants-renamed i bound (defines k n ∷ es) stands lone_there owned mine = (
    ap (defines k) (variant-name ms owner text old new k n (stands_at places n) (list_any (same_place n.pos) alone) whole_is
        (stands.0 n refl ∙ lone-is ms kinds.Term old (defines k n) i None ∙ defines-is ms kinds.Term old k n) (lone_there.0 n.pos refl)),
    variants-renamed (i + 1) bound es stands.1 lone_there.1 owned.1 mine.1,
  )
  variants-renamed i bound (uses k n ∷ es) stands lone_there owned mine = (
    ap (uses k) (variant-name ms owner text old new k n (stands_at places n) (list_any (same_place n.pos) alone) whole_is
        (stands.0 n refl ∙ lone-is ms kinds.Term old (uses k n) i None) (lone_there.0 n.pos refl)),
    variants-renamed (i + 1) bound es stands.1 lone_there.1 owned.1 mine.1,
  )
  variants-renamed i bound (defines_variant o m ∷ es) stands lone_there owned mine = (
    ap (λ x. defines_variant x (f m)) (rests o owned.0)
        ∙ ap (defines_variant o) (member-new owner text old new o m (stands_at places m) (list_any (same_place m.pos) alone) (stands.0 m refl) (lone_there.0 m.pos refl) mine.0),
    variants-renamed (i + 1) bound es stands.1 lone_there.1 owned.1 mine.1,
  )
  variants-renamed i bound (occurs role n ∷ es) stands lone_there owned mine =
      (ap (occurs role) (rests n (stands.0 n refl)), variants-renamed (i + 1) (after (occurs role n) i bound) es stands.1 lone_there.1 owned.1 mine.1)
  variants-renamed i bound (binds n ∷ es) stands lone_there owned mine =
      (ap binds (rests n (stands.0 n refl)), variants-renamed (i + 1) (after (binds n) i bound) es stands.1 lone_there.1 owned.1 mine.1)
  variants-renamed i bound (reads n ∷ es) stands lone_there owned mine =
      (ap reads (rests n (stands.0 n refl)), variants-renamed (i + 1) bound es stands.1 lone_there.1 owned.1 mine.1)
  variants-renamed i bound (closes ∷ es) stands lone_there owned mine = (refl, variants-renamed (i + 1) (after closes i bound) es stands.1 lone_there.1 owned.1 mine.1)
  variants-renamed i bound (ends ∷ es) stands lone_there owned mine = (refl, variants-renamed (i + 1) [] es stands.1 lone_there.1 owned.1 mine.1)

-- places that are a list in another order
stand-all : (places : List Pos) (ms : List (List ℕ)) (name : NameNode) (all ss : List SeenNode) → ((p : Pos) → list_any (same_place p) places ≡ list_any (same_place p) (filter_map (λ s. position s.event) (filter (changes ms name) all))) →
    AllByRecursion (At (changes ms name) all) ss → AllByRecursion (Stands places ms name) ss
stand-all places ms name all [] same there = tt
stand-all places ms name all (s ∷ ss) same there = (λ n is. same n.pos ∙ there.0 n.pos is, stand-all places ms name all ss same there.1)

lone-type : (ms : List (List ℕ)) (name : NameNode) (n : Name) (i : ℕ) → changes ms name (record { event = defines kinds.Type n; number = i; binder = None }) ≡ changes ms name (lone (uses kinds.Type n))
lone-type ms (global kinds.Term old) n i = refl
lone-type ms (global kinds.Type old) n i = refl
lone-type ms (global kinds.Constant old) n i = refl
lone-type ms (variable b old) n i = refl

types-stand : (places : List Pos) (ms : List (List ℕ)) (name : NameNode) (i : ℕ) (bound : List BoundNode) (es : List EventNode) →
    AllByRecursion (Stands places ms name) (seen_from i bound es) → AllByRecursion (TypeIs (OfType places ms name)) es
types-stand places ms name i bound [] stands = tt
types-stand places ms name i bound (defines kinds.Type n ∷ es) stands = (stands.0 n refl ∙ lone-type ms name n i, types-stand places ms name (i + 1) bound es stands.1)
types-stand places ms name i bound (defines kinds.Term n ∷ es) stands = (tt, types-stand places ms name (i + 1) bound es stands.1)
types-stand places ms name i bound (defines kinds.Constant n ∷ es) stands = (tt, types-stand places ms name (i + 1) bound es stands.1)
types-stand places ms name i bound (uses k n ∷ es) stands = (tt, types-stand places ms name (i + 1) bound es stands.1)
types-stand places ms name i bound (defines_variant o m ∷ es) stands = (tt, types-stand places ms name (i + 1) bound es stands.1)
types-stand places ms name i bound (occurs role n ∷ es) stands = (tt, types-stand places ms name (i + 1) (after (occurs role n) i bound) es stands.1)
types-stand places ms name i bound (binds n ∷ es) stands = (tt, types-stand places ms name (i + 1) (after (binds n) i bound) es stands.1)
types-stand places ms name i bound (reads n ∷ es) stands = (tt, types-stand places ms name (i + 1) bound es stands.1)
types-stand places ms name i bound (closes ∷ es) stands = (tt, types-stand places ms name (i + 1) (after closes i bound) es stands.1)
types-stand places ms name i bound (ends ∷ es) stands = (tt, types-stand places ms name (i + 1) [] es stands.1)

-- whether a name stands at a place that changes tells whether its event does
known-stands : (ds : List Definition) (name : NameNode) (new : List ℕ) (places : List Pos) → are_apart (places_of (seen (events ds))) ≡ true → IsAccepted name new (seen (events ds)) places →
    AllByRecursion (Stands places (members (name_text name) (seen (events ds))) name) (seen (events ds))
known-stands ds name new places apart answer =
    let ss : List SeenNode = seen (events ds) in
    let ms : List (List ℕ) = members (name_text name) ss in
    stand-all places ms name ss ss (λ p. sym (list_any-IsPermutation (same_place p) (changed_places name ss) places answer.exact)) (at-all (changes ms name) ss apart)

term-renames : (ds : List Definition) (old new : List ℕ) (places : List Pos) (found : Option VariantNode) → first_variant old (seen (events ds)) ≡ found → are_apart (places_of (seen (events ds))) ≡ true →
    AllByRecursion (Stands places (members old (seen (events ds))) (global kinds.Term old)) (seen (events ds)) → is_double (part_by old found (seen (events ds))) (seen (events ds)) ≡ false →
    AllByRecursion (λ s. map_event (replaced places (part_by old found (seen (events ds))) new) s.event ≡ with_member (part_by old found (seen (events ds))) old new
    (new_event (members old (seen (events ds))) kinds.Term old (with_part (part_by old found (seen (events ds))) new) s.event)) (seen (events ds))
term-renames ds old new places None first apart stands single =
    let ss : List SeenNode = seen (events ds) in
    let ms : List (List ℕ) = members old ss in
    globals-renamed places ms kinds.Term old new 0 [] (events ds) stands
    (owners (OfType places ms (global kinds.Term old)) ds (types-stand places ms (global kinds.Term old) 0 [] (events ds) stands))
    (each_by (gives_variant old) (VariantStays ms kinds.Term old) (term-variant ms old) (events ds) (sym (any_over (gives_variant old) 0 [] (events ds)) ∙ no_first old ss first))
term-renames ds old new places (Some v) first apart stands single =
    let ss : List SeenNode = seen (events ds) in
    let ms : List (List ℕ) = members old ss in
    let whole_is : joined v.owner v.member ≡ old = first_is old v ss first in
    variants-renamed places ms v.owner v.member (alone_places old ss) old new whole_is 0 [] (events ds) stands
    (at-all (λ s. gives_variant old s.event) ss apart)
    (owners (OfType places ms (global kinds.Term old)) ds (types-stand places ms (global kinds.Term old) 0 [] (events ds) stands))
    (all_own v.owner v.member old (events ds) whole_is (sym (any_over (shares v.owner (v.member ∷ [])) 0 [] (events ds)) ∙ single))

pub replacing_renames : (ds : List Definition) (name : NameNode) (new : List ℕ) (places : List Pos) → are_apart (places_of (seen (events ds))) ≡ true → IsAccepted name new (seen (events ds)) places →
    Renames (replaced places (part_of name (seen (events ds))) new) name new (seen (events ds))
replacing_renames ds (global kinds.Term old) new places apart answer =
    term-renames ds old new places (first_variant old (seen (events ds))) refl apart (known-stands ds (global kinds.Term old) new places apart answer)
    (fits (global kinds.Term old) new (seen (events ds)) answer.accepted).not_double
replacing_renames ds (global kinds.Type old) new places apart answer =
    let ms : List (List ℕ) = members old (seen (events ds)) in
    let stands = known-stands ds (global kinds.Type old) new places apart answer in
    globals-renamed places ms kinds.Type old new 0 [] (events ds) stands
    (owners (OfType places ms (global kinds.Type old)) ds (types-stand places ms (global kinds.Type old) 0 [] (events ds) stands)) (type-variants ms old (events ds))
replacing_renames ds (global kinds.Constant old) new places apart answer =
    let ms : List (List ℕ) = members old (seen (events ds)) in
    let stands = known-stands ds (global kinds.Constant old) new places apart answer in
    globals-renamed places ms kinds.Constant old new 0 [] (events ds) stands
    (owners (OfType places ms (global kinds.Constant old)) ds (types-stand places ms (global kinds.Constant old) 0 [] (events ds) stands)) (constant-variants ms old (events ds))
replacing_renames ds (variable b old) new places apart answer =
    let ms : List (List ℕ) = members old (seen (events ds)) in
    let stands = known-stands ds (variable b old) new places apart answer in
    variables-renamed places ms b old new 0 [] (events ds) stands
    (owners (OfType places ms (variable b old)) ds (types-stand places ms (variable b old) 0 [] (events ds) stands))
