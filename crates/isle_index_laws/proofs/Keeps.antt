-- What names mean once one of them has another text.
use Rattle.std.proofs.Common.{◌≡◌, ℕ, ◌+◌, List, [], ◌∷◌, ◌++◌, Bool, true, false, cond, not, ◌&&◌, ◌||◌, ◌==◌, Option, None, Some, bytes_eq, map, refl, sym, ap, ◌∙◌, if◌then◌else◌, codes, append_assoc}
use Rattle.std.proofs.lemmas.Bool.{eqb-true}
use Rattle.std.specs.List.{AllByRecursion, cons_option, list_any, filter_map}
use Rattle.isle_ast_names.specs.Tree.{Name}
use Rattle.isle_resolve.specs.declared.event.Kind.{Kind}
use Rattle.isle_resolve.specs.declared.event.Kind.TheVariants as kinds
use Rattle.isle_resolve.specs.Event.{EventNode, defines, uses, defines_variant, occurs, binds, reads, closes, ends}
use Rattle.isle_resolve.specs.Scopes.{BoundNode, SeenNode, after, binder, seen, seen_from}
use Rattle.isle_resolve.specs.Names.{NameNode, global, variable, gives, is_number, is_of, joined, same_kind}
use Rattle.isle_index.specs.Renaming.{gives_variant, has, has_member, is_member, is_variable, member_of, members, renamed_variable, same_binder, same_binders, shares, with_text}
use Rattle.isle_index.specs.Renamed.{new_event, new_name, new_text, with_front}
use Rattle.isle_resolve.proofs.Texts.{bytes-are, bytes-true}
use Rattle.isle_index.proofs.Texts.{fronts-same, or-false, or-left, or-right, swap-same, with_front-is}

-- what a name that holds in the whole program is named by, and whether some event fits, do not depend on scopes
pub global_over : (k : Kind) (t : List ℕ) (i : ℕ) (bound : List BoundNode) (es : List EventNode) →
    map (is_of (global k t)) (seen_from i bound es) ≡ map (gives k t) es
global_over k t i bound [] = refl
global_over k t i bound (e ∷ es) = ap (λ bs. gives k t e ∷ bs) (global_over k t (i + 1) (after e i bound) es)

pub any_over : (p : EventNode → Bool) (i : ℕ) (bound : List BoundNode) (es : List EventNode) →
    list_any (λ s. p s.event) (seen_from i bound es) ≡ list_any p es
any_over p i bound [] = refl
any_over p i bound (e ∷ es) = ap (λ b. p e || b) (any_over p (i + 1) (after e i bound) es)

-- two steps give the same flags
pub two : (a b : Bool) (xs ys : List Bool) → a ≡ b → xs ≡ ys → a ∷ xs ≡ b ∷ ys
two a b xs ys p q = ap (λ x. x ∷ xs) p ∙ ap (λ zs. b ∷ zs) q

-- no variable is touched where a name of the whole program changes
pub variable_over : (ms : List (List ℕ)) (kind : Kind) (old new : List ℕ) (c : ℕ) (x y : List ℕ) (i : ℕ) (bound : List BoundNode) (es : List EventNode) →
    map (is_of (variable c x)) (seen_from i bound (map (new_event ms kind old new) es)) ≡ map (is_of (variable c y)) (seen_from i bound es)
variable_over ms kind old new c x y i bound [] = refl
variable_over ms kind old new c x y i bound (defines k n ∷ es) = ap (λ bs. false ∷ bs) (variable_over ms kind old new c x y (i + 1) bound es)
variable_over ms kind old new c x y i bound (uses k n ∷ es) = ap (λ bs. false ∷ bs) (variable_over ms kind old new c x y (i + 1) bound es)
variable_over ms kind old new c x y i bound (defines_variant o m ∷ es) = ap (λ bs. false ∷ bs) (variable_over ms kind old new c x y (i + 1) bound es)
variable_over ms kind old new c x y i bound (occurs role n ∷ es) =
    ap (λ bs. is_number c (binder (occurs role n) i bound) ∷ bs) (variable_over ms kind old new c x y (i + 1) (after (occurs role n) i bound) es)
variable_over ms kind old new c x y i bound (binds n ∷ es) =
    ap (λ bs. is_number c (binder (binds n) i bound) ∷ bs) (variable_over ms kind old new c x y (i + 1) (after (binds n) i bound) es)
variable_over ms kind old new c x y i bound (reads n ∷ es) =
    ap (λ bs. is_number c (binder (reads n) i bound) ∷ bs) (variable_over ms kind old new c x y (i + 1) bound es)
variable_over ms kind old new c x y i bound (closes ∷ es) = ap (λ bs. false ∷ bs) (variable_over ms kind old new c x y (i + 1) (after closes i bound) es)
variable_over ms kind old new c x y i bound (ends ∷ es) = ap (λ bs. false ∷ bs) (variable_over ms kind old new c x y (i + 1) [] es)

-- an event that names something of a kind and a text names the new text after, and else does not
abbrev pub Stays : List (List ℕ) → Kind → List ℕ → List ℕ → Kind → List ℕ → EventNode → Type 0
Stays ms kind old new k t (defines l n) =
    same_kind k l ≡ true → bytes_eq (new_text ms kind old new l n.text) (new_text ms kind old new k t) ≡ bytes_eq n.text t
Stays ms kind old new k t (uses l n) =
    same_kind k l ≡ true → bytes_eq (new_text ms kind old new l n.text) (new_text ms kind old new k t) ≡ bytes_eq n.text t
Stays ms kind old new k t (defines_variant o m) =
    same_kind k kinds.Term ≡ true →
    bytes_eq (joined (new_text ms kind old new kinds.Type o.text) m.text) (new_text ms kind old new k t) ≡ bytes_eq (joined o.text m.text) t
Stays ms kind old new k t (occurs _ _) = Unit {0}
Stays ms kind old new k t (binds _) = Unit {0}
Stays ms kind old new k t (reads _) = Unit {0}
Stays ms kind old new k t closes = Unit {0}
Stays ms kind old new k t ends = Unit {0}

pub behind-test : (b x y : Bool) → (b ≡ true → x ≡ y) → b && x ≡ b && y
behind-test true x y h = h refl
behind-test false x y h = refl

pub stays_gives : (ms : List (List ℕ)) (kind : Kind) (old new : List ℕ) (k : Kind) (t : List ℕ) (e : EventNode) → Stays ms kind old new k t e →
    gives k (new_text ms kind old new k t) (new_event ms kind old new e) ≡ gives k t e
stays_gives ms kind old new k t (defines l n) h = behind-test (same_kind k l) _ _ h
stays_gives ms kind old new k t (uses l n) h = behind-test (same_kind k l) _ _ h
stays_gives ms kind old new k t (defines_variant o m) h = behind-test (same_kind k kinds.Term) _ _ h
stays_gives ms kind old new k t (occurs role n) h = refl
stays_gives ms kind old new k t (binds n) h = refl
stays_gives ms kind old new k t (reads n) h = refl
stays_gives ms kind old new k t closes h = refl
stays_gives ms kind old new k t ends h = refl

-- the same of a list of events, each of which stays by what is known of it
all_give : (ms : List (List ℕ)) (kind : Kind) (old new : List ℕ) (k : Kind) (t : List ℕ) (es : List EventNode) → AllByRecursion (Stays ms kind old new k t) es →
    map (gives k (new_text ms kind old new k t)) (map (new_event ms kind old new) es) ≡ map (gives k t) es
all_give ms kind old new k t [] h = refl
all_give ms kind old new k t (e ∷ es) h =
    two (gives k (new_text ms kind old new k t) (new_event ms kind old new e)) (gives k t e)
    (map (gives k (new_text ms kind old new k t)) (map (new_event ms kind old new) es)) (map (gives k t) es)
    (stays_gives ms kind old new k t e h.0) (all_give ms kind old new k t es h.1)

-- where each event stays, each name is named where it was
pub global_keeps : (ms : List (List ℕ)) (kind : Kind) (old new : List ℕ) (k : Kind) (t : List ℕ) (i : ℕ) (bound : List BoundNode) (es : List EventNode) →
    AllByRecursion (Stays ms kind old new k t) es →
    map (is_of (global k (new_text ms kind old new k t))) (seen_from i bound (map (new_event ms kind old new) es)) ≡ map (is_of (global k t)) (seen_from i bound es)
global_keeps ms kind old new k t i bound es h =
    global_over k (new_text ms kind old new k t) i bound (map (new_event ms kind old new) es)
    ∙ all_give ms kind old new k t es h
    ∙ sym (global_over k t i bound es)

-- what holds of each event of which a test is false
pub each_by : (p : EventNode → Bool) (P : EventNode → Type 0) → ((e : EventNode) → p e ≡ false → P e) → (es : List EventNode) → list_any p es ≡ false → AllByRecursion P es
each_by p P h [] none = tt
each_by p P h (e ∷ es) none = let parts = or-false (p e) (list_any p es) none in (h e parts.0, each_by p P h es parts.1)

-- a text that is there is none that is not there
differs : (k : Kind) (t u : List ℕ) (es : List EventNode) → list_any (gives k t) es ≡ true → list_any (gives k u) es ≡ false → t ≡ u → ⊥
differs k t u es there gone e = let same : list_any (gives k t) es ≡ list_any (gives k u) es = ap (λ x. list_any (gives k x) es) e in absurd (cc)

pub kinds-are : (k l : Kind) → same_kind k l ≡ true → k ≡ l
kinds-are kinds.Term kinds.Term e = refl
kinds-are kinds.Type kinds.Type e = refl
kinds-are kinds.Constant kinds.Constant e = refl
kinds-are kinds.Term kinds.Type e = let never : false ≡ true = e in absurd (cc)
kinds-are kinds.Term kinds.Constant e = let never : false ≡ true = e in absurd (cc)
kinds-are kinds.Type kinds.Term e = let never : false ≡ true = e in absurd (cc)
kinds-are kinds.Type kinds.Constant e = let never : false ≡ true = e in absurd (cc)
kinds-are kinds.Constant kinds.Term e = let never : false ≡ true = e in absurd (cc)
kinds-are kinds.Constant kinds.Type e = let never : false ≡ true = e in absurd (cc)

-- the term that a variant is changes as the type does
abbrev pub Joins : List (List ℕ) → Kind → List ℕ → List ℕ → EventNode → Type 0
Joins ms kind old new (defines_variant o m) =
    joined (new_text ms kind old new kinds.Type o.text) m.text ≡ new_text ms kind old new kinds.Term (joined o.text m.text)
Joins ms kind old new (defines _ _) = Unit {0}
Joins ms kind old new (uses _ _) = Unit {0}
Joins ms kind old new (occurs _ _) = Unit {0}
Joins ms kind old new (binds _) = Unit {0}
Joins ms kind old new (reads _) = Unit {0}
Joins ms kind old new closes = Unit {0}
Joins ms kind old new ends = Unit {0}

pub both-true : (a b : Bool) → a ≡ true → b ≡ true → a && b ≡ true
both-true true b p q = q
both-true false b p q = p

-- texts of a kind stay the same or different
abbrev pub Same : List (List ℕ) → Kind → List ℕ → List ℕ → Kind → List ℕ → List ℕ → Type 0
Same ms kind old new k x t = bytes_eq (new_text ms kind old new k x) (new_text ms kind old new k t) ≡ bytes_eq x t

pub stays_by : (ms : List (List ℕ)) (kind : Kind) (old new : List ℕ) (k : Kind) (t : List ℕ) (e : EventNode) →
    ((x : List ℕ) → gives k x e ≡ true → Same ms kind old new k x t) → Joins ms kind old new e → Stays ms kind old new k t e
stays_by ms kind old new k t (defines l n) h j = λ same.
    ap (λ z. bytes_eq (new_text ms kind old new z n.text) (new_text ms kind old new k t)) (sym (kinds-are k l same))
    ∙ h n.text (both-true (same_kind k l) (bytes_eq n.text n.text) same (bytes-true n.text n.text refl))
stays_by ms kind old new k t (uses l n) h j = λ same.
    ap (λ z. bytes_eq (new_text ms kind old new z n.text) (new_text ms kind old new k t)) (sym (kinds-are k l same))
    ∙ h n.text (both-true (same_kind k l) (bytes_eq n.text n.text) same (bytes-true n.text n.text refl))
stays_by ms kind old new k t (defines_variant o m) h j = λ same.
    ap (λ y. bytes_eq y (new_text ms kind old new k t)) j
    ∙ ap (λ z. bytes_eq (new_text ms kind old new z (joined o.text m.text)) (new_text ms kind old new k t)) (sym (kinds-are k kinds.Term same))
    ∙ h (joined o.text m.text) (both-true (same_kind k kinds.Term) (bytes_eq (joined o.text m.text) (joined o.text m.text)) same (bytes-true (joined o.text m.text) (joined o.text m.text) refl))
stays_by ms kind old new k t (occurs role n) h j = tt
stays_by ms kind old new k t (binds n) h j = tt
stays_by ms kind old new k t (reads n) h j = tt
stays_by ms kind old new k t closes h j = tt
stays_by ms kind old new k t ends h j = tt

all_stay : (ms : List (List ℕ)) (kind : Kind) (old new : List ℕ) (k : Kind) (t : List ℕ) (es : List EventNode) →
    ((x : List ℕ) → list_any (gives k x) es ≡ true → Same ms kind old new k x t) → AllByRecursion (Joins ms kind old new) es →
    AllByRecursion (Stays ms kind old new k t) es
all_stay ms kind old new k t [] h j = tt
all_stay ms kind old new k t (e ∷ es) h j = (
  stays_by ms kind old new k t e (λ x here. h x (or-left (gives k x e) (list_any (gives k x) es) here)) j.0,
  all_stay ms kind old new k t es (λ x there. h x (or-right (gives k x e) (list_any (gives k x) es) there)) j.1,
)

-- what is known of the new text among these events
abbrev pub IsFree : List (List ℕ) → Kind → List ℕ → List ℕ → List EventNode → Type 0
IsFree ms kinds.Term old new es = list_any (gives kinds.Term new) es ≡ false
IsFree ms kinds.Constant old new es = list_any (gives kinds.Constant new) es ≡ false
IsFree ms kinds.Type old new es =
    (list_any (gives kinds.Type new) es ≡ false)
    × ((x : List ℕ) → is_member old ms x ≡ true → list_any (gives kinds.Term (with_front old new x)) es ≡ false)

pub same_texts : (ms : List (List ℕ)) (kind : Kind) (old new : List ℕ) (k : Kind) (x t : List ℕ) (es : List EventNode) → IsFree ms kind old new es →
    list_any (gives k x) es ≡ true → list_any (gives k t) es ≡ true → Same ms kind old new k x t
same_texts ms kinds.Term old new kinds.Term x t es free px pt = swap-same old new x t (differs kinds.Term x new es px free) (differs kinds.Term t new es pt free)
same_texts ms kinds.Term old new kinds.Type x t es free px pt = refl
same_texts ms kinds.Term old new kinds.Constant x t es free px pt = refl
same_texts ms kinds.Constant old new kinds.Term x t es free px pt = refl
same_texts ms kinds.Constant old new kinds.Type x t es free px pt = refl
same_texts ms kinds.Constant old new kinds.Constant x t es free px pt =
    swap-same old new x t (differs kinds.Constant x new es px free) (differs kinds.Constant t new es pt free)
same_texts ms kinds.Type old new kinds.Type x t es free px pt =
    swap-same old new x t (differs kinds.Type x new es px free.0) (differs kinds.Type t new es pt free.0)
same_texts ms kinds.Type old new kinds.Term x t es free px pt =
    fronts-same old new ms x t
    (λ mx e. differs kinds.Term t (with_front old new x) es pt (free.1 x mx) (sym e))
    (λ mt e. differs kinds.Term x (with_front old new t) es px (free.1 t mt) (sym e))
same_texts ms kinds.Type old new kinds.Constant x t es free px pt = refl

-- each name is named where it was, if the new text is free and variants change as their types do
pub keeps : (ms : List (List ℕ)) (kind : Kind) (old new : List ℕ) (m : NameNode) (es : List EventNode) → IsFree ms kind old new es → AllByRecursion (Joins ms kind old new) es →
    list_any (is_of m) (seen es) ≡ true →
    map (is_of (new_name ms (global kind old) new m)) (seen (map (new_event ms kind old new) es)) ≡ map (is_of m) (seen es)
keeps ms kind old new (variable c x) es free joins there = variable_over ms kind old new c x x 0 [] es
keeps ms kind old new (global k t) es free joins there =
    let here : list_any (gives k t) es ≡ true = sym (any_over (gives k t) 0 [] es) ∙ there in
    global_keeps ms kind old new k t 0 [] es
    (all_stay ms kind old new k t es (λ x px. same_texts ms kind old new k x t es free px here) joins)

-- the variants of a type are its members
abbrev pub IsCovered : List ℕ → List (List ℕ) → EventNode → Type 0
IsCovered old ms (defines_variant o m) = bytes_eq o.text old ≡ true → is_member old ms (joined old m.text) ≡ true
IsCovered old ms (defines _ _) = Unit {0}
IsCovered old ms (uses _ _) = Unit {0}
IsCovered old ms (occurs _ _) = Unit {0}
IsCovered old ms (binds _) = Unit {0}
IsCovered old ms (reads _) = Unit {0}
IsCovered old ms closes = Unit {0}
IsCovered old ms ends = Unit {0}

covered_more : (old x : List ℕ) (ms : List (List ℕ)) (e : EventNode) → IsCovered old ms e → IsCovered old (x ∷ ms) e
covered_more old x ms (defines_variant o m) h = λ own. or-right (bytes_eq (joined old x) (joined old m.text)) (is_member old ms (joined old m.text)) (h own)
covered_more old x ms (defines k n) h = tt
covered_more old x ms (uses k n) h = tt
covered_more old x ms (occurs role n) h = tt
covered_more old x ms (binds n) h = tt
covered_more old x ms (reads n) h = tt
covered_more old x ms closes h = tt
covered_more old x ms ends h = tt

all_covered_more : (old x : List ℕ) (ms : List (List ℕ)) (es : List EventNode) → AllByRecursion (IsCovered old ms) es → AllByRecursion (IsCovered old (x ∷ ms)) es
all_covered_more old x ms [] h = tt
all_covered_more old x ms (e ∷ es) h = (covered_more old x ms e h.0, all_covered_more old x ms es h.1)

covers_variant : (old : List ℕ) (o m : Name) (es : List EventNode) (b : Bool) → bytes_eq o.text old ≡ b → AllByRecursion (IsCovered old (filter_map (member_of old) es)) es →
    AllByRecursion (IsCovered old (cons_option (if b then Some m.text else None) (filter_map (member_of old) es))) (defines_variant o m ∷ es)
covers_variant old o m es true is h = (
  λ own. or-left (bytes_eq (joined old m.text) (joined old m.text)) (is_member old (filter_map (member_of old) es) (joined old m.text)) (bytes-true (joined old m.text) (joined old m.text) refl),
  all_covered_more old m.text (filter_map (member_of old) es) es h,
)
covers_variant old o m es false is h = (λ own. let never : bytes_eq o.text old ≡ true = own in absurd (cc), h)

pub covers : (old : List ℕ) (es : List EventNode) → AllByRecursion (IsCovered old (filter_map (member_of old) es)) es
covers old [] = tt
covers old (defines k n ∷ es) = (tt, covers old es)
covers old (uses k n ∷ es) = (tt, covers old es)
covers old (defines_variant o m ∷ es) = covers_variant old o m es (bytes_eq o.text old) refl (covers old es)
covers old (occurs role n ∷ es) = (tt, covers old es)
covers old (binds n ∷ es) = (tt, covers old es)
covers old (reads n ∷ es) = (tt, covers old es)
covers old (closes ∷ es) = (tt, covers old es)
covers old (ends ∷ es) = (tt, covers old es)

pub members_over : (old : List ℕ) (i : ℕ) (bound : List BoundNode) (es : List EventNode) → members old (seen_from i bound es) ≡ filter_map (member_of old) es
members_over old i bound [] = refl
members_over old i bound (e ∷ es) = ap (cons_option (member_of old e)) (members_over old (i + 1) (after e i bound) es)

variant_joins : (ms : List (List ℕ)) (old new : List ℕ) (o m : Name) (b : Bool) → bytes_eq o.text old ≡ b →
    (bytes_eq o.text old ≡ true → is_member old ms (joined old m.text) ≡ true) → not b && is_member old ms (joined o.text m.text) ≡ false →
    joined (if b then new else o.text) m.text ≡ (if is_member old ms (joined o.text m.text) then with_front old new (joined o.text m.text) else joined o.text m.text)
variant_joins ms old new o m true is covered fits =
    let own : o.text ≡ old = bytes-are o.text old is in
    let name : joined o.text m.text ≡ joined old m.text = ap (λ t. joined t m.text) own in
    let inside : is_member old ms (joined o.text m.text) ≡ true = ap (is_member old ms) name ∙ covered is in
    append_assoc new (codes ".") m.text
    ∙ sym (with_front-is old new (codes "." ++ m.text) (joined o.text m.text) (name ∙ append_assoc old (codes ".") m.text))
    ∙ sym (ap (λ b. cond b (with_front old new (joined o.text m.text)) (joined o.text m.text)) inside)
variant_joins ms old new o m false is covered fits = sym (ap (λ b. cond b (with_front old new (joined o.text m.text)) (joined o.text m.text)) fits)

event_joins : (ms : List (List ℕ)) (old new : List ℕ) (e : EventNode) → IsCovered old ms e → shares old ms e ≡ false → Joins ms kinds.Type old new e
event_joins ms old new (defines_variant o m) c none = variant_joins ms old new o m (bytes_eq o.text old) refl c none
event_joins ms old new (defines k n) c none = tt
event_joins ms old new (uses k n) c none = tt
event_joins ms old new (occurs role n) c none = tt
event_joins ms old new (binds n) c none = tt
event_joins ms old new (reads n) c none = tt
event_joins ms old new closes c none = tt
event_joins ms old new ends c none = tt

pub type_joins : (ms : List (List ℕ)) (old new : List ℕ) (es : List EventNode) → AllByRecursion (IsCovered old ms) es → list_any (shares old ms) es ≡ false →
    AllByRecursion (Joins ms kinds.Type old new) es
type_joins ms old new [] c none = tt
type_joins ms old new (e ∷ es) c none =
    let parts = or-false (shares old ms e) (list_any (shares old ms) es) none in
    (event_joins ms old new e c.0 parts.0, type_joins ms old new es c.1 parts.1)

free_by : (old new m : List ℕ) (ms : List (List ℕ)) (es : List EventNode) → has kinds.Term (joined new m) (seen es) ≡ false →
    (x : List ℕ) → (is_member old ms x ≡ true → list_any (gives kinds.Term (with_front old new x)) es ≡ false) → (b : Bool) → bytes_eq (joined old m) x ≡ b → b || is_member old ms x ≡ true →
    list_any (gives kinds.Term (with_front old new x)) es ≡ false
free_by old new m ms es none x later true is mem =
    ap (λ t. list_any (gives kinds.Term t) es)
    (with_front-is old new (codes "." ++ m) x (sym (bytes-are (joined old m) x is) ∙ append_assoc old (codes ".") m) ∙ sym (append_assoc new (codes ".") m))
    ∙ sym (any_over (gives kinds.Term (joined new m)) 0 [] es) ∙ none
free_by old new m ms es none x later false is mem = later mem

-- no term that a variant of the type gets is there
pub free_members : (old new : List ℕ) (ms : List (List ℕ)) (es : List EventNode) → has_member new ms (seen es) ≡ false →
    (x : List ℕ) → is_member old ms x ≡ true → list_any (gives kinds.Term (with_front old new x)) es ≡ false
free_members old new [] es none x mem = let never : false ≡ true = mem in absurd (cc)
free_members old new (m ∷ ms) es none x mem =
    let parts = or-false (has kinds.Term (joined new m) (seen es)) (has_member new ms (seen es)) none in
    free_by old new m ms es parts.0 x (free_members old new ms es parts.1 x) (bytes_eq (joined old m) x) refl mem

-- a variant of a term's new text would be a variant of that name
pub term_joins : (ms : List (List ℕ)) (old new : List ℕ) (e : EventNode) → gives_variant old e ≡ false →
    Joins ms kinds.Term old new e
term_joins ms old new (defines_variant o m) none =
    sym (ap (λ b. cond b new (joined o.text m.text)) none)
term_joins ms old new (defines k n) none = tt
term_joins ms old new (uses k n) none = tt
term_joins ms old new (occurs role n) none = tt
term_joins ms old new (binds n) none = tt
term_joins ms old new (reads n) none = tt
term_joins ms old new closes none = tt
term_joins ms old new ends none = tt

pub constant_joins : (ms : List (List ℕ)) (old new : List ℕ) (es : List EventNode) → AllByRecursion (Joins ms kinds.Constant old new) es
constant_joins ms old new [] = tt
constant_joins ms old new (defines_variant o m ∷ es) = (refl, constant_joins ms old new es)
constant_joins ms old new (defines k n ∷ es) = (tt, constant_joins ms old new es)
constant_joins ms old new (uses k n ∷ es) = (tt, constant_joins ms old new es)
constant_joins ms old new (occurs role n ∷ es) = (tt, constant_joins ms old new es)
constant_joins ms old new (binds n ∷ es) = (tt, constant_joins ms old new es)
constant_joins ms old new (reads n ∷ es) = (tt, constant_joins ms old new es)
constant_joins ms old new (closes ∷ es) = (tt, constant_joins ms old new es)
constant_joins ms old new (ends ∷ es) = (tt, constant_joins ms old new es)

-- a new text of a variable changes nothing that holds in the whole program
with_gives : (new : List ℕ) (k : Kind) (t : List ℕ) (e : EventNode) → gives k t (with_text new e) ≡ gives k t e
with_gives new k t (defines l n) = refl
with_gives new k t (uses l n) = refl
with_gives new k t (defines_variant o m) = refl
with_gives new k t (occurs role n) = refl
with_gives new k t (binds n) = refl
with_gives new k t (reads n) = refl
with_gives new k t closes = refl
with_gives new k t ends = refl

flag_gives : (new : List ℕ) (k : Kind) (t : List ℕ) (e : EventNode) (b : Bool) → gives k t (if b then with_text new e else e) ≡ gives k t e
flag_gives new k t e true = with_gives new k t e
flag_gives new k t e false = refl

renamed_give : (b : ℕ) (old new : List ℕ) (k : Kind) (t : List ℕ) (ss : List SeenNode) → map (gives k t) (map (renamed_variable b old new) ss) ≡ map (is_of (global k t)) ss
renamed_give b old new k t [] = refl
renamed_give b old new k t (s ∷ ss) =
    two (gives k t (renamed_variable b old new s)) (gives k t s.event) (map (gives k t) (map (renamed_variable b old new) ss)) (map (is_of (global k t)) ss)
    (flag_gives new k t s.event (is_variable b old s)) (renamed_give b old new k t ss)

binders-are : (x y : Option ℕ) → same_binder x y ≡ true → x ≡ y
binders-are None None e = refl
binders-are None (Some n) e = let never : false ≡ true = e in absurd (cc)
binders-are (Some m) None e = let never : false ≡ true = e in absurd (cc)
binders-are (Some m) (Some n) e = ap Some (eqb-true m n e)

and-parts : (a b : Bool) → a && b ≡ true → (a ≡ true) × (b ≡ true)
and-parts true b e = (refl, e)
and-parts false b e = let never : false ≡ true = e in absurd (cc)

binders_keep : (c : ℕ) (x y : List ℕ) (ss ts : List SeenNode) → same_binders ss ts ≡ true → map (is_of (variable c x)) ss ≡ map (is_of (variable c y)) ts
binders_keep c x y [] [] e = refl
binders_keep c x y [] (t ∷ ts) e = let never : false ≡ true = e in absurd (cc)
binders_keep c x y (s ∷ ss) [] e = let never : false ≡ true = e in absurd (cc)
binders_keep c x y (s ∷ ss) (t ∷ ts) e =
    let parts = and-parts (same_binder s.binder t.binder) (same_binders ss ts) e in
    two (is_number c s.binder) (is_number c t.binder) (map (is_of (variable c x)) ss) (map (is_of (variable c y)) ts)
    (ap (is_number c) (binders-are s.binder t.binder parts.0)) (binders_keep c x y ss ts parts.1)

-- each name is named where it was, if each variable has the binder that it had
pub variable_keeps : (ms : List (List ℕ)) (b : ℕ) (old new : List ℕ) (m : NameNode) (ss : List SeenNode) → same_binders (seen (map (renamed_variable b old new) ss)) ss ≡ true →
    map (is_of (new_name ms (variable b old) new m)) (seen (map (renamed_variable b old new) ss)) ≡ map (is_of m) ss
variable_keeps ms b old new (global k t) ss same = global_over k t 0 [] (map (renamed_variable b old new) ss) ∙ renamed_give b old new k t ss
variable_keeps ms b old new (variable c x) ss same = binders_keep c (if c == b then new else x) x (seen (map (renamed_variable b old new) ss)) ss same
