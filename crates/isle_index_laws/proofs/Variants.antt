-- What is known of a term that is a variant.
use Rattle.std.proofs.Common.{◌≡◌, ℕ, ◌+◌, List, [], ◌∷◌, ◌++◌, Bool, true, false, cond, not, ◌&&◌, ◌||◌, Option, None, Some, bytes_eq, codes, map, refl, sym, ap, ◌∙◌}
use Rattle.std.specs.List.{AllByRecursion, list_any}
use Rattle.isle_ast_names.specs.Tree.{Name}
use Rattle.isle_base_source.specs.declared.pos.Pos.{Pos}
use Rattle.isle_resolve.specs.declared.event.Kind.{Kind}
use Rattle.isle_resolve.specs.declared.event.Kind.TheVariants as kinds
use Rattle.isle_resolve.specs.Event.{EventNode, defines, uses, defines_variant, occurs, binds, reads, closes, ends}
use Rattle.isle_resolve.specs.Names.{NameNode, gives, global, is_number, is_of, joined, same_kind, variable}
use Rattle.isle_resolve.specs.Scopes.{BoundNode, SeenNode, after, binder, seen, seen_from}
use Rattle.isle_resolve.proofs.Texts.{bytes-are, bytes-true, same_front}
use Rattle.isle_index.specs.Renaming.{VariantNode, behind_type, first_variant, gives_variant, or_later, shares, variant_of}
use Rattle.isle_index.specs.Renamed.{new_event, new_name, new_text, with_member}
use Rattle.isle_index.proofs.Texts.{or-false, or-left, or-right}
use Rattle.isle_index_laws.proofs.Keeps.{IsFree, Same, any_over, behind-test, both-true, global_over, kinds-are, same_texts, stays_by, stays_gives, two}

-- the first variant that is a term

none_by : (b : Bool) (v : VariantNode) (later : Option VariantNode) → or_later (cond b (Some v) None) later ≡ None → (b ≡ false) × (later ≡ None)
none_by true v later h = absurd (cc)
none_by false v later h = (refl, h)

none_here : (term : List ℕ) (e : EventNode) (later : Option VariantNode) → or_later (variant_of term e) later ≡ None → (gives_variant term e ≡ false) × (later ≡ None)
none_here term (defines_variant o m) later h = none_by (bytes_eq (joined o.text m.text) term) (record { owner = o.text; member = m.text }) later h
none_here term (defines k n) later h = (refl, h)
none_here term (uses k n) later h = (refl, h)
none_here term (occurs role n) later h = (refl, h)
none_here term (binds n) later h = (refl, h)
none_here term (reads n) later h = (refl, h)
none_here term closes later h = (refl, h)
none_here term ends later h = (refl, h)

pub no_first : (term : List ℕ) (ss : List SeenNode) → first_variant term ss ≡ None → list_any (λ s. gives_variant term s.event) ss ≡ false
no_first term [] h = refl
no_first term (s ∷ ss) h =
    let both = none_here term s.event (first_variant term ss) h in
    ap (λ b. b || list_any (λ x. gives_variant term x.event) ss) both.0 ∙ no_first term ss both.1

some_by : (term owner text : List ℕ) (v : VariantNode) (later : Option VariantNode) (b : Bool) → bytes_eq (joined owner text) term ≡ b →
    or_later (cond b (Some (record { owner = owner; member = text })) None) later ≡ Some v → (later ≡ Some v → joined v.owner v.member ≡ term) → joined v.owner v.member ≡ term
some_by term owner text v later true is h next =
    let same : record { owner = owner; member = text } ≡ v = cc in
    sym (ap (λ x. joined x.owner x.member) same) ∙ bytes-are (joined owner text) term is
some_by term owner text v later false is h next = next h

some_here : (term : List ℕ) (e : EventNode) (v : VariantNode) (later : Option VariantNode) → or_later (variant_of term e) later ≡ Some v → (later ≡ Some v → joined v.owner v.member ≡ term) →
    joined v.owner v.member ≡ term
some_here term (defines_variant o m) v later h next = some_by term o.text m.text v later (bytes_eq (joined o.text m.text) term) refl h next
some_here term (defines k n) v later h next = next h
some_here term (uses k n) v later h next = next h
some_here term (occurs role n) v later h next = next h
some_here term (binds n) v later h next = next h
some_here term (reads n) v later h next = next h
some_here term closes v later h next = next h
some_here term ends v later h next = next h

pub first_is : (term : List ℕ) (v : VariantNode) (ss : List SeenNode) → first_variant term ss ≡ Some v → joined v.owner v.member ≡ term
first_is term v [] h = absurd (cc)
first_is term v (s ∷ ss) h = some_here term s.event v (first_variant term ss) h (first_is term v ss)

-- a variant that is the term is the one of this type

abbrev pub IsOwn : (owner text : List ℕ) → List ℕ → EventNode → Type 0
IsOwn owner text term (defines_variant o m) = bytes_eq (joined o.text m.text) term ≡ true → (o.text ≡ owner) × (m.text ≡ text)
IsOwn owner text term (defines _ _) = Unit {0}
IsOwn owner text term (uses _ _) = Unit {0}
IsOwn owner text term (occurs _ _) = Unit {0}
IsOwn owner text term (binds _) = Unit {0}
IsOwn owner text term (reads _) = Unit {0}
IsOwn owner text term closes = Unit {0}
IsOwn owner text term ends = Unit {0}

other_owner : {A : Type 0} (b : Bool) → b ≡ true → not false && (b || false) ≡ false → A
other_owner true is h = let never : true ≡ false = h in absurd (cc)
other_owner false is h = let never : false ≡ true = is in absurd (cc)

own_by : (owner text term : List ℕ) (o m : Name) (b : Bool) → bytes_eq o.text owner ≡ b → joined owner text ≡ term → not b && (bytes_eq (joined owner text) (joined o.text m.text) || false) ≡ false →
    bytes_eq (joined o.text m.text) term ≡ true → (o.text ≡ owner) × (m.text ≡ text)
own_by owner text term o m true is whole none same =
    let first : o.text ≡ owner = bytes-are o.text owner is in
    let both : joined owner m.text ≡ joined owner text = sym (ap (λ t. joined t m.text) first) ∙ bytes-are (joined o.text m.text) term same ∙ sym whole in
    (first, bytes-are m.text text (sym (same_front (owner ++ codes ".") m.text text) ∙ bytes-true (joined owner m.text) (joined owner text) both))
own_by owner text term o m false is whole none same =
    other_owner (bytes_eq (joined owner text) (joined o.text m.text))
    (bytes-true (joined owner text) (joined o.text m.text) (whole ∙ sym (bytes-are (joined o.text m.text) term same))) none

own : (owner text term : List ℕ) (e : EventNode) → joined owner text ≡ term → shares owner (text ∷ []) e ≡ false → IsOwn owner text term e
own owner text term (defines_variant o m) whole none = own_by owner text term o m (bytes_eq o.text owner) refl whole none
own owner text term (defines k n) whole none = tt
own owner text term (uses k n) whole none = tt
own owner text term (occurs role n) whole none = tt
own owner text term (binds n) whole none = tt
own owner text term (reads n) whole none = tt
own owner text term closes whole none = tt
own owner text term ends whole none = tt

pub all_own : (owner text term : List ℕ) (es : List EventNode) → joined owner text ≡ term → list_any (shares owner (text ∷ [])) es ≡ false → AllByRecursion (IsOwn owner text term) es
all_own owner text term [] whole none = tt
all_own owner text term (e ∷ es) whole none =
    let parts = or-false (shares owner (text ∷ []) e) (list_any (shares owner (text ∷ [])) es) none in
    (own owner text term e whole parts.0, all_own owner text term es whole parts.1)

-- what names mean once a variant has another text
module _ (ms : List (List ℕ)) (owner text : List ℕ) (alone : List Pos) (old new : List ℕ) where
  abbrev fresh : List ℕ
  fresh = joined owner new

  abbrev turned : EventNode → EventNode
  turned e = with_member (behind_type owner text alone) old new (new_event ms kinds.Term old fresh e)

  -- no variable is touched
  variables : (c : ℕ) (x y : List ℕ) (i : ℕ) (bound : List BoundNode) (es : List EventNode) → map (is_of (variable c x)) (seen_from i bound (map turned es)) ≡ map (is_of (variable c y)) (seen_from i bound es)
  variables c x y i bound [] = refl
  variables c x y i bound (defines k n ∷ es) = ap (λ bs. false ∷ bs) (variables c x y (i + 1) bound es)
  variables c x y i bound (uses k n ∷ es) = ap (λ bs. false ∷ bs) (variables c x y (i + 1) bound es)
  variables c x y i bound (defines_variant o m ∷ es) = ap (λ bs. false ∷ bs) (variables c x y (i + 1) bound es)
  variables c x y i bound (occurs role n ∷ es) = ap (λ bs. is_number c (binder (occurs role n) i bound) ∷ bs) (variables c x y (i + 1) (after (occurs role n) i bound) es)
  variables c x y i bound (binds n ∷ es) = ap (λ bs. is_number c (binder (binds n) i bound) ∷ bs) (variables c x y (i + 1) (after (binds n) i bound) es)
  variables c x y i bound (reads n ∷ es) = ap (λ bs. is_number c (binder (reads n) i bound) ∷ bs) (variables c x y (i + 1) bound es)
  variables c x y i bound (closes ∷ es) = ap (λ bs. false ∷ bs) (variables c x y (i + 1) (after closes i bound) es)
  variables c x y i bound (ends ∷ es) = ap (λ bs. false ∷ bs) (variables c x y (i + 1) [] es)

  joins : (o m : Name) (b : Bool) → bytes_eq (joined o.text m.text) old ≡ b → IsOwn owner text old (defines_variant o m) →
      joined o.text (cond b (record { text = new; pos = m.pos }) m).text ≡ cond b fresh (joined o.text m.text)
  joins o m true is mine = ap (λ t. joined t new) (mine is).0
  joins o m false is mine = refl

  one_gives : (k : Kind) (t : List ℕ) (e : EventNode) → ((x : List ℕ) → gives k x e ≡ true → Same ms kinds.Term old fresh k x t) → IsOwn owner text old e →
      gives k (new_text ms kinds.Term old fresh k t) (turned e) ≡ gives k t e
  one_gives k t (defines l n) h mine = stays_gives ms kinds.Term old fresh k t (defines l n) (stays_by ms kinds.Term old fresh k t (defines l n) h tt)
  one_gives k t (uses l n) h mine = stays_gives ms kinds.Term old fresh k t (uses l n) (stays_by ms kinds.Term old fresh k t (uses l n) h tt)
  one_gives k t (defines_variant o m) h mine =
      let term : List ℕ = joined o.text m.text in
      behind-test (same_kind k kinds.Term) _ _
      (λ same.
      ap (λ y. bytes_eq y (new_text ms kinds.Term old fresh k t)) (joins o m (bytes_eq term old) refl mine)
      ∙ ap (λ z. bytes_eq (new_text ms kinds.Term old fresh z term) (new_text ms kinds.Term old fresh k t)) (sym (kinds-are k kinds.Term same))
      ∙ h term (both-true (same_kind k kinds.Term) (bytes_eq term term) same (bytes-true term term refl)))
  one_gives k t (occurs role n) h mine = refl
  one_gives k t (binds n) h mine = refl
  one_gives k t (reads n) h mine = refl
  one_gives k t closes h mine = refl
  one_gives k t ends h mine = refl

  all_give : (k : Kind) (t : List ℕ) (es : List EventNode) → ((x : List ℕ) → list_any (gives k x) es ≡ true → Same ms kinds.Term old fresh k x t) → AllByRecursion (IsOwn owner text old) es →
      map (gives k (new_text ms kinds.Term old fresh k t)) (map turned es) ≡ map (gives k t) es
  all_give k t [] h mine = refl
  all_give k t (e ∷ es) h mine =
      two (gives k (new_text ms kinds.Term old fresh k t) (turned e)) (gives k t e) (map (gives k (new_text ms kinds.Term old fresh k t)) (map turned es)) (map (gives k t) es)
      (one_gives k t e (λ x here. h x (or-left (gives k x e) (list_any (gives k x) es) here)) mine.0)
      (all_give k t es (λ x there. h x (or-right (gives k x e) (list_any (gives k x) es) there)) mine.1)

  -- each name is named where it was
  pub variant_keeps : (m : NameNode) (es : List EventNode) → IsFree ms kinds.Term old fresh es → AllByRecursion (IsOwn owner text old) es → list_any (is_of m) (seen es) ≡ true →
      map (is_of (new_name ms (global kinds.Term old) fresh m)) (seen (map turned es)) ≡ map (is_of m) (seen es)
  variant_keeps (variable c x) es free mine there = variables c x x 0 [] es
  variant_keeps (global k t) es free mine there =
      let here : list_any (gives k t) es ≡ true = sym (any_over (gives k t) 0 [] es) ∙ there in
      global_over k (new_text ms kinds.Term old fresh k t) 0 [] (map turned es)
      ∙ all_give k t es (λ x px. same_texts ms kinds.Term old fresh k x t es free px here) mine
      ∙ sym (global_over k t 0 [] es)
