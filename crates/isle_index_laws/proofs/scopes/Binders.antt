-- The binders of the variables that programs read, and those that have none.
use Rattle.std.proofs.Common.{◌≡◌, inl, inr, ◌↔◌, ℕ, ◌+◌, List, [], ◌∷◌, Option, None, Some, Contains, option_and_then, slice_get, sym, ap, subst, ◌∙◌, arith, zero, suc, ⊎_elim}
use Rattle.std.proofs.lemmas.List.Elements.{Contains-append_cases, Contains-append_right}
use Rattle.isle_ast_names.specs.Tree.{Name}
use Rattle.isle_ast.specs.Tree.{Definition}
use Rattle.isle_resolve.specs.Event.{EventNode}
use Rattle.isle_resolve.specs.Events.{events}
use Rattle.isle_resolve.specs.Scopes.{BoundNode, SeenNode, after, binder, seen, seen_from}
use Rattle.isle_index_laws.specs.scopes.Reads.{IsReadAs, IsUnknown, OccursAs}
use Rattle.isle_index_laws.specs.scopes.Uses.{HasBinder, HasFirst, HasNoBinder, variable_of}
use Rattle.isle_index_laws.proofs.scopes.Numbered.{AnyOf, AreNumbered, IsKnown, IsLost, IsOccurrence, is_occurrence, occurrence_is, known_is_read, lost_is_read, numbered_seen, read_is_known, read_is_lost, has_seen, seen_has}
use Rattle.isle_index_laws.proofs.scopes.Scoped.{IsOccurrenceOf, IsRead}
use Rattle.isle_index_laws.proofs.scopes.Occurrences.{found_occurrence, occurrence_found}
use Rattle.isle_index_laws.proofs.scopes.Programs.{alone, found_program, here, program_found}

-- the variable of the event of a number
abbrev pub variable_at : List EventNode → ℕ → Option Name
variable_at es k = option_and_then variable_of (slice_get es k)

numbered_by : (who : ℕ → Option Name) (es : List EventNode) (i : ℕ) → ((k : ℕ) → who (i + k) ≡ variable_at es k) → AreNumbered who i es
numbered_by who [] i each = tt
numbered_by who (e ∷ es) i each =
    let first : i ≡ i + 0 = omega arith in
    (ap who first ∙ each 0, numbered_by who es (i + 1) (λ k. let next : i + 1 + k ≡ i + suc k = omega arith in ap who next ∙ each (suc k)))

pub numbered : (es : List EventNode) → AreNumbered (variable_at es) 0 es
numbered es = numbered_by (variable_at es) es 0 (λ k. let same : 0 + k ≡ k = omega arith in ap (variable_at es) same)

-- an event with this is one of those that are seen
any_of : (who : ℕ → Option Name) (P : EventNode → Option ℕ → Type 0) (ss : List SeenNode) (s : SeenNode) → Contains ss s → P s.event s.binder → AnyOf who P ss
any_of who P [] s has l = absurd (omega (arith, has.1))
any_of who P (x ∷ ss) s has l =
    ⊎_elim
    (λ first. inl (subst (λ y. P y.event y.binder) (sym (alone x s first)) l))
    (λ later. inr (any_of who P ss s later l))
    (Contains-append_cases (x ∷ []) ss s has)

one_of : (who : ℕ → Option Name) (P : EventNode → Option ℕ → Type 0) (ss : List SeenNode) → AnyOf who P ss → (s : SeenNode) × Contains ss s × P s.event s.binder
one_of who P [] l = absurd l
one_of who P (x ∷ ss) (inl l) = (x, here ss x, l)
one_of who P (x ∷ ss) (inr l) = let one = one_of who P ss l in (one.0, Contains-append_right (x ∷ []) ss one.0 one.1, one.2)

pub unknown_variables : (ds : List Definition) (name : Name) → HasNoBinder name (seen (events ds)) ↔ IsUnknown ds name
unknown_variables ds name =
    let es : List EventNode = events ds in
    let who : ℕ → Option Name = variable_at es in
    let Lost : EventNode → Option ℕ → Type 0 = IsLost who name in (
      λ h. program_found ds name None
          (seen_has who Lost (IsRead name None) (λ e i bound names is m l. lost_is_read who name e i bound names m l) es 0 [] [] (numbered es) tt (any_of who Lost (seen es) h.0 h.1 (h.2, h.3))),
      λ h.
          let lost = has_seen who Lost (IsRead name None) (λ e i bound names is m r. read_is_lost who name e i bound names m r) es 0 [] [] (numbered es) tt (found_program ds name None h.1.0 h.0 h.1.1 h.1.2 h.2) in
          let one = one_of who Lost (seen es) lost in
          (one.0, one.1, one.2.0, one.2.1),
    )

-- the event of a number is seen
seen_of : (es : List EventNode) (i : ℕ) (bound : List BoundNode) (k : ℕ) (b : Name) → variable_at es k ≡ Some b →
    (t : SeenNode) × Contains (seen_from i bound es) t × (t.number ≡ i + k) × (variable_of t.event ≡ Some b)
seen_of [] i bound k b is = absurd (cc)
seen_of (e ∷ es) i bound zero b is =
    let first : SeenNode = record { event = e; number = i; binder = binder e i bound } in
    let at : i ≡ i + 0 = omega arith in
    (first, here (seen_from (i + 1) (after e i bound) es) first, at, is)
seen_of (e ∷ es) i bound (suc k) b is =
    let first : SeenNode = record { event = e; number = i; binder = binder e i bound } in
    let rest : List SeenNode = seen_from (i + 1) (after e i bound) es in
    let found = seen_of es (i + 1) (after e i bound) k b is in
    let at : i + 1 + k ≡ i + suc k = omega arith in
    (found.0, Contains-append_right (first ∷ []) rest found.0 found.1, found.2 ∙ at, found.3)

pub first_variables : (ds : List Definition) (name b : Name) → HasFirst name b (seen (events ds)) ↔ OccursAs ds name b
first_variables ds name b =
    let es : List EventNode = events ds in
    let who : ℕ → Option Name = variable_at es in
    let First : EventNode → Option ℕ → Type 0 = IsOccurrence who name b in (
      λ h.
          let named = numbered_seen who es 0 [] h.4 (numbered es) h.5 in
          occurrence_found ds name b
          (seen_has who First (IsOccurrenceOf name b) (occurrence_is who name b) es 0 [] [] (numbered es) tt
          (any_of who First (seen es) h.0 h.1 (h.2, h.3, h.4.number, h.6, named ∙ h.7))),
      λ h.
          let first = has_seen who First (IsOccurrenceOf name b) (is_occurrence who name b) es 0 [] [] (numbered es) tt (found_occurrence ds name b h.0 h.1 (h.2, h.3)) in
          let one = one_of who First (seen es) first in
          let found = seen_of es 0 [] one.2.2 b one.2.4 in
          let at : one.2.2 ≡ found.0.number = omega (arith, found.2) in
          (one.0, one.1, one.2.0, one.2.1, found.0, found.1, one.2.3 ∙ ap Some at, found.3),
    )

pub known_variables : (ds : List Definition) (name b : Name) → HasBinder name b (seen (events ds)) ↔ IsReadAs ds name (Some b)
known_variables ds name b =
    let es : List EventNode = events ds in
    let who : ℕ → Option Name = variable_at es in
    let Known : EventNode → Option ℕ → Type 0 = IsKnown who name b in (
      λ h.
          let named = numbered_seen who es 0 [] h.3 (numbered es) h.4 in
          program_found ds name (Some b)
          (seen_has who Known (IsRead name (Some b)) (λ e i bound names is m l. known_is_read who name b e i bound names m l) es 0 [] [] (numbered es) tt
          (any_of who Known (seen es) h.0 h.1 (h.2, h.3.number, h.5, named ∙ h.6))),
      λ h.
          let known = has_seen who Known (IsRead name (Some b)) (λ e i bound names is m r. read_is_known who name b e i bound names m r) es 0 [] [] (numbered es) tt (found_program ds name (Some b) h.1.0 h.0 h.1.1 h.1.2 h.2) in
          let one = one_of who Known (seen es) known in
          let found = seen_of es 0 [] one.2.1 b one.2.3 in
          let at : one.2.1 ≡ found.0.number = omega (arith, found.2) in
          (one.0, one.1, one.2.0, found.0, found.1, one.2.2 ∙ ap Some at, found.3),
    )
