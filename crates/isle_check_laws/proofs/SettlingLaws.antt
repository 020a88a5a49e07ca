-- What holds of the values at places still holds when equal places are settled.
use Rattle.std.proofs.Common.{◌≡◌, ℕ, zero, suc, List, [], ◌∷◌, ◌++◌, length, nat_lt, Bool, true, false, Option, Some, None, refl, ap, sym, ◌∙◌, if◌then◌else◌}
use Rattle.std.proofs.lemmas.Option.{same_Some}
use Rattle.isle_check_places.specs.Places.{Place, ConstraintNode, of_variant, of_bool, of_int, of_constant, present, ConstrainedNode, same_constraint, same_place}
use Rattle.isle_check_places.specs.Settling.{constraint_at, EqualityNode, equal_fields, equal_parts, SweepNode, with_constraint, opened, clashing, swept_by, swept, sweep, SettledNode, settled, unequal, endless, most_equal, begun, settle}
use Rattle.isle_check_laws.specs.PlaceValues.{value_at, valuation, AreEqual, IsMet}
use Rattle.isle_check_laws.specs.Valuations.{Satisfies}
use Rattle.isle_check_laws.specs.Worlds.{World}
use Rattle.isle_check_laws.proofs.ClashLaws.{append_satisfies, found_holds}
use Rattle.isle_check_overlaps.proofs.Equality.{constraint_same}
use Rattle.isle_check_laws.proofs.PlaceValues.{equal_constraint, equal_field, equal_content}

module _ {V : Type 0} (w : World V) (input : ℕ → V) where
  -- what a sweep has found holds, and it has found no clash
  abbrev Met : SweepNode → Type 0
  Met s = Satisfies (valuation w input) s.constraints × (AreEqual w input s.equal × (s.clashes ≡ false))

  abbrev Same : EqualityNode → Type 0
  Same e = value_at w input e.left ≡ value_at w input e.right

  pub append_equal : (es fs : List EqualityNode) → AreEqual w input es → AreEqual w input fs → AreEqual w input (es ++ fs)
  append_equal [] fs h g = g
  append_equal (e ∷ es) fs h g = (h.0, append_equal es fs h.1 g)

  fields_equal : (e : EqualityNode) (v : List ℕ) (n : ℕ) → Same e → AreEqual w input (equal_fields e v n)
  fields_equal e v zero h = tt
  fields_equal e v (suc n) h = append_equal (equal_fields e v n) _ (fields_equal e v n h) (equal_field w input e.left e.right v n h, tt)

  parts_equal : (e : EqualityNode) (c : ConstraintNode) → Same e → AreEqual w input (equal_parts e c)
  parts_equal e (of_variant v n) h = fields_equal e v n h
  parts_equal e (of_bool b) h = tt
  parts_equal e (of_int i) h = tt
  parts_equal e (of_constant name) h = tt
  parts_equal e present h = (equal_content w input e.left e.right h, tt)

  opened_met : (s : SweepNode) (e : EqualityNode) (c : ConstraintNode) → Met s → Same e → Met (opened s e c)
  opened_met s e c m h = (m.0, (append_equal s.equal (equal_parts e c) m.1.0 (parts_equal e c h), m.1.1))

  with_met : (s : SweepNode) (at : Place) (c : ConstraintNode) → Met s → valuation w input at ≡ Some c → Met (with_constraint s at c)
  with_met s at c m h = (append_satisfies (valuation w input) s.constraints (record { at = at; constraint = c }) m.0 h, (m.1.0, m.1.1))

  both_met : (s : SweepNode) (e : EqualityNode) (c d : ConstraintNode) → Met s → Same e → c ≡ d → (b : Bool) → same_constraint c d ≡ b →
      Met (if b then opened s e c else clashing s)
  both_met s e c d m h same true is = opened_met s e c m h
  both_met s e c d m h same false is = let f : true ≡ false = sym (constraint_same d) ∙ (ap (λ x. same_constraint x d) (sym same) ∙ is) in cc

  by_met : (s : SweepNode) (e : EqualityNode) (o p : Option ConstraintNode) → constraint_at s.constraints e.left ≡ o → constraint_at s.constraints e.right ≡ p →
      Met s → Same e → Met (swept_by o p s e)
  by_met s e None None is_o is_p m h = (m.0, (append_equal s.equal (e ∷ []) m.1.0 (h, tt), m.1.1))
  by_met s e (Some c) None is_o is_p m h =
      let holds = found_holds (valuation w input) s.constraints e.left c m.0 is_o in
      opened_met (with_constraint s e.right c) e c (with_met s e.right c m (sym (equal_constraint w input e.left e.right h) ∙ holds)) h
  by_met s e None (Some d) is_o is_p m h =
      let holds = found_holds (valuation w input) s.constraints e.right d m.0 is_p in
      opened_met (with_constraint s e.left d) e d (with_met s e.left d m (equal_constraint w input e.left e.right h ∙ holds)) h
  by_met s e (Some c) (Some d) is_o is_p m h =
      let left = found_holds (valuation w input) s.constraints e.left c m.0 is_o in
      let right = found_holds (valuation w input) s.constraints e.right d m.0 is_p in
      both_met s e c d m h (same_Some c d (sym left ∙ (equal_constraint w input e.left e.right h ∙ right))) (same_constraint c d) refl

  swept_met_by : (s : SweepNode) (e : EqualityNode) (b : Bool) → Met s → Same e →
      Met (if b then s else swept_by (constraint_at s.constraints e.left) (constraint_at s.constraints e.right) s e)
  swept_met_by s e true m h = m
  swept_met_by s e false m h = by_met s e (constraint_at s.constraints e.left) (constraint_at s.constraints e.right) refl refl m h

  sweep_met : (s : SweepNode) (es : List EqualityNode) → Met s → AreEqual w input es → Met (sweep s es)
  sweep_met s [] m h = m
  sweep_met s (e ∷ es) m h = sweep_met (swept s e) es (swept_met_by s e (same_place e.left e.right) m h.0) h.1

  after_met : (next : SettledNode) (s : SweepNode) (clashes opens many : Bool) → clashes ≡ false → IsMet w input next → Met s →
      IsMet w input (if clashes then unequal else if opens then (if many then endless else next) else settled s.constraints s.equal)
  after_met next s true opens many none n m = cc
  after_met next s false true true none n m = tt
  after_met next s false true false none n m = n
  after_met next s false false many none n m = (m.0, m.1.0)

  -- settling is sound
  pub settle_met : (n : ℕ) (cs : List ConstrainedNode) (es : List EqualityNode) → Satisfies (valuation w input) cs → AreEqual w input es →
      IsMet w input (settle n cs es)
  settle_met zero cs es h g = tt
  settle_met (suc n) cs es h g =
      let s = sweep (begun cs) es in
      let m = sweep_met (begun cs) es (h, (tt, refl)) g in
      after_met (settle n s.constraints s.equal) s s.clashes s.is_opened (nat_lt most_equal (length s.equal)) m.1.1
      (settle_met n s.constraints s.equal m.0 m.1.0) m
