-- In a world in which values are equal if they look so, what is settled whole holds only if what it is settled of does.
use Rattle.std.proofs.Common.{◌≡◌, ◌≢◌, ◌==◌, ℕ, zero, suc, ◌<◌, List, [], ◌∷◌, ◌++◌, length, nat_lt, Bool, true, false, Option, Some, None, refl, ap, sym, ◌∙◌, subst, option_and_then, option_map, if◌then◌else◌, arith}
use Rattle.std.proofs.lemmas.Bool.Decides.{Decides-eqb, not_from_Decides}
use Rattle.std.proofs.lemmas.Option.{none-some, same_Some}
use Rattle.isle_check_places.specs.Places.{ConstraintNode, of_variant, of_bool, of_int, of_constant, present, ConstrainedNode, same_constraint, same_place, field}
use Rattle.isle_check_places.specs.Settling.{constraint_at, EqualityNode, equal_fields, equal_part, equal_parts, SweepNode, opened, clashing, swept_by, swept, sweep, SettledNode, settled, unequal, endless, most_equal, begun, settle}
use Rattle.isle_check_laws.specs.Extensional.{HaveEqualParts, IsExtensional}
use Rattle.isle_check_laws.specs.PlaceValues.{value_at, valuation, AreEqual}
use Rattle.isle_check_laws.specs.Valuations.{Satisfies, Holds}
use Rattle.isle_check_laws.specs.Worlds.{World}
use Rattle.isle_check_laws.proofs.ClashLaws.{found_holds}
use Rattle.isle_check_overlaps.proofs.Equality.{constraint_is, place_is}
use Rattle.isle_check_laws.proofs.PlaceValues.{field_value, content_value}

module _ {V : Type 0} (w : World V) (input : ℕ → V) (looks : IsExtensional w) where
  -- what is settled holds, and it is settled whole
  abbrev pub IsWhole : SettledNode → Type 0
  IsWhole (settled cs es) = Satisfies (valuation w input) cs × AreEqual w input es
  IsWhole unequal = ⊥
  IsWhole endless = ⊥

  abbrev Met : SweepNode → Type 0
  Met s = Satisfies (valuation w input) s.constraints × (AreEqual w input s.equal × (s.clashes ≡ false))

  abbrev Same : EqualityNode → Type 0
  Same e = value_at w input e.left ≡ value_at w input e.right

  equal_split : (es fs : List EqualityNode) → AreEqual w input (es ++ fs) → AreEqual w input es × AreEqual w input fs
  equal_split [] fs h = (tt, h)
  equal_split (e ∷ es) fs h = let s = equal_split es fs h.1 in ((h.0, s.0), s.1)

  satisfies_split : (cs : List ConstrainedNode) (c : ConstrainedNode) → Satisfies (valuation w input) (cs ++ c ∷ []) →
      Satisfies (valuation w input) cs × Holds (valuation w input) c
  satisfies_split [] c h = (tt, h.0)
  satisfies_split (d ∷ cs) c h = let s = satisfies_split cs c h.1 in ((h.0, s.0), s.1)

  -- a constraint that holds of the value at a place, which is there
  has_value : (o : Option V) (c : ConstraintNode) → option_and_then w.constraint o ≡ Some c → (v : V) × ((o ≡ Some v) × (w.constraint v ≡ Some c))
  has_value None c h = absurd (none-some c h)
  has_value (Some v) c h = (v, (refl, h))

  equal_field_of : (e : EqualityNode) (name : List ℕ) (i : ℕ) (u v : V) → value_at w input e.left ≡ Some u → value_at w input e.right ≡ Some v →
      Same (equal_part e (field name i)) → w.field name i u ≡ w.field name i v
  equal_field_of e name i u v is_u is_v h =
      same_Some (w.field name i u) (w.field name i v)
      (ap (option_map (w.field name i)) (sym is_u) ∙ (sym (field_value w input e.left name i) ∙ (h ∙ (field_value w input e.right name i ∙ ap (option_map (w.field name i)) is_v))))

  less_than : (i n : ℕ) → (i == n) ≡ false → i < suc n → i < n
  less_than i n other less =
      let apart : i ≢ n = not_from_Decides (i == n) (Decides-eqb i n) other in
      below i n apart less where
        below : (i n : ℕ) → i ≢ n → i < suc n → i < n
        below i n other less = grind (arith, other)

  field_by : (e : EqualityNode) (name : List ℕ) (n : ℕ) (u v : V) → value_at w input e.left ≡ Some u → value_at w input e.right ≡ Some v →
      Same (equal_part e (field name n)) → (i : ℕ) → i < suc n → (i < n → w.field name i u ≡ w.field name i v) → (b : Bool) → (i == n) ≡ b →
      w.field name i u ≡ w.field name i v
  field_by e name n u v is_u is_v h i less before true is =
      subst (λ j. w.field name j u ≡ w.field name j v) (sym ((Decides-eqb i n).0 is)) (equal_field_of e name n u v is_u is_v h)
  field_by e name n u v is_u is_v h i less before false is = before (less_than i n is less)

  equal_fields_of : (e : EqualityNode) (name : List ℕ) (n : ℕ) (u v : V) → value_at w input e.left ≡ Some u → value_at w input e.right ≡ Some v →
      AreEqual w input (equal_fields e name n) → (i : ℕ) → i < n → w.field name i u ≡ w.field name i v
  equal_fields_of e name zero u v is_u is_v h i less = absurd (omega (arith, less))
  equal_fields_of e name (suc n) u v is_u is_v h i less =
      let s = equal_split (equal_fields e name n) (equal_part e (field name n) ∷ []) h in
      field_by e name n u v is_u is_v s.1.0 i less (λ g. equal_fields_of e name n u v is_u is_v s.0 i g) (i == n) refl

  equal_parts_of : (e : EqualityNode) (c : ConstraintNode) (u v : V) → value_at w input e.left ≡ Some u → value_at w input e.right ≡ Some v →
      AreEqual w input (equal_parts e c) → HaveEqualParts w c u v
  equal_parts_of e (of_variant name n) u v is_u is_v h = equal_fields_of e name n u v is_u is_v h
  equal_parts_of e (of_bool b) u v is_u is_v h = tt
  equal_parts_of e (of_int i) u v is_u is_v h = tt
  equal_parts_of e (of_constant name) u v is_u is_v h = tt
  equal_parts_of e present u v is_u is_v h =
      same_Some (w.content u) (w.content v)
      (ap (option_map w.content) (sym is_u) ∙ (sym (content_value w input e.left) ∙ (h.0 ∙ (content_value w input e.right ∙ ap (option_map w.content) is_v))))

  same_opened : (e : EqualityNode) (c : ConstraintNode) → valuation w input e.left ≡ Some c → valuation w input e.right ≡ Some c →
      AreEqual w input (equal_parts e c) → Same e
  same_opened e c left right h =
      let l = has_value (value_at w input e.left) c left in
      let r = has_value (value_at w input e.right) c right in
      l.1.0 ∙ (ap (λ (x : V). Some x) (looks c l.0 r.0 l.1.1 r.1.1 (equal_parts_of e c l.0 r.0 l.1.0 r.1.0 h)) ∙ sym r.1.0)

  -- before one equality was gone over
  abbrev Before : SweepNode → EqualityNode → Type 0
  Before s e = Met s × Same e

  both_before : (s : SweepNode) (e : EqualityNode) (c d : ConstraintNode) → constraint_at s.constraints e.left ≡ Some c → constraint_at s.constraints e.right ≡ Some d →
      (b : Bool) → same_constraint c d ≡ b → Met (if b then opened s e c else clashing s) → Before s e
  both_before s e c d is_c is_d true is m =
      let split = equal_split s.equal (equal_parts e c) m.1.0 in
      let left = found_holds (valuation w input) s.constraints e.left c m.0 is_c in
      let right = found_holds (valuation w input) s.constraints e.right d m.0 is_d in (
        (m.0, (split.0, m.1.1)),
        same_opened e c left (right ∙ ap (λ (x : ConstraintNode). Some x) (sym (constraint_is c d is))) split.1,
      )
  both_before s e c d is_c is_d false is m = let f : true ≡ false = m.1.1 in cc

  by_before : (s : SweepNode) (e : EqualityNode) (o p : Option ConstraintNode) → constraint_at s.constraints e.left ≡ o → constraint_at s.constraints e.right ≡ p →
      Met (swept_by o p s e) → Before s e
  by_before s e None None is_o is_p m =
      let split = equal_split s.equal (e ∷ []) m.1.0 in ((m.0, (split.0, m.1.1)), split.1.0)
  by_before s e (Some c) None is_o is_p m =
      let split = equal_split s.equal (equal_parts e c) m.1.0 in
      let holds = satisfies_split s.constraints (record { at = e.right; constraint = c }) m.0 in
      ((holds.0, (split.0, m.1.1)), same_opened e c (found_holds (valuation w input) s.constraints e.left c holds.0 is_o) holds.1 split.1)
  by_before s e None (Some d) is_o is_p m =
      let split = equal_split s.equal (equal_parts e d) m.1.0 in
      let holds = satisfies_split s.constraints (record { at = e.left; constraint = d }) m.0 in
      ((holds.0, (split.0, m.1.1)), same_opened e d holds.1 (found_holds (valuation w input) s.constraints e.right d holds.0 is_p) split.1)
  by_before s e (Some c) (Some d) is_o is_p m = both_before s e c d is_o is_p (same_constraint c d) refl m

  swept_before : (s : SweepNode) (e : EqualityNode) (b : Bool) → same_place e.left e.right ≡ b →
      Met (if b then s else swept_by (constraint_at s.constraints e.left) (constraint_at s.constraints e.right) s e) → Before s e
  swept_before s e true is m = (m, ap (value_at w input) (place_is e.left e.right is))
  swept_before s e false is m = by_before s e (constraint_at s.constraints e.left) (constraint_at s.constraints e.right) refl refl m

  sweep_before : (s : SweepNode) (es : List EqualityNode) → Met (sweep s es) → Met s × AreEqual w input es
  sweep_before s [] m = (m, tt)
  sweep_before s (e ∷ es) m =
      let rest = sweep_before (swept s e) es m in
      let one = swept_before s e (same_place e.left e.right) refl rest.0 in
      (one.0, (one.1, rest.1))

  after_before : (next : SettledNode) (s : SweepNode) (clashes opens many : Bool) → s.clashes ≡ clashes →
      (IsWhole next → Satisfies (valuation w input) s.constraints × AreEqual w input s.equal) →
      IsWhole (if clashes then unequal else if opens then (if many then endless else next) else settled s.constraints s.equal) → Met s
  after_before next s true opens many is back h = absurd h
  after_before next s false true true is back h = absurd h
  after_before next s false true false is back h = let b = back h in (b.0, (b.1, is))
  after_before next s false false many is back h = (h.0, (h.1, is))

  pub settle_back : (n : ℕ) (cs : List ConstrainedNode) (es : List EqualityNode) → IsWhole (settle n cs es) →
      Satisfies (valuation w input) cs × AreEqual w input es
  settle_back zero cs es h = absurd h
  settle_back (suc n) cs es h =
      let s = sweep (begun cs) es in
      let m = after_before (settle n s.constraints s.equal) s s.clashes s.is_opened (nat_lt most_equal (length s.equal)) refl
      (λ whole. settle_back n s.constraints s.equal whole) h in
      let b = sweep_before (begun cs) es m in
      (b.0.0, b.1)

  pub settled_back : (n : ℕ) (cs : List ConstrainedNode) (es : List EqualityNode) (ds : List ConstrainedNode) (fs : List EqualityNode) → settle n cs es ≡ settled ds fs →
      Satisfies (valuation w input) ds → AreEqual w input fs → Satisfies (valuation w input) cs × AreEqual w input es
  settled_back n cs es ds fs is h g = settle_back n cs es (subst IsWhole (sym is) (h, g))
