-- Rules that ask for different things at a place are apart, and neither hides the other.
use Rattle.std.proofs.Common.{◌≡◌, ℕ, List, [], ◌∷◌, Bool, true, false, not, ◌&&◌, Option, None, Some, option_map, refl, sym, ap, ◌∙◌, if◌then◌else◌}
use Rattle.std.proofs.Math.Bool.{and-false}
use Rattle.std.proofs.lemmas.Option.{none-some, same_Some}
use Rattle.std.specs.List.{list_any}
use Rattle.std.specs.Str.{bytes_eq}
use Rattle.isle_check_places.specs.Places.{ConstraintNode, ConstrainedNode, Place, same_constraint, same_place}
use Rattle.isle_check_places.specs.Comparing.{apart, differ, is_in, within}
use Rattle.isle_check_overlaps.specs.Candidates.{CandidateNode}
use Rattle.isle_check_overlaps.specs.Faults.{shown}
use Rattle.isle_check_overlaps.specs.Groups.{asked, asks_at, asks_other, is_other, only_at}
use Rattle.isle_check_overlaps.proofs.Booleans.{and_true, false_of, not_false, not_true, or_false, or_first, or_second, true_first, true_second}
use Rattle.isle_check_overlaps.proofs.Equality.{constraint_is, place_is, place_same, equal_text}

-- the one constraint of a place is the first there, and no other one is
only_first : (r : Bool) (c d : ConstraintNode) → (if r then None else Some c) ≡ Some d → (r ≡ false) × (c ≡ d)
only_first true c d h = absurd (none-some d h)
only_first false c d h = (refl, same_Some c d h)

same_at : (at : Place) (x e : ConstrainedNode) → x.at ≡ at → same_place e.at at ≡ true → same_place x.at e.at ≡ true
same_at at x e is same = rw (is ∙ sym (place_is e.at at same)) (place_same e.at)

other_at : (at : Place) (x e : ConstrainedNode) → x.at ≡ at → same_place e.at at ≡ false → same_place x.at e.at ≡ false
other_at at x e is other =
    false_of (same_place x.at e.at)
    (λ h.
    let e_is : e.at ≡ at = sym (place_is x.at e.at h) ∙ is in
    let t : same_place e.at at ≡ true = rw e_is (place_same at) in
    let f : true ≡ false = sym t ∙ other in cc)

apart_in : (at : Place) (x : ConstrainedNode) (ds : List ConstrainedNode) (d : ConstraintNode) → x.at ≡ at → only_at at ds ≡ Some d →
    same_constraint x.constraint d ≡ false → list_any (λ e. differ x e) ds ≡ true
apart_in at x [] d is only other = absurd (none-some d only)
apart_in at x (e ∷ ds) d is only other = by (same_place e.at at) refl only (λ found. apart_in at x ds d is found other) where
  by : (r : Bool) → same_place e.at at ≡ r → (if r then (if asks_at at ds then None else Some e.constraint) else only_at at ds) ≡ Some d →
      (only_at at ds ≡ Some d → list_any (λ y. differ x y) ds ≡ true) → list_any (λ y. differ x y) (e ∷ ds) ≡ true
  by true there found more =
      let e_is : e.constraint ≡ d = (only_first (asks_at at ds) e.constraint d found).1 in
      true_first (differ x e) (list_any (λ y. differ x y) ds)
      (and_true (same_place x.at e.at) (not (same_constraint x.constraint e.constraint)) (same_at at x e is there)
      (not_false (same_constraint x.constraint e.constraint) (ap (same_constraint x.constraint) e_is ∙ other)))
  by false there found more = true_second (differ x e) (list_any (λ y. differ x y) ds) (more found)

pub apart_at : (at : Place) (cs ds : List ConstrainedNode) (c d : ConstraintNode) → only_at at cs ≡ Some c → only_at at ds ≡ Some d →
    same_constraint c d ≡ false → apart cs ds ≡ true
apart_at at [] ds c d first second other = absurd (none-some c first)
apart_at at (x ∷ cs) ds c d first second other = by (same_place x.at at) refl first (λ found. apart_at at cs ds c d found second other) where
  by : (r : Bool) → same_place x.at at ≡ r → (if r then (if asks_at at cs then None else Some x.constraint) else only_at at cs) ≡ Some c →
      (only_at at cs ≡ Some c → apart cs ds ≡ true) → apart (x ∷ cs) ds ≡ true
  by true there found more =
      let x_is : x.constraint ≡ c = (only_first (asks_at at cs) x.constraint c found).1 in
      true_first (list_any (λ e. differ x e) ds) (apart cs ds)
      (apart_in at x ds d (place_is x.at at there) second (ap (λ k. same_constraint k d) x_is ∙ other))
  by false there found more = true_second (list_any (λ e. differ x e) ds) (apart cs ds) (more found)

none_in : (at : Place) (x : ConstrainedNode) (ds : List ConstrainedNode) → x.at ≡ at → asks_at at ds ≡ false → is_in x ds ≡ false
none_in at x [] is none = refl
none_in at x (e ∷ ds) is none =
    or_false (same_place x.at e.at && same_constraint x.constraint e.constraint) (is_in x ds)
    (ap (λ r. r && same_constraint x.constraint e.constraint) (other_at at x e is (or_first (same_place e.at at) (asks_at at ds) none)))
    (none_in at x ds is (or_second (same_place e.at at) (asks_at at ds) none))

not_in : (at : Place) (x : ConstrainedNode) (ds : List ConstrainedNode) (d : ConstraintNode) → x.at ≡ at → only_at at ds ≡ Some d →
    same_constraint x.constraint d ≡ false → is_in x ds ≡ false
not_in at x [] d is only other = absurd (none-some d only)
not_in at x (e ∷ ds) d is only other = by (same_place e.at at) refl only (λ found. not_in at x ds d is found other) where
  by : (r : Bool) → same_place e.at at ≡ r → (if r then (if asks_at at ds then None else Some e.constraint) else only_at at ds) ≡ Some d →
      (only_at at ds ≡ Some d → is_in x ds ≡ false) → is_in x (e ∷ ds) ≡ false
  by true there found more =
      let first = only_first (asks_at at ds) e.constraint d found in
      or_false (same_place x.at e.at && same_constraint x.constraint e.constraint) (is_in x ds)
      (ap (λ r. same_place x.at e.at && r) (ap (same_constraint x.constraint) first.1 ∙ other) ∙ and-false (same_place x.at e.at))
      (none_in at x ds is first.0)
  by false there found more =
      or_false (same_place x.at e.at && same_constraint x.constraint e.constraint) (is_in x ds)
      (ap (λ r. r && same_constraint x.constraint e.constraint) (other_at at x e is there))
      (more found)

pub not_within : (at : Place) (cs ds : List ConstrainedNode) (c d : ConstraintNode) → only_at at cs ≡ Some c → only_at at ds ≡ Some d →
    same_constraint c d ≡ false → within cs ds ≡ false
not_within at [] ds c d first second other = absurd (none-some c first)
not_within at (x ∷ cs) ds c d first second other = by (same_place x.at at) refl first (λ found. not_within at cs ds c d found second other) where
  by : (r : Bool) → same_place x.at at ≡ r → (if r then (if asks_at at cs then None else Some x.constraint) else only_at at cs) ≡ Some c →
      (only_at at cs ≡ Some c → within cs ds ≡ false) → within (x ∷ cs) ds ≡ false
  by true there found more =
      let x_is : x.constraint ≡ c = (only_first (asks_at at cs) x.constraint c found).1 in
      ap (λ r. r && within cs ds) (not_in at x ds d (place_is x.at at there) second (ap (λ k. same_constraint k d) x_is ∙ other))
  by false there found more = ap (λ r. is_in x ds && r) (more found) ∙ and-false (is_in x ds)

-- constraints that are written in different ways differ
differ_by : (c d : ConstraintNode) → bytes_eq (shown c) (shown d) ≡ false → same_constraint c d ≡ false
differ_by c d other =
    false_of (same_constraint c d)
    (λ h.
    let t : bytes_eq (shown c) (shown d) ≡ true = rw (constraint_is c d h) (equal_text (shown d)) in
    let f : true ≡ false = sym t ∙ other in cc)

differ_back : (c d : ConstraintNode) → bytes_eq (shown d) (shown c) ≡ false → same_constraint c d ≡ false
differ_back c d other =
    false_of (same_constraint c d)
    (λ h.
    let t : bytes_eq (shown d) (shown c) ≡ true = rw (constraint_is c d h) (equal_text (shown d)) in
    let f : true ≡ false = sym t ∙ other in cc)

-- what is known of two rules, of which one asks for this text and the other one for another text
asked_by : (A : Type 0) (text : List ℕ) (o p : Option ConstraintNode) → option_map shown o ≡ Some text → is_other text (option_map shown p) ≡ true →
    ((c d : ConstraintNode) → o ≡ Some c → p ≡ Some d → bytes_eq (shown d) (shown c) ≡ false → A) → A
asked_by A text None p one two k = absurd (none-some text one)
asked_by A text (Some c) None one two k = absurd (cc)
asked_by A text (Some c) (Some d) one two k =
    k c d refl refl (ap (bytes_eq (shown d)) (same_Some (shown c) text one) ∙ not_true (bytes_eq (shown d) text) two)

pub other_apart : (place : Option Place) (text : List ℕ) (a b : CandidateNode) → asked place b ≡ Some text → asks_other place text a ≡ true →
    apart a.constraints b.constraints ≡ true
other_apart None text a b one two = absurd (none-some text one)
other_apart (Some at) text a b one two =
    asked_by (apart a.constraints b.constraints ≡ true) text (only_at at b.constraints) (only_at at a.constraints) one two
    (λ c d found other differs. apart_at at a.constraints b.constraints d c other found (differ_by d c differs))

pub other_within : (place : Option Place) (text : List ℕ) (low high : CandidateNode) → asked place high ≡ Some text → asks_other place text low ≡ true →
    within high.constraints low.constraints ≡ false
other_within None text low high one two = absurd (none-some text one)
other_within (Some at) text low high one two =
    asked_by (within high.constraints low.constraints ≡ false) text (only_at at high.constraints) (only_at at low.constraints) one two
    (λ c d found other differs. not_within at high.constraints low.constraints c d found other (differ_back c d differs))
