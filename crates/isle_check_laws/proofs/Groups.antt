-- Groups of findings, of which the first that has any is told.
use Rattle.std.proofs.Common.{◌≡◌, List, [], ◌∷◌, ◌++◌, Bool, true, false, ◌||◌, refl, sym, ◌∙◌, if◌then◌else◌}
use Rattle.std.specs.List.{All}
use Rattle.std.proofs.lemmas.List.Elements.{All-append, All-cons, All-contains, All-head, All-map, All-nil, Contains-append_left}
use Rattle.std.proofs.lemmas.List.Folds.{list_any-append, list_any_none}
use Rattle.isle_check_declarations.specs.Faults as declarations
use Rattle.isle_check_core.specs.Findings.{FindingNode, has_error, is_error, of_fault, of_faults, or_next, with_later}
use Rattle.isle_check_laws.proofs.Elements.{everyone}

pub first_group : (P : FindingNode → Type 0) (group later : List FindingNode) → All P group → (group ≡ [] → All P later) → All P (or_next group later)
first_group P [] later h k = k refl
first_group P (f ∷ fs) later h k = h

later_by : (P : FindingNode → Type 0) (found later : List FindingNode) (b : Bool) → All P found → All P later → All P (if b then found else found ++ later)
later_by P found later true h k = h
later_by P found later false h k = All-append P found later h k

pub both_groups : (P : FindingNode → Type 0) (found later : List FindingNode) → All P found → All P later → All P (with_later found later)
both_groups P found later h k = later_by P found later (has_error found) h k

abbrev pub AreErrors : List FindingNode → Type 0
AreErrors fs = All (λ f. is_error f.kind ≡ true) fs

abbrev pub AreNoErrors : List FindingNode → Type 0
AreNoErrors fs = All (λ f. is_error f.kind ≡ false) fs

pub faults_are_errors : (fs : List declarations.FaultNode) → AreErrors (of_faults fs)
faults_are_errors fs = All-map (λ (f : FindingNode). is_error f.kind ≡ true) of_fault fs (everyone (λ f. is_error (of_fault f).kind ≡ true) fs (λ f in_fs. refl))

-- a test of two parts that gives false
both_false : (a b : Bool) → (a || b) ≡ false → (a ≡ false) × (b ≡ false)
both_false true b h = cc
both_false false b h = (refl, h)

told_by : (f : FindingNode) (fs : List FindingNode) → is_error f.kind ≡ true → has_error (f ∷ fs) ≡ false → ⊥
told_by f fs is none = let first = (both_false (is_error f.kind) (has_error fs) none).0 in cc

-- where none of what is told is an error, a group of errors is empty
pub group_empty : (group later : List FindingNode) → AreErrors group → has_error (or_next group later) ≡ false → (group ≡ []) × (has_error later ≡ false)
group_empty [] later are none = (refl, none)
group_empty (f ∷ fs) later are none = absurd (told_by f fs (All-head (λ (x : FindingNode). is_error x.kind ≡ true) f fs are) none)

none_by : (found later : List FindingNode) (b : Bool) → has_error found ≡ b → has_error (if b then found else found ++ later) ≡ false →
    (has_error found ≡ false) × (has_error later ≡ false)
none_by found later true is none = absurd (let e : true ≡ false = sym is ∙ none in cc)
none_by found later false is none =
    both_false (has_error found) (has_error later) (sym (list_any-append (λ (f : FindingNode). is_error f.kind) found later) ∙ none)

pub no_later_error : (found later : List FindingNode) → has_error (with_later found later) ≡ false → (has_error found ≡ false) × (has_error later ≡ false)
no_later_error found later none = none_by found later (has_error found) refl none

-- and the other way round
pub no_errors : (fs : List FindingNode) → AreNoErrors fs → has_error fs ≡ false
no_errors fs are = list_any_none (λ (f : FindingNode). is_error f.kind) fs are

pub are_no_errors : (fs : List FindingNode) → has_error fs ≡ false → AreNoErrors fs
are_no_errors [] none = All-nil (λ (f : FindingNode). is_error f.kind ≡ false)
are_no_errors (f ∷ fs) none =
    let both = both_false (is_error f.kind) (has_error fs) none in
    All-cons (λ (x : FindingNode). is_error x.kind ≡ false) f fs both.0 (are_no_errors fs both.1)

pub later_passed : (found later : List FindingNode) → AreNoErrors found → AreNoErrors later → has_error (with_later found later) ≡ false
later_passed found later are others = no_errors (with_later found later) (both_groups (λ f. is_error f.kind ≡ false) found later are others)

-- what holds of all that is told holds of the first of two groups
first_of_both : (P : FindingNode → Type 0) (found later : List FindingNode) (b : Bool) → All P (if b then found else found ++ later) → All P found
first_of_both P found later true h = h
first_of_both P found later false h =
    everyone P found (λ f in_found. All-contains P (found ++ later) f h (Contains-append_left found later f in_found))

pub of_first : (P : FindingNode → Type 0) (found later : List FindingNode) → All P (with_later found later) → All P found
of_first P found later h = first_of_both P found later (has_error found) h
