-- Lists of the parts of spec expressions, as lists of them: pairs, arms, values of a `let` and fields.
use Rattle.std.proofs.Common.{◌≡◌, List, [], ◌∷◌, refl, ap}
use Rattle.std.specs.Prelude.{◌↔◌}
use Rattle.isle_base.specs.Place.{Placed}
use Rattle.isle_ast_verification.specs.TreeView.{SingleArm, SingleFieldInit, spec_list_of, arm_list_of, field_init_list_of, spec_let_list_of}
use Rattle.isle_ast_names.specs.Tree.{Name}
use Rattle.isle_ast_verification.specs.Tree.{SpecNode, pair_spec, SpecList, no_spec, more_spec, ArmList, no_arm, more_arm, SpecLetList, no_spec_let, more_spec_let, FieldInitList, no_field_init, more_field_init}
use Rattle.isle_ast_names.specs.Words.{BeginsAt, SpellsAll, InParentheses, SpellsName}
use Rattle.isle_ast_verification.specs.SpecGrammar.{SpellsHeaded, SpellsSpec, SpellsSpecs, SpellsPairs, SpellsArms, SpellsSpecLets, SpellsFieldInits}

-- ---- expressions

abbrev pub listed : SpecList → List SpecNode
listed no_spec = []
listed (more_spec x xs) = x ∷ listed xs

pub list_listed : (xs : SpecList) → spec_list_of (listed xs) ≡ xs
list_listed no_spec = refl
list_listed (more_spec x xs) = ap (more_spec x) (list_listed xs)

pub specs_spelt : (xs : List SpecNode) (all rest : List Placed) → SpellsAll SpellsSpec xs all rest → SpellsSpecs (spec_list_of xs) all rest
specs_spelt [] all rest h = h
specs_spelt (x ∷ xs) all rest h = (h.0, h.1, specs_spelt xs h.0 rest h.2)

pub specs_listed : (xs : SpecList) (all rest : List Placed) → SpellsSpecs xs all rest → SpellsAll SpellsSpec (listed xs) all rest
specs_listed no_spec all rest h = h
specs_listed (more_spec x xs) all rest h = (h.0, h.1, specs_listed xs h.0 rest h.2)

-- ---- cases of a `switch`

-- what is in the parentheses of a case
abbrev pub SpellsPairInside : SpecNode → List Placed → List Placed → Type 0
SpellsPairInside (pair_spec l r pos) inner close =
    BeginsAt pos inner × (behind : List Placed) × SpellsSpec l inner behind × SpellsSpec r behind close
SpellsPairInside _ inner close = ⊥

abbrev pub SpellsPair : SpecNode → List Placed → List Placed → Type 0
SpellsPair x = InParentheses (SpellsPairInside x)

-- A list of pairs that isn't empty begins with a pair, and no other expression is one.
pub pair_list : (x : SpecNode) (xs : SpecList) (all rest : List Placed) →
    SpellsPairs (more_spec x xs) all rest ↔ ((mid : List Placed) × SpellsPair x all mid × SpellsPairs xs mid rest)
pair_list (pair_spec l r pos) xs all rest = (λ h. h, λ h. h)
pair_list _ xs all rest = (λ h. absurd h, λ h. absurd h.1.3)

pub pairs_spelt : (xs : List SpecNode) (all rest : List Placed) → SpellsAll SpellsPair xs all rest → SpellsPairs (spec_list_of xs) all rest
pairs_spelt [] all rest h = h
pairs_spelt (x ∷ xs) all rest h = (pair_list x (spec_list_of xs) all rest).1 (h.0, h.1, pairs_spelt xs h.0 rest h.2)

pub pairs_listed : (xs : SpecList) (all rest : List Placed) → SpellsPairs xs all rest → SpellsAll SpellsPair (listed xs) all rest
pairs_listed no_spec all rest h = h
pairs_listed (more_spec x xs) all rest h =
    let list = (pair_list x xs all rest).0 h in (list.0, list.1, pairs_listed xs list.0 rest list.2)

-- ---- arms of a `match`

abbrev pub SpellsArmInside : SingleArm → List Placed → List Placed → Type 0
SpellsArmInside a inner close =
    BeginsAt a.pos inner × (behind : List Placed) × SpellsHeaded a.variant a.args inner behind × SpellsSpec a.body behind close

abbrev pub SpellsArm : SingleArm → List Placed → List Placed → Type 0
SpellsArm a = InParentheses (SpellsArmInside a)

abbrev pub listed_arms : ArmList → List SingleArm
listed_arms no_arm = []
listed_arms (more_arm variant args body pos arms) =
    record { variant = variant; args = args; body = body; pos = pos } ∷ listed_arms arms

pub arms_list : (arms : ArmList) → arm_list_of (listed_arms arms) ≡ arms
arms_list no_arm = refl
arms_list (more_arm variant args body pos arms) = ap (more_arm variant args body pos) (arms_list arms)

pub arms_spelt : (arms : List SingleArm) (all rest : List Placed) → SpellsAll SpellsArm arms all rest → SpellsArms (arm_list_of arms) all rest
arms_spelt [] all rest h = h
arms_spelt (a ∷ arms) all rest h = (h.0, h.1, arms_spelt arms h.0 rest h.2)

pub arms_listed : (arms : ArmList) (all rest : List Placed) → SpellsArms arms all rest → SpellsAll SpellsArm (listed_arms arms) all rest
arms_listed no_arm all rest h = h
arms_listed (more_arm variant args body pos arms) all rest h = (h.0, h.1, arms_listed arms h.0 rest h.2)

-- ---- values of a `let`

abbrev pub SpellsSpecLetInside : Name × SpecNode → List Placed → List Placed → Type 0
SpellsSpecLetInside d inner close = (behind : List Placed) × SpellsName d.0 inner behind × SpellsSpec d.1 behind close

abbrev pub SpellsSpecLet : Name × SpecNode → List Placed → List Placed → Type 0
SpellsSpecLet d = InParentheses (SpellsSpecLetInside d)

abbrev pub listed_lets : SpecLetList → List (Name × SpecNode)
listed_lets no_spec_let = []
listed_lets (more_spec_let n x ds) = (n, x) ∷ listed_lets ds

pub lets_list : (ds : SpecLetList) → spec_let_list_of (listed_lets ds) ≡ ds
lets_list no_spec_let = refl
lets_list (more_spec_let n x ds) = ap (more_spec_let n x) (lets_list ds)

pub lets_spelt : (ds : List (Name × SpecNode)) (all rest : List Placed) → SpellsAll SpellsSpecLet ds all rest → SpellsSpecLets (spec_let_list_of ds) all rest
lets_spelt [] all rest h = h
lets_spelt (d ∷ ds) all rest h = (h.0, h.1, lets_spelt ds h.0 rest h.2)

pub lets_listed : (ds : SpecLetList) (all rest : List Placed) → SpellsSpecLets ds all rest → SpellsAll SpellsSpecLet (listed_lets ds) all rest
lets_listed no_spec_let all rest h = h
lets_listed (more_spec_let n x ds) all rest h = (h.0, h.1, lets_listed ds h.0 rest h.2)

-- ---- fields of a `struct`

abbrev pub SpellsFieldInitInside : SingleFieldInit → List Placed → List Placed → Type 0
SpellsFieldInitInside f inner close =
    BeginsAt f.pos inner × (behind : List Placed) × SpellsName f.name inner behind × SpellsSpec f.value behind close

abbrev pub SpellsFieldInit : SingleFieldInit → List Placed → List Placed → Type 0
SpellsFieldInit f = InParentheses (SpellsFieldInitInside f)

abbrev pub listed_fields : FieldInitList → List SingleFieldInit
listed_fields no_field_init = []
listed_fields (more_field_init name value pos fields) =
    record { name = name; value = value; pos = pos } ∷ listed_fields fields

pub fields_list : (fields : FieldInitList) → field_init_list_of (listed_fields fields) ≡ fields
fields_list no_field_init = refl
fields_list (more_field_init name value pos fields) = ap (more_field_init name value pos) (fields_list fields)

pub fields_spelt : (fs : List SingleFieldInit) (all rest : List Placed) → SpellsAll SpellsFieldInit fs all rest → SpellsFieldInits (field_init_list_of fs) all rest
fields_spelt [] all rest h = h
fields_spelt (f ∷ fs) all rest h = (h.0, h.1, fields_spelt fs h.0 rest h.2)

pub fields_listed : (fs : FieldInitList) (all rest : List Placed) → SpellsFieldInits fs all rest → SpellsAll SpellsFieldInit (listed_fields fs) all rest
fields_listed no_field_init all rest h = h
fields_listed (more_field_init name value pos fs) all rest h = (h.0, h.1, fields_listed fs h.0 rest h.2)
