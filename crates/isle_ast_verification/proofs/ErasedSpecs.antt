-- Which specs are the same when they are erased: they are of one kind, and their parts are the same
-- when these are erased.
use Rattle.std.proofs.Common.{◌≡◌, ℕ, ℤ, List, Bool, eqb, false, refl, true≢false}
use Rattle.isle_base_source.specs.declared.pos.Pos.{Pos}
use Rattle.isle_base.specs.Place.{unknown}
use Rattle.isle_ast_verification.specs.declared.spec.SpecOp.{SpecOp}
use Rattle.isle_ast_names.specs.Erased.{erase_name, erase_names}
use Rattle.isle_ast_verification.specs.Erased.{erase_model, erase_spec, erase_specs, erase_arms, erase_spec_lets, erase_field_inits}
use Rattle.isle_ast_names.specs.Tree.{Name}
use Rattle.isle_ast_verification.specs.Tree.{TypeModel, SpecNode, int_spec, bit_vector_spec, bool_spec, var_spec, as_spec, field_spec, discriminator_spec, op_spec, match_spec, let_spec, with_spec, macro_spec, expand_spec, pair_spec, enum_spec, struct_spec, SpecList, no_spec, more_spec, ArmList, no_arm, more_arm, SpecLetList, no_spec_let, more_spec_let, FieldInitList, no_field_init, more_field_init}

-- the kind of a spec, as a number
abbrev kind : SpecNode → ℕ
kind (int_spec _ _) = 0
kind (bit_vector_spec _ _ _) = 1
kind (bool_spec _ _) = 2
kind (var_spec _ _) = 3
kind (as_spec _ _ _) = 4
kind (field_spec _ _ _) = 5
kind (discriminator_spec _ _ _) = 6
kind (op_spec _ _ _) = 7
kind (match_spec _ _ _) = 8
kind (let_spec _ _ _) = 9
kind (with_spec _ _ _) = 10
kind (macro_spec _ _ _) = 11
kind (expand_spec _ _ _) = 12
kind (pair_spec _ _ _) = 13
kind (enum_spec _ _ _ _) = 14
kind (struct_spec _ _) = 15

-- a spec of this kind is no spec of another
abbrev is_kind : ℕ → SpecNode → Bool
is_kind k x = eqb (kind x) k

pub is_int : (val : ℤ) (y : SpecNode) → int_spec val unknown ≡ erase_spec y →
    (z : Pos × ℤ) × (y ≡ int_spec z.1 z.0) × (val ≡ z.1)
is_int val (int_spec n p) same = ((p, n), refl, cc)
is_int val _ same = absurd (true≢false (λ i. is_kind 0 (same i)))

abbrev pub BitsNode : Type 0
BitsNode = ℕ × ℕ

pub is_bits : (x : BitsNode) (y : SpecNode) → bit_vector_spec x.0 x.1 unknown ≡ erase_spec y →
    (z : Pos × BitsNode) × (y ≡ bit_vector_spec z.1.0 z.1.1 z.0) × (x ≡ z.1)
is_bits x (bit_vector_spec v w p) same =
    let values : x.0 ≡ v = cc in
    let widths : x.1 ≡ w = cc in
    ((p, (v, w)), refl, λ i. (values i, widths i))
is_bits x _ same = absurd (true≢false (λ i. is_kind 1 (same i)))

pub is_bool : (val : Bool) (y : SpecNode) → bool_spec val unknown ≡ erase_spec y →
    (z : Pos × Bool) × (y ≡ bool_spec z.1 z.0) × (val ≡ z.1)
is_bool val (bool_spec b p) same = ((p, b), refl, cc)
is_bool val _ same = absurd (true≢false (λ i. is_kind 2 (same i)))

pub is_var : (var : Name) (y : SpecNode) → var_spec (erase_name var) unknown ≡ erase_spec y →
    (z : Pos × Name) × (y ≡ var_spec z.1 z.0) × (erase_name var ≡ erase_name z.1)
is_var var (var_spec n p) same = ((p, n), refl, cc)
is_var var _ same = absurd (true≢false (λ i. is_kind 3 (same i)))

abbrev pub AsNode : Type 0
AsNode = SpecNode × TypeModel

abbrev pub erase_as : AsNode → AsNode
erase_as p = (erase_spec p.0, erase_model p.1)

pub is_as : (x : AsNode) (y : SpecNode) → as_spec (erase_spec x.0) (erase_model x.1) unknown ≡ erase_spec y →
    (z : Pos × AsNode) × (y ≡ as_spec z.1.0 z.1.1 z.0) × (erase_as x ≡ erase_as z.1)
is_as x (as_spec e t p) same =
    let specs : erase_spec x.0 ≡ erase_spec e = cc in
    let models : erase_model x.1 ≡ erase_model t = cc in
    ((p, (e, t)), refl, λ i. (specs i, models i))
is_as x _ same = absurd (true≢false (λ i. is_kind 4 (same i)))

-- a name and a spec
abbrev pub NamedNode : Type 0
NamedNode = Name × SpecNode

abbrev pub erase_named : NamedNode → NamedNode
erase_named p = (erase_name p.0, erase_spec p.1)

pub is_field : (x : NamedNode) (y : SpecNode) → field_spec (erase_name x.0) (erase_spec x.1) unknown ≡ erase_spec y →
    (z : Pos × NamedNode) × (y ≡ field_spec z.1.0 z.1.1 z.0) × (erase_named x ≡ erase_named z.1)
is_field x (field_spec n e p) same =
    let names : erase_name x.0 ≡ erase_name n = cc in
    let specs : erase_spec x.1 ≡ erase_spec e = cc in
    ((p, (n, e)), refl, λ i. (names i, specs i))
is_field x _ same = absurd (true≢false (λ i. is_kind 5 (same i)))

pub is_discriminator : (x : NamedNode) (y : SpecNode) → discriminator_spec (erase_name x.0) (erase_spec x.1) unknown ≡ erase_spec y →
    (z : Pos × NamedNode) × (y ≡ discriminator_spec z.1.0 z.1.1 z.0) × (erase_named x ≡ erase_named z.1)
is_discriminator x (discriminator_spec n e p) same =
    let names : erase_name x.0 ≡ erase_name n = cc in
    let specs : erase_spec x.1 ≡ erase_spec e = cc in
    ((p, (n, e)), refl, λ i. (names i, specs i))
is_discriminator x _ same = absurd (true≢false (λ i. is_kind 6 (same i)))

pub is_op : (operator : SpecOp) (args : SpecList) (y : SpecNode) → op_spec operator (erase_specs args) unknown ≡ erase_spec y →
    (z : Pos × SpecList) × (y ≡ op_spec operator z.1 z.0) × (erase_specs args ≡ erase_specs z.1)
is_op operator args (op_spec o xs p) same =
    let operators : o ≡ operator = cc in
    ((p, xs), (λ i. op_spec (operators i) xs p), cc)
is_op operator args _ same = absurd (true≢false (λ i. is_kind 7 (same i)))

abbrev pub MatchNode : Type 0
MatchNode = SpecNode × ArmList

abbrev pub erase_match : MatchNode → MatchNode
erase_match p = (erase_spec p.0, erase_arms p.1)

pub is_match : (x : MatchNode) (y : SpecNode) → match_spec (erase_spec x.0) (erase_arms x.1) unknown ≡ erase_spec y →
    (z : Pos × MatchNode) × (y ≡ match_spec z.1.0 z.1.1 z.0) × (erase_match x ≡ erase_match z.1)
is_match x (match_spec e arms p) same =
    let specs : erase_spec x.0 ≡ erase_spec e = cc in
    let lists : erase_arms x.1 ≡ erase_arms arms = cc in
    ((p, (e, arms)), refl, λ i. (specs i, lists i))
is_match x _ same = absurd (true≢false (λ i. is_kind 8 (same i)))

abbrev pub LetNode : Type 0
LetNode = SpecLetList × SpecNode

abbrev pub erase_let : LetNode → LetNode
erase_let p = (erase_spec_lets p.0, erase_spec p.1)

pub is_let : (x : LetNode) (y : SpecNode) → let_spec (erase_spec_lets x.0) (erase_spec x.1) unknown ≡ erase_spec y →
    (z : Pos × LetNode) × (y ≡ let_spec z.1.0 z.1.1 z.0) × (erase_let x ≡ erase_let z.1)
is_let x (let_spec defs body p) same =
    let lists : erase_spec_lets x.0 ≡ erase_spec_lets defs = cc in
    let bodies : erase_spec x.1 ≡ erase_spec body = cc in
    ((p, (defs, body)), refl, λ i. (lists i, bodies i))
is_let x _ same = absurd (true≢false (λ i. is_kind 9 (same i)))

-- names and a spec
abbrev pub BoundNode : Type 0
BoundNode = List Name × SpecNode

abbrev pub erase_bound : BoundNode → BoundNode
erase_bound p = (erase_names p.0, erase_spec p.1)

pub is_with : (x : BoundNode) (y : SpecNode) → with_spec (erase_names x.0) (erase_spec x.1) unknown ≡ erase_spec y →
    (z : Pos × BoundNode) × (y ≡ with_spec z.1.0 z.1.1 z.0) × (erase_bound x ≡ erase_bound z.1)
is_with x (with_spec ns body p) same =
    let names : erase_names x.0 ≡ erase_names ns = cc in
    let bodies : erase_spec x.1 ≡ erase_spec body = cc in
    ((p, (ns, body)), refl, λ i. (names i, bodies i))
is_with x _ same = absurd (true≢false (λ i. is_kind 10 (same i)))

pub is_macro : (x : BoundNode) (y : SpecNode) → macro_spec (erase_names x.0) (erase_spec x.1) unknown ≡ erase_spec y →
    (z : Pos × BoundNode) × (y ≡ macro_spec z.1.0 z.1.1 z.0) × (erase_bound x ≡ erase_bound z.1)
is_macro x (macro_spec ns body p) same =
    let names : erase_names x.0 ≡ erase_names ns = cc in
    let bodies : erase_spec x.1 ≡ erase_spec body = cc in
    ((p, (ns, body)), refl, λ i. (names i, bodies i))
is_macro x _ same = absurd (true≢false (λ i. is_kind 11 (same i)))

abbrev pub ExpandNode : Type 0
ExpandNode = Name × SpecList

abbrev pub erase_expand : ExpandNode → ExpandNode
erase_expand p = (erase_name p.0, erase_specs p.1)

pub is_expand : (x : ExpandNode) (y : SpecNode) → expand_spec (erase_name x.0) (erase_specs x.1) unknown ≡ erase_spec y →
    (z : Pos × ExpandNode) × (y ≡ expand_spec z.1.0 z.1.1 z.0) × (erase_expand x ≡ erase_expand z.1)
is_expand x (expand_spec n xs p) same =
    let names : erase_name x.0 ≡ erase_name n = cc in
    let lists : erase_specs x.1 ≡ erase_specs xs = cc in
    ((p, (n, xs)), refl, λ i. (names i, lists i))
is_expand x _ same = absurd (true≢false (λ i. is_kind 12 (same i)))

-- the positions of the names, that of the spec, and the arguments
abbrev pub EnumNode : Type 0
EnumNode = (Pos × Pos) × (Pos × SpecList)

abbrev pub erase_enum : EnumNode → EnumNode
erase_enum p = ((unknown, unknown), (unknown, erase_specs p.1.1))

-- the variant of these two names
abbrev pub enum_of : List ℕ → List ℕ → EnumNode → SpecNode
enum_of name variant p =
    enum_spec (record { text = name; pos = p.0.0 }) (record { text = variant; pos = p.0.1 }) p.1.1 p.1.0

pub is_enum : (name variant : List ℕ) (x : EnumNode) (y : SpecNode) → enum_of name variant (erase_enum x) ≡ erase_spec y →
    (z : EnumNode) × (y ≡ enum_of name variant z) × (erase_enum x ≡ erase_enum z)
is_enum name variant x (enum_spec n v xs p) same =
    let names : erase_name n ≡ record { text = name; pos = unknown } = cc in
    let variants : erase_name v ≡ record { text = variant; pos = unknown } = cc in
    let lists : erase_specs x.1.1 ≡ erase_specs xs = cc in (
      ((n.pos, v.pos), (p, xs)),
      (λ i. enum_spec (record { text = (names i).text; pos = n.pos }) (record { text = (variants i).text; pos = v.pos }) xs p),
      λ i. ((unknown, unknown), (unknown, lists i)),
    )
is_enum name variant x _ same = absurd (true≢false (λ i. is_kind 14 (same i)))

pub is_struct : (fields : FieldInitList) (y : SpecNode) → struct_spec (erase_field_inits fields) unknown ≡ erase_spec y →
    (z : Pos × FieldInitList) × (y ≡ struct_spec z.1 z.0) × (erase_field_inits fields ≡ erase_field_inits z.1)
is_struct fields (struct_spec fs p) same = ((p, fs), refl, cc)
is_struct fields _ same = absurd (true≢false (λ i. is_kind 15 (same i)))

-- lists

pub is_no_spec : (y : SpecList) → no_spec ≡ erase_specs y → no_spec ≡ y
is_no_spec no_spec same = refl
is_no_spec _ same = cc

abbrev pub ListNode : Type 0
ListNode = SpecNode × SpecList

abbrev pub erase_list : ListNode → ListNode
erase_list p = (erase_spec p.0, erase_specs p.1)

pub is_more : (x : ListNode) (y : SpecList) → more_spec (erase_spec x.0) (erase_specs x.1) ≡ erase_specs y →
    (z : ListNode) × (y ≡ more_spec z.0 z.1) × (erase_list x ≡ erase_list z)
is_more x (more_spec e es) same =
    let firsts : erase_spec x.0 ≡ erase_spec e = cc in
    let lists : erase_specs x.1 ≡ erase_specs es = cc in
    ((e, es), refl, λ i. (firsts i, lists i))
is_more x _ same = cc

-- two specs at a position, and further pairs
abbrev pub PairNode : Type 0
PairNode = (Pos × (SpecNode × SpecNode)) × SpecList

abbrev pub erase_both : SpecNode × SpecNode → SpecNode × SpecNode
erase_both p = (erase_spec p.0, erase_spec p.1)

abbrev pub erase_pairs : PairNode → PairNode
erase_pairs p = ((unknown, erase_both p.0.1), erase_specs p.1)

abbrev pub pair_list : PairNode → SpecList
pair_list p = more_spec (pair_spec p.0.1.0 p.0.1.1 p.0.0) p.1

-- whether the first of a list is of this kind
abbrev is_first_kind : ℕ → SpecList → Bool
is_first_kind k no_spec = false
is_first_kind k (more_spec x _) = is_kind k x

pub is_pair : (x : PairNode) (y : SpecList) → pair_list (erase_pairs x) ≡ erase_specs y →
    (z : PairNode) × (y ≡ pair_list z) × (erase_pairs x ≡ erase_pairs z)
is_pair x no_spec same = cc
is_pair x (more_spec (pair_spec l r p) es) same =
    let firsts : erase_spec x.0.1.0 ≡ erase_spec l = cc in
    let seconds : erase_spec x.0.1.1 ≡ erase_spec r = cc in
    let lists : erase_specs x.1 ≡ erase_specs es = cc in
    (((p, (l, r)), es), refl, λ i. ((unknown, (firsts i, seconds i)), lists i))
is_pair x (more_spec _ es) same = absurd (true≢false (λ i. is_first_kind 13 (same i)))

pub is_no_arm : (y : ArmList) → no_arm ≡ erase_arms y → no_arm ≡ y
is_no_arm no_arm same = refl
is_no_arm _ same = cc

-- a variant and names, a spec at a position, and further arms
abbrev pub HeadNode : Type 0
HeadNode = Name × List Name

abbrev pub erase_head : HeadNode → HeadNode
erase_head p = (erase_name p.0, erase_names p.1)

abbrev pub ArmNode : Type 0
ArmNode = HeadNode × SpecNode

abbrev pub erase_arm : ArmNode → ArmNode
erase_arm p = (erase_head p.0, erase_spec p.1)

abbrev pub ArmListNode : Type 0
ArmListNode = (Pos × ArmNode) × ArmList

abbrev pub erase_arm_list : ArmListNode → ArmListNode
erase_arm_list p = ((unknown, erase_arm p.0.1), erase_arms p.1)

abbrev pub arm_list : ArmListNode → ArmList
arm_list p = more_arm p.0.1.0.0 p.0.1.0.1 p.0.1.1 p.0.0 p.1

pub is_arm : (x : ArmListNode) (y : ArmList) → arm_list (erase_arm_list x) ≡ erase_arms y →
    (z : ArmListNode) × (y ≡ arm_list z) × (erase_arm_list x ≡ erase_arm_list z)
is_arm x (more_arm v ns body p arms) same =
    let variants : erase_name x.0.1.0.0 ≡ erase_name v = cc in
    let names : erase_names x.0.1.0.1 ≡ erase_names ns = cc in
    let bodies : erase_spec x.0.1.1 ≡ erase_spec body = cc in
    let lists : erase_arms x.1 ≡ erase_arms arms = cc in
    (((p, ((v, ns), body)), arms), refl, λ i. ((unknown, ((variants i, names i), bodies i)), lists i))
is_arm x _ same = cc

pub is_no_let : (y : SpecLetList) → no_spec_let ≡ erase_spec_lets y → no_spec_let ≡ y
is_no_let no_spec_let same = refl
is_no_let _ same = cc

abbrev pub LetListNode : Type 0
LetListNode = NamedNode × SpecLetList

abbrev pub erase_let_list : LetListNode → LetListNode
erase_let_list p = (erase_named p.0, erase_spec_lets p.1)

abbrev pub let_list : LetListNode → SpecLetList
let_list p = more_spec_let p.0.0 p.0.1 p.1

pub is_more_let : (x : LetListNode) (y : SpecLetList) → let_list (erase_let_list x) ≡ erase_spec_lets y →
    (z : LetListNode) × (y ≡ let_list z) × (erase_let_list x ≡ erase_let_list z)
is_more_let x (more_spec_let n v lets) same =
    let names : erase_name x.0.0 ≡ erase_name n = cc in
    let values : erase_spec x.0.1 ≡ erase_spec v = cc in
    let lists : erase_spec_lets x.1 ≡ erase_spec_lets lets = cc in
    (((n, v), lets), refl, λ i. ((names i, values i), lists i))
is_more_let x _ same = cc

pub is_no_init : (y : FieldInitList) → no_field_init ≡ erase_field_inits y → no_field_init ≡ y
is_no_init no_field_init same = refl
is_no_init _ same = cc

abbrev pub InitListNode : Type 0
InitListNode = (Pos × NamedNode) × FieldInitList

abbrev pub erase_init_list : InitListNode → InitListNode
erase_init_list p = ((unknown, erase_named p.0.1), erase_field_inits p.1)

abbrev pub init_list : InitListNode → FieldInitList
init_list p = more_field_init p.0.1.0 p.0.1.1 p.0.0 p.1

pub is_init : (x : InitListNode) (y : FieldInitList) → init_list (erase_init_list x) ≡ erase_field_inits y →
    (z : InitListNode) × (y ≡ init_list z) × (erase_init_list x ≡ erase_init_list z)
is_init x (more_field_init n v p fields) same =
    let names : erase_name x.0.1.0 ≡ erase_name n = cc in
    let values : erase_spec x.0.1.1 ≡ erase_spec v = cc in
    let lists : erase_field_inits x.1 ≡ erase_field_inits fields = cc in
    (((p, (n, v)), fields), refl, λ i. ((unknown, (names i, values i)), lists i))
is_init x _ same = cc
