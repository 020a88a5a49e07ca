-- Equality of spec expressions, positions included. `==` computes it, and the laws of `==` follow
-- from it.
use Rattle.std.specs.Prelude.{◌≡◌, Bool, true, false, ◌&&◌, nat_eq, List, [], ◌∷◌}
use Rattle.std.specs.Bool.{Decides, beq}
use Rattle.std.specs.Cmp.{IsEquivalence, decided, on_equiv, booleans_Decides, signed_Decides}
use Rattle.std.specs.Ordering.{on, int_eq}
use Rattle.std.proofs.Common.{refl, sym, subst}
use Rattle.std.proofs.lemmas.Bool.{true≢false, and_parts, and_from}
use Rattle.std.proofs.lemmas.Bool.Decides.{Decides-eqb}
use lib.Pointwise.{pointwise}
use denote.Enum.Bare.{sameb, same_true, true_same}
use Rattle.isle_ast_verification.specs.contracts.spec.SpecOp.{the_type}
use Rattle.isle_ast_verification.specs.declared.spec.SpecOp.{SpecOp}
use Rattle.isle_ast_verification.specs.SameModel.{same_model, model_same, model_self}
use Rattle.isle_ast_names.specs.SameParts.{same_pos, same_name, pos_same, pos_self, name_same, name_self}
use Rattle.isle_ast_verification.specs.TreeView.{SingleArm, SingleFieldInit, spec_of, single_arm_of, single_field_init_of}
use Rattle.isle_ast_names.specs.Tree.{Name}
use Rattle.isle_ast_verification.specs.Tree.{SpecNode, int_spec, bit_vector_spec, bool_spec, var_spec, as_spec, field_spec, discriminator_spec, op_spec, match_spec, let_spec, with_spec, macro_spec, expand_spec, pair_spec, enum_spec, struct_spec, SpecList, no_spec, more_spec, ArmList, no_arm, more_arm, SpecLetList, no_spec_let, more_spec_let, FieldInitList, no_field_init, more_field_init}

-- `==` on operators
abbrev pub same_operator : SpecOp → SpecOp → Bool
same_operator = sameb the_type

abbrev pub same_names : List Name → List Name → Bool
same_names = pointwise same_name

abbrev mutual
  pub same_spec : SpecNode → SpecNode → Bool
  same_spec (int_spec a p) (int_spec b q) = int_eq a b && same_pos p q
  same_spec (bit_vector_spec a v p) (bit_vector_spec b w q) = nat_eq a b && (nat_eq v w && same_pos p q)
  same_spec (bool_spec a p) (bool_spec b q) = beq a b && same_pos p q
  same_spec (var_spec m p) (var_spec n q) = same_name m n && same_pos p q
  same_spec (as_spec x t p) (as_spec y u q) = same_spec x y && (same_model t u && same_pos p q)
  same_spec (field_spec m x p) (field_spec n y q) = same_name m n && (same_spec x y && same_pos p q)
  same_spec (discriminator_spec m x p) (discriminator_spec n y q) = same_name m n && (same_spec x y && same_pos p q)
  same_spec (op_spec a xs p) (op_spec b ys q) = same_operator a b && (same_specs xs ys && same_pos p q)
  same_spec (match_spec x us p) (match_spec y vs q) = same_spec x y && (same_arms us vs && same_pos p q)
  same_spec (let_spec ds x p) (let_spec es y q) = same_spec_lets ds es && (same_spec x y && same_pos p q)
  same_spec (with_spec ms x p) (with_spec ns y q) = same_names ms ns && (same_spec x y && same_pos p q)
  same_spec (macro_spec ms x p) (macro_spec ns y q) = same_names ms ns && (same_spec x y && same_pos p q)
  same_spec (expand_spec m xs p) (expand_spec n ys q) = same_name m n && (same_specs xs ys && same_pos p q)
  same_spec (pair_spec l r p) (pair_spec m s q) = same_spec l m && (same_spec r s && same_pos p q)
  same_spec (enum_spec m v xs p) (enum_spec n w ys q) = same_name m n && (same_name v w && (same_specs xs ys && same_pos p q))
  same_spec (struct_spec fs p) (struct_spec gs q) = same_field_inits fs gs && same_pos p q
  same_spec _ _ = false

  pub same_specs : SpecList → SpecList → Bool
  same_specs no_spec no_spec = true
  same_specs (more_spec x xs) (more_spec y ys) = same_spec x y && same_specs xs ys
  same_specs _ _ = false

  pub same_arms : ArmList → ArmList → Bool
  same_arms no_arm no_arm = true
  same_arms (more_arm m ms x p us) (more_arm n ns y q vs) = (same_name m n && (same_names ms ns && (same_spec x y && same_pos p q))) && same_arms us vs
  same_arms _ _ = false

  pub same_spec_lets : SpecLetList → SpecLetList → Bool
  same_spec_lets no_spec_let no_spec_let = true
  same_spec_lets (more_spec_let m x ds) (more_spec_let n y es) = (same_name m n && same_spec x y) && same_spec_lets ds es
  same_spec_lets _ _ = false

  pub same_field_inits : FieldInitList → FieldInitList → Bool
  same_field_inits no_field_init no_field_init = true
  same_field_inits (more_field_init m x p fs) (more_field_init n y q gs) = (same_name m n && (same_spec x y && same_pos p q)) && same_field_inits fs gs
  same_field_inits _ _ = false

-- a spec expression that has a list of parts
abbrev pub has_parts : SpecNode → Bool
has_parts (op_spec _ _ _) = true
has_parts (match_spec _ _ _) = true
has_parts (let_spec _ _ _) = true
has_parts (with_spec _ _ _) = true
has_parts (macro_spec _ _ _) = true
has_parts (expand_spec _ _ _) = true
has_parts (enum_spec _ _ _ _) = true
has_parts (struct_spec _ _) = true
has_parts _ = false

-- the same of one arm, of one definition and of one field, each by itself

abbrev pub same_single_arm : SingleArm → SingleArm → Bool
same_single_arm a b = same_name a.variant b.variant && (same_names a.args b.args && (same_spec a.body b.body && same_pos a.pos b.pos))

abbrev pub same_single_spec_let : Name × SpecNode → Name × SpecNode → Bool
same_single_spec_let d e = same_name d.0 e.0 && same_spec d.1 e.1

abbrev pub same_single_field_init : SingleFieldInit → SingleFieldInit → Bool
same_single_field_init f g = same_name f.name g.name && (same_spec f.value g.value && same_pos f.pos g.pos)

-- The test is true exactly of equal spec expressions.

operator_same : (a b : SpecOp) → same_operator a b ≡ true → a ≡ b
operator_same a b h = same_true the_type tt a b h

operator_self : (a : SpecOp) → same_operator a a ≡ true
operator_self a = true_same the_type a a refl

pub operator-Decides : (a b : SpecOp) → Decides (same_operator a b) (a ≡ b)
operator-Decides a b = (operator_same a b, true_same the_type a b)

names_same : (ms ns : List Name) → same_names ms ns ≡ true → ms ≡ ns
names_same [] [] h = refl
names_same (m ∷ ms) (n ∷ ns) h =
    let all = and_parts (same_name m n) (same_names ms ns) h in
    λ i. name_same m n all.0 i ∷ names_same ms ns all.1 i
names_same _ _ h = absurd (true≢false (sym h))

names_self : (ms : List Name) → same_names ms ms ≡ true
names_self [] = refl
names_self (m ∷ ms) = and_from (same_name m m) (same_names ms ms) (name_self m) (names_self ms)

mutual
  pub spec_same : (x y : SpecNode) → same_spec x y ≡ true → x ≡ y
  spec_same (int_spec a p) (int_spec b q) h =
      let all = and_parts (int_eq a b) (same_pos p q) h in
      λ i. int_spec ((signed_Decides a b).0 all.0 i) (pos_same p q all.1 i)
  spec_same (bit_vector_spec a v p) (bit_vector_spec b w q) h =
      let all = and_parts (nat_eq a b) (nat_eq v w && same_pos p q) h in
      let others = and_parts (nat_eq v w) (same_pos p q) all.1 in
      λ i. bit_vector_spec ((Decides-eqb a b).0 all.0 i) ((Decides-eqb v w).0 others.0 i) (pos_same p q others.1 i)
  spec_same (bool_spec a p) (bool_spec b q) h =
      let all = and_parts (beq a b) (same_pos p q) h in
      λ i. bool_spec ((booleans_Decides a b).0 all.0 i) (pos_same p q all.1 i)
  spec_same (var_spec m p) (var_spec n q) h =
      let all = and_parts (same_name m n) (same_pos p q) h in
      λ i. var_spec (name_same m n all.0 i) (pos_same p q all.1 i)
  spec_same (as_spec x t p) (as_spec y u q) h =
      let all = and_parts (same_spec x y) (same_model t u && same_pos p q) h in
      let others = and_parts (same_model t u) (same_pos p q) all.1 in
      λ i. as_spec (spec_same x y all.0 i) (model_same t u others.0 i) (pos_same p q others.1 i)
  spec_same (field_spec m x p) (field_spec n y q) h =
      let all = and_parts (same_name m n) (same_spec x y && same_pos p q) h in
      let others = and_parts (same_spec x y) (same_pos p q) all.1 in
      λ i. field_spec (name_same m n all.0 i) (spec_same x y others.0 i) (pos_same p q others.1 i)
  spec_same (discriminator_spec m x p) (discriminator_spec n y q) h =
      let all = and_parts (same_name m n) (same_spec x y && same_pos p q) h in
      let others = and_parts (same_spec x y) (same_pos p q) all.1 in
      λ i. discriminator_spec (name_same m n all.0 i) (spec_same x y others.0 i) (pos_same p q others.1 i)
  spec_same (op_spec a xs p) (op_spec b ys q) h =
      let all = and_parts (same_operator a b) (same_specs xs ys && same_pos p q) h in
      let others = and_parts (same_specs xs ys) (same_pos p q) all.1 in
      λ i. op_spec (operator_same a b all.0 i) (specs_same xs ys others.0 i) (pos_same p q others.1 i)
  spec_same (match_spec x us p) (match_spec y vs q) h =
      let all = and_parts (same_spec x y) (same_arms us vs && same_pos p q) h in
      let others = and_parts (same_arms us vs) (same_pos p q) all.1 in
      λ i. match_spec (spec_same x y all.0 i) (arms_same us vs others.0 i) (pos_same p q others.1 i)
  spec_same (let_spec ds x p) (let_spec es y q) h =
      let all = and_parts (same_spec_lets ds es) (same_spec x y && same_pos p q) h in
      let others = and_parts (same_spec x y) (same_pos p q) all.1 in
      λ i. let_spec (spec_lets_same ds es all.0 i) (spec_same x y others.0 i) (pos_same p q others.1 i)
  spec_same (with_spec ms x p) (with_spec ns y q) h =
      let all = and_parts (same_names ms ns) (same_spec x y && same_pos p q) h in
      let others = and_parts (same_spec x y) (same_pos p q) all.1 in
      λ i. with_spec (names_same ms ns all.0 i) (spec_same x y others.0 i) (pos_same p q others.1 i)
  spec_same (macro_spec ms x p) (macro_spec ns y q) h =
      let all = and_parts (same_names ms ns) (same_spec x y && same_pos p q) h in
      let others = and_parts (same_spec x y) (same_pos p q) all.1 in
      λ i. macro_spec (names_same ms ns all.0 i) (spec_same x y others.0 i) (pos_same p q others.1 i)
  spec_same (expand_spec m xs p) (expand_spec n ys q) h =
      let all = and_parts (same_name m n) (same_specs xs ys && same_pos p q) h in
      let others = and_parts (same_specs xs ys) (same_pos p q) all.1 in
      λ i. expand_spec (name_same m n all.0 i) (specs_same xs ys others.0 i) (pos_same p q others.1 i)
  spec_same (pair_spec l r p) (pair_spec m s q) h =
      let all = and_parts (same_spec l m) (same_spec r s && same_pos p q) h in
      let others = and_parts (same_spec r s) (same_pos p q) all.1 in
      λ i. pair_spec (spec_same l m all.0 i) (spec_same r s others.0 i) (pos_same p q others.1 i)
  spec_same (enum_spec m v xs p) (enum_spec n w ys q) h =
      let all = and_parts (same_name m n) (same_name v w && (same_specs xs ys && same_pos p q)) h in
      let others = and_parts (same_name v w) (same_specs xs ys && same_pos p q) all.1 in
      let last = and_parts (same_specs xs ys) (same_pos p q) others.1 in
      λ i. enum_spec (name_same m n all.0 i) (name_same v w others.0 i) (specs_same xs ys last.0 i) (pos_same p q last.1 i)
  spec_same (struct_spec fs p) (struct_spec gs q) h =
      let all = and_parts (same_field_inits fs gs) (same_pos p q) h in
      λ i. struct_spec (field_inits_same fs gs all.0 i) (pos_same p q all.1 i)
  spec_same _ _ h = absurd (true≢false (sym h))

  pub specs_same : (xs ys : SpecList) → same_specs xs ys ≡ true → xs ≡ ys
  specs_same no_spec no_spec h = refl
  specs_same (more_spec x xs) (more_spec y ys) h =
      let list = and_parts (same_spec x y) (same_specs xs ys) h in
      λ i. more_spec (spec_same x y list.0 i) (specs_same xs ys list.1 i)
  specs_same _ _ h = absurd (true≢false (sym h))

  pub arms_same : (xs ys : ArmList) → same_arms xs ys ≡ true → xs ≡ ys
  arms_same no_arm no_arm h = refl
  arms_same (more_arm m ms x p us) (more_arm n ns y q vs) h =
      let list = and_parts (same_name m n && (same_names ms ns && (same_spec x y && same_pos p q))) (same_arms us vs) h in
      let all = and_parts (same_name m n) (same_names ms ns && (same_spec x y && same_pos p q)) list.0 in
      let others = and_parts (same_names ms ns) (same_spec x y && same_pos p q) all.1 in
      let last = and_parts (same_spec x y) (same_pos p q) others.1 in
      λ i. more_arm (name_same m n all.0 i) (names_same ms ns others.0 i) (spec_same x y last.0 i) (pos_same p q last.1 i) (arms_same us vs list.1 i)
  arms_same _ _ h = absurd (true≢false (sym h))

  pub spec_lets_same : (xs ys : SpecLetList) → same_spec_lets xs ys ≡ true → xs ≡ ys
  spec_lets_same no_spec_let no_spec_let h = refl
  spec_lets_same (more_spec_let m x ds) (more_spec_let n y es) h =
      let list = and_parts (same_name m n && same_spec x y) (same_spec_lets ds es) h in
      let all = and_parts (same_name m n) (same_spec x y) list.0 in
      λ i. more_spec_let (name_same m n all.0 i) (spec_same x y all.1 i) (spec_lets_same ds es list.1 i)
  spec_lets_same _ _ h = absurd (true≢false (sym h))

  pub field_inits_same : (xs ys : FieldInitList) → same_field_inits xs ys ≡ true → xs ≡ ys
  field_inits_same no_field_init no_field_init h = refl
  field_inits_same (more_field_init m x p fs) (more_field_init n y q gs) h =
      let list = and_parts (same_name m n && (same_spec x y && same_pos p q)) (same_field_inits fs gs) h in
      let all = and_parts (same_name m n) (same_spec x y && same_pos p q) list.0 in
      let others = and_parts (same_spec x y) (same_pos p q) all.1 in
      λ i. more_field_init (name_same m n all.0 i) (spec_same x y others.0 i) (pos_same p q others.1 i) (field_inits_same fs gs list.1 i)
  field_inits_same _ _ h = absurd (true≢false (sym h))

mutual
  pub spec_self : (x : SpecNode) → same_spec x x ≡ true
  spec_self (int_spec a p) =
      and_from (int_eq a a) (same_pos p p) ((signed_Decides a a).1 refl) (pos_self p)
  spec_self (bit_vector_spec a v p) =
      and_from (nat_eq a a) (nat_eq v v && same_pos p p) ((Decides-eqb a a).1 refl) (and_from (nat_eq v v) (same_pos p p) ((Decides-eqb v v).1 refl) (pos_self p))
  spec_self (bool_spec a p) =
      and_from (beq a a) (same_pos p p) ((booleans_Decides a a).1 refl) (pos_self p)
  spec_self (var_spec m p) =
      and_from (same_name m m) (same_pos p p) (name_self m) (pos_self p)
  spec_self (as_spec x t p) =
      and_from (same_spec x x) (same_model t t && same_pos p p) (spec_self x) (and_from (same_model t t) (same_pos p p) (model_self t) (pos_self p))
  spec_self (field_spec m x p) =
      and_from (same_name m m) (same_spec x x && same_pos p p) (name_self m) (and_from (same_spec x x) (same_pos p p) (spec_self x) (pos_self p))
  spec_self (discriminator_spec m x p) =
      and_from (same_name m m) (same_spec x x && same_pos p p) (name_self m) (and_from (same_spec x x) (same_pos p p) (spec_self x) (pos_self p))
  spec_self (op_spec a xs p) =
      and_from (same_operator a a) (same_specs xs xs && same_pos p p) (operator_self a) (and_from (same_specs xs xs) (same_pos p p) (specs_self xs) (pos_self p))
  spec_self (match_spec x us p) =
      and_from (same_spec x x) (same_arms us us && same_pos p p) (spec_self x) (and_from (same_arms us us) (same_pos p p) (arms_self us) (pos_self p))
  spec_self (let_spec ds x p) =
      and_from (same_spec_lets ds ds) (same_spec x x && same_pos p p) (spec_lets_self ds) (and_from (same_spec x x) (same_pos p p) (spec_self x) (pos_self p))
  spec_self (with_spec ms x p) =
      and_from (same_names ms ms) (same_spec x x && same_pos p p) (names_self ms) (and_from (same_spec x x) (same_pos p p) (spec_self x) (pos_self p))
  spec_self (macro_spec ms x p) =
      and_from (same_names ms ms) (same_spec x x && same_pos p p) (names_self ms) (and_from (same_spec x x) (same_pos p p) (spec_self x) (pos_self p))
  spec_self (expand_spec m xs p) =
      and_from (same_name m m) (same_specs xs xs && same_pos p p) (name_self m) (and_from (same_specs xs xs) (same_pos p p) (specs_self xs) (pos_self p))
  spec_self (pair_spec l r p) =
      and_from (same_spec l l) (same_spec r r && same_pos p p) (spec_self l) (and_from (same_spec r r) (same_pos p p) (spec_self r) (pos_self p))
  spec_self (enum_spec m v xs p) =
      and_from (same_name m m) (same_name v v && (same_specs xs xs && same_pos p p)) (name_self m) (and_from (same_name v v) (same_specs xs xs && same_pos p p) (name_self v) (and_from (same_specs xs xs) (same_pos p p) (specs_self xs) (pos_self p)))
  spec_self (struct_spec fs p) =
      and_from (same_field_inits fs fs) (same_pos p p) (field_inits_self fs) (pos_self p)

  pub specs_self : (xs : SpecList) → same_specs xs xs ≡ true
  specs_self no_spec = refl
  specs_self (more_spec x xs) =
      and_from (same_spec x x) (same_specs xs xs) (spec_self x) (specs_self xs)

  pub arms_self : (xs : ArmList) → same_arms xs xs ≡ true
  arms_self no_arm = refl
  arms_self (more_arm m ms x p us) =
      and_from (same_name m m && (same_names ms ms && (same_spec x x && same_pos p p))) (same_arms us us) (and_from (same_name m m) (same_names ms ms && (same_spec x x && same_pos p p)) (name_self m) (and_from (same_names ms ms) (same_spec x x && same_pos p p) (names_self ms) (and_from (same_spec x x) (same_pos p p) (spec_self x) (pos_self p)))) (arms_self us)

  pub spec_lets_self : (xs : SpecLetList) → same_spec_lets xs xs ≡ true
  spec_lets_self no_spec_let = refl
  spec_lets_self (more_spec_let m x ds) =
      and_from (same_name m m && same_spec x x) (same_spec_lets ds ds) (and_from (same_name m m) (same_spec x x) (name_self m) (spec_self x)) (spec_lets_self ds)

  pub field_inits_self : (xs : FieldInitList) → same_field_inits xs xs ≡ true
  field_inits_self no_field_init = refl
  field_inits_self (more_field_init m x p fs) =
      and_from (same_name m m && (same_spec x x && same_pos p p)) (same_field_inits fs fs) (and_from (same_name m m) (same_spec x x && same_pos p p) (name_self m) (and_from (same_spec x x) (same_pos p p) (spec_self x) (pos_self p))) (field_inits_self fs)

pub spec-Decides : (x y : SpecNode) → Decides (same_spec x y) (x ≡ y)
spec-Decides x y = (spec_same x y, λ e. subst (λ z. same_spec x z ≡ true) e (spec_self x))

single_arm_same : (a b : SingleArm) → same_single_arm a b ≡ true → a ≡ b
single_arm_same a b h =
    let all = and_parts (same_name a.variant b.variant) (same_names a.args b.args && (same_spec a.body b.body && same_pos a.pos b.pos)) h in
    let others = and_parts (same_names a.args b.args) (same_spec a.body b.body && same_pos a.pos b.pos) all.1 in
    let last = and_parts (same_spec a.body b.body) (same_pos a.pos b.pos) others.1 in
    λ i. record {
      variant = name_same a.variant b.variant all.0 i;
      args = names_same a.args b.args others.0 i;
      body = spec_same a.body b.body last.0 i;
      pos = pos_same a.pos b.pos last.1 i;
    }

single_arm_self : (a : SingleArm) → same_single_arm a a ≡ true
single_arm_self a =
    and_from (same_name a.variant a.variant) (same_names a.args a.args && (same_spec a.body a.body && same_pos a.pos a.pos)) (name_self a.variant) (and_from (same_names a.args a.args) (same_spec a.body a.body && same_pos a.pos a.pos) (names_self a.args) (and_from (same_spec a.body a.body) (same_pos a.pos a.pos) (spec_self a.body) (pos_self a.pos)))

pub single_arm-Decides : (a b : SingleArm) → Decides (same_single_arm a b) (a ≡ b)
single_arm-Decides a b = (single_arm_same a b, λ e. subst (λ z. same_single_arm a z ≡ true) e (single_arm_self a))

single_field_init_same : (a b : SingleFieldInit) → same_single_field_init a b ≡ true → a ≡ b
single_field_init_same a b h =
    let all = and_parts (same_name a.name b.name) (same_spec a.value b.value && same_pos a.pos b.pos) h in
    let others = and_parts (same_spec a.value b.value) (same_pos a.pos b.pos) all.1 in
    λ i. record {
      name = name_same a.name b.name all.0 i;
      value = spec_same a.value b.value others.0 i;
      pos = pos_same a.pos b.pos others.1 i;
    }

single_field_init_self : (a : SingleFieldInit) → same_single_field_init a a ≡ true
single_field_init_self a =
    and_from (same_name a.name a.name) (same_spec a.value a.value && same_pos a.pos a.pos) (name_self a.name) (and_from (same_spec a.value a.value) (same_pos a.pos a.pos) (spec_self a.value) (pos_self a.pos))

pub single_field_init-Decides : (a b : SingleFieldInit) → Decides (same_single_field_init a b) (a ≡ b)
single_field_init-Decides a b = (single_field_init_same a b, λ e. subst (λ z. same_single_field_init a z ≡ true) e (single_field_init_self a))

pub spec_exprs_equiv : IsEquivalence (on spec_of same_spec)
spec_exprs_equiv = on_equiv spec_of (decided same_spec spec-Decides)

pub arms_equiv : IsEquivalence (on single_arm_of same_single_arm)
arms_equiv = on_equiv single_arm_of (decided same_single_arm single_arm-Decides)

pub field_inits_equiv : IsEquivalence (on single_field_init_of same_single_field_init)
field_inits_equiv = on_equiv single_field_init_of (decided same_single_field_init single_field_init-Decides)
