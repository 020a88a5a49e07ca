-- Where the encodings of models of types, specs and spec expressions end.
use Rattle.std.proofs.Common.{◌≡◌, ℕ, suc, List, [], ◌∷◌, ◌++◌, Option, get_or, length, map, refl, ap, sym, ◌∙◌, arith}
use Rattle.isle_base_source.specs.declared.pos.Pos.{Pos}
use Rattle.isle_ast_names.specs.Tree.{Name}
use Rattle.isle_encoding.specs.Numbers.{flag, integer, list, number, option}
use Rattle.isle_encoding.specs.Names.{name, names, position}
use Rattle.isle_ast_verification.specs.Tree.{TypeModel, unspecified_model, auto_model, int_model, bool_model, unit_model, bit_vector_model, struct_model, named_model, ModelFieldList, no_model_field}
use Rattle.isle_ast_verification.specs.Tree.{model_field, SpecNode, int_spec, bit_vector_spec, bool_spec, var_spec, as_spec, field_spec, discriminator_spec, op_spec, match_spec, let_spec, with_spec}
use Rattle.isle_ast_verification.specs.Tree.{macro_spec, expand_spec, pair_spec, enum_spec, struct_spec, SpecList, no_spec, more_spec, ArmList, no_arm, more_arm, SpecLetList, no_spec_let}
use Rattle.isle_ast_verification.specs.Tree.{more_spec_let, FieldInitList, no_field_init, more_field_init, ModifiedState, SpecDefinition, SpecMacroDefinition, StateDefinition}
use Rattle.isle_ast_verification.specs.Operators.{operators}
use Rattle.isle_ast_verification.specs.declared.spec.SpecOp.{SpecOp}
use Rattle.isle_ast_verification.specs.declared.spec.SpecOp.TheVariants as op
use Rattle.isle_encoding.specs.Operators.{operator, operator_byte}
use Rattle.isle_encoding.specs.Verification.{model_field_count, type_model, model_fields, spec_count, arm_count, spec_let_count, field_init_count, spec, specs, arms, spec_lets, field_inits, modified}
use Rattle.isle_encoding.specs.Verification.{spec_definition, spec_macro, state}
use Rattle.isle_encoding.proofs.Ends.{apart, counted, flag_ends, integer_ends, list_ends, number_ends, option_ends, parts_2, parts_3, parts_4, parts_5, parts_6, parts_7, parts_8, regroup, rest}
use Rattle.isle_encoding.proofs.NameEnds.{name_ends, names_end, position_ends}

mutual
  pub type_model_ends : (x y : TypeModel) (r s : List ℕ) → type_model x ++ r ≡ type_model y ++ s → (x ≡ y) × (r ≡ s)
  type_model_ends unspecified_model unspecified_model r s same = (refl, rest 0 0 _ _ same)
  type_model_ends auto_model auto_model r s same = (refl, rest 1 1 _ _ same)
  type_model_ends int_model int_model r s same = (refl, rest 2 2 _ _ same)
  type_model_ends bool_model bool_model r s same = (refl, rest 3 3 _ _ same)
  type_model_ends unit_model unit_model r s same = (refl, rest 4 4 _ _ same)
  type_model_ends (bit_vector_model x0) (bit_vector_model y0) r s same =
      let v0 = option_ends number number_ends x0 y0 _ _ (rest 5 5 _ _ same) in
      ((λ i. bit_vector_model (v0.0 i)), v0.1)
  type_model_ends (struct_model x0) (struct_model y0) r s same =
      let c0 = counted (model_field_count x0) (model_field_count y0) (model_fields x0) (model_fields y0) _ _ (rest 6 6 _ _ same) in
      let v0 = model_fields_end x0 y0 _ _ c0.0 c0.1 in
      ((λ i. struct_model (v0.0 i)), v0.1)
  type_model_ends (named_model x0) (named_model y0) r s same =
      let v0 = name_ends x0 y0 _ _ (rest 7 7 _ _ same) in
      ((λ i. named_model (v0.0 i)), v0.1)
  type_model_ends _ _ r s same = absurd (apart _ _ _ _ same refl)

  pub model_fields_end : (xs ys : ModelFieldList) (r s : List ℕ) → model_field_count xs ≡ model_field_count ys → model_fields xs ++ r ≡ model_fields ys ++ s → (xs ≡ ys) × (r ≡ s)
  model_fields_end no_model_field no_model_field r s counts same = (refl, same)
  model_fields_end (model_field x0 x1 xs) (model_field y0 y1 ys) r s counts same =
      let first = regroup ((name x0) ++ (type_model x1)) ((name y0) ++ (type_model y1))
      (model_fields xs) (model_fields ys) r s same in
      let parts = parts_2 (name x0) (type_model x1) (name y0) (type_model y1)
      (model_fields xs ++ r) (model_fields ys ++ s) first in
      let v0 = name_ends x0 y0 _ _ parts in
      let v1 = type_model_ends x1 y1 _ _ v0.1 in
      let others = model_fields_end xs ys r s (omega arith) v1.1 in
      ((λ i. model_field (v0.0 i) (v1.0 i) (others.0 i)), others.1)
  model_fields_end _ _ r s counts same = absurd (omega arith)

-- the operator of a byte
operator_again : (o : SpecOp) → get_or operators (operator_byte o) op.Eq ≡ o
operator_again op.Eq = refl
operator_again op.And = refl
operator_again op.Or = refl
operator_again op.Not = refl
operator_again op.Imp = refl
operator_again op.Add = refl
operator_again op.Sub = refl
operator_again op.Mul = refl
operator_again op.Lt = refl
operator_again op.Lte = refl
operator_again op.Gt = refl
operator_again op.Gte = refl
operator_again op.BVNot = refl
operator_again op.BVAnd = refl
operator_again op.BVOr = refl
operator_again op.BVXor = refl
operator_again op.BVNeg = refl
operator_again op.BVAdd = refl
operator_again op.BVSub = refl
operator_again op.BVMul = refl
operator_again op.BVUdiv = refl
operator_again op.BVUrem = refl
operator_again op.BVSdiv = refl
operator_again op.BVSrem = refl
operator_again op.BVShl = refl
operator_again op.BVLshr = refl
operator_again op.BVAshr = refl
operator_again op.BVUle = refl
operator_again op.BVUlt = refl
operator_again op.BVUgt = refl
operator_again op.BVUge = refl
operator_again op.BVSlt = refl
operator_again op.BVSle = refl
operator_again op.BVSgt = refl
operator_again op.BVSge = refl
operator_again op.BVSaddo = refl
operator_again op.Rotr = refl
operator_again op.Rotl = refl
operator_again op.Extract = refl
operator_again op.ZeroExt = refl
operator_again op.SignExt = refl
operator_again op.Concat = refl
operator_again op.Replicate = refl
operator_again op.FPEq = refl
operator_again op.FPNe = refl
operator_again op.FPLt = refl
operator_again op.FPGt = refl
operator_again op.FPLe = refl
operator_again op.FPGe = refl
operator_again op.FPPositiveInfinity = refl
operator_again op.FPNegativeInfinity = refl
operator_again op.FPPositiveZero = refl
operator_again op.FPNegativeZero = refl
operator_again op.FPNaN = refl
operator_again op.FPAdd = refl
operator_again op.FPSub = refl
operator_again op.FPMul = refl
operator_again op.FPDiv = refl
operator_again op.FPMin = refl
operator_again op.FPMax = refl
operator_again op.FPNeg = refl
operator_again op.FPCeil = refl
operator_again op.FPFloor = refl
operator_again op.FPSqrt = refl
operator_again op.FPTrunc = refl
operator_again op.FPNearest = refl
operator_again op.FPIsZero = refl
operator_again op.FPIsInfinite = refl
operator_again op.FPIsNaN = refl
operator_again op.FPIsNegative = refl
operator_again op.FPIsPositive = refl
operator_again op.Popcnt = refl
operator_again op.Clz = refl
operator_again op.Cls = refl
operator_again op.Rev = refl
operator_again op.ConvTo = refl
operator_again op.Int2BV = refl
operator_again op.BV2Nat = refl
operator_again op.ToFP = refl
operator_again op.ToFPUnsigned = refl
operator_again op.ToFPFromFP = refl
operator_again op.FPToUBV = refl
operator_again op.FPToSBV = refl
operator_again op.WidthOf = refl
operator_again op.If = refl
operator_again op.Switch = refl

pub operator_ends : (x y : SpecOp) (r s : List ℕ) → operator x ++ r ≡ operator y ++ s → (x ≡ y) × (r ≡ s)
operator_ends x y r s same =
    let bytes : operator_byte x ≡ operator_byte y = cc in
    (sym (operator_again x) ∙ ap (λ byte. get_or operators byte op.Eq) bytes ∙ operator_again y, rest _ _ _ _ same)

mutual
  pub spec_ends : (x y : SpecNode) (r s : List ℕ) → spec x ++ r ≡ spec y ++ s → (x ≡ y) × (r ≡ s)
  spec_ends (int_spec x0 x1) (int_spec y0 y1) r s same =
      let parts = parts_2 (integer x0) (position x1) (integer y0) (position y1)
      r s (rest 0 0 _ _ same) in
      let v0 = integer_ends x0 y0 _ _ parts in
      let v1 = position_ends x1 y1 _ _ v0.1 in
      ((λ i. int_spec (v0.0 i) (v1.0 i)), v1.1)
  spec_ends (bit_vector_spec x0 x1 x2) (bit_vector_spec y0 y1 y2) r s same =
      let parts = parts_3 (number x0) (number x1) (position x2) (number y0) (number y1) (position y2)
      r s (rest 1 1 _ _ same) in
      let v0 = number_ends x0 y0 _ _ parts in
      let v1 = number_ends x1 y1 _ _ v0.1 in
      let v2 = position_ends x2 y2 _ _ v1.1 in
      ((λ i. bit_vector_spec (v0.0 i) (v1.0 i) (v2.0 i)), v2.1)
  spec_ends (bool_spec x0 x1) (bool_spec y0 y1) r s same =
      let parts = parts_2 (flag x0) (position x1) (flag y0) (position y1)
      r s (rest 2 2 _ _ same) in
      let v0 = flag_ends x0 y0 _ _ parts in
      let v1 = position_ends x1 y1 _ _ v0.1 in
      ((λ i. bool_spec (v0.0 i) (v1.0 i)), v1.1)
  spec_ends (var_spec x0 x1) (var_spec y0 y1) r s same =
      let parts = parts_2 (name x0) (position x1) (name y0) (position y1)
      r s (rest 3 3 _ _ same) in
      let v0 = name_ends x0 y0 _ _ parts in
      let v1 = position_ends x1 y1 _ _ v0.1 in
      ((λ i. var_spec (v0.0 i) (v1.0 i)), v1.1)
  spec_ends (as_spec x0 x1 x2) (as_spec y0 y1 y2) r s same =
      let parts = parts_3 (spec x0) (type_model x1) (position x2) (spec y0) (type_model y1) (position y2)
      r s (rest 4 4 _ _ same) in
      let v0 = spec_ends x0 y0 _ _ parts in
      let v1 = type_model_ends x1 y1 _ _ v0.1 in
      let v2 = position_ends x2 y2 _ _ v1.1 in
      ((λ i. as_spec (v0.0 i) (v1.0 i) (v2.0 i)), v2.1)
  spec_ends (field_spec x0 x1 x2) (field_spec y0 y1 y2) r s same =
      let parts = parts_3 (name x0) (spec x1) (position x2) (name y0) (spec y1) (position y2)
      r s (rest 5 5 _ _ same) in
      let v0 = name_ends x0 y0 _ _ parts in
      let v1 = spec_ends x1 y1 _ _ v0.1 in
      let v2 = position_ends x2 y2 _ _ v1.1 in
      ((λ i. field_spec (v0.0 i) (v1.0 i) (v2.0 i)), v2.1)
  spec_ends (discriminator_spec x0 x1 x2) (discriminator_spec y0 y1 y2) r s same =
      let parts = parts_3 (name x0) (spec x1) (position x2) (name y0) (spec y1) (position y2)
      r s (rest 6 6 _ _ same) in
      let v0 = name_ends x0 y0 _ _ parts in
      let v1 = spec_ends x1 y1 _ _ v0.1 in
      let v2 = position_ends x2 y2 _ _ v1.1 in
      ((λ i. discriminator_spec (v0.0 i) (v1.0 i) (v2.0 i)), v2.1)
  spec_ends (op_spec x0 x1 x2) (op_spec y0 y1 y2) r s same =
      let parts = parts_3 (operator x0) (number (spec_count x1) ++ specs x1) (position x2) (operator y0) (number (spec_count y1) ++ specs y1) (position y2)
      r s (rest 7 7 _ _ same) in
      let v0 = operator_ends x0 y0 _ _ parts in
      let c1 = counted (spec_count x1) (spec_count y1) (specs x1) (specs y1) _ _ v0.1 in
      let v1 = specs_end x1 y1 _ _ c1.0 c1.1 in
      let v2 = position_ends x2 y2 _ _ v1.1 in
      ((λ i. op_spec (v0.0 i) (v1.0 i) (v2.0 i)), v2.1)
  spec_ends (match_spec x0 x1 x2) (match_spec y0 y1 y2) r s same =
      let parts = parts_3 (spec x0) (number (arm_count x1) ++ arms x1) (position x2) (spec y0) (number (arm_count y1) ++ arms y1) (position y2)
      r s (rest 8 8 _ _ same) in
      let v0 = spec_ends x0 y0 _ _ parts in
      let c1 = counted (arm_count x1) (arm_count y1) (arms x1) (arms y1) _ _ v0.1 in
      let v1 = arms_end x1 y1 _ _ c1.0 c1.1 in
      let v2 = position_ends x2 y2 _ _ v1.1 in
      ((λ i. match_spec (v0.0 i) (v1.0 i) (v2.0 i)), v2.1)
  spec_ends (let_spec x0 x1 x2) (let_spec y0 y1 y2) r s same =
      let parts = parts_3 (number (spec_let_count x0) ++ spec_lets x0) (spec x1) (position x2) (number (spec_let_count y0) ++ spec_lets y0) (spec y1) (position y2)
      r s (rest 9 9 _ _ same) in
      let c0 = counted (spec_let_count x0) (spec_let_count y0) (spec_lets x0) (spec_lets y0) _ _ parts in
      let v0 = spec_lets_end x0 y0 _ _ c0.0 c0.1 in
      let v1 = spec_ends x1 y1 _ _ v0.1 in
      let v2 = position_ends x2 y2 _ _ v1.1 in
      ((λ i. let_spec (v0.0 i) (v1.0 i) (v2.0 i)), v2.1)
  spec_ends (with_spec x0 x1 x2) (with_spec y0 y1 y2) r s same =
      let parts = parts_3 (names x0) (spec x1) (position x2) (names y0) (spec y1) (position y2)
      r s (rest 10 10 _ _ same) in
      let v0 = names_end x0 y0 _ _ parts in
      let v1 = spec_ends x1 y1 _ _ v0.1 in
      let v2 = position_ends x2 y2 _ _ v1.1 in
      ((λ i. with_spec (v0.0 i) (v1.0 i) (v2.0 i)), v2.1)
  spec_ends (macro_spec x0 x1 x2) (macro_spec y0 y1 y2) r s same =
      let parts = parts_3 (names x0) (spec x1) (position x2) (names y0) (spec y1) (position y2)
      r s (rest 11 11 _ _ same) in
      let v0 = names_end x0 y0 _ _ parts in
      let v1 = spec_ends x1 y1 _ _ v0.1 in
      let v2 = position_ends x2 y2 _ _ v1.1 in
      ((λ i. macro_spec (v0.0 i) (v1.0 i) (v2.0 i)), v2.1)
  spec_ends (expand_spec x0 x1 x2) (expand_spec y0 y1 y2) r s same =
      let parts = parts_3 (name x0) (number (spec_count x1) ++ specs x1) (position x2) (name y0) (number (spec_count y1) ++ specs y1) (position y2)
      r s (rest 12 12 _ _ same) in
      let v0 = name_ends x0 y0 _ _ parts in
      let c1 = counted (spec_count x1) (spec_count y1) (specs x1) (specs y1) _ _ v0.1 in
      let v1 = specs_end x1 y1 _ _ c1.0 c1.1 in
      let v2 = position_ends x2 y2 _ _ v1.1 in
      ((λ i. expand_spec (v0.0 i) (v1.0 i) (v2.0 i)), v2.1)
  spec_ends (pair_spec x0 x1 x2) (pair_spec y0 y1 y2) r s same =
      let parts = parts_3 (spec x0) (spec x1) (position x2) (spec y0) (spec y1) (position y2)
      r s (rest 13 13 _ _ same) in
      let v0 = spec_ends x0 y0 _ _ parts in
      let v1 = spec_ends x1 y1 _ _ v0.1 in
      let v2 = position_ends x2 y2 _ _ v1.1 in
      ((λ i. pair_spec (v0.0 i) (v1.0 i) (v2.0 i)), v2.1)
  spec_ends (enum_spec x0 x1 x2 x3) (enum_spec y0 y1 y2 y3) r s same =
      let parts = parts_4 (name x0) (name x1) (number (spec_count x2) ++ specs x2) (position x3) (name y0) (name y1) (number (spec_count y2) ++ specs y2) (position y3)
      r s (rest 14 14 _ _ same) in
      let v0 = name_ends x0 y0 _ _ parts in
      let v1 = name_ends x1 y1 _ _ v0.1 in
      let c2 = counted (spec_count x2) (spec_count y2) (specs x2) (specs y2) _ _ v1.1 in
      let v2 = specs_end x2 y2 _ _ c2.0 c2.1 in
      let v3 = position_ends x3 y3 _ _ v2.1 in
      ((λ i. enum_spec (v0.0 i) (v1.0 i) (v2.0 i) (v3.0 i)), v3.1)
  spec_ends (struct_spec x0 x1) (struct_spec y0 y1) r s same =
      let parts = parts_2 (number (field_init_count x0) ++ field_inits x0) (position x1) (number (field_init_count y0) ++ field_inits y0) (position y1)
      r s (rest 15 15 _ _ same) in
      let c0 = counted (field_init_count x0) (field_init_count y0) (field_inits x0) (field_inits y0) _ _ parts in
      let v0 = field_inits_end x0 y0 _ _ c0.0 c0.1 in
      let v1 = position_ends x1 y1 _ _ v0.1 in
      ((λ i. struct_spec (v0.0 i) (v1.0 i)), v1.1)
  spec_ends _ _ r s same = absurd (apart _ _ _ _ same refl)

  pub specs_end : (xs ys : SpecList) (r s : List ℕ) → spec_count xs ≡ spec_count ys → specs xs ++ r ≡ specs ys ++ s → (xs ≡ ys) × (r ≡ s)
  specs_end no_spec no_spec r s counts same = (refl, same)
  specs_end (more_spec x0 xs) (more_spec y0 ys) r s counts same =
      let first = regroup ((spec x0)) ((spec y0))
      (specs xs) (specs ys) r s same in
      let v0 = spec_ends x0 y0 _ _ first in
      let others = specs_end xs ys r s (omega arith) v0.1 in
      ((λ i. more_spec (v0.0 i) (others.0 i)), others.1)
  specs_end _ _ r s counts same = absurd (omega arith)

  pub arms_end : (xs ys : ArmList) (r s : List ℕ) → arm_count xs ≡ arm_count ys → arms xs ++ r ≡ arms ys ++ s → (xs ≡ ys) × (r ≡ s)
  arms_end no_arm no_arm r s counts same = (refl, same)
  arms_end (more_arm x0 x1 x2 x3 xs) (more_arm y0 y1 y2 y3 ys) r s counts same =
      let first = regroup ((name x0) ++ (names x1) ++ (spec x2) ++ (position x3)) ((name y0) ++ (names y1) ++ (spec y2) ++ (position y3))
      (arms xs) (arms ys) r s same in
      let parts = parts_4 (name x0) (names x1) (spec x2) (position x3) (name y0) (names y1) (spec y2) (position y3)
      (arms xs ++ r) (arms ys ++ s) first in
      let v0 = name_ends x0 y0 _ _ parts in
      let v1 = names_end x1 y1 _ _ v0.1 in
      let v2 = spec_ends x2 y2 _ _ v1.1 in
      let v3 = position_ends x3 y3 _ _ v2.1 in
      let others = arms_end xs ys r s (omega arith) v3.1 in
      ((λ i. more_arm (v0.0 i) (v1.0 i) (v2.0 i) (v3.0 i) (others.0 i)), others.1)
  arms_end _ _ r s counts same = absurd (omega arith)

  pub spec_lets_end : (xs ys : SpecLetList) (r s : List ℕ) → spec_let_count xs ≡ spec_let_count ys → spec_lets xs ++ r ≡ spec_lets ys ++ s → (xs ≡ ys) × (r ≡ s)
  spec_lets_end no_spec_let no_spec_let r s counts same = (refl, same)
  spec_lets_end (more_spec_let x0 x1 xs) (more_spec_let y0 y1 ys) r s counts same =
      let first = regroup ((name x0) ++ (spec x1)) ((name y0) ++ (spec y1))
      (spec_lets xs) (spec_lets ys) r s same in
      let parts = parts_2 (name x0) (spec x1) (name y0) (spec y1)
      (spec_lets xs ++ r) (spec_lets ys ++ s) first in
      let v0 = name_ends x0 y0 _ _ parts in
      let v1 = spec_ends x1 y1 _ _ v0.1 in
      let others = spec_lets_end xs ys r s (omega arith) v1.1 in
      ((λ i. more_spec_let (v0.0 i) (v1.0 i) (others.0 i)), others.1)
  spec_lets_end _ _ r s counts same = absurd (omega arith)

  pub field_inits_end : (xs ys : FieldInitList) (r s : List ℕ) → field_init_count xs ≡ field_init_count ys → field_inits xs ++ r ≡ field_inits ys ++ s → (xs ≡ ys) × (r ≡ s)
  field_inits_end no_field_init no_field_init r s counts same = (refl, same)
  field_inits_end (more_field_init x0 x1 x2 xs) (more_field_init y0 y1 y2 ys) r s counts same =
      let first = regroup ((name x0) ++ (spec x1) ++ (position x2)) ((name y0) ++ (spec y1) ++ (position y2))
      (field_inits xs) (field_inits ys) r s same in
      let parts = parts_3 (name x0) (spec x1) (position x2) (name y0) (spec y1) (position y2)
      (field_inits xs ++ r) (field_inits ys ++ s) first in
      let v0 = name_ends x0 y0 _ _ parts in
      let v1 = spec_ends x1 y1 _ _ v0.1 in
      let v2 = position_ends x2 y2 _ _ v1.1 in
      let others = field_inits_end xs ys r s (omega arith) v2.1 in
      ((λ i. more_field_init (v0.0 i) (v1.0 i) (v2.0 i) (others.0 i)), others.1)
  field_inits_end _ _ r s counts same = absurd (omega arith)

pub modified_ends : (x y : ModifiedState) (r s : List ℕ) → modified x ++ r ≡ modified y ++ s → (x ≡ y) × (r ≡ s)
modified_ends x y r s same =
    let parts = parts_2 (name x.state) (option name x.cond) (name y.state) (option name y.cond)
    r s same in
    let v0 = name_ends x.state y.state _ _ parts in
    let v1 = option_ends name name_ends x.cond y.cond _ _ v0.1 in
    ((λ i. record { state = v0.0 i; cond = v1.0 i }), v1.1)

pub spec_definition_ends : (x y : SpecDefinition) (r s : List ℕ) → spec_definition x ++ r ≡ spec_definition y ++ s → (x ≡ y) × (r ≡ s)
spec_definition_ends x y r s same =
    let parts = parts_7 (name x.term) (names x.args) (list spec x.provides) (list spec x.requires_) (list spec x.matches) (list modified x.modifies) (position x.pos) (name y.term) (names y.args) (list spec y.provides) (list spec y.requires_) (list spec y.matches) (list modified y.modifies) (position y.pos)
    r s same in
    let v0 = name_ends x.term y.term _ _ parts in
    let v1 = names_end x.args y.args _ _ v0.1 in
    let v2 = list_ends spec spec_ends x.provides y.provides _ _ v1.1 in
    let v3 = list_ends spec spec_ends x.requires_ y.requires_ _ _ v2.1 in
    let v4 = list_ends spec spec_ends x.matches y.matches _ _ v3.1 in
    let v5 = list_ends modified modified_ends x.modifies y.modifies _ _ v4.1 in
    let v6 = position_ends x.pos y.pos _ _ v5.1 in
    ((λ i. record { term = v0.0 i; args = v1.0 i; provides = v2.0 i; requires_ = v3.0 i; matches = v4.0 i; modifies = v5.0 i; pos = v6.0 i }), v6.1)

pub spec_macro_ends : (x y : SpecMacroDefinition) (r s : List ℕ) → spec_macro x ++ r ≡ spec_macro y ++ s → (x ≡ y) × (r ≡ s)
spec_macro_ends x y r s same =
    let parts = parts_4 (name x.name) (names x.params) (spec x.body) (position x.pos) (name y.name) (names y.params) (spec y.body) (position y.pos)
    r s same in
    let v0 = name_ends x.name y.name _ _ parts in
    let v1 = names_end x.params y.params _ _ v0.1 in
    let v2 = spec_ends x.body y.body _ _ v1.1 in
    let v3 = position_ends x.pos y.pos _ _ v2.1 in
    ((λ i. record { name = v0.0 i; params = v1.0 i; body = v2.0 i; pos = v3.0 i }), v3.1)

pub state_ends : (x y : StateDefinition) (r s : List ℕ) → state x ++ r ≡ state y ++ s → (x ≡ y) × (r ≡ s)
state_ends x y r s same =
    let parts = parts_4 (name x.name) (type_model x.ty) (spec x.default) (position x.pos) (name y.name) (type_model y.ty) (spec y.default) (position y.pos)
    r s same in
    let v0 = name_ends x.name y.name _ _ parts in
    let v1 = type_model_ends x.ty y.ty _ _ v0.1 in
    let v2 = spec_ends x.default y.default _ _ v1.1 in
    let v3 = position_ends x.pos y.pos _ _ v2.1 in
    ((λ i. record { name = v0.0 i; ty = v1.0 i; default = v2.0 i; pos = v3.0 i }), v3.1)
