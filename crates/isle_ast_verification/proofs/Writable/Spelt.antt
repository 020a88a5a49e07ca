-- Spelt specs, their definitions, their macros and states are writable.
use Rattle.std.proofs.Common.{List, None, Some, ◌≡◌, ◌≢◌, ℕ, ◌+◌, ◌*◌, ◌^◌, ◌<◌, ◌≤◌, [], ◌∷◌, ◌++◌, length, true, not, codes, inl, inr, sym, ap, ◌∙◌, subst, arith}
use Rattle.std.proofs.Math.Pow.{pow_mono}
use Rattle.std.proofs.lemmas.Bool.{false≢true, and_parts}
use Rattle.std.proofs.lemmas.Int.Digits.{digits_value-lt}
use Rattle.std.proofs.lemmas.List.{length-drop}
use Rattle.std.proofs.lemmas.List.Folds.{list_all-append}
use Rattle.std.proofs.lemmas.Nat.{pow-add, mul-pow}
use Rattle.std.specs.List.{list_all}
use Rattle.std.specs.Str.Parse.{digits_value, without_leading_plus}
use Rattle.isle_base.specs.Place.{Placed}
use Rattle.isle_ast_verification.specs.Tree.{TypeModel, unspecified_model, auto_model, int_model, bool_model, unit_model, bit_vector_model, struct_model, named_model, ModelFieldList, no_model_field, model_field, SpecNode, int_spec, bit_vector_spec, bool_spec, var_spec, as_spec, field_spec, discriminator_spec, op_spec, match_spec, let_spec, with_spec, macro_spec, expand_spec, pair_spec, enum_spec, struct_spec, SpecList, no_spec, more_spec, ArmList, no_arm, more_arm, SpecLetList, no_spec_let, more_spec_let, FieldInitList, no_field_init, more_field_init, SpecDefinition, SpecMacroDefinition, StateDefinition}
use Rattle.isle_ast_verification.specs.TypeModelGrammar.{SpellsTypeModel, SpellsModelFields}
use Rattle.isle_ast_verification.specs.Writable.{IsWritableModel, AreWritableModelFields, IsWritableBitVector, IsWritableVariantName, IsWritableSpec, AreWritableSpecs, AreWritableCases, AreWritablePairs, AreWritableArms, AreWritableSpecLets, AreWritableFieldInits, IsWritableModified, IsWritableSpecDefinition, IsWritableSpecMacro, IsWritableState}
use Rattle.isle_ast_verification.specs.declared.spec.SpecOp.{SpecOp}
use Rattle.isle_ast_verification.specs.BitVectors.{IsBitVectorIn, IsBitVector}
use Rattle.isle_ast_names.specs.Tree.{Name}
use Rattle.isle_ast_names.specs.Words.{SpellsAll}
use Rattle.isle_ast_verification.specs.SpecDefinitionGrammar.{SpecClause, provide_clause, require_clause, match_clause, modifies_clause, SpellsClause, provided, required, matched, modified, SpellsSpecDefinition, SpellsSpecMacro, SpellsState}
use Rattle.isle_ast_verification.specs.SpecGrammar.{is_dot, AreVariant, is_plain_operator, SpellsSpec, SpellsSpecs, SpellsCases, SpellsPairs, SpellsArms, SpellsSpecLets, SpellsFieldInits}
use Rattle.isle_ast_names.specs.Writable.{Each}
use Rattle.isle_ast_names.proofs.SpeltWords.{Each-spelt, names-spelt, no_bool_word, optional_name-spelt}
use Rattle.isle_ast_verification.specs.declared.spec.SpecOp.TheVariants as op

mutual
  pub model-spelt : (m : TypeModel) (all rest : List Placed) → SpellsTypeModel m all rest → IsWritableModel m
  model-spelt unspecified_model all rest s = tt
  model-spelt auto_model all rest s = tt
  model-spelt int_model all rest s = tt
  model-spelt bool_model all rest s = tt
  model-spelt unit_model all rest s = tt
  model-spelt (bit_vector_model None) all rest s = tt
  model-spelt (bit_vector_model (Some n)) all rest s = s.3.2.0
  model-spelt (struct_model fields) all rest s = model_fields-spelt fields s.3.0 s.1 s.3.2
  model-spelt (named_model name) all rest s = s.3.2.0

  model_fields-spelt : (fields : ModelFieldList) (all rest : List Placed) → SpellsModelFields fields all rest → AreWritableModelFields fields
  model_fields-spelt no_model_field all rest s = tt
  model_fields-spelt (model_field name ty fields) all rest s =
      (s.1.3.1.0, model-spelt ty s.1.3.0 s.1.1 s.1.3.2, model_fields-spelt fields s.0 rest s.2)

-- bit vectors

four_power : (n : ℕ) → 4 ^ n ≡ 2 ^ (n + n)
four_power n = mul-pow 2 2 n ∙ sym (pow-add 2 n n)

binary_power : (n : ℕ) → 2 ^ n ≡ 2 ^ (n * 1)
binary_power n = ap (λ k. 2 ^ k) (let e : n ≡ n * 1 = omega arith in e)

hexadecimal_power : (n : ℕ) → 16 ^ n ≡ 2 ^ (n * 4)
hexadecimal_power n =
    let e : n + n + (n + n) ≡ n * 4 = omega arith in
    mul-pow 4 4 n ∙ (λ i. four_power n i * four_power n i) ∙ sym (pow-add 2 (n + n) (n + n)) ∙ ap (λ k. 2 ^ k) e

digits-spelt : (radix bits : ℕ) (mark text : List ℕ) (val width : ℕ) → ((n : ℕ) → radix ^ n ≡ 2 ^ (n * bits)) → ((m n : ℕ) → m ≤ n → m * bits ≤ n * bits) →
    ((n : ℕ) → n ≤ n * bits) → IsBitVectorIn radix bits mark text val width → IsWritableBitVector val width
digits-spelt radix bits mark text val width power grows covers s =
    let digits = without_leading_plus s.digits in
    let shorter : length digits ≤ length s.digits = omega (arith, length-drop {A = ℕ}) in
    let some : 0 < length digits = s.numeral.0 in
    let covered = covers (length s.digits) in
    let bytes = s.bytes in
    let below : digits_value radix digits < 2 ^ (length digits * bits) =
    subst (λ n. digits_value radix digits < n) (power (length digits)) (digits_value-lt radix digits s.numeral.1) in
    let within : 2 ^ (length digits * bits) ≤ 2 ^ width =
    subst (λ n. 2 ^ (length digits * bits) ≤ 2 ^ n) bytes (pow_mono (grows (length digits) (length s.digits) shorter)) in
    let value = s.value in
    record { some = omega arith; within = omega arith; value = s.small; bits = s.fits }

bit_vector-spelt : (text : List ℕ) (val width : ℕ) → IsBitVector text val width → IsWritableBitVector val width
bit_vector-spelt text val width (inl s) =
    digits-spelt 2 1 (codes "#b") text val width binary_power (λ m n h. omega arith) (λ n. omega arith) s
bit_vector-spelt text val width (inr s) =
    digits-spelt 16 4 (codes "#x") text val width hexadecimal_power (λ m n h. omega arith) (λ n. omega arith) s

-- the names of a variant

no_dot-spelt : (text : List ℕ) → list_all (λ byte. not (is_dot byte)) text ≡ true → (before behind : List ℕ) → text ≢ before ++ 46 ∷ behind
no_dot-spelt text h before behind e =
    let joined = sym (list_all-append (λ byte. not (is_dot byte)) before (46 ∷ behind)) ∙ sym (ap (list_all (λ byte. not (is_dot byte))) e) ∙ h in
    false≢true (and_parts _ _ joined).1

variant-spelt : (name variant : Name) (place : _) → AreVariant name variant place → IsWritableVariantName name variant
variant-spelt name variant place s = record {
  name = s.name;
  variant = s.variant;
  no_dot = no_dot-spelt name.text s.no_dot;
  no_operator = s.no_operator;
}

-- operators

plain_is_no_switch : (operator : SpecOp) → is_plain_operator operator ≡ true → operator ≢ op.Switch
plain_is_no_switch operator h e = false≢true (sym (ap is_plain_operator e) ∙ h)

mutual
  pub spec-spelt : (x : SpecNode) (all rest : List Placed) → SpellsSpec x all rest → IsWritableSpec x
  spec-spelt (int_spec val _) all rest s = s.1.0
  spec-spelt (bit_vector_spec val width _) all rest s = bit_vector-spelt s.1.0 val width s.1.1
  spec-spelt (bool_spec _ _) all rest s = tt
  spec-spelt (var_spec var _) all rest s = let words = no_bool_word var s.0 in (s.2.0, words.0, words.1)
  spec-spelt (as_spec x ty _) all rest s =
      let parts = s.1.3.2 in
      (spec-spelt x s.1.3.0 parts.0 parts.1, model-spelt ty parts.0 s.1.1 parts.2)
  spec-spelt (field_spec field x _) all rest s = (s.1.3.1.0, spec-spelt x s.1.3.0 s.1.1 s.1.3.2)
  spec-spelt (discriminator_spec variant x _) all rest s = (s.1.3.1.0, spec-spelt x s.1.3.0 s.1.1 s.1.3.2)
  spec-spelt (op_spec operator args _) all rest s =
      elim s.1.3.2 [
        | inl h ↦ inr (plain_is_no_switch operator h.0, specs-spelt args s.1.3.0 s.1.1 h.1)
        | inr h ↦ inl (h.0, cases-spelt args s.1.3.0 s.1.1 h.1)
      ]
  spec-spelt (match_spec x arms _) all rest s =
      let parts = s.1.3.2 in
      (spec-spelt x s.1.3.0 parts.0 parts.1, arms-spelt arms parts.0 s.1.1 parts.2)
  spec-spelt (let_spec defs body _) all rest s =
      let parts = s.1.3.2 in
      (lets-spelt defs parts.1.0 parts.1.1 parts.1.3, spec-spelt body parts.0 s.1.1 parts.2)
  spec-spelt (with_spec decls body _) all rest s =
      let parts = s.1.3.2 in
      (names-spelt decls parts.1.0 parts.1.1 parts.1.3, spec-spelt body parts.0 s.1.1 parts.2)
  spec-spelt (macro_spec params body _) all rest s =
      let parts = s.1.3.2 in
      (names-spelt params parts.1.0 parts.1.1 parts.1.3, spec-spelt body parts.0 s.1.1 parts.2)
  spec-spelt (expand_spec name args _) all rest s = (s.1.3.1.0, specs-spelt args s.1.3.0 s.1.1 s.1.3.2)
  spec-spelt (pair_spec _ _ _) all rest s = s
  spec-spelt (enum_spec name variant args pos) all rest s =
      (variant-spelt name variant pos s.0, specs-spelt args s.2.3.0 s.2.1 s.2.3.2)
  spec-spelt (struct_spec fields _) all rest s = inits-spelt fields s.1.3.0 s.1.1 s.1.3.2

  specs-spelt : (xs : SpecList) (all rest : List Placed) → SpellsSpecs xs all rest → AreWritableSpecs xs
  specs-spelt no_spec all rest s = tt
  specs-spelt (more_spec x xs) all rest s = (spec-spelt x all s.0 s.1, specs-spelt xs s.0 rest s.2)

  cases-spelt : (xs : SpecList) (all rest : List Placed) → SpellsCases xs all rest → AreWritableCases xs
  cases-spelt no_spec all rest s = s
  cases-spelt (more_spec x cases) all rest s = (spec-spelt x all s.0 s.1, pairs-spelt cases s.0 rest s.2)

  pairs-spelt : (xs : SpecList) (all rest : List Placed) → SpellsPairs xs all rest → AreWritablePairs xs
  pairs-spelt no_spec all rest s = tt
  pairs-spelt (more_spec (pair_spec l r _) pairs) all rest s =
      let parts = s.1.3 in
      (spec-spelt l s.1.0 parts.1 parts.2, spec-spelt r parts.1 s.1.1 parts.3, pairs-spelt pairs s.0 rest s.2)
  pairs-spelt (more_spec _ _) all rest s = absurd s

  arms-spelt : (arms : ArmList) (all rest : List Placed) → SpellsArms arms all rest → AreWritableArms arms
  arms-spelt no_arm all rest s = tt
  arms-spelt (more_arm variant args body _ arms) all rest s =
      let parts = s.1.3 in
      let head = parts.2 in
      (head.3.1.0, names-spelt args head.3.0 head.1 head.3.2, spec-spelt body parts.1 s.1.1 parts.3, arms-spelt arms s.0 rest s.2)

  lets-spelt : (lets : SpecLetList) (all rest : List Placed) → SpellsSpecLets lets all rest → AreWritableSpecLets lets
  lets-spelt no_spec_let all rest s = tt
  lets-spelt (more_spec_let name value lets) all rest s =
      (s.1.3.1.0, spec-spelt value s.1.3.0 s.1.1 s.1.3.2, lets-spelt lets s.0 rest s.2)

  inits-spelt : (fields : FieldInitList) (all rest : List Placed) → SpellsFieldInits fields all rest → AreWritableFieldInits fields
  inits-spelt no_field_init all rest s = tt
  inits-spelt (more_field_init name value _ fields) all rest s =
      let parts = s.1.3 in
      (parts.2.0, spec-spelt value parts.1 s.1.1 parts.3, inits-spelt fields s.0 rest s.2)

-- clauses

each_spec-spelt : (es : List SpecNode) (all rest : List Placed) → SpellsAll SpellsSpec es all rest → Each IsWritableSpec es
each_spec-spelt es all rest s = Each-spelt IsWritableSpec SpellsSpec spec-spelt es all rest s

each_joined : (es xs : List SpecNode) → Each IsWritableSpec es → Each IsWritableSpec xs → Each IsWritableSpec (es ++ xs)
each_joined [] xs h k = k
each_joined (e ∷ es) xs h k = (h.0, each_joined es xs h.1 k)

clauses-spelt : (cs : List SpecClause) (all rest : List Placed) → SpellsAll SpellsClause cs all rest →
    Each IsWritableSpec (provided cs) × Each IsWritableSpec (required cs) × Each IsWritableSpec (matched cs) × Each IsWritableModified (modified cs)
clauses-spelt [] all rest s = (tt, tt, tt, tt)
clauses-spelt (provide_clause es ∷ cs) all rest s =
    let others = clauses-spelt cs s.0 rest s.2 in
    (each_joined es (provided cs) (each_spec-spelt es s.1.3.0 s.1.1 s.1.3.2) others.0, others.1, others.2, others.3)
clauses-spelt (require_clause es ∷ cs) all rest s =
    let others = clauses-spelt cs s.0 rest s.2 in
    (others.0, each_joined es (required cs) (each_spec-spelt es s.1.3.0 s.1.1 s.1.3.2) others.1, others.2, others.3)
clauses-spelt (match_clause es ∷ cs) all rest s =
    let others = clauses-spelt cs s.0 rest s.2 in
    (others.0, others.1, each_joined es (matched cs) (each_spec-spelt es s.1.3.0 s.1.1 s.1.3.2) others.2, others.3)
clauses-spelt (modifies_clause m ∷ cs) all rest s =
    let others = clauses-spelt cs s.0 rest s.2 in
    let parts = s.1.3.2 in
    (others.0, others.1, others.2, ((parts.1.0, optional_name-spelt m.cond parts.0 s.1.1 parts.2), others.3))

-- definitions

pub spec_definition-spelt : (d : SpecDefinition) (all rest : List Placed) → SpellsSpecDefinition d all rest → IsWritableSpecDefinition d
spec_definition-spelt d all rest s =
    let parts = clauses-spelt s.clauses s.behind_head rest s.spelt in
    record {
      term = s.head.3.1.0;
      args = names-spelt d.args s.head.3.0 s.head.1 s.head.3.2;
      provides = subst (Each IsWritableSpec) s.provides parts.0;
      requires_ = subst (Each IsWritableSpec) s.requires_ parts.1;
      matches = subst (Each IsWritableSpec) s.matches parts.2;
      modifies = subst (Each IsWritableModified) s.modifies parts.3;
    }

pub spec_macro-spelt : (m : SpecMacroDefinition) (all rest : List Placed) → SpellsSpecMacro m all rest → IsWritableSpecMacro m
spec_macro-spelt m all rest s =
    (s.head.3.1.0, names-spelt m.params s.head.3.0 s.head.1 s.head.3.2, spec-spelt m.body s.behind_head rest s.body)

pub state-spelt : (d : StateDefinition) (all rest : List Placed) → SpellsState d all rest → IsWritableState d
state-spelt d all rest s =
    let ty = s.ty in
    let default = s.default in
    (s.name.0, model-spelt d.ty ty.3.0 ty.1 ty.3.2, spec-spelt d.default default.3.0 default.1 default.3.2)
