-- Positions play no part in which models of types, spec expressions, specs, macros of specs and states
-- are writable.
use Rattle.std.proofs.Common.{inl, inr, ◌↔◌}
use Rattle.isle_ast_names.specs.Erased.{erase_name}
use Rattle.isle_ast_verification.specs.Erased.{erase_model, erase_model_fields, erase_spec, erase_specs, erase_arms, erase_spec_lets, erase_field_inits, erase_modified, erase_spec_definition, erase_spec_macro, erase_state}
use Rattle.isle_ast_verification.specs.Writable.{IsWritableVariantName, IsWritableSpec, AreWritableSpecs, AreWritableCases, AreWritablePairs, AreWritableArms, AreWritableSpecLets, AreWritableFieldInits, IsWritableModified, IsWritableSpecDefinition, IsWritableSpecMacro, IsWritableState, IsWritableModel, AreWritableModelFields}
use Rattle.isle_ast_names.specs.Tree.{Name}
use Rattle.isle_ast_verification.specs.Tree.{TypeModel, unspecified_model, auto_model, int_model, bool_model, unit_model, bit_vector_model, struct_model, named_model, ModelFieldList, no_model_field, model_field, SpecNode, int_spec, bit_vector_spec, bool_spec, var_spec, as_spec, field_spec, discriminator_spec, op_spec, match_spec, let_spec, with_spec, macro_spec, expand_spec, pair_spec, enum_spec, struct_spec, SpecList, no_spec, more_spec, ArmList, no_arm, more_arm, SpecLetList, no_spec_let, more_spec_let, FieldInitList, no_field_init, more_field_init, ModifiedState, SpecDefinition, SpecMacroDefinition, StateDefinition}
use Rattle.isle_ast_names.proofs.Writable.Erased.{unchanged, names-erased, optional-erased, each-erased}

mutual
  pub model-erased : (m : TypeModel) → IsWritableModel (erase_model m) ↔ IsWritableModel m
  model-erased unspecified_model = unchanged
  model-erased auto_model = unchanged
  model-erased int_model = unchanged
  model-erased bool_model = unchanged
  model-erased unit_model = unchanged
  model-erased (bit_vector_model width) = unchanged
  model-erased (struct_model fields) = model_fields-erased fields
  model-erased (named_model name) = unchanged

  pub model_fields-erased : (fields : ModelFieldList) → AreWritableModelFields (erase_model_fields fields) ↔ AreWritableModelFields fields
  model_fields-erased no_model_field = unchanged
  model_fields-erased (model_field name ty fields) =
      let model = model-erased ty in
      let behind = model_fields-erased fields in
      (λ h. (h.0, model.0 h.1, behind.0 h.2), λ h. (h.0, model.1 h.1, behind.1 h.2))

variant_name-erased : (enum case : Name) → IsWritableVariantName (erase_name enum) (erase_name case) ↔ IsWritableVariantName enum case
variant_name-erased enum case = (
  λ h. record { name = h.name; variant = h.variant; no_dot = h.no_dot; no_operator = h.no_operator },
  λ h. record { name = h.name; variant = h.variant; no_dot = h.no_dot; no_operator = h.no_operator },
)

mutual
  pub spec-erased : (x : SpecNode) → IsWritableSpec (erase_spec x) ↔ IsWritableSpec x
  spec-erased (int_spec val _) = unchanged
  spec-erased (bit_vector_spec val width _) = unchanged
  spec-erased (bool_spec _ _) = unchanged
  spec-erased (var_spec var _) = unchanged
  spec-erased (as_spec x ty _) =
      let value = spec-erased x in
      let model = model-erased ty in
      (λ h. (value.0 h.0, model.0 h.1), λ h. (value.1 h.0, model.1 h.1))
  spec-erased (field_spec field x _) =
      let value = spec-erased x in
      (λ h. (h.0, value.0 h.1), λ h. (h.0, value.1 h.1))
  spec-erased (discriminator_spec variant x _) =
      let value = spec-erased x in
      (λ h. (h.0, value.0 h.1), λ h. (h.0, value.1 h.1))
  spec-erased (op_spec operator args _) =
      let list = specs-erased args in
      let cases = cases-erased args in (
        λ h. elim h [ inl c ↦ inl (c.0, cases.0 c.1) | inr c ↦ inr (c.0, list.0 c.1) ],
        λ h. elim h [ inl c ↦ inl (c.0, cases.1 c.1) | inr c ↦ inr (c.0, list.1 c.1) ],
      )
  spec-erased (match_spec x arms _) =
      let value = spec-erased x in
      let list = arms-erased arms in
      (λ h. (value.0 h.0, list.0 h.1), λ h. (value.1 h.0, list.1 h.1))
  spec-erased (let_spec defs body _) =
      let list = spec_lets-erased defs in
      let value = spec-erased body in
      (λ h. (list.0 h.0, value.0 h.1), λ h. (list.1 h.0, value.1 h.1))
  spec-erased (with_spec decls body _) =
      let names = names-erased decls in
      let value = spec-erased body in
      (λ h. (names.0 h.0, value.0 h.1), λ h. (names.1 h.0, value.1 h.1))
  spec-erased (macro_spec params body _) =
      let names = names-erased params in
      let value = spec-erased body in
      (λ h. (names.0 h.0, value.0 h.1), λ h. (names.1 h.0, value.1 h.1))
  spec-erased (expand_spec name args _) =
      let list = specs-erased args in
      (λ h. (h.0, list.0 h.1), λ h. (h.0, list.1 h.1))
  spec-erased (pair_spec _ _ _) = unchanged
  spec-erased (enum_spec name variant args _) =
      let names = variant_name-erased name variant in
      let list = specs-erased args in
      (λ h. (names.0 h.0, list.0 h.1), λ h. (names.1 h.0, list.1 h.1))
  spec-erased (struct_spec fields _) = field_inits-erased fields

  specs-erased : (xs : SpecList) → AreWritableSpecs (erase_specs xs) ↔ AreWritableSpecs xs
  specs-erased no_spec = unchanged
  specs-erased (more_spec x xs) =
      let value = spec-erased x in
      let behind = specs-erased xs in
      (λ h. (value.0 h.0, behind.0 h.1), λ h. (value.1 h.0, behind.1 h.1))

  cases-erased : (xs : SpecList) → AreWritableCases (erase_specs xs) ↔ AreWritableCases xs
  cases-erased no_spec = unchanged
  cases-erased (more_spec x cases) =
      let value = spec-erased x in
      let behind = pairs-erased cases in
      (λ h. (value.0 h.0, behind.0 h.1), λ h. (value.1 h.0, behind.1 h.1))

  pairs-erased : (xs : SpecList) → AreWritablePairs (erase_specs xs) ↔ AreWritablePairs xs
  pairs-erased no_spec = unchanged
  pairs-erased (more_spec (pair_spec l r _) pairs) =
      let left = spec-erased l in
      let right = spec-erased r in
      let behind = pairs-erased pairs in
      (λ h. (left.0 h.0, right.0 h.1, behind.0 h.2), λ h. (left.1 h.0, right.1 h.1, behind.1 h.2))
  pairs-erased (more_spec _ _) = unchanged

  arms-erased : (arms : ArmList) → AreWritableArms (erase_arms arms) ↔ AreWritableArms arms
  arms-erased no_arm = unchanged
  arms-erased (more_arm variant args body _ arms) =
      let names = names-erased args in
      let value = spec-erased body in
      let behind = arms-erased arms in
      (λ h. (h.0, names.0 h.1, value.0 h.2, behind.0 h.3), λ h. (h.0, names.1 h.1, value.1 h.2, behind.1 h.3))

  spec_lets-erased : (lets : SpecLetList) → AreWritableSpecLets (erase_spec_lets lets) ↔ AreWritableSpecLets lets
  spec_lets-erased no_spec_let = unchanged
  spec_lets-erased (more_spec_let name value lets) =
      let bound = spec-erased value in
      let behind = spec_lets-erased lets in
      (λ h. (h.0, bound.0 h.1, behind.0 h.2), λ h. (h.0, bound.1 h.1, behind.1 h.2))

  field_inits-erased : (fields : FieldInitList) → AreWritableFieldInits (erase_field_inits fields) ↔ AreWritableFieldInits fields
  field_inits-erased no_field_init = unchanged
  field_inits-erased (more_field_init name value _ fields) =
      let field = spec-erased value in
      let behind = field_inits-erased fields in
      (λ h. (h.0, field.0 h.1, behind.0 h.2), λ h. (h.0, field.1 h.1, behind.1 h.2))

modified-erased : (m : ModifiedState) → IsWritableModified (erase_modified m) ↔ IsWritableModified m
modified-erased m =
    let cond = optional-erased m.cond in
    (λ h. (h.0, cond.0 h.1), λ h. (h.0, cond.1 h.1))

pub spec_definition-erased : (s : SpecDefinition) → IsWritableSpecDefinition (erase_spec_definition s) ↔ IsWritableSpecDefinition s
spec_definition-erased s =
    let args = names-erased s.args in
    let list = each-erased IsWritableSpec erase_spec spec-erased in
    let modifies = each-erased IsWritableModified erase_modified modified-erased s.modifies in (
      λ h. record {
        term = h.term;
        args = args.0 h.args;
        provides = (list s.provides).0 h.provides;
        requires_ = (list s.requires_).0 h.requires_;
        matches = (list s.matches).0 h.matches;
        modifies = modifies.0 h.modifies;
      },
      λ h. record {
        term = h.term;
        args = args.1 h.args;
        provides = (list s.provides).1 h.provides;
        requires_ = (list s.requires_).1 h.requires_;
        matches = (list s.matches).1 h.matches;
        modifies = modifies.1 h.modifies;
      },
    )

pub spec_macro-erased : (m : SpecMacroDefinition) → IsWritableSpecMacro (erase_spec_macro m) ↔ IsWritableSpecMacro m
spec_macro-erased m =
    let params = names-erased m.params in
    let body = spec-erased m.body in
    (λ h. (h.0, params.0 h.1, body.0 h.2), λ h. (h.0, params.1 h.1, body.1 h.2))

pub state-erased : (s : StateDefinition) → IsWritableState (erase_state s) ↔ IsWritableState s
state-erased s =
    let model = model-erased s.ty in
    let value = spec-erased s.default in
    (λ h. (h.0, model.0 h.1, value.0 h.2), λ h. (h.0, model.1 h.1, value.1 h.2))
