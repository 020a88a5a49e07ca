-- The shapes of writable models of types and of writable specs are tidy.
use Rattle.std.proofs.Common.{◌≡◌, ℕ, ◌^◌, ◌<◌, true, map, List, [], ◌∷◌, codes, Option, None, Some, IfSome, inl, inr, refl, arith}
use Rattle.std.specs.List.{list_all}
use Rattle.isle_ast_verification.specs.Operators.{operator_text}
use Rattle.isle_ast_verification.specs.Writable.{IsWritableSpec, AreWritableSpecs, AreWritableCases, AreWritablePairs, AreWritableArms, AreWritableSpecLets, AreWritableFieldInits, IsWritableModified}
use Rattle.isle_ast_verification.specs.Writable.{IsWritableSpecDefinition, IsWritableSpecMacro, IsWritableState, IsWritableModel, AreWritableModelFields}
use Rattle.isle_ast_names.specs.Tree.{Name}
use Rattle.isle_ast_verification.specs.Tree.{TypeModel, unspecified_model, auto_model, int_model, bool_model, unit_model, bit_vector_model, struct_model, named_model, ModelFieldList, no_model_field}
use Rattle.isle_ast_verification.specs.Tree.{model_field, SpecNode, int_spec, bit_vector_spec, bool_spec, var_spec, as_spec, field_spec, discriminator_spec, op_spec, match_spec, let_spec, with_spec}
use Rattle.isle_ast_verification.specs.Tree.{macro_spec, expand_spec, pair_spec, enum_spec, struct_spec, SpecList, no_spec, more_spec, ArmList, no_arm, more_arm, SpecLetList, no_spec_let}
use Rattle.isle_ast_verification.specs.Tree.{more_spec_let, FieldInitList, no_field_init, more_field_init, ModifiedState, SpecDefinition, SpecMacroDefinition, StateDefinition}
use Rattle.isle_ast_verification.specs.SpecGrammar.{field_mark, discriminator_mark, expansion_mark, dotted}
use Rattle.isle_ast_names.specs.Writable.{IsName, Each}
use Rattle.isle_printer_layout.specs.Sexp.{list_of}
use Rattle.isle_printer_layout.specs.NameShapes.{name_shape, names_shape, headed_shape}
use Rattle.isle_printer_verification.specs.SpecShapes.{width_shape, model_shape, model_field_shapes, spec_shape, spec_shapes, arm_shapes, spec_let_shapes, field_init_shapes, state_condition_shape}
use Rattle.isle_printer_verification.specs.SpecShapes.{modifies_shape, clause_shape, spec_definition_shape, spec_macro_shape, state_shape}
use Rattle.isle_printer_verification.proofs.BitVectorAtoms.{bit_vector_text-atom}
use Rattle.isle_printer_verification.proofs.OperatorSymbols.{operator-ReadsAs, field-ReadsAs, discriminator-ReadsAs, expansion-ReadsAs, dotted-ReadsAs}
use Rattle.isle_printer_layout.proofs.ShortLines.Layout.{is_plain, IsNoEmptyList, IsTidy}
use Rattle.isle_printer_layout.proofs.ShortLines.Parts.{plain-symbol, plain-identifier, plain-bool_word, plain-decimal, plain-integer, TidyItems, ◌then◌, tidy-nothing, tidy-item, tidy-word, tidy-name}
use Rattle.isle_printer_layout.proofs.ShortLines.Parts.{tidy-all, BeginsWell, tidy-list, tidy-form, tidy-form_item, tidy-headed_item, tidy-names_item}

-- models

tidy-width : (width : Option ℕ) → IfSome width (λ n. n < 2 ^ 64) → TidyItems (width_shape width)
tidy-width None fits = tidy-nothing
tidy-width (Some n) fits = tidy-item (plain-decimal n (omega (arith, fits)))

mutual
  pub tidy-model : (m : TypeModel) → IsWritableModel m → IsTidy (model_shape m)
  tidy-model unspecified_model is = refl
  tidy-model auto_model is = refl
  tidy-model int_model is = refl
  tidy-model bool_model is = refl
  tidy-model unit_model is = refl
  tidy-model (bit_vector_model width) is = tidy-form (codes "bv") refl (width_shape width) (tidy-width width is)
  tidy-model (struct_model fields) is = tidy-form (codes "struct") refl (model_field_shapes fields) (tidy-model_fields fields is)
  tidy-model (named_model name) is = tidy-form (codes "named") refl (name_shape name ∷ []) (tidy-name name is)

  tidy-model_fields : (fields : ModelFieldList) → AreWritableModelFields fields → TidyItems (model_field_shapes fields)
  tidy-model_fields no_model_field is = tidy-nothing
  tidy-model_fields (model_field name ty fields) is =
      tidy-item (tidy-list _ tt (tidy-name name is.0 then tidy-item (tidy-model ty is.1))) then tidy-model_fields fields is.2

-- spec expressions

spec-no_empty : (x : SpecNode) → IsNoEmptyList (spec_shape x)
spec-no_empty (int_spec _ _) = tt
spec-no_empty (bit_vector_spec _ _ _) = tt
spec-no_empty (bool_spec _ _) = tt
spec-no_empty (var_spec _ _) = tt
spec-no_empty (as_spec _ _ _) = tt
spec-no_empty (field_spec _ _ _) = tt
spec-no_empty (discriminator_spec _ _ _) = tt
spec-no_empty (op_spec _ _ _) = tt
spec-no_empty (match_spec _ _ _) = tt
spec-no_empty (let_spec _ _ _) = tt
spec-no_empty (with_spec _ _ _) = tt
spec-no_empty (macro_spec _ _ _) = tt
spec-no_empty (expand_spec _ _ _) = tt
spec-no_empty (pair_spec _ _ _) = tt
spec-no_empty (enum_spec _ _ _ _) = tt
spec-no_empty (struct_spec _ _) = tt

spec_lets-begin : (lets : SpecLetList) → BeginsWell (spec_let_shapes lets)
spec_lets-begin no_spec_let = tt
spec_lets-begin (more_spec_let _ _ _) = tt

mutual
  pub tidy-spec : (x : SpecNode) → IsWritableSpec x → IsTidy (spec_shape x)
  tidy-spec (int_spec val _) is = plain-integer val is
  tidy-spec (bit_vector_spec val width _) is = plain-symbol _ (bit_vector_text-atom val width is).reads
  tidy-spec (bool_spec val _) is = plain-bool_word val
  tidy-spec (var_spec var _) is = plain-identifier var.text is.0
  tidy-spec (as_spec x ty _) is =
      tidy-form (codes "as") refl _ (tidy-item (tidy-spec x is.0) then tidy-item (tidy-model ty is.1))
  tidy-spec (field_spec field x _) is =
      tidy-form (field_mark field.text) (plain-symbol _ (field-ReadsAs field is.0)) _ (tidy-item (tidy-spec x is.1))
  tidy-spec (discriminator_spec variant x _) is =
      tidy-form (discriminator_mark variant.text) (plain-symbol _ (discriminator-ReadsAs variant is.0)) _ (tidy-item (tidy-spec x is.1))
  tidy-spec (op_spec operator args _) is =
      tidy-form (operator_text operator) (plain-symbol _ (operator-ReadsAs operator)) (spec_shapes args)
      (elim is [
        | inl h ↦ tidy-cases args h.1
        | inr h ↦ tidy-specs args h.1
      ])
  tidy-spec (match_spec x arms _) is =
      tidy-form (codes "match") refl _ (tidy-item (tidy-spec x is.0) then tidy-arms arms is.1)
  tidy-spec (let_spec defs body _) is =
      tidy-form (codes "let") refl
      (list_of (spec_let_shapes defs) ∷ spec_shape body ∷ [])
      (tidy-item (tidy-list (spec_let_shapes defs) (spec_lets-begin defs) (tidy-spec_lets defs is.0)) then tidy-item (tidy-spec body is.1))
  tidy-spec (with_spec decls body _) is =
      tidy-form (codes "with") refl
      (names_shape decls ∷ spec_shape body ∷ [])
      (tidy-names_item decls is.0 then tidy-item (tidy-spec body is.1))
  tidy-spec (macro_spec params body _) is =
      tidy-form (codes "macro") refl
      (names_shape params ∷ spec_shape body ∷ [])
      (tidy-names_item params is.0 then tidy-item (tidy-spec body is.1))
  tidy-spec (expand_spec name args _) is =
      tidy-form (expansion_mark name.text) (plain-symbol _ (expansion-ReadsAs name is.0)) (spec_shapes args) (tidy-specs args is.1)
  tidy-spec (pair_spec _ _ _) is = absurd is
  tidy-spec (enum_spec name variant args _) is =
      let names = is.0 in
      tidy-form (dotted name variant) (plain-symbol _ (dotted-ReadsAs name variant names.name names.variant)) (spec_shapes args) (tidy-specs args is.1)
  tidy-spec (struct_spec fields _) is =
      tidy-form (codes "struct") refl (field_init_shapes fields) (tidy-field_inits fields is)

  tidy-specs : (xs : SpecList) → AreWritableSpecs xs → TidyItems (spec_shapes xs)
  tidy-specs no_spec is = tidy-nothing
  tidy-specs (more_spec x xs) is = tidy-item (tidy-spec x is.0) then tidy-specs xs is.1

  tidy-cases : (xs : SpecList) → AreWritableCases xs → TidyItems (spec_shapes xs)
  tidy-cases no_spec is = absurd is
  tidy-cases (more_spec x cases) is = tidy-item (tidy-spec x is.0) then tidy-pairs cases is.1

  tidy-pairs : (xs : SpecList) → AreWritablePairs xs → TidyItems (spec_shapes xs)
  tidy-pairs no_spec is = tidy-nothing
  tidy-pairs (more_spec (pair_spec l r _) pairs) is =
      tidy-item (tidy-list (spec_shape l ∷ spec_shape r ∷ []) (spec-no_empty l) (tidy-item (tidy-spec l is.0) then tidy-item (tidy-spec r is.1)))
      then tidy-pairs pairs is.2
  tidy-pairs (more_spec _ _) is = absurd is

  tidy-arms : (arms : ArmList) → AreWritableArms arms → TidyItems (arm_shapes arms)
  tidy-arms no_arm is = tidy-nothing
  tidy-arms (more_arm variant args body _ arms) is =
      tidy-item (tidy-list (headed_shape variant args ∷ spec_shape body ∷ []) tt
      (tidy-headed_item variant args is.0 is.1 then tidy-item (tidy-spec body is.2)))
      then tidy-arms arms is.3

  tidy-spec_lets : (lets : SpecLetList) → AreWritableSpecLets lets → TidyItems (spec_let_shapes lets)
  tidy-spec_lets no_spec_let is = tidy-nothing
  tidy-spec_lets (more_spec_let name value lets) is =
      tidy-item (tidy-list _ tt (tidy-name name is.0 then tidy-item (tidy-spec value is.1))) then tidy-spec_lets lets is.2

  tidy-field_inits : (fields : FieldInitList) → AreWritableFieldInits fields → TidyItems (field_init_shapes fields)
  tidy-field_inits no_field_init is = tidy-nothing
  tidy-field_inits (more_field_init name value _ fields) is =
      tidy-item (tidy-list _ tt (tidy-name name is.0 then tidy-item (tidy-spec value is.1))) then tidy-field_inits fields is.2

-- specs, macros and states

tidy-state_condition : (cond : Option Name) → IfSome cond IsName → TidyItems (state_condition_shape cond)
tidy-state_condition None is = tidy-nothing
tidy-state_condition (Some name) is = tidy-name name is

tidy-modifies : (m : ModifiedState) → IsWritableModified m → IsTidy (modifies_shape m)
tidy-modifies m is =
    tidy-form (codes "modifies") refl _ (tidy-name m.state is.0 then tidy-state_condition m.cond is.1)

tidy-clause : (word : List ℕ) → list_all is_plain word ≡ true → (es : List SpecNode) → Each IsWritableSpec es → TidyItems (clause_shape word es)
tidy-clause word plain [] are = tidy-nothing
tidy-clause word plain (e ∷ es) are =
    tidy-form_item word plain (map spec_shape (e ∷ es)) (tidy-all spec_shape IsWritableSpec tidy-spec (e ∷ es) are)

pub tidy-spec_definition : (s : SpecDefinition) → IsWritableSpecDefinition s → IsTidy (spec_definition_shape s)
tidy-spec_definition s is =
    tidy-list _ tt
    (tidy-word (codes "spec") refl
    then tidy-headed_item s.term s.args is.term is.args
    then tidy-clause (codes "provide") refl s.provides is.provides
    then tidy-clause (codes "require") refl s.requires_ is.requires_
    then tidy-clause (codes "match") refl s.matches is.matches
    then tidy-all modifies_shape IsWritableModified tidy-modifies s.modifies is.modifies)

pub tidy-spec_macro : (m : SpecMacroDefinition) → IsWritableSpecMacro m → IsTidy (spec_macro_shape m)
tidy-spec_macro m is =
    tidy-list _ tt
    (tidy-word (codes "macro") refl
    then tidy-headed_item m.name m.params is.0 is.1
    then tidy-item (tidy-spec m.body is.2))

pub tidy-state : (s : StateDefinition) → IsWritableState s → IsTidy (state_shape s)
tidy-state s is =
    tidy-list _ tt
    (tidy-word (codes "state") refl
    then tidy-name s.name is.0
    then tidy-form_item (codes "type") refl _ (tidy-item (tidy-model s.ty is.1))
    then tidy-form_item (codes "default") refl _ (tidy-item (tidy-spec s.default is.2)))
