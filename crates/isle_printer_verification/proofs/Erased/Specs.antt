-- Positions play no part in the shapes of models of types, spec expressions, specs, their macros
-- and states.
use Rattle.std.proofs.Common.{[], ◌≡◌, List, ◌∷◌, map, refl, ap, ◌∙◌, ℕ, ◌++◌, codes, Option, None, Some}
use Rattle.isle_ast_names.specs.Tree.{Name}
use Rattle.isle_ast_names.specs.Erased.{erase_optional}
use Rattle.isle_printer_layout.specs.Sexp.{Sexp, atom, list_of}
use Rattle.isle_printer_layout.specs.NameShapes.{name_shape, form_shape, headed_shape}
use Rattle.isle_printer_layout.proofs.Erased.Names.{shapes-erased, names_list-erased, headed-erased}
use Rattle.isle_ast_verification.specs.Operators.{operator_text}
use Rattle.isle_ast_verification.specs.Erased.{erase_spec, erase_specs, erase_arms, erase_spec_lets, erase_field_inits, erase_modified, erase_spec_definition, erase_spec_macro, erase_state, erase_model, erase_model_fields}
use Rattle.isle_ast_verification.specs.Tree.{TypeModel, unspecified_model, auto_model, int_model, bool_model, unit_model, bit_vector_model, struct_model, named_model, ModelFieldList, no_model_field}
use Rattle.isle_ast_verification.specs.Tree.{model_field, SpecNode, int_spec, bit_vector_spec, bool_spec, var_spec, as_spec, field_spec, discriminator_spec, op_spec, match_spec, let_spec, with_spec}
use Rattle.isle_ast_verification.specs.Tree.{macro_spec, expand_spec, pair_spec, enum_spec, struct_spec, SpecList, no_spec, more_spec, ArmList, no_arm, more_arm, SpecLetList, no_spec_let}
use Rattle.isle_ast_verification.specs.Tree.{more_spec_let, FieldInitList, no_field_init, more_field_init, ModifiedState, SpecDefinition, SpecMacroDefinition, StateDefinition}
use Rattle.isle_ast_verification.specs.SpecGrammar.{field_mark, discriminator_mark, expansion_mark, dotted}
use Rattle.isle_printer_verification.specs.SpecShapes.{model_shape, model_field_shapes, spec_shape, spec_shapes, arm_shapes, spec_let_shapes, field_init_shapes, state_condition_shape, modifies_shape}
use Rattle.isle_printer_verification.specs.SpecShapes.{clause_shape, spec_definition_shape, spec_macro_shape, state_shape}

mutual
  pub model-erased : (m : TypeModel) → model_shape (erase_model m) ≡ model_shape m
  model-erased unspecified_model = refl
  model-erased auto_model = refl
  model-erased int_model = refl
  model-erased bool_model = refl
  model-erased unit_model = refl
  model-erased (bit_vector_model width) = refl
  model-erased (struct_model fields) = ap (λ ss. form_shape (codes "struct") ss) (model_fields-erased fields)
  model-erased (named_model name) = refl

  model_fields-erased : (fields : ModelFieldList) → model_field_shapes (erase_model_fields fields) ≡ model_field_shapes fields
  model_fields-erased no_model_field = refl
  model_fields-erased (model_field name ty fields) =
      ap (λ s. list_of (name_shape name ∷ s ∷ []) ∷ model_field_shapes (erase_model_fields fields)) (model-erased ty)
      ∙ ap (λ ss. list_of (name_shape name ∷ model_shape ty ∷ []) ∷ ss) (model_fields-erased fields)

-- a list of two items
two-same : {a b c d : Sexp} → a ≡ b → c ≡ d → list_of (a ∷ c ∷ []) ≡ list_of (b ∷ d ∷ [])
two-same p q = (λ i. list_of (p i ∷ q i ∷ []))

-- a word and two items
form_two-same : (word : List ℕ) {a b c d : Sexp} → a ≡ b → c ≡ d → form_shape word (a ∷ c ∷ []) ≡ form_shape word (b ∷ d ∷ [])
form_two-same word p q = (λ i. form_shape word (p i ∷ q i ∷ []))

mutual
  pub spec-erased : (x : SpecNode) → spec_shape (erase_spec x) ≡ spec_shape x
  spec-erased (int_spec val _) = refl
  spec-erased (bit_vector_spec val width _) = refl
  spec-erased (bool_spec val _) = refl
  spec-erased (var_spec var _) = refl
  spec-erased (as_spec x ty _) = form_two-same (codes "as") (spec-erased x) (model-erased ty)
  spec-erased (field_spec field x _) = ap (λ s. form_shape (field_mark field.text) (s ∷ [])) (spec-erased x)
  spec-erased (discriminator_spec variant x _) = ap (λ s. form_shape (discriminator_mark variant.text) (s ∷ [])) (spec-erased x)
  spec-erased (op_spec operator args _) = ap (λ ss. list_of (atom (operator_text operator) ∷ ss)) (specs-erased args)
  spec-erased (match_spec x arms _) =
      ap (λ s. form_shape (codes "match") (s ∷ arm_shapes (erase_arms arms))) (spec-erased x)
      ∙ ap (λ ss. form_shape (codes "match") (spec_shape x ∷ ss)) (arms-erased arms)
  spec-erased (let_spec defs body _) =
      form_two-same (codes "let") (ap (λ ss. list_of ss) (spec_lets-erased defs)) (spec-erased body)
  spec-erased (with_spec decls body _) = form_two-same (codes "with") (names_list-erased decls) (spec-erased body)
  spec-erased (macro_spec params body _) = form_two-same (codes "macro") (names_list-erased params) (spec-erased body)
  spec-erased (expand_spec name args _) = ap (λ ss. form_shape (expansion_mark name.text) ss) (specs-erased args)
  spec-erased (pair_spec l r _) = two-same (spec-erased l) (spec-erased r)
  spec-erased (enum_spec name variant args _) = ap (λ ss. form_shape (dotted name variant) ss) (specs-erased args)
  spec-erased (struct_spec fields _) = ap (λ ss. form_shape (codes "struct") ss) (field_inits-erased fields)

  specs-erased : (xs : SpecList) → spec_shapes (erase_specs xs) ≡ spec_shapes xs
  specs-erased no_spec = refl
  specs-erased (more_spec x xs) =
      ap (λ s. s ∷ spec_shapes (erase_specs xs)) (spec-erased x) ∙ ap (λ ss. spec_shape x ∷ ss) (specs-erased xs)

  arms-erased : (arms : ArmList) → arm_shapes (erase_arms arms) ≡ arm_shapes arms
  arms-erased no_arm = refl
  arms-erased (more_arm variant args body _ arms) =
      ap (λ s. s ∷ arm_shapes (erase_arms arms)) (two-same (headed-erased variant args) (spec-erased body))
      ∙ ap (λ ss. list_of (headed_shape variant args ∷ spec_shape body ∷ []) ∷ ss) (arms-erased arms)

  spec_lets-erased : (lets : SpecLetList) → spec_let_shapes (erase_spec_lets lets) ≡ spec_let_shapes lets
  spec_lets-erased no_spec_let = refl
  spec_lets-erased (more_spec_let name value lets) =
      ap (λ s. list_of (name_shape name ∷ s ∷ []) ∷ spec_let_shapes (erase_spec_lets lets)) (spec-erased value)
      ∙ ap (λ ss. list_of (name_shape name ∷ spec_shape value ∷ []) ∷ ss) (spec_lets-erased lets)

  field_inits-erased : (fields : FieldInitList) → field_init_shapes (erase_field_inits fields) ≡ field_init_shapes fields
  field_inits-erased no_field_init = refl
  field_inits-erased (more_field_init name value _ fields) =
      ap (λ s. list_of (name_shape name ∷ s ∷ []) ∷ field_init_shapes (erase_field_inits fields)) (spec-erased value)
      ∙ ap (λ ss. list_of (name_shape name ∷ spec_shape value ∷ []) ∷ ss) (field_inits-erased fields)

state_condition-erased : (cond : Option Name) → state_condition_shape (erase_optional cond) ≡ state_condition_shape cond
state_condition-erased None = refl
state_condition-erased (Some name) = refl

modifies-erased : (m : ModifiedState) → modifies_shape (erase_modified m) ≡ modifies_shape m
modifies-erased m = ap (λ ss. form_shape (codes "modifies") (name_shape m.state ∷ ss)) (state_condition-erased m.cond)

clause-erased : (word : List ℕ) (es : List SpecNode) → clause_shape word (map erase_spec es) ≡ clause_shape word es
clause-erased word [] = refl
clause-erased word (e ∷ es) = ap (λ ss. form_shape word ss ∷ []) (shapes-erased spec_shape erase_spec spec-erased (e ∷ es))

pub spec_definition-erased : (s : SpecDefinition) → spec_definition_shape (erase_spec_definition s) ≡ spec_definition_shape s
spec_definition-erased s =
    let head = headed-erased s.term s.args in
    let provides = clause-erased (codes "provide") s.provides in
    let requires_ = clause-erased (codes "require") s.requires_ in
    let matches = clause-erased (codes "match") s.matches in
    let modifies = shapes-erased modifies_shape erase_modified modifies-erased s.modifies in
    (λ i. list_of (atom (codes "spec") ∷ [] ++ head i ∷ [] ++ provides i ++ requires_ i ++ matches i ++ modifies i))

pub spec_macro-erased : (m : SpecMacroDefinition) → spec_macro_shape (erase_spec_macro m) ≡ spec_macro_shape m
spec_macro-erased m =
    let head = headed-erased m.name m.params in
    let body = spec-erased m.body in
    (λ i. list_of (atom (codes "macro") ∷ [] ++ head i ∷ [] ++ body i ∷ []))

pub state-erased : (s : StateDefinition) → state_shape (erase_state s) ≡ state_shape s
state-erased s =
    let model = model-erased s.ty in
    let value = spec-erased s.default in
    (λ i. list_of
    (atom (codes "state") ∷ []
    ++ name_shape s.name ∷ []
    ++ form_shape (codes "type") (model i ∷ []) ∷ []
    ++ form_shape (codes "default") (value i ∷ []) ∷ []))
