-- The tests of models of types and of specs tell which of them are writable.
use Rattle.std.proofs.Common.{ℕ, ◌^◌, ◌<◌, Option, None, Some, IfSome, Decides, ◌≡◌, ◌≢◌, List, [], ◌∷◌, ◌++◌, Bool, true, false, not, ◌&&◌, ◌||◌, ◌==◌, cond, ◌⊎◌, inl, inr, ⊎_elim, codes, refl, sym, ap, ◌∙◌}
use Rattle.std.proofs.lemmas.Bool.Decides.{Decides-ltb, Decides-and, Decides-eqb}
use Rattle.std.specs.List.{list_all, list_any}
use Rattle.std.specs.Str.{bytes_eq}
use Rattle.std.proofs.lemmas.Bool.{false≢true, not-true, and_parts, and_from, or_cases, or_parts}
use Rattle.std.proofs.lemmas.Slice.Eq.{bytes_eq-Decides}
use Rattle.isle_ast_verification.specs.Tree.{TypeModel, unspecified_model, auto_model, int_model, bool_model, unit_model, bit_vector_model, struct_model, named_model, ModelFieldList, no_model_field, model_field, SpecNode, int_spec, bit_vector_spec, bool_spec, var_spec, as_spec, field_spec, discriminator_spec, op_spec, match_spec, let_spec, with_spec, macro_spec, expand_spec, pair_spec, enum_spec, struct_spec, SpecList, no_spec, more_spec, ArmList, no_arm, more_arm, SpecLetList, no_spec_let, more_spec_let, FieldInitList, no_field_init, more_field_init, ModifiedState, SpecDefinition, SpecMacroDefinition, StateDefinition}
use Rattle.isle_ast_verification.specs.Writable.{IsWritableModel, AreWritableModelFields, IsSpecVariable, IsWritableBitVector, IsWritableVariantName, IsWritableSpec, AreWritableSpecs, AreWritableCases, AreWritablePairs, AreWritableArms, AreWritableSpecLets, AreWritableFieldInits, IsWritableModified, IsWritableSpecDefinition, IsWritableSpecMacro, IsWritableState}
use Rattle.isle_ast_names.specs.WritableDeciders.{is_name, are_names, is_optional_name, is_word, is_bool_name, has_dot, is_float_name, is_writable_variant_name}
use Rattle.isle_ast_verification.specs.WritableDeciders.{is_optional_width, is_writable_model, are_writable_model_fields, is_spec_variable, is_writable_bit_vector, by_operator, is_writable_spec, are_writable_specs, are_writable_cases, are_writable_pairs, are_writable_arms, are_writable_spec_lets, are_writable_field_inits, is_writable_modified, is_writable_spec_definition, is_writable_spec_macro, is_writable_state}
use Rattle.isle_ast_names.proofs.Writable.Decided.{always, three, name_decided, never, four, each_decided, names_decided, optional_name_decided, word_decided, no_bool_decided, signed_decided}
use Rattle.isle_ast_verification.specs.declared.spec.SpecOp.{SpecOp}
use Rattle.isle_ast_verification.specs.Operators.{operator_text, operators, is_operator_text}
use Rattle.isle_ast_verification.specs.TreeView.{spec_list_of}
use Rattle.isle_ast_names.specs.Tree.{Name}
use Rattle.isle_ast_names.specs.Writable.{Each}
use Rattle.isle_ast_verification.specs.declared.spec.SpecOp.TheVariants as op

width_decided : (width : Option ℕ) → Decides (is_optional_width width) (IfSome width (λ n. n < 2 ^ 64))
width_decided None = always
width_decided (Some n) = Decides-ltb n (2 ^ 64)

-- models of types

mutual
  pub model_decided : (t : TypeModel) → Decides (is_writable_model t) (IsWritableModel t)
  model_decided unspecified_model = always
  model_decided auto_model = always
  model_decided int_model = always
  model_decided bool_model = always
  model_decided unit_model = always
  model_decided (bit_vector_model width) = width_decided width
  model_decided (struct_model fields) = model_fields_decided fields
  model_decided (named_model name) = name_decided name

  pub model_fields_decided : (fields : ModelFieldList) → Decides (are_writable_model_fields fields) (AreWritableModelFields fields)
  model_fields_decided no_model_field = always
  model_fields_decided (model_field name ty fields) =
      three (is_name name) (is_writable_model ty) (are_writable_model_fields fields) (name_decided name) (model_decided ty) (model_fields_decided fields)

-- bit vectors

bit_vector_decided : (val width : ℕ) → Decides (is_writable_bit_vector val width) (IsWritableBitVector val width)
bit_vector_decided val width =
    let d = Decides-and _ _ (Decides-and _ _ (Decides-ltb 0 width) (Decides-ltb val (2 ^ width))) (Decides-and _ _ (Decides-ltb val (2 ^ 128)) (Decides-ltb width (2 ^ 64))) in (
      λ e. let h = d.0 e in record { some = h.0.0; within = h.0.1; value = h.1.0; bits = h.1.1 },
      λ h. d.1 ((h.some, h.within), (h.value, h.bits)),
    )

-- the names of a variant

or_true : (a b : Bool) → b ≡ true → (a || b) ≡ true
or_true true b e = refl
or_true false b e = e

dot_between : (before behind : List ℕ) → has_dot (before ++ 46 ∷ behind) ≡ true
dot_between [] behind = refl
dot_between (b ∷ before) behind = or_true (b == 46) (has_dot (before ++ 46 ∷ behind)) (dot_between before behind)

neither_true : (a b : Bool) → (a ≡ true → ⊥) → b ≡ false → (a || b) ≡ false
neither_true true b f e = absurd (f refl)
neither_true false b f e = e

-- a text that is none with a dot between two others holds no dot
dotless : (text : List ℕ) → ((before behind : List ℕ) → text ≢ before ++ 46 ∷ behind) → has_dot text ≡ false
dotless [] h = refl
dotless (b ∷ bs) h =
    neither_true (b == 46) (has_dot bs) (λ dot. h [] bs (ap (λ x. x ∷ bs) ((Decides-eqb b 46).0 dot)))
    (dotless bs (λ before behind same. h (b ∷ before) behind (ap (λ xs. b ∷ xs) same)))

no_dot_decided : (text : List ℕ) → Decides (not (has_dot text)) ((before behind : List ℕ) → text ≢ before ++ 46 ∷ behind)
no_dot_decided text = (
  λ e before behind same. false≢true (sym (ap not (ap has_dot same ∙ dot_between before behind)) ∙ e),
  λ h. ap not (dotless text h),
)

abbrev before_dot : List ℕ → List ℕ
before_dot [] = []
before_dot (b ∷ bs) = cond (b == 46) [] (b ∷ before_dot bs)

before_the_dot : (text behind : List ℕ) → has_dot text ≡ false → before_dot (text ++ 46 ∷ behind) ≡ text
before_the_dot [] behind e = refl
before_the_dot (b ∷ bs) behind e =
    let h = or_parts (b == 46) (has_dot bs) e in
    ap (λ c. cond c [] (b ∷ before_dot (bs ++ 46 ∷ behind))) h.0 ∙ ap (λ xs. b ∷ xs) (before_the_dot bs behind h.1)

-- a text without a dot, or one that has `fp` before its first dot
abbrev is_plain_or_float : List ℕ → Bool
is_plain_or_float text = not (has_dot text) || bytes_eq (before_dot text) (codes "fp")

-- so is each operator
operators_are_plain_or_float : list_all (λ o. is_plain_or_float (operator_text o)) operators ≡ true
operators_are_plain_or_float = refl

among : (text : List ℕ) (os : List SpecOp) → list_all (λ o. is_plain_or_float (operator_text o)) os ≡ true → list_any (λ o. bytes_eq text (operator_text o)) os ≡ true → is_plain_or_float text ≡ true
among text [] all any = absurd (false≢true any)
among text (o ∷ os) all any =
    let h = and_parts (is_plain_or_float (operator_text o)) (list_all (λ o. is_plain_or_float (operator_text o)) os) all in
    ⊎_elim
    (λ here. ap is_plain_or_float ((bytes_eq-Decides text (operator_text o)).0 here) ∙ h.0)
    (λ later. among text os h.1 later)
    (or_cases (bytes_eq text (operator_text o)) (list_any (λ o. bytes_eq text (operator_text o)) os) any)

-- after `fp.` the operators of floats are read, and after another name and a dot none is
float_operators : (case : List ℕ) → is_operator_text (codes "fp" ++ 46 ∷ case) ≡ is_float_name case
float_operators case = refl

fp_alone : (enum case : List ℕ) → has_dot enum ≡ false → is_operator_text (enum ++ 46 ∷ case) ≡ true → enum ≡ codes "fp"
fp_alone enum case e h =
    let plain = among (enum ++ 46 ∷ case) operators operators_are_plain_or_float h in
    let joined : (not true || bytes_eq (before_dot (enum ++ 46 ∷ case)) (codes "fp")) ≡ true = ap (λ b. not b || bytes_eq (before_dot (enum ++ 46 ∷ case)) (codes "fp")) (sym (dot_between enum case)) ∙ plain in
    (bytes_eq-Decides enum (codes "fp")).0 (ap (λ xs. bytes_eq xs (codes "fp")) (sym (before_the_dot enum case e)) ∙ joined)

no_operator_by : (fp operator float : Bool) → (fp ≡ true → operator ≡ float) → (operator ≡ true → fp ≡ true) → Decides (not (fp && float)) (operator ≡ false)
no_operator_by true operator float same alone = (λ e. same refl ∙ not-true float e, λ h. ap not (sym (same refl) ∙ h))
no_operator_by false true float same alone = absurd (false≢true (alone refl))
no_operator_by false false float same alone = (λ _. refl, λ _. refl)

no_operator_decided : (enum case : Name) → has_dot enum.text ≡ false → Decides (not (is_word (codes "fp") enum && is_float_name case.text)) (is_operator_text (enum.text ++ 46 ∷ case.text) ≡ false)
no_operator_decided enum case none = no_operator_by (is_word (codes "fp") enum) (is_operator_text (enum.text ++ 46 ∷ case.text)) (is_float_name case.text)
    (λ fp. ap (λ text. is_operator_text (text ++ 46 ∷ case.text)) ((word_decided (codes "fp") enum).0 fp))
    (λ h. (word_decided (codes "fp") enum).1 (fp_alone enum.text case.text none h))

variant_name_decided : (enum case : Name) → Decides (is_writable_variant_name enum case) (IsWritableVariantName enum case)
variant_name_decided enum case = (
  λ e.
      let last = and_parts _ _ e in
      let dots = and_parts _ _ last.0 in
      let names = and_parts _ _ dots.0 in
      record {
        name = names.0;
        variant = names.1;
        no_dot = (no_dot_decided enum.text).0 dots.1;
        no_operator = (no_operator_decided enum case (not-true (has_dot enum.text) dots.1)).0 last.1;
      },
  λ h.
      let none = dotless enum.text h.no_dot in
      let names = and_from (is_name enum) (is_name case) h.name h.variant in
      let dots = and_from (is_name enum && is_name case) (not (has_dot enum.text)) names (ap not none) in
      and_from _ _ dots ((no_operator_decided enum case none).1 h.no_operator),
)

-- operators

abbrev is_switch : SpecOp → Bool
is_switch op.Switch = true
is_switch _ = false

operator_decided : {P Q : Type 0} (operator : SpecOp) (x y : Bool) → Decides x P → Decides y Q →
    Decides (by_operator operator x y) ((operator ≡ op.Switch) × P ⊎ (operator ≢ op.Switch) × Q)
operator_decided op.Switch x y p q = (
  λ e. inl (refl, p.0 e),
  λ h. elim h [ inl k ↦ p.1 k.1 | inr k ↦ absurd (k.0 refl) ],
)
operator_decided operator x y p q = (
  λ e. inr (λ same. false≢true (ap is_switch same), q.0 e),
  λ h. elim h [ inl k ↦ absurd (false≢true (ap is_switch k.0)) | inr k ↦ q.1 k.1 ],
)

-- spec expressions

spec_variable_decided : (n : Name) → Decides (is_spec_variable n) (IsSpecVariable n)
spec_variable_decided n =
    let d = Decides-and (is_name n) (not (is_bool_name n)) (name_decided n) (no_bool_decided n) in
    (λ e. let h = d.0 e in (h.0, h.1.0, h.1.1), λ h. d.1 (h.0, (h.1, h.2)))

mutual
  pub spec_decided : (x : SpecNode) → Decides (is_writable_spec x) (IsWritableSpec x)
  spec_decided (int_spec val _) = signed_decided 127 val
  spec_decided (bit_vector_spec val width _) = bit_vector_decided val width
  spec_decided (bool_spec _ _) = always
  spec_decided (var_spec var _) = spec_variable_decided var
  spec_decided (as_spec x ty _) = Decides-and (is_writable_spec x) (is_writable_model ty) (spec_decided x) (model_decided ty)
  spec_decided (field_spec field x _) = Decides-and (is_name field) (is_writable_spec x) (name_decided field) (spec_decided x)
  spec_decided (discriminator_spec variant x _) = Decides-and (is_name variant) (is_writable_spec x) (name_decided variant) (spec_decided x)
  spec_decided (op_spec operator args _) =
      operator_decided operator (are_writable_cases args) (are_writable_specs args) (cases_decided args) (specs_decided args)
  spec_decided (match_spec x arms _) = Decides-and (is_writable_spec x) (are_writable_arms arms) (spec_decided x) (arms_decided arms)
  spec_decided (let_spec defs body _) = Decides-and (are_writable_spec_lets defs) (is_writable_spec body) (spec_lets_decided defs) (spec_decided body)
  spec_decided (with_spec decls body _) = Decides-and (are_names decls) (is_writable_spec body) (names_decided decls) (spec_decided body)
  spec_decided (macro_spec params body _) = Decides-and (are_names params) (is_writable_spec body) (names_decided params) (spec_decided body)
  spec_decided (expand_spec name args _) = Decides-and (is_name name) (are_writable_specs args) (name_decided name) (specs_decided args)
  spec_decided (pair_spec _ _ _) = never
  spec_decided (enum_spec name variant args _) =
      Decides-and (is_writable_variant_name name variant) (are_writable_specs args) (variant_name_decided name variant) (specs_decided args)
  spec_decided (struct_spec fields _) = field_inits_decided fields

  pub specs_decided : (xs : SpecList) → Decides (are_writable_specs xs) (AreWritableSpecs xs)
  specs_decided no_spec = always
  specs_decided (more_spec x xs) = Decides-and (is_writable_spec x) (are_writable_specs xs) (spec_decided x) (specs_decided xs)

  cases_decided : (xs : SpecList) → Decides (are_writable_cases xs) (AreWritableCases xs)
  cases_decided no_spec = never
  cases_decided (more_spec x cases) = Decides-and (is_writable_spec x) (are_writable_pairs cases) (spec_decided x) (pairs_decided cases)

  pairs_decided : (xs : SpecList) → Decides (are_writable_pairs xs) (AreWritablePairs xs)
  pairs_decided no_spec = always
  pairs_decided (more_spec (pair_spec l r _) pairs) =
      three (is_writable_spec l) (is_writable_spec r) (are_writable_pairs pairs) (spec_decided l) (spec_decided r) (pairs_decided pairs)
  pairs_decided (more_spec _ _) = never

  arms_decided : (arms : ArmList) → Decides (are_writable_arms arms) (AreWritableArms arms)
  arms_decided no_arm = always
  arms_decided (more_arm variant args body _ arms) =
      four (is_name variant) (are_names args) (is_writable_spec body) (are_writable_arms arms)
      (name_decided variant) (names_decided args) (spec_decided body) (arms_decided arms)

  spec_lets_decided : (lets : SpecLetList) → Decides (are_writable_spec_lets lets) (AreWritableSpecLets lets)
  spec_lets_decided no_spec_let = always
  spec_lets_decided (more_spec_let name value lets) =
      three (is_name name) (is_writable_spec value) (are_writable_spec_lets lets) (name_decided name) (spec_decided value) (spec_lets_decided lets)

  field_inits_decided : (fields : FieldInitList) → Decides (are_writable_field_inits fields) (AreWritableFieldInits fields)
  field_inits_decided no_field_init = always
  field_inits_decided (more_field_init name value _ fields) =
      three (is_name name) (is_writable_spec value) (are_writable_field_inits fields) (name_decided name) (spec_decided value) (field_inits_decided fields)

-- the definitions that hold them

listed_specs_decided : (xs : List SpecNode) → Decides (are_writable_specs (spec_list_of xs)) (Each IsWritableSpec xs)
listed_specs_decided [] = always
listed_specs_decided (x ∷ xs) = Decides-and (is_writable_spec x) (are_writable_specs (spec_list_of xs)) (spec_decided x) (listed_specs_decided xs)

modified_decided : (m : ModifiedState) → Decides (is_writable_modified m) (IsWritableModified m)
modified_decided m = Decides-and (is_name m.state) (is_optional_name m.cond) (name_decided m.state) (optional_name_decided m.cond)

pub spec_definition_decided : (s : SpecDefinition) → Decides (is_writable_spec_definition s) (IsWritableSpecDefinition s)
spec_definition_decided s =
    let d = Decides-and _ _ (Decides-and _ _ (Decides-and _ _ (Decides-and _ _ (Decides-and _ _ (name_decided s.term) (names_decided s.args))
    (listed_specs_decided s.provides)) (listed_specs_decided s.requires_)) (listed_specs_decided s.matches))
    (each_decided is_writable_modified IsWritableModified modified_decided s.modifies) in (
      λ e. let h = d.0 e in
          record { term = h.0.0.0.0.0; args = h.0.0.0.0.1; provides = h.0.0.0.1; requires_ = h.0.0.1; matches = h.0.1; modifies = h.1 },
      λ h. d.1 (((((h.term, h.args), h.provides), h.requires_), h.matches), h.modifies),
    )

pub spec_macro_decided : (m : SpecMacroDefinition) → Decides (is_writable_spec_macro m) (IsWritableSpecMacro m)
spec_macro_decided m =
    three (is_name m.name) (are_names m.params) (is_writable_spec m.body) (name_decided m.name) (names_decided m.params) (spec_decided m.body)

pub state_decided : (s : StateDefinition) → Decides (is_writable_state s) (IsWritableState s)
state_decided s =
    three (is_name s.name) (is_writable_model s.ty) (is_writable_spec s.default) (name_decided s.name) (model_decided s.ty) (spec_decided s.default)
