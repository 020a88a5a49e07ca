-- How a spec expression begins, and that its parts leave fewer tokens.
use Rattle.std.proofs.Common.{◌≡◌, ℕ, ◌≤◌, ◌<◌, true, List, length, inl, inr, refl, arith}
use Rattle.std.specs.Prelude.{codes}
use Rattle.isle_base.specs.Place.{Placed}
use Rattle.isle_ast_verification.specs.Operators.{operator_text}
use Rattle.isle_ast_names.specs.Tree.{Name}
use Rattle.isle_ast_verification.specs.Tree.{SpecNode, int_spec, bit_vector_spec, bool_spec, var_spec, as_spec, field_spec, discriminator_spec, op_spec, match_spec, let_spec, with_spec, macro_spec}
use Rattle.isle_ast_verification.specs.Tree.{expand_spec, pair_spec, enum_spec, struct_spec, SpecList, no_spec, more_spec, ArmList, no_arm, more_arm, SpecLetList, no_spec_let, more_spec_let}
use Rattle.isle_ast_verification.specs.Tree.{FieldInitList, no_field_init, more_field_init}
use Rattle.isle_ast_names.specs.Words.{SpellsAll, SpellsName}
use Rattle.isle_ast_verification.specs.SpecGrammar.{SpellsMarked, SpellsSpec, SpellsSpecs, SpellsCases, SpellsPairs, SpellsArms, SpellsSpecLets, SpellsFieldInits, dotted, discriminator_mark, expansion_mark, field_mark}
use Rattle.isle_parser_cursor.specs.Reading.{is_ahead}
use Rattle.isle_parser_cursor.proofs.ReaderSteps.{word_shorter}
use Rattle.isle_parser_cursor.proofs.Names.{SpellsNames, name_begins}
use Rattle.isle_parser_verification.proofs.Reading.Models.{model_begins}
use Rattle.isle_parser_cursor.proofs.Reading.Numbers.{signed_begins}
use Rattle.isle_parser_cursor.proofs.Reading.Heads.{head_begins}
use Rattle.isle_parser_cursor.proofs.Readers.{Begins, begins_node, list_shorter, parentheses_begin}
use Rattle.isle_parser_verification.proofs.Reading.Lists.{SpellsPairInside, SpellsPair, pair_list, SpellsArm, SpellsArmInside, SpellsSpecLet, SpellsSpecLetInside, SpellsFieldInit, SpellsFieldInitInside}

marked_shorter : (mark : List ℕ → List ℕ) (n : Name) (all rest : List Placed) → SpellsMarked mark n all rest → length rest < length all
marked_shorter mark n all rest h = rw h.1 (omega arith)

pub names_begin : (ns : List Name) (all rest : List Placed) → SpellsNames ns all rest → (is_ahead begins_node all ≡ true) × (length rest < length all)
names_begin ns = parentheses_begin (SpellsAll SpellsName ns) (list_shorter SpellsName name_begins ns)

mutual
  pub spec_begins : (x : SpecNode) (all rest : List Placed) → SpellsSpec x all rest → (is_ahead begins_node all ≡ true) × (length rest < length all)
  spec_begins (int_spec val pos) all rest h = signed_begins 127 val all rest h.1
  spec_begins (bit_vector_spec val width pos) all rest h = (rw h.1.2.1 refl, rw h.1.2.1 (omega arith))
  spec_begins (bool_spec val pos) all rest h = (rw h.1.1 refl, rw h.1.1 (omega arith))
  spec_begins (var_spec n pos) all rest h = (rw h.2.1 refl, rw h.2.1 (omega arith))
  spec_begins (as_spec x ty pos) all rest h =
      parentheses_begin _ (λ i j b. omega (arith, word_shorter (codes "as") i b.0 b.1, (spec_begins x b.0 b.2.0 b.2.1).1, (model_begins ty b.2.0 j b.2.2).1)) all rest h.1
  spec_begins (field_spec n x pos) all rest h =
      parentheses_begin _ (λ i j b. omega (arith, marked_shorter field_mark n i b.0 b.1, (spec_begins x b.0 j b.2).1)) all rest h.1
  spec_begins (discriminator_spec n x pos) all rest h =
      parentheses_begin _ (λ i j b. omega (arith, marked_shorter discriminator_mark n i b.0 b.1, (spec_begins x b.0 j b.2).1)) all rest h.1
  spec_begins (op_spec operator xs pos) all rest h =
      parentheses_begin _ (λ i j b.
      elim b.2 [
        | inl g ↦ omega (arith, word_shorter (operator_text operator) i b.0 b.1, specs_shorter xs b.0 j g.1)
        | inr g ↦ omega (arith, word_shorter (operator_text operator) i b.0 b.1, cases_shorter xs b.0 j g.1)
      ]) all rest h.1
  spec_begins (match_spec x arms pos) all rest h =
      parentheses_begin _ (λ i j b. omega (arith, word_shorter (codes "match") i b.0 b.1, (spec_begins x b.0 b.2.0 b.2.1).1, arms_shorter arms b.2.0 j b.2.2)) all rest h.1
  spec_begins (let_spec ds x pos) all rest h =
      parentheses_begin _ (λ i j b.
      let list = parentheses_begin (SpellsSpecLets ds) (λ k l r. spec_lets_shorter ds k l r) b.0 b.2.0 b.2.1 in
      omega (arith, word_shorter (codes "let") i b.0 b.1, list.1, (spec_begins x b.2.0 j b.2.2).1)) all rest h.1
  spec_begins (with_spec ns x pos) all rest h =
      parentheses_begin _ (λ i j b. omega (arith, word_shorter (codes "with") i b.0 b.1, (names_begin ns b.0 b.2.0 b.2.1).1, (spec_begins x b.2.0 j b.2.2).1)) all rest h.1
  spec_begins (macro_spec ns x pos) all rest h =
      parentheses_begin _ (λ i j b. omega (arith, word_shorter (codes "macro") i b.0 b.1, (names_begin ns b.0 b.2.0 b.2.1).1, (spec_begins x b.2.0 j b.2.2).1)) all rest h.1
  spec_begins (expand_spec n xs pos) all rest h =
      parentheses_begin _ (λ i j b. omega (arith, marked_shorter expansion_mark n i b.0 b.1, specs_shorter xs b.0 j b.2)) all rest h.1
  spec_begins (pair_spec l r pos) all rest h = absurd h
  spec_begins (enum_spec n v xs pos) all rest h =
      parentheses_begin _ (λ i j b. omega (arith, word_shorter (dotted n v) i b.0 b.1, specs_shorter xs b.0 j b.2)) all rest h.2
  spec_begins (struct_spec fs pos) all rest h =
      parentheses_begin _ (λ i j b. omega (arith, word_shorter (codes "struct") i b.0 b.1, fields_shorter fs b.0 j b.2)) all rest h.1

  pub specs_shorter : (xs : SpecList) (all rest : List Placed) → SpellsSpecs xs all rest → length rest ≤ length all
  specs_shorter no_spec all rest h = rw h (omega arith)
  specs_shorter (more_spec x xs) all rest h = omega (arith, (spec_begins x all h.0 h.1).1, specs_shorter xs h.0 rest h.2)

  cases_shorter : (xs : SpecList) (all rest : List Placed) → SpellsCases xs all rest → length rest ≤ length all
  cases_shorter no_spec all rest h = absurd h
  cases_shorter (more_spec x xs) all rest h = omega (arith, (spec_begins x all h.0 h.1).1, pairs_shorter xs h.0 rest h.2)

  pub pairs_shorter : (xs : SpecList) (all rest : List Placed) → SpellsPairs xs all rest → length rest ≤ length all
  pairs_shorter no_spec all rest h = rw h (omega arith)
  pairs_shorter (more_spec x xs) all rest h =
      let list = (pair_list x xs all rest).0 h in
      let one = parentheses_begin (SpellsPairInside x) (pair_inside_shorter x) all list.0 list.1 in
      omega (arith, one.1, pairs_shorter xs list.0 rest list.2)

  pair_inside_shorter : (x : SpecNode) (all rest : List Placed) → SpellsPairInside x all rest → length rest ≤ length all
  pair_inside_shorter (pair_spec l r pos) all rest h = omega (arith, (spec_begins l all h.1 h.2).1, (spec_begins r h.1 rest h.3).1)
  pair_inside_shorter _ all rest h = absurd h

  pub arms_shorter : (arms : ArmList) (all rest : List Placed) → SpellsArms arms all rest → length rest ≤ length all
  arms_shorter no_arm all rest h = rw h (omega arith)
  arms_shorter (more_arm n ns x pos arms) all rest h =
      let one = parentheses_begin _ (λ i j b. omega (arith, (head_begins (n, ns) i b.1 b.2).1, (spec_begins x b.1 j b.3).1)) all h.0 h.1 in
      omega (arith, one.1, arms_shorter arms h.0 rest h.2)

  pub spec_lets_shorter : (ds : SpecLetList) (all rest : List Placed) → SpellsSpecLets ds all rest → length rest ≤ length all
  spec_lets_shorter no_spec_let all rest h = rw h (omega arith)
  spec_lets_shorter (more_spec_let n x ds) all rest h =
      let one = parentheses_begin _ (λ i j b. omega (arith, (name_begins n i b.0 b.1).1, (spec_begins x b.0 j b.2).1)) all h.0 h.1 in
      omega (arith, one.1, spec_lets_shorter ds h.0 rest h.2)

  pub fields_shorter : (fs : FieldInitList) (all rest : List Placed) → SpellsFieldInits fs all rest → length rest ≤ length all
  fields_shorter no_field_init all rest h = rw h (omega arith)
  fields_shorter (more_field_init n x pos fs) all rest h =
      let one = parentheses_begin _ (λ i j b. omega (arith, (name_begins n i b.1 b.2).1, (spec_begins x b.1 j b.3).1)) all h.0 h.1 in
      omega (arith, one.1, fields_shorter fs h.0 rest h.2)

-- ---- parts

pub pair_begins : Begins SpellsPair
pair_begins x all rest h = parentheses_begin (SpellsPairInside x) (pair_inside_shorter x) all rest h

pub arm_begins : Begins SpellsArm
arm_begins a all rest h = parentheses_begin (SpellsArmInside a) (λ i j b. omega (arith, (head_begins (a.variant, a.args) i b.1 b.2).1, (spec_begins a.body b.1 j b.3).1)) all rest h

pub spec_let_begins : Begins SpellsSpecLet
spec_let_begins d all rest h = parentheses_begin (SpellsSpecLetInside d) (λ i j b. omega (arith, (name_begins d.0 i b.0 b.1).1, (spec_begins d.1 b.0 j b.2).1)) all rest h

pub field_init_begins : Begins SpellsFieldInit
field_init_begins f all rest h = parentheses_begin (SpellsFieldInitInside f) (λ i j b. omega (arith, (name_begins f.name i b.1 b.2).1, (spec_begins f.value b.1 j b.3).1)) all rest h
