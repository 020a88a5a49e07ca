-- The relations of spec expressions keep the laws.
use Rattle.std.proofs.Common.{◌≡◌, ℕ, List, [], ◌∷◌, ◌++◌, true, false, not, ◌⊎◌, codes, refl, sym, ap, ◌∙◌}
use Rattle.std.proofs.lemmas.Bool.{false≢true}
use Rattle.std.specs.List.{list_all}
use Rattle.isle_base_source.specs.declared.pos.Pos.{Pos}
use Rattle.isle_base.specs.Place.{Placed, unknown}
use Rattle.isle_base.specs.Token.{symbol}
use Rattle.isle_ast_verification.specs.declared.spec.SpecOp.{SpecOp}
use Rattle.isle_ast_names.specs.Identifier.{is_identifier}
use Rattle.isle_ast_names.specs.Numbers.{SpellsInteger}
use Rattle.isle_ast_verification.specs.Operators.{operator_text, is_operator_text}
use Rattle.isle_ast_verification.specs.Erased.{erase_spec, erase_specs, erase_arms, erase_spec_lets, erase_field_inits, erase_model}
use Rattle.isle_ast_names.specs.Tree.{Name}
use Rattle.isle_ast_verification.specs.Tree.{SpecNode, int_spec, bit_vector_spec, bool_spec, var_spec, as_spec, field_spec, discriminator_spec, op_spec, match_spec, let_spec, with_spec, macro_spec, expand_spec, pair_spec, enum_spec, struct_spec, SpecList, no_spec, more_spec, ArmList, no_arm, more_arm, SpecLetList, no_spec_let, more_spec_let, FieldInitList, no_field_init, more_field_init}
use Rattle.isle_ast_names.specs.Words.{SpellsWord, SpellsAll, InParentheses, BehindWord, SpellsName, bool_word, is_bool_word}
use Rattle.isle_ast_verification.proofs.ErasedSpecs.{is_int, BitsNode, is_bits, is_bool, is_var, AsNode, erase_as, is_as, NamedNode, erase_named, is_field, is_discriminator, is_op, MatchNode, erase_match, is_match, LetNode, erase_let, is_let, BoundNode, erase_bound, is_with, is_macro, ExpandNode, erase_expand, is_expand, EnumNode, erase_enum, enum_of, is_enum, is_struct, is_no_spec, ListNode, erase_list, is_more, PairNode, erase_both, erase_pairs, pair_list, is_pair, is_no_arm, HeadNode, erase_head, ArmNode, erase_arm, ArmListNode, erase_arm_list, arm_list, is_arm, is_no_let, LetListNode, erase_let_list, let_list, is_more_let, is_no_init, InitListNode, erase_init_list, init_list, is_init}
use Rattle.isle_ast_names.specs.Erased.{erase_name, erase_names, erase_tokens}
use Rattle.isle_ast_verification.specs.TypeModelGrammar.{SpellsTypeModel}
use Rattle.isle_ast_verification.specs.SpecGrammar.{SpellsBitVector, SpellsMarked, field_mark, discriminator_mark, expansion_mark, SpellsNames, SpellsHeaded, is_dot, is_plain_operator, SpellsSpec, SpellsSpecs, SpellsCases, SpellsPairs, SpellsArms, SpellsSpecLets, SpellsFieldInits}
use Rattle.isle_ast_names.proofs.Lawful.{Plain, Lawful, Begins, Then, At, name_placed, name_at, name_agrees, word_plain, nothing_plain, plain_lawful, value_lawful, name_lawful, pair_lawful, all_lawful, at_lawful, where_lawful, settled_lawful, either_lawful, made_lawful, made_at_lawful, parentheses_lawful, word_lawful, token_begins, name_begins, parentheses_begin}
use Rattle.isle_ast_verification.proofs.Lawful.Models.{model_lawful}
use Rattle.isle_ast_names.proofs.LawfulWords.{integer_plain, integer_begins}
use Rattle.isle_ast_verification.specs.declared.spec.SpecOp.TheVariants as op

-- words

abbrev Bits : BitsNode → List Placed → List Placed → Type 0
Bits p = SpellsBitVector p.0 p.1

bits_plain : (p : BitsNode) → Plain (Bits p)
bits_plain p = record {
  cuts = λ all rest h. let q = (word_plain h.0).cuts all rest h.2 in (q.0, q.1, λ after. (h.0, h.1, q.2 after));
  erased = λ all rest h. (h.0, h.1, (word_plain h.0).erased all rest h.2);
  placed = λ all after h. let q = (word_plain h.0).placed all after h.2 in (q.0, q.1, (h.0, h.1, q.2));
  ends = λ all rest after h k. let e = h.2.1 in let f = k.2.1 in cc;
}

bits_begin : (p : BitsNode) → Begins (Bits p)
bits_begin p all rest h e = token_begins (symbol h.0) all rest h.2 e

marked_lawful : (mark : List ℕ → List ℕ) (n : Name) → Lawful (SpellsMarked mark) erase_name n
marked_lawful mark n = record {
  cuts = λ all rest h. (record { pos = n.pos; token = symbol (mark n.text) } ∷ [], h.1, λ after. (h.0, refl));
  erased = λ all rest h. (h.0, ap erase_tokens h.1);
  placed = λ all after h.
      let p = name_placed mark n all after h.1 in
      (record n { pos = p.0 }, p.1, name_at n p.0 p.2, p.3, (h.0, p.4));
  agree = λ m same all rest after h k. name_agrees mark n m same all rest after h.1 k.1;
}

names_lawful : (ns : List Name) → Lawful SpellsNames erase_names ns
names_lawful ns = parentheses_lawful (SpellsAll SpellsName) erase_names ns (all_lawful SpellsName erase_name name_lawful ns)

abbrev pub Head : HeadNode → List Placed → List Placed → Type 0
Head p = SpellsHeaded p.0 p.1

abbrev HeadParts : HeadNode → List Placed → List Placed → Type 0
HeadParts p = Then (SpellsName p.0) (SpellsAll SpellsName p.1)

pub head_lawful : (name : Name) (names : List Name) → Lawful Head erase_head (name, names)
head_lawful name names =
    parentheses_lawful HeadParts erase_head (name, names)
    (pair_lawful SpellsName erase_name (SpellsAll SpellsName) erase_names name names (name_lawful name) (all_lawful SpellsName erase_name name_lawful names))

pub head_begins : (p : HeadNode) → Begins (Head p)
head_begins p = parentheses_begin (HeadParts p)

-- first tokens

pub spec_begins : (x : SpecNode) → Begins (SpellsSpec x)
spec_begins (int_spec val _) all rest h e = integer_begins val all rest h.1 e
spec_begins (bit_vector_spec val width _) all rest h e = bits_begin (val, width) all rest h.1 e
spec_begins (bool_spec val _) all rest h e = token_begins (symbol (bool_word val)) all rest h.1 e
spec_begins (var_spec var _) all rest h e = name_begins var all rest h.2 e
spec_begins (enum_spec name variant args _) all rest h e = let opening = h.2.2.1 in cc
spec_begins (pair_spec _ _ _) all rest h e = absurd h
spec_begins _ all rest h e = let opening = h.1.2.1 in cc

-- what stands in the parentheses

abbrev AsParts : AsNode → List Placed → List Placed → Type 0
AsParts p = Then (SpellsSpec p.0) (SpellsTypeModel p.1)

abbrev MarkedParts : (List ℕ → List ℕ) → NamedNode → List Placed → List Placed → Type 0
MarkedParts mark p = Then (SpellsMarked mark p.0) (SpellsSpec p.1)

abbrev Plainly : SpecOp → SpecList → List Placed → List Placed → Type 0
Plainly operator args all rest = (is_plain_operator operator ≡ true) × SpellsSpecs args all rest

abbrev Switching : SpecOp → SpecList → List Placed → List Placed → Type 0
Switching operator args all rest = (operator ≡ op.Switch) × SpellsCases args all rest

abbrev Operands : SpecOp → SpecList → List Placed → List Placed → Type 0
Operands operator args all rest = Plainly operator args all rest ⊎ Switching operator args all rest

abbrev MatchParts : MatchNode → List Placed → List Placed → Type 0
MatchParts p = Then (SpellsSpec p.0) (SpellsArms p.1)

abbrev LetParts : LetNode → List Placed → List Placed → Type 0
LetParts p = Then (InParentheses (SpellsSpecLets p.0)) (SpellsSpec p.1)

abbrev BoundParts : BoundNode → List Placed → List Placed → Type 0
BoundParts p = Then (SpellsNames p.0) (SpellsSpec p.1)

abbrev ExpandParts : ExpandNode → List Placed → List Placed → Type 0
ExpandParts p = Then (SpellsMarked expansion_mark p.0) (SpellsSpecs p.1)

abbrev AreVariantTexts : List ℕ → List ℕ → Type 0
AreVariantTexts name variant =
    (is_identifier name ≡ true) × (is_identifier variant ≡ true)
    × (list_all (λ byte. not (is_dot byte)) name ≡ true) × (is_operator_text (name ++ 46 ∷ variant) ≡ false)

abbrev EnumParts : List ℕ → List ℕ → SpecList → List Placed → List Placed → Type 0
EnumParts name variant args = InParentheses (BehindWord (name ++ 46 ∷ variant) (SpellsSpecs args))

abbrev EnumAt : List ℕ → List ℕ → EnumNode → List Placed → List Placed → Type 0
EnumAt name variant p all rest = (p.0 ≡ (p.1.0, p.1.0)) × At p.1.0 (EnumParts name variant p.1.1) all rest

abbrev PairParts : SpecNode × SpecNode → List Placed → List Placed → Type 0
PairParts p = Then (SpellsSpec p.0) (SpellsSpec p.1)

abbrev Pairs : PairNode → List Placed → List Placed → Type 0
Pairs p = Then (InParentheses (At p.0.0 (PairParts p.0.1))) (SpellsPairs p.1)

abbrev ArmParts : ArmNode → List Placed → List Placed → Type 0
ArmParts p = Then (Head p.0) (SpellsSpec p.1)

abbrev Arms : ArmListNode → List Placed → List Placed → Type 0
Arms p = Then (InParentheses (At p.0.0 (ArmParts p.0.1))) (SpellsArms p.1)

abbrev NamedParts : NamedNode → List Placed → List Placed → Type 0
NamedParts p = Then (SpellsName p.0) (SpellsSpec p.1)

abbrev Lets : LetListNode → List Placed → List Placed → Type 0
Lets p = Then (InParentheses (NamedParts p.0)) (SpellsSpecLets p.1)

abbrev Inits : InitListNode → List Placed → List Placed → Type 0
Inits p = Then (InParentheses (At p.0.0 (NamedParts p.0.1))) (SpellsFieldInits p.1)

-- a kind of spec in parentheses
listed_lawful : {B : Type 0} (Inner : B → List Placed → List Placed → Type 0) (inner : B → B) (con : B → Pos → SpecNode) →
    ((place : Pos) (y : B) (all rest : List Placed) → At place (InParentheses (Inner y)) all rest → SpellsSpec (con y place) all rest) →
    ((place : Pos) (y : B) (all rest : List Placed) → SpellsSpec (con y place) all rest → At place (InParentheses (Inner y)) all rest) →
    ((place : Pos) (y : B) → erase_spec (con y place) ≡ con (inner y) unknown) →
    (pos : Pos) (x : B) → ((y : SpecNode) → con (inner x) unknown ≡ erase_spec y → (z : Pos × B) × (y ≡ con z.1 z.0) × (inner x ≡ inner z.1)) →
    Lawful Inner inner x → Lawful SpellsSpec erase_spec (con x pos)
listed_lawful Inner inner con to from erases pos x only lawful =
    made_at_lawful SpellsSpec erase_spec (λ y. InParentheses (Inner y)) inner con to from erases pos x only
    (parentheses_begin (Inner x)) (parentheses_lawful Inner inner x lawful)

-- the same after a word
worded_lawful : {B : Type 0} (word : List ℕ) (Inner : B → List Placed → List Placed → Type 0) (inner : B → B) (con : B → Pos → SpecNode) →
    ((place : Pos) (y : B) (all rest : List Placed) → At place (InParentheses (BehindWord word (Inner y))) all rest → SpellsSpec (con y place) all rest) →
    ((place : Pos) (y : B) (all rest : List Placed) → SpellsSpec (con y place) all rest → At place (InParentheses (BehindWord word (Inner y))) all rest) →
    ((place : Pos) (y : B) → erase_spec (con y place) ≡ con (inner y) unknown) →
    (pos : Pos) (x : B) → ((y : SpecNode) → con (inner x) unknown ≡ erase_spec y → (z : Pos × B) × (y ≡ con z.1 z.0) × (inner x ≡ inner z.1)) →
    Lawful Inner inner x → Lawful SpellsSpec erase_spec (con x pos)
worded_lawful word Inner inner con to from erases pos x only lawful =
    listed_lawful (λ y. BehindWord word (Inner y)) inner con to from erases pos x only (word_lawful word Inner inner x lawful)

operands_apart : (operator : SpecOp) (y z : SpecList) (all rest after : List Placed) → Plainly operator y all rest → Switching operator z all after → ⊥
operands_apart operator y z all rest after h k = false≢true (sym (ap is_plain_operator k.0) ∙ h.0)

operands_lawful : (operator : SpecOp) (args : SpecList) → Lawful SpellsSpecs erase_specs args → Lawful SpellsCases erase_specs args → Lawful (Operands operator) erase_specs args
operands_lawful operator args plain cases =
    either_lawful (Plainly operator) (Switching operator) erase_specs args (operands_apart operator)
    (where_lawful (λ xs. is_plain_operator operator ≡ true) SpellsSpecs erase_specs args (λ y h. h) (λ y h. h) plain)
    (where_lawful (λ xs. operator ≡ op.Switch) SpellsCases erase_specs args (λ y h. h) (λ y h. h) cases)

-- no tokens spell this node
nothing_lawful : {A : Type 0} (Spells : A → List Placed → List Placed → Type 0) (erase : A → A) (x : A) →
    ((all rest : List Placed) → Spells x all rest → ⊥) → Lawful Spells erase x
nothing_lawful Spells erase x none = record {
  cuts = λ all rest h. absurd (none all rest h);
  erased = λ all rest h. absurd (none all rest h);
  placed = λ all after h. absurd (none (erase_tokens all) after h);
  agree = λ y same all rest after h k. absurd (none all rest h);
}

-- the laws

mutual
  pub spec_lawful : (x : SpecNode) → Lawful SpellsSpec erase_spec x
  spec_lawful (int_spec val pos) =
      made_at_lawful SpellsSpec erase_spec SpellsInteger (λ n. n) int_spec
      (λ place y all rest h. h) (λ place y all rest h. h) (λ place y. refl) pos val (is_int val)
      (integer_begins val) (value_lawful SpellsInteger val integer_plain)
  spec_lawful (bit_vector_spec val width pos) =
      made_at_lawful SpellsSpec erase_spec Bits (λ p. p) (λ p. bit_vector_spec p.0 p.1)
      (λ place y all rest h. h) (λ place y all rest h. h) (λ place y. refl) pos (val, width) (is_bits (val, width))
      (bits_begin (val, width)) (value_lawful Bits (val, width) bits_plain)
  spec_lawful (bool_spec val pos) =
      made_at_lawful SpellsSpec erase_spec (λ b. SpellsWord (bool_word b)) (λ b. b) bool_spec
      (λ place y all rest h. h) (λ place y all rest h. h) (λ place y. refl) pos val (is_bool val)
      (token_begins (symbol (bool_word val))) (value_lawful (λ b. SpellsWord (bool_word b)) val (λ b. word_plain (bool_word b)))
  spec_lawful (var_spec var pos) =
      made_at_lawful SpellsSpec erase_spec (λ n all rest. (is_bool_word n.text ≡ false) × SpellsName n all rest) erase_name var_spec
      (λ place y all rest h. (h.1.0, h.0, h.1.1)) (λ place y all rest h. (h.1, (h.0, h.2))) (λ place y. refl) pos var (is_var var)
      (λ all rest h. name_begins var all rest h.1)
      (where_lawful (λ n. is_bool_word n.text ≡ false) SpellsName erase_name var (λ y h. h) (λ y h. h) (name_lawful var))
  spec_lawful (as_spec x ty pos) =
      worded_lawful (codes "as") AsParts erase_as (λ p. as_spec p.0 p.1)
      (λ place y all rest h. h) (λ place y all rest h. h) (λ place y. refl) pos (x, ty) (is_as (x, ty))
      (pair_lawful SpellsSpec erase_spec SpellsTypeModel erase_model x ty (spec_lawful x) (model_lawful ty))
  spec_lawful (field_spec field x pos) =
      listed_lawful (MarkedParts field_mark) erase_named (λ p. field_spec p.0 p.1)
      (λ place y all rest h. h) (λ place y all rest h. h) (λ place y. refl) pos (field, x) (is_field (field, x))
      (pair_lawful (SpellsMarked field_mark) erase_name SpellsSpec erase_spec field x (marked_lawful field_mark field) (spec_lawful x))
  spec_lawful (discriminator_spec variant x pos) =
      listed_lawful (MarkedParts discriminator_mark) erase_named (λ p. discriminator_spec p.0 p.1)
      (λ place y all rest h. h) (λ place y all rest h. h) (λ place y. refl) pos (variant, x) (is_discriminator (variant, x))
      (pair_lawful (SpellsMarked discriminator_mark) erase_name SpellsSpec erase_spec variant x (marked_lawful discriminator_mark variant) (spec_lawful x))
  spec_lawful (op_spec operator args pos) =
      worded_lawful (operator_text operator) (Operands operator) erase_specs (op_spec operator)
      (λ place y all rest h. h) (λ place y all rest h. h) (λ place y. refl) pos args (is_op operator args)
      (operands_lawful operator args (specs_lawful args) (cases_lawful args))
  spec_lawful (match_spec x arms pos) =
      worded_lawful (codes "match") MatchParts erase_match (λ p. match_spec p.0 p.1)
      (λ place y all rest h. h) (λ place y all rest h. h) (λ place y. refl) pos (x, arms) (is_match (x, arms))
      (pair_lawful SpellsSpec erase_spec SpellsArms erase_arms x arms (spec_lawful x) (arms_lawful arms))
  spec_lawful (let_spec defs body pos) =
      worded_lawful (codes "let") LetParts erase_let (λ p. let_spec p.0 p.1)
      (λ place y all rest h. h) (λ place y all rest h. h) (λ place y. refl) pos (defs, body) (is_let (defs, body))
      (pair_lawful (λ ds. InParentheses (SpellsSpecLets ds)) erase_spec_lets SpellsSpec erase_spec defs body
      (parentheses_lawful SpellsSpecLets erase_spec_lets defs (lets_lawful defs)) (spec_lawful body))
  spec_lawful (with_spec decls body pos) =
      worded_lawful (codes "with") BoundParts erase_bound (λ p. with_spec p.0 p.1)
      (λ place y all rest h. h) (λ place y all rest h. h) (λ place y. refl) pos (decls, body) (is_with (decls, body))
      (pair_lawful SpellsNames erase_names SpellsSpec erase_spec decls body (names_lawful decls) (spec_lawful body))
  spec_lawful (macro_spec params body pos) =
      worded_lawful (codes "macro") BoundParts erase_bound (λ p. macro_spec p.0 p.1)
      (λ place y all rest h. h) (λ place y all rest h. h) (λ place y. refl) pos (params, body) (is_macro (params, body))
      (pair_lawful SpellsNames erase_names SpellsSpec erase_spec params body (names_lawful params) (spec_lawful body))
  spec_lawful (expand_spec name args pos) =
      listed_lawful ExpandParts erase_expand (λ p. expand_spec p.0 p.1)
      (λ place y all rest h. h) (λ place y all rest h. h) (λ place y. refl) pos (name, args) (is_expand (name, args))
      (pair_lawful (SpellsMarked expansion_mark) erase_name SpellsSpecs erase_specs name args (marked_lawful expansion_mark name) (specs_lawful args))
  spec_lawful (pair_spec l r pos) = nothing_lawful SpellsSpec erase_spec (pair_spec l r pos) (λ all rest h. h)
  spec_lawful (enum_spec name variant args pos) =
      made_lawful SpellsSpec erase_spec (λ p all rest. AreVariantTexts name.text variant.text × EnumAt name.text variant.text p all rest) erase_enum (enum_of name.text variant.text)
      (λ y all rest h. (
        record {
          name = h.0.0;
          variant = h.0.1;
          no_dot = h.0.2;
          no_operator = h.0.3;
          name_position = λ i. (h.1.0 i).0;
          variant_position = λ i. (h.1.0 i).1;
        },
        h.1.1.0,
        h.1.1.1,
      ))
      (λ y all rest h. (
        (h.0.name, h.0.variant, h.0.no_dot, h.0.no_operator),
        ((λ i. (h.0.name_position i, h.0.variant_position i)), (h.1, h.2)),
      ))
      (λ y. refl) ((name.pos, variant.pos), (pos, args)) (is_enum name.text variant.text ((name.pos, variant.pos), (pos, args)))
      (where_lawful (λ p. AreVariantTexts name.text variant.text) (EnumAt name.text variant.text) erase_enum ((name.pos, variant.pos), (pos, args))
      (λ y h. h) (λ y h. h)
      (settled_lawful (λ p. (p.0, p.0)) (λ p. (unknown, unknown)) (λ p. At p.0 (EnumParts name.text variant.text p.1)) (λ p. (unknown, erase_specs p.1))
      (name.pos, variant.pos) (pos, args) (λ y. refl)
      (at_lawful (EnumParts name.text variant.text) erase_specs pos args
      (parentheses_begin (BehindWord (name.text ++ 46 ∷ variant.text) (SpellsSpecs args)))
      (parentheses_lawful (λ xs. BehindWord (name.text ++ 46 ∷ variant.text) (SpellsSpecs xs)) erase_specs args
      (word_lawful (name.text ++ 46 ∷ variant.text) SpellsSpecs erase_specs args (specs_lawful args))))))
  spec_lawful (struct_spec fields pos) =
      worded_lawful (codes "struct") SpellsFieldInits erase_field_inits struct_spec
      (λ place y all rest h. h) (λ place y all rest h. h) (λ place y. refl) pos fields (is_struct fields)
      (inits_lawful fields)

  pub specs_lawful : (xs : SpecList) → Lawful SpellsSpecs erase_specs xs
  specs_lawful no_spec = plain_lawful SpellsSpecs erase_specs no_spec refl is_no_spec nothing_plain
  specs_lawful (more_spec x xs) =
      made_lawful SpellsSpecs erase_specs (λ (p : ListNode). Then (SpellsSpec p.0) (SpellsSpecs p.1)) erase_list (λ p. more_spec p.0 p.1)
      (λ y all rest h. h) (λ y all rest h. h) (λ y. refl) (x, xs) (is_more (x, xs))
      (pair_lawful SpellsSpec erase_spec SpellsSpecs erase_specs x xs (spec_lawful x) (specs_lawful xs))

  cases_lawful : (xs : SpecList) → Lawful SpellsCases erase_specs xs
  cases_lawful no_spec = nothing_lawful SpellsCases erase_specs no_spec (λ all rest h. h)
  cases_lawful (more_spec x cases) =
      made_lawful SpellsCases erase_specs (λ (p : ListNode). Then (SpellsSpec p.0) (SpellsPairs p.1)) erase_list (λ p. more_spec p.0 p.1)
      (λ y all rest h. h) (λ y all rest h. h) (λ y. refl) (x, cases) (is_more (x, cases))
      (pair_lawful SpellsSpec erase_spec SpellsPairs erase_specs x cases (spec_lawful x) (pairs_lawful cases))

  pairs_lawful : (xs : SpecList) → Lawful SpellsPairs erase_specs xs
  pairs_lawful no_spec = plain_lawful SpellsPairs erase_specs no_spec refl is_no_spec nothing_plain
  pairs_lawful (more_spec (pair_spec l r pos) pairs) =
      made_lawful SpellsPairs erase_specs Pairs erase_pairs pair_list
      (λ y all rest h. (h.0, (h.1.0, h.1.1, h.1.2, (h.1.3.0, h.1.3.1.0, h.1.3.1.1, h.1.3.1.2), h.1.4), h.2))
      (λ y all rest h. (h.0, (h.1.0, h.1.1, h.1.2, (h.1.3.0, (h.1.3.1, h.1.3.2, h.1.3.3)), h.1.4), h.2))
      (λ y. refl) ((pos, (l, r)), pairs) (is_pair ((pos, (l, r)), pairs))
      (pair_lawful (λ p. InParentheses (At p.0 (PairParts p.1))) (λ p. (unknown, erase_both p.1)) SpellsPairs erase_specs (pos, (l, r)) pairs
      (parentheses_lawful (λ p. At p.0 (PairParts p.1)) (λ p. (unknown, erase_both p.1)) (pos, (l, r))
      (at_lawful PairParts erase_both pos (l, r) (λ all rest h. spec_begins l all h.0 h.1)
      (pair_lawful SpellsSpec erase_spec SpellsSpec erase_spec l r (spec_lawful l) (spec_lawful r))))
      (pairs_lawful pairs))
  pairs_lawful (more_spec x pairs) = nothing_lawful SpellsPairs erase_specs (more_spec x pairs) (λ all rest h. h)

  arms_lawful : (arms : ArmList) → Lawful SpellsArms erase_arms arms
  arms_lawful no_arm = plain_lawful SpellsArms erase_arms no_arm refl is_no_arm nothing_plain
  arms_lawful (more_arm variant args body pos arms) =
      made_lawful SpellsArms erase_arms Arms erase_arm_list arm_list
      (λ y all rest h. (h.0, (h.1.0, h.1.1, h.1.2, (h.1.3.0, h.1.3.1.0, h.1.3.1.1, h.1.3.1.2), h.1.4), h.2))
      (λ y all rest h. (h.0, (h.1.0, h.1.1, h.1.2, (h.1.3.0, (h.1.3.1, h.1.3.2, h.1.3.3)), h.1.4), h.2))
      (λ y. refl) ((pos, ((variant, args), body)), arms) (is_arm ((pos, ((variant, args), body)), arms))
      (pair_lawful (λ p. InParentheses (At p.0 (ArmParts p.1))) (λ p. (unknown, erase_arm p.1)) SpellsArms erase_arms (pos, ((variant, args), body)) arms
      (parentheses_lawful (λ p. At p.0 (ArmParts p.1)) (λ p. (unknown, erase_arm p.1)) (pos, ((variant, args), body))
      (at_lawful ArmParts erase_arm pos ((variant, args), body) (λ all rest h. head_begins (variant, args) all h.0 h.1)
      (pair_lawful Head erase_head SpellsSpec erase_spec (variant, args) body (head_lawful variant args) (spec_lawful body))))
      (arms_lawful arms))

  lets_lawful : (lets : SpecLetList) → Lawful SpellsSpecLets erase_spec_lets lets
  lets_lawful no_spec_let = plain_lawful SpellsSpecLets erase_spec_lets no_spec_let refl is_no_let nothing_plain
  lets_lawful (more_spec_let name value lets) =
      made_lawful SpellsSpecLets erase_spec_lets Lets erase_let_list let_list
      (λ y all rest h. h) (λ y all rest h. h) (λ y. refl) ((name, value), lets) (is_more_let ((name, value), lets))
      (pair_lawful (λ p. InParentheses (NamedParts p)) erase_named SpellsSpecLets erase_spec_lets (name, value) lets
      (parentheses_lawful NamedParts erase_named (name, value)
      (pair_lawful SpellsName erase_name SpellsSpec erase_spec name value (name_lawful name) (spec_lawful value)))
      (lets_lawful lets))

  inits_lawful : (fields : FieldInitList) → Lawful SpellsFieldInits erase_field_inits fields
  inits_lawful no_field_init = plain_lawful SpellsFieldInits erase_field_inits no_field_init refl is_no_init nothing_plain
  inits_lawful (more_field_init name value pos fields) =
      made_lawful SpellsFieldInits erase_field_inits Inits erase_init_list init_list
      (λ y all rest h. (h.0, (h.1.0, h.1.1, h.1.2, (h.1.3.0, h.1.3.1.0, h.1.3.1.1, h.1.3.1.2), h.1.4), h.2))
      (λ y all rest h. (h.0, (h.1.0, h.1.1, h.1.2, (h.1.3.0, (h.1.3.1, h.1.3.2, h.1.3.3)), h.1.4), h.2))
      (λ y. refl) ((pos, (name, value)), fields) (is_init ((pos, (name, value)), fields))
      (pair_lawful (λ p. InParentheses (At p.0 (NamedParts p.1))) (λ p. (unknown, erase_named p.1)) SpellsFieldInits erase_field_inits (pos, (name, value)) fields
      (parentheses_lawful (λ p. At p.0 (NamedParts p.1)) (λ p. (unknown, erase_named p.1)) (pos, (name, value))
      (at_lawful NamedParts erase_named pos (name, value) (λ all rest h. name_begins name all h.0 h.1)
      (pair_lawful SpellsName erase_name SpellsSpec erase_spec name value (name_lawful name) (spec_lawful value))))
      (inits_lawful fields))
