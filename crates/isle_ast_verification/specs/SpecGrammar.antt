-- Spec expressions. The position of one is that of its first token, but for a pair of a `switch`,
-- an arm and a field it is that of the token after its `(`.
use Rattle.std.specs.Prelude.{◌≡◌, ℕ, nat_eq, List, [], ◌∷◌, ◌++◌, Bool, true, false, not, ◌⊎◌, codes}
use Rattle.std.specs.List.{list_all}
use Rattle.isle_base.specs.Bytes.{exclamation_mark, dot, colon, question_mark}
use Rattle.isle_base_source.specs.declared.pos.Pos.{Pos}
use Rattle.isle_base.specs.Place.{Placed}
use Rattle.isle_base.specs.Token.{symbol}
use Rattle.isle_ast_verification.specs.declared.spec.SpecOp.{SpecOp}
use Rattle.isle_ast_verification.specs.BitVectors.{IsBitVector}
use Rattle.isle_ast_names.specs.Identifier.{is_identifier}
use Rattle.isle_ast_names.specs.Numbers.{SpellsInteger}
use Rattle.isle_ast_verification.specs.Operators.{operator_text, is_operator_text}
use Rattle.isle_ast_names.specs.Tree.{Name}
use Rattle.isle_ast_verification.specs.Tree.{SpecNode, int_spec, bit_vector_spec, bool_spec, var_spec, as_spec, field_spec, discriminator_spec, op_spec, match_spec, let_spec, with_spec, macro_spec, expand_spec, pair_spec, enum_spec, struct_spec, SpecList, no_spec, more_spec, ArmList, no_arm, more_arm, SpecLetList, no_spec_let, more_spec_let, FieldInitList, no_field_init, more_field_init}
use Rattle.isle_ast_names.specs.Words.{SpellsWord, BeginsAt, SpellsAll, InParentheses, BehindWord, SpellsName, bool_word, is_bool_word}
use Rattle.isle_ast_verification.specs.TypeModelGrammar.{SpellsTypeModel}
use Rattle.isle_ast_verification.specs.declared.spec.SpecOp.TheVariants as op

-- a bit vector, as one symbol
abbrev pub SpellsBitVector : ℕ → ℕ → List Placed → List Placed → Type 0
SpellsBitVector val width all rest = (text : List ℕ) × IsBitVector text val width × SpellsWord text all rest

-- an identifier and a mark, as one symbol: `mark` adds the mark to the text
abbrev pub SpellsMarked : (List ℕ → List ℕ) → Name → List Placed → List Placed → Type 0
SpellsMarked mark name all rest =
    (is_identifier name.text ≡ true) × (all ≡ record { pos = name.pos; token = symbol (mark name.text) } ∷ rest)

-- `:I`
abbrev pub field_mark : List ℕ → List ℕ
field_mark text = colon ∷ text

-- `I?`
abbrev pub discriminator_mark : List ℕ → List ℕ
discriminator_mark text = text ++ question_mark ∷ []

-- `I!`
abbrev pub expansion_mark : List ℕ → List ℕ
expansion_mark text = text ++ exclamation_mark ∷ []

-- identifiers in parentheses
abbrev pub SpellsNames : List Name → List Placed → List Placed → Type 0
SpellsNames names = InParentheses (SpellsAll SpellsName names)

-- a name and further names, in parentheses
abbrev pub SpellsHeaded : Name → List Name → List Placed → List Placed → Type 0
SpellsHeaded name names =
    InParentheses (λ inner close. (mid : List Placed) × SpellsName name inner mid × SpellsAll SpellsName names mid close)

abbrev pub is_dot : ℕ → Bool
is_dot byte = nat_eq byte dot

-- the two names of a variant in one text, split at its first dot
abbrev pub dotted : Name → Name → List ℕ
dotted name variant = name.text ++ dot ∷ variant.text

-- The first name has no dot, and the two together are no operator. Their position is that of the
-- `(`.
pub record AreVariant (enum case : Name) (place : Pos) : Type 0 where
  pub name : is_identifier enum.text ≡ true
  pub variant : is_identifier case.text ≡ true
  pub no_dot : list_all (λ byte. not (is_dot byte)) enum.text ≡ true
  pub no_operator : is_operator_text (dotted enum case) ≡ false
  pub name_position : enum.pos ≡ place
  pub variant_position : case.pos ≡ place

-- an operator with any arguments
abbrev pub is_plain_operator : SpecOp → Bool
is_plain_operator op.Switch = false
is_plain_operator _ = true

-- The first word decides the kind of an expression in parentheses. It is one of these words, or
-- else a text that ends with `?` or `!`, an operator, a text that begins with `:`, or a text with a
-- dot.
abbrev mutual
  pub SpellsSpec : SpecNode → List Placed → List Placed → Type 0
  SpellsSpec (int_spec val pos) all rest = BeginsAt pos all × SpellsInteger val all rest
  SpellsSpec (bit_vector_spec val width pos) all rest = BeginsAt pos all × SpellsBitVector val width all rest
  SpellsSpec (bool_spec val pos) all rest = BeginsAt pos all × SpellsWord (bool_word val) all rest
  SpellsSpec (var_spec var pos) all rest = (is_bool_word var.text ≡ false) × BeginsAt pos all × SpellsName var all rest
  SpellsSpec (as_spec x ty pos) all rest =
      BeginsAt pos all
      × InParentheses
      (BehindWord (codes "as") (λ inner close. (mid : List Placed) × SpellsSpec x inner mid × SpellsTypeModel ty mid close))
      all
      rest
  SpellsSpec (field_spec field x pos) all rest =
      BeginsAt pos all
      × InParentheses (λ inner close. (mid : List Placed) × SpellsMarked field_mark field inner mid × SpellsSpec x mid close) all rest
  SpellsSpec (discriminator_spec variant x pos) all rest =
      BeginsAt pos all
      × InParentheses
      (λ inner close. (mid : List Placed) × SpellsMarked discriminator_mark variant inner mid × SpellsSpec x mid close)
      all
      rest
  SpellsSpec (op_spec operator args pos) all rest =
      BeginsAt pos all
      × InParentheses
      (BehindWord
      (operator_text operator)
      (λ inner close. (is_plain_operator operator ≡ true) × SpellsSpecs args inner close
      ⊎ (operator ≡ op.Switch) × SpellsCases args inner close))
      all
      rest
  SpellsSpec (match_spec x arms pos) all rest =
      BeginsAt pos all
      × InParentheses
      (BehindWord (codes "match") (λ inner close. (mid : List Placed) × SpellsSpec x inner mid × SpellsArms arms mid close))
      all
      rest
  SpellsSpec (let_spec defs body pos) all rest =
      BeginsAt pos all
      × InParentheses
      (BehindWord
      (codes "let")
      (λ inner close. (mid : List Placed) × InParentheses (SpellsSpecLets defs) inner mid × SpellsSpec body mid close))
      all
      rest
  SpellsSpec (with_spec decls body pos) all rest =
      BeginsAt pos all
      × InParentheses
      (BehindWord (codes "with") (λ inner close. (mid : List Placed) × SpellsNames decls inner mid × SpellsSpec body mid close))
      all
      rest
  SpellsSpec (macro_spec params body pos) all rest =
      BeginsAt pos all
      × InParentheses
      (BehindWord (codes "macro") (λ inner close. (mid : List Placed) × SpellsNames params inner mid × SpellsSpec body mid close))
      all
      rest
  SpellsSpec (expand_spec name args pos) all rest =
      BeginsAt pos all
      × InParentheses (λ inner close. (mid : List Placed) × SpellsMarked expansion_mark name inner mid × SpellsSpecs args mid close) all rest
  SpellsSpec (pair_spec l r pos) all rest = ⊥
  SpellsSpec (enum_spec name variant args pos) all rest =
      AreVariant name variant pos × BeginsAt pos all
      × InParentheses (BehindWord (dotted name variant) (SpellsSpecs args)) all rest
  SpellsSpec (struct_spec fields pos) all rest =
      BeginsAt pos all × InParentheses (BehindWord (codes "struct") (SpellsFieldInits fields)) all rest

  pub SpellsSpecs : SpecList → List Placed → List Placed → Type 0
  SpellsSpecs no_spec all rest = all ≡ rest
  SpellsSpecs (more_spec x xs) all rest = (mid : List Placed) × SpellsSpec x all mid × SpellsSpecs xs mid rest

  -- the subject of a `switch`, and its cases
  pub SpellsCases : SpecList → List Placed → List Placed → Type 0
  SpellsCases no_spec all rest = ⊥
  SpellsCases (more_spec x cases) all rest = (mid : List Placed) × SpellsSpec x all mid × SpellsPairs cases mid rest

  -- `(E E)` for each
  pub SpellsPairs : SpecList → List Placed → List Placed → Type 0
  SpellsPairs no_spec all rest = all ≡ rest
  SpellsPairs (more_spec (pair_spec l r pos) pairs) all rest =
      (mid : List Placed)
      × InParentheses
      (λ inner close. BeginsAt pos inner × (behind : List Placed) × SpellsSpec l inner behind × SpellsSpec r behind close)
      all
      mid
      × SpellsPairs pairs mid rest
  SpellsPairs (more_spec _ pairs) all rest = ⊥

  -- `((I I..) E)` for each
  pub SpellsArms : ArmList → List Placed → List Placed → Type 0
  SpellsArms no_arm all rest = all ≡ rest
  SpellsArms (more_arm variant args body pos arms) all rest =
      (mid : List Placed)
      × InParentheses
      (λ inner close. BeginsAt pos inner × (behind : List Placed) × SpellsHeaded variant args inner behind × SpellsSpec body behind close)
      all
      mid
      × SpellsArms arms mid rest

  -- `(I E)` for each
  pub SpellsSpecLets : SpecLetList → List Placed → List Placed → Type 0
  SpellsSpecLets no_spec_let all rest = all ≡ rest
  SpellsSpecLets (more_spec_let name value lets) all rest =
      (mid : List Placed)
      × InParentheses (λ inner close. (behind : List Placed) × SpellsName name inner behind × SpellsSpec value behind close) all mid
      × SpellsSpecLets lets mid rest

  -- `(I E)` for each
  pub SpellsFieldInits : FieldInitList → List Placed → List Placed → Type 0
  SpellsFieldInits no_field_init all rest = all ≡ rest
  SpellsFieldInits (more_field_init name value pos fields) all rest =
      (mid : List Placed)
      × InParentheses
      (λ inner close. BeginsAt pos inner × (behind : List Placed) × SpellsName name inner behind × SpellsSpec value behind close)
      all
      mid
      × SpellsFieldInits fields mid rest
