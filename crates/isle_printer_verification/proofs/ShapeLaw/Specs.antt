-- The tokens of the shape of a writable spec expression spell it, erased.
use Rattle.std.proofs.Common.{◌≡◌, ◌≢◌, ℕ, List, [], ◌∷◌, ◌++◌, codes, true, false, ◌||◌, not, ◌⊎◌, inl, inr, refl, ap, ◌∙◌, ne_eqb}
use Rattle.std.proofs.lemmas.Bool.{and_from}
use Rattle.std.specs.List.{list_all}
use Rattle.std.specs.Str.{bytes_eq}
use Rattle.isle_base.specs.Place.{Placed, unknown}
use Rattle.isle_base.specs.Token.{Tok, rparen, symbol}
use Rattle.isle_ast_verification.specs.declared.spec.SpecOp.{SpecOp}
use Rattle.isle_ast_verification.specs.Operators.{operator_text}
use Rattle.isle_ast_verification.specs.Erased.{erase_spec, erase_specs, erase_arms, erase_spec_lets, erase_field_inits}
use Rattle.isle_ast_verification.specs.Writable.{IsWritableBitVector, IsWritableVariantName, IsWritableSpec, AreWritableSpecs, AreWritableCases, AreWritablePairs, AreWritableArms, AreWritableSpecLets, AreWritableFieldInits}
use Rattle.isle_ast_names.specs.Tree.{Name}
use Rattle.isle_ast_verification.specs.Tree.{SpecNode, int_spec, bit_vector_spec, bool_spec, var_spec, as_spec, field_spec, discriminator_spec, op_spec, match_spec, let_spec, with_spec, macro_spec}
use Rattle.isle_ast_verification.specs.Tree.{expand_spec, pair_spec, enum_spec, struct_spec, SpecList, no_spec, more_spec, ArmList, no_arm, more_arm, SpecLetList, no_spec_let, more_spec_let}
use Rattle.isle_ast_verification.specs.Tree.{FieldInitList, no_field_init, more_field_init}
use Rattle.isle_ast_names.specs.Words.{BeginsAt, SpellsAll, InParentheses, BehindWord, SpellsName, bool_word, is_bool_word}
use Rattle.isle_ast_names.specs.Erased.{erase_name, erase_names}
use Rattle.isle_ast_verification.specs.SpecGrammar.{SpellsBitVector, SpellsMarked, field_mark, discriminator_mark, expansion_mark, SpellsNames, SpellsHeaded, is_dot, dotted, AreVariant}
use Rattle.isle_ast_verification.specs.SpecGrammar.{is_plain_operator, SpellsSpec, SpellsSpecs, SpellsCases, SpellsPairs, SpellsArms, SpellsSpecLets, SpellsFieldInits}
use Rattle.isle_ast_names.specs.Writable.{IsName, Each}
use Rattle.isle_printer_layout.specs.ReadBack.{ReadsAs, unplaced}
use Rattle.isle_printer_layout.specs.Sexp.{Sexp, atom, list_of}
use Rattle.isle_printer_layout.specs.NameShapes.{name_shape, name_shapes, form_shape, names_shape, headed_shape}
use Rattle.isle_printer_verification.specs.SpecShapes.{bit_vector_text, spec_shape, spec_shapes, arm_shapes, spec_let_shapes, field_init_shapes}
use Rattle.isle_printer_verification.proofs.BitVectorAtoms.{bit_vector_text-atom}
use Rattle.isle_printer_verification.proofs.ShapeLaw.Models.{spell-model}
use Rattle.isle_printer_verification.proofs.OperatorSymbols.{operator-ReadsAs, field-ReadsAs, discriminator-ReadsAs, expansion-ReadsAs, dotted-ReadsAs}
use Rattle.isle_printer_layout.proofs.Spellings.{word-bool, spell-integer, ◌then◌, item-ahead, Spelling, placed, spell-nothing, spell-word, spell-name, spell-names, spell-list, spell-form, InTurn, spell-turn, differs-test}
use Rattle.isle_printer_layout.proofs.WordSymbols.{word-as, word-match, word-let, word-with, word-macro, word-struct}
use Rattle.isle_ast_verification.specs.declared.spec.SpecOp.TheVariants as op

-- atoms

spell-bit_vector : (val width : ℕ) → IsWritableBitVector val width → (rest : List Tok) → Spelling (atom (bit_vector_text val width) ∷ []) (SpellsBitVector val width) rest
spell-bit_vector val width is rest =
    let is_atom = bit_vector_text-atom val width is in
    let s = spell-word (bit_vector_text val width) is_atom.reads rest in
    record { all = s.all; tokens = s.tokens; spells = (bit_vector_text val width, is_atom.means, s.spells) }

spell-marked : (mark : List ℕ → List ℕ) (n : Name) → IsName n → ReadsAs (mark n.text) (symbol (mark n.text)) → (rest : List Tok) → Spelling (atom (mark n.text) ∷ []) (SpellsMarked mark (erase_name n)) rest
spell-marked mark n is reads rest = record {
  all = symbol (mark n.text) ∷ rest;
  tokens = record { are = (rest, (symbol (mark n.text), refl, reads, refl), refl) };
  spells = (is, refl);
}

no_bool-test : (text : List ℕ) → text ≢ codes "true" → text ≢ codes "false" → is_bool_word text ≡ false
no_bool-test text not_true not_false =
    ap (λ t. t || bytes_eq text (codes "false")) (differs-test text (codes "true") _ refl not_true)
    ∙ differs-test text (codes "false") _ refl not_false

-- names in parentheses

spell-names_list : (ns : List Name) → Each IsName ns → (rest : List Tok) → Spelling (names_shape ns ∷ []) (SpellsNames (erase_names ns)) rest
spell-names_list ns is rest =
    spell-list (name_shapes ns) (SpellsAll SpellsName (erase_names ns)) rest (spell-names ns is (rparen ∷ rest))

pub spell-headed : (n : Name) (ns : List Name) → IsName n → Each IsName ns → (rest : List Tok) → Spelling (headed_shape n ns ∷ []) (SpellsHeaded (erase_name n) (erase_names ns)) rest
spell-headed n ns is are rest =
    let behind = spell-names ns are (rparen ∷ rest) in
    let first = spell-name n is behind.all in
    spell-list (name_shape n ∷ name_shapes ns) (InTurn (SpellsName (erase_name n)) (SpellsAll SpellsName (erase_names ns))) rest (spell-turn behind first)

-- one part and then another, with something ahead
abbrev InPlacedTurn : (List Placed → List Placed → Type 0) → (List Placed → List Placed → Type 0) → List Placed → List Placed → Type 0
InPlacedTurn First Second all rest = BeginsAt unknown all × (mid : List Placed) × First all mid × Second mid rest

spell-placed_turn : {x : Sexp} {xs ys : List Sexp} {First Second : List Placed → List Placed → Type 0} {rest : List Tok}
    → (second : Spelling ys Second rest) → Spelling (x ∷ xs) First second.all → Spelling (x ∷ (xs ++ ys)) (InPlacedTurn First Second) rest
spell-placed_turn second first = record {
  all = first.all;
  tokens = first.tokens then second.tokens;
  spells = (item-ahead first.tokens, unplaced second.all, first.spells, second.spells);
}

-- the same in parentheses, alone and after a word

spell-list_turn : {x : Sexp} {xs ys : List Sexp} {First Second : List Placed → List Placed → Type 0} {rest : List Tok}
    → (second : Spelling ys Second (rparen ∷ rest)) → Spelling (x ∷ xs) First second.all
    → Spelling (list_of (x ∷ (xs ++ ys)) ∷ []) (λ all rest. BeginsAt unknown all × InParentheses (InTurn First Second) all rest) rest
spell-list_turn {x} {xs} {ys} {First} {Second} {rest} second first =
    placed (spell-list (x ∷ (xs ++ ys)) (InTurn First Second) rest (spell-turn second first))

spell-form_turn : (word : List ℕ) → ReadsAs word (symbol word) → {x : Sexp} {xs ys : List Sexp} {First Second : List Placed → List Placed → Type 0} {rest : List Tok}
    → (second : Spelling ys Second (rparen ∷ rest)) → Spelling (x ∷ xs) First second.all
    → Spelling (form_shape word (x ∷ (xs ++ ys)) ∷ []) (λ all rest. BeginsAt unknown all × InParentheses (BehindWord word (InTurn First Second)) all rest) rest
spell-form_turn word reads {x} {xs} {ys} {First} {Second} {rest} second first =
    placed (spell-form word reads (x ∷ (xs ++ ys)) (InTurn First Second) rest (spell-turn second first))

-- the tests on a variant and on an operator

no_dot-test : (text : List ℕ) → ((before behind : List ℕ) → text ≢ before ++ 46 ∷ behind) → list_all (λ byte. not (is_dot byte)) text ≡ true
no_dot-test [] other = refl
no_dot-test (b ∷ bs) other =
    and_from _ _
    (ap not (ne_eqb b 46 (λ e. other [] bs (ap (λ x. x ∷ bs) e))))
    (no_dot-test bs (λ before behind e. other (b ∷ before) behind (ap (λ text. b ∷ text) e)))

variant-test : (enum case : Name) → IsWritableVariantName enum case → AreVariant (erase_name enum) (erase_name case) unknown
variant-test enum case is = record {
  name = is.name;
  variant = is.variant;
  no_dot = no_dot-test enum.text is.no_dot;
  no_operator = is.no_operator;
  name_position = refl;
  variant_position = refl;
}

plain-test : (operator : SpecOp) → operator ≢ op.Switch → is_plain_operator operator ≡ true
plain-test op.Switch no_switch = absurd (no_switch refl)
plain-test _ no_switch = refl

-- what comes after an operator
abbrev SpellsArguments : SpecOp → SpecList → List Placed → List Placed → Type 0
SpellsArguments operator args inner close =
    (is_plain_operator operator ≡ true) × SpellsSpecs args inner close ⊎ (operator ≡ op.Switch) × SpellsCases args inner close

plain-arguments : (operator : SpecOp) (args : SpecList) {rest : List Tok} → operator ≢ op.Switch
    → Spelling (spec_shapes args) (SpellsSpecs (erase_specs args)) rest → Spelling (spec_shapes args) (SpellsArguments operator (erase_specs args)) rest
plain-arguments operator args no_switch s =
    record { all = s.all; tokens = s.tokens; spells = inl (plain-test operator no_switch, s.spells) }

switch-arguments : (operator : SpecOp) (args : SpecList) {rest : List Tok} → operator ≡ op.Switch
    → Spelling (spec_shapes args) (SpellsCases (erase_specs args)) rest → Spelling (spec_shapes args) (SpellsArguments operator (erase_specs args)) rest
switch-arguments operator args switch s = record { all = s.all; tokens = s.tokens; spells = inr (switch, s.spells) }

mutual
  pub spell-spec : (x : SpecNode) → IsWritableSpec x → (rest : List Tok) → Spelling (spec_shape x ∷ []) (SpellsSpec (erase_spec x)) rest
  spell-spec (int_spec val _) is rest = placed (spell-integer val is rest)
  spell-spec (bit_vector_spec val width _) is rest = placed (spell-bit_vector val width is rest)
  spell-spec (bool_spec val _) is rest = placed (spell-word (bool_word val) (word-bool val) rest)
  spell-spec (var_spec var _) is rest =
      let s = spell-name var is.0 rest in
      record { all = s.all; tokens = s.tokens; spells = (no_bool-test var.text is.1 is.2, item-ahead s.tokens, s.spells) }
  spell-spec (as_spec x ty _) is rest =
      let second = spell-model ty is.1 (rparen ∷ rest) in
      spell-form_turn (codes "as") word-as second (spell-spec x is.0 second.all)
  spell-spec (field_spec field x _) is rest =
      let second = spell-spec x is.1 (rparen ∷ rest) in
      spell-list_turn second (spell-marked field_mark field is.0 (field-ReadsAs field is.0) second.all)
  spell-spec (discriminator_spec variant x _) is rest =
      let second = spell-spec x is.1 (rparen ∷ rest) in
      spell-list_turn second (spell-marked discriminator_mark variant is.0 (discriminator-ReadsAs variant is.0) second.all)
  spell-spec (op_spec operator args _) is rest =
      placed
      (spell-form (operator_text operator) (operator-ReadsAs operator) (spec_shapes args)
      (SpellsArguments operator (erase_specs args))
      rest
      (elim is [
        | inl h ↦ switch-arguments operator args h.0 (spell-cases args h.1 (rparen ∷ rest))
        | inr h ↦ plain-arguments operator args h.0 (spell-specs args h.1 (rparen ∷ rest))
      ]))
  spell-spec (match_spec x arms _) is rest =
      let second = spell-arms arms is.1 (rparen ∷ rest) in
      spell-form_turn (codes "match") word-match second (spell-spec x is.0 second.all)
  spell-spec (let_spec defs body _) is rest =
      let second = spell-spec body is.1 (rparen ∷ rest) in
      let inner = spell-spec_lets defs is.0 (rparen ∷ second.all) in
      let first = spell-list (spec_let_shapes defs) (SpellsSpecLets (erase_spec_lets defs)) second.all inner in
      spell-form_turn (codes "let") word-let second first
  spell-spec (with_spec decls body _) is rest =
      let second = spell-spec body is.1 (rparen ∷ rest) in
      spell-form_turn (codes "with") word-with second (spell-names_list decls is.0 second.all)
  spell-spec (macro_spec params body _) is rest =
      let second = spell-spec body is.1 (rparen ∷ rest) in
      spell-form_turn (codes "macro") word-macro second (spell-names_list params is.0 second.all)
  spell-spec (expand_spec name args _) is rest =
      let second = spell-specs args is.1 (rparen ∷ rest) in
      spell-list_turn second (spell-marked expansion_mark name is.0 (expansion-ReadsAs name is.0) second.all)
  spell-spec (pair_spec _ _ _) is rest = absurd is
  spell-spec (enum_spec name variant args _) is rest =
      let names = is.0 in
      let inner = spell-specs args is.1 (rparen ∷ rest) in
      let s = spell-form (dotted name variant) (dotted-ReadsAs name variant names.name names.variant) (spec_shapes args) (SpellsSpecs (erase_specs args)) rest inner in
      record { all = s.all; tokens = s.tokens; spells = (variant-test name variant names, item-ahead s.tokens, s.spells) }
  spell-spec (struct_spec fields _) is rest =
      placed
      (spell-form (codes "struct") word-struct (field_init_shapes fields) (SpellsFieldInits (erase_field_inits fields)) rest
      (spell-field_inits fields is (rparen ∷ rest)))

  spell-specs : (xs : SpecList) → AreWritableSpecs xs → (rest : List Tok) → Spelling (spec_shapes xs) (SpellsSpecs (erase_specs xs)) rest
  spell-specs no_spec is rest = spell-nothing rest
  spell-specs (more_spec x xs) is rest =
      let behind = spell-specs xs is.1 rest in
      spell-turn behind (spell-spec x is.0 behind.all)

  spell-cases : (xs : SpecList) → AreWritableCases xs → (rest : List Tok) → Spelling (spec_shapes xs) (SpellsCases (erase_specs xs)) rest
  spell-cases no_spec is rest = absurd is
  spell-cases (more_spec x cases) is rest =
      let behind = spell-pairs cases is.1 rest in
      spell-turn behind (spell-spec x is.0 behind.all)

  spell-pairs : (xs : SpecList) → AreWritablePairs xs → (rest : List Tok) → Spelling (spec_shapes xs) (SpellsPairs (erase_specs xs)) rest
  spell-pairs no_spec is rest = spell-nothing rest
  spell-pairs (more_spec (pair_spec l r _) pairs) is rest =
      let behind = spell-pairs pairs is.2 rest in
      let second = spell-spec r is.1 (rparen ∷ behind.all) in
      let first = spell-spec l is.0 second.all in
      let pair = spell-list (spec_shape l ∷ spec_shape r ∷ []) (InPlacedTurn (SpellsSpec (erase_spec l)) (SpellsSpec (erase_spec r))) behind.all (spell-placed_turn second first) in
      spell-turn behind pair
  spell-pairs (more_spec _ _) is rest = absurd is

  spell-arms : (arms : ArmList) → AreWritableArms arms → (rest : List Tok) → Spelling (arm_shapes arms) (SpellsArms (erase_arms arms)) rest
  spell-arms no_arm is rest = spell-nothing rest
  spell-arms (more_arm variant args body _ arms) is rest =
      let behind = spell-arms arms is.3 rest in
      let second = spell-spec body is.2 (rparen ∷ behind.all) in
      let first = spell-headed variant args is.0 is.1 second.all in
      let arm = spell-list (headed_shape variant args ∷ spec_shape body ∷ [])
      (InPlacedTurn (SpellsHeaded (erase_name variant) (erase_names args)) (SpellsSpec (erase_spec body)))
      behind.all
      (spell-placed_turn second first) in
      spell-turn behind arm

  spell-spec_lets : (lets : SpecLetList) → AreWritableSpecLets lets → (rest : List Tok) → Spelling (spec_let_shapes lets) (SpellsSpecLets (erase_spec_lets lets)) rest
  spell-spec_lets no_spec_let is rest = spell-nothing rest
  spell-spec_lets (more_spec_let name value lets) is rest =
      let behind = spell-spec_lets lets is.2 rest in
      let second = spell-spec value is.1 (rparen ∷ behind.all) in
      let first = spell-name name is.0 second.all in
      let definition = spell-list (name_shape name ∷ spec_shape value ∷ []) (InTurn (SpellsName (erase_name name)) (SpellsSpec (erase_spec value))) behind.all (spell-turn second first) in
      spell-turn behind definition

  spell-field_inits : (fields : FieldInitList) → AreWritableFieldInits fields → (rest : List Tok) → Spelling (field_init_shapes fields) (SpellsFieldInits (erase_field_inits fields)) rest
  spell-field_inits no_field_init is rest = spell-nothing rest
  spell-field_inits (more_field_init name value _ fields) is rest =
      let behind = spell-field_inits fields is.2 rest in
      let second = spell-spec value is.1 (rparen ∷ behind.all) in
      let first = spell-name name is.0 second.all in
      let field = spell-list (name_shape name ∷ spec_shape value ∷ []) (InPlacedTurn (SpellsName (erase_name name)) (SpellsSpec (erase_spec value))) behind.all (spell-placed_turn second first) in
      spell-turn behind field
