-- The tokens of the shape of a writable spec, macro or state spell it, erased. The clauses of a
-- spec are one of each kind that says something, and then one for each state that is changed.
use Rattle.std.proofs.Common.{◌≡◌, ℕ, List, [], ◌∷◌, ◌++◌, map, codes, Option, None, Some, IfSome, refl, ap, ◌∙◌}
use Rattle.std.proofs.lemmas.List.{append-nil}
use Rattle.isle_base.specs.Place.{Placed}
use Rattle.isle_base.specs.Token.{Tok, rparen, symbol}
use Rattle.isle_ast_verification.specs.Erased.{erase_spec, erase_modified, erase_spec_definition, erase_spec_macro, erase_state, erase_model}
use Rattle.isle_ast_verification.specs.Writable.{IsWritableSpec, IsWritableModified, IsWritableSpecDefinition, IsWritableSpecMacro, IsWritableState}
use Rattle.isle_ast_names.specs.Tree.{Name}
use Rattle.isle_ast_verification.specs.Tree.{SpecNode, ModifiedState, SpecDefinition, SpecMacroDefinition, StateDefinition}
use Rattle.isle_ast_names.specs.Words.{SpellsAll, InParentheses, BehindWord, SpellsName, SpellsOptional}
use Rattle.isle_ast_names.specs.Erased.{erase_name, erase_optional}
use Rattle.isle_ast_verification.specs.SpecDefinitionGrammar.{SpecClause, provide_clause, require_clause, match_clause, modifies_clause, SpellsClause, provided, required, matched, modified}
use Rattle.isle_ast_verification.specs.SpecDefinitionGrammar.{SpellsSpecDefinition, SpellsSpecMacro, SpellsState}
use Rattle.isle_ast_verification.specs.SpecGrammar.{SpellsSpec}
use Rattle.isle_ast_verification.specs.TypeModelGrammar.{SpellsTypeModel}
use Rattle.isle_ast_names.specs.Writable.{IsName, Each}
use Rattle.isle_printer_layout.specs.ReadBack.{ReadsAs, unplaced}
use Rattle.isle_printer_layout.specs.NameShapes.{name_shape}
use Rattle.isle_printer_verification.specs.SpecShapes.{model_shape, spec_shape, state_condition_shape, modifies_shape, clause_shape, spec_definition_shape, spec_macro_shape, state_shape}
use Rattle.isle_printer_verification.proofs.ShapeLaw.Models.{spell-model}
use Rattle.isle_printer_verification.proofs.ShapeLaw.Specs.{spell-spec, spell-headed}
use Rattle.isle_printer_layout.proofs.Spellings.{◌then◌, item-ahead, Spelling, spell-nothing, spell-word, spell-name, spell-all, spell-list, spell-form, InTurn, spell-turn}
use Rattle.isle_printer_layout.proofs.WordSymbols.{word-spec, word-provide, word-require, word-match, word-modifies, word-macro, word-state, word-type, word-default}

-- a clause of some expressions before others, and none where there is no expression
abbrev with_clause : (List SpecNode → SpecClause) → List SpecNode → List SpecClause → List SpecClause
with_clause make [] clauses = clauses
with_clause make (e ∷ es) clauses = make (e ∷ es) ∷ clauses

-- one for each changed state
abbrev modifies_clauses : List ModifiedState → List SpecClause
modifies_clauses ms = map (λ m. modifies_clause (erase_modified m)) ms

-- what the clauses of each kind say
record AreParts (clauses : List SpecClause) (provides required_ matches : List SpecNode) (changed : List ModifiedState) : Type 0 where
  provides_are : provided clauses ≡ provides
  requires_are : required clauses ≡ required_
  matches_are : matched clauses ≡ matches
  changed_are : modified clauses ≡ changed

parts-modifies : (ms : List ModifiedState) → AreParts (modifies_clauses ms) [] [] [] (map erase_modified ms)
parts-modifies [] = record { provides_are = refl; requires_are = refl; matches_are = refl; changed_are = refl }
parts-modifies (m ∷ ms) =
    let is = parts-modifies ms in
    record {
      provides_are = is.provides_are;
      requires_are = is.requires_are;
      matches_are = is.matches_are;
      changed_are = ap (λ xs. erase_modified m ∷ xs) is.changed_are;
    }

-- one clause alone, before none of its kind
alone : (es others : List SpecNode) → others ≡ [] → es ++ others ≡ es
alone es others none = ap (λ xs. es ++ xs) none ∙ append-nil es

parts-match : (es : List SpecNode) (clauses : List SpecClause) (changed : List ModifiedState) → AreParts clauses [] [] [] changed → AreParts (with_clause match_clause es clauses) [] [] es changed
parts-match [] clauses changed is = is
parts-match (e ∷ es) clauses changed is = record {
  provides_are = is.provides_are;
  requires_are = is.requires_are;
  matches_are = alone (e ∷ es) (matched clauses) is.matches_are;
  changed_are = is.changed_are;
}

parts-require : (es ms : List SpecNode) (clauses : List SpecClause) (changed : List ModifiedState) → AreParts clauses [] [] ms changed → AreParts (with_clause require_clause es clauses) [] es ms changed
parts-require [] ms clauses changed is = is
parts-require (e ∷ es) ms clauses changed is = record {
  provides_are = is.provides_are;
  requires_are = alone (e ∷ es) (required clauses) is.requires_are;
  matches_are = is.matches_are;
  changed_are = is.changed_are;
}

parts-provide : (es rs ms : List SpecNode) (clauses : List SpecClause) (changed : List ModifiedState) → AreParts clauses [] rs ms changed → AreParts (with_clause provide_clause es clauses) es rs ms changed
parts-provide [] rs ms clauses changed is = is
parts-provide (e ∷ es) rs ms clauses changed is = record {
  provides_are = alone (e ∷ es) (provided clauses) is.provides_are;
  requires_are = is.requires_are;
  matches_are = is.matches_are;
  changed_are = is.changed_are;
}

-- before any clauses, this one
abbrev SpellsBefore : (List SpecNode → SpecClause) → List SpecNode → List Placed → List Placed → Type 0
SpellsBefore make es all rest =
    (clauses : List SpecClause) (final : List Placed) → SpellsAll SpellsClause clauses rest final → SpellsAll SpellsClause (with_clause make es clauses) all final

spell-specs_all : (es : List SpecNode) → Each IsWritableSpec es → (rest : List Tok) → Spelling (map spec_shape es) (SpellsAll SpellsSpec (map erase_spec es)) rest
spell-specs_all = spell-all spec_shape erase_spec SpellsSpec IsWritableSpec spell-spec

spell-clause : (word : List ℕ) (make : List SpecNode → SpecClause)
    → ((es : List SpecNode) (all rest : List Placed) → InParentheses (BehindWord word (SpellsAll SpellsSpec es)) all rest → SpellsClause (make es) all rest)
    → ReadsAs word (symbol word) → (es : List SpecNode) → Each IsWritableSpec es → (rest : List Tok) → Spelling (clause_shape word es) (SpellsBefore make (map erase_spec es)) rest
spell-clause word make made reads [] are rest =
    record { all = rest; tokens = record { are = refl }; spells = λ clauses final behind. behind }
spell-clause word make made reads (e ∷ es) are rest =
    let inner = spell-specs_all (e ∷ es) are (rparen ∷ rest) in
    let s = spell-form word reads (map spec_shape (e ∷ es)) (SpellsAll SpellsSpec (map erase_spec (e ∷ es))) rest inner in
    record {
      all = s.all;
      tokens = s.tokens;
      spells = λ clauses final behind. (unplaced rest, made (map erase_spec (e ∷ es)) _ _ s.spells, behind);
    }

spell-state_condition : (cond : Option Name) → IfSome cond IsName → (rest : List Tok) → Spelling (state_condition_shape cond) (SpellsOptional SpellsName (erase_optional cond)) rest
spell-state_condition None is rest = spell-nothing rest
spell-state_condition (Some name) is rest = spell-name name is rest

spell-modifies : (m : ModifiedState) → IsWritableModified m → (rest : List Tok) → Spelling (modifies_shape m ∷ []) (SpellsClause (modifies_clause (erase_modified m))) rest
spell-modifies m is rest =
    let second = spell-state_condition m.cond is.1 (rparen ∷ rest) in
    let first = spell-name m.state is.0 second.all in
    spell-form (codes "modifies") word-modifies
    (name_shape m.state ∷ state_condition_shape m.cond)
    (InTurn (SpellsName (erase_name m.state)) (SpellsOptional SpellsName (erase_optional m.cond)))
    rest
    (spell-turn second first)

pub spell-spec_definition : (s : SpecDefinition) → IsWritableSpecDefinition s → (rest : List Tok) → Spelling (spec_definition_shape s ∷ []) (InParentheses (BehindWord (codes "spec") (SpellsSpecDefinition (erase_spec_definition s)))) rest
spell-spec_definition s is rest =
    let modifies = spell-all modifies_shape (λ m. modifies_clause (erase_modified m)) SpellsClause IsWritableModified spell-modifies s.modifies is.modifies (rparen ∷ rest) in
    let matches = spell-clause (codes "match") match_clause (λ es all rest h. h) word-match s.matches is.matches modifies.all in
    let requires_ = spell-clause (codes "require") require_clause (λ es all rest h. h) word-require s.requires_ is.requires_ matches.all in
    let provides = spell-clause (codes "provide") provide_clause (λ es all rest h. h) word-provide s.provides is.provides requires_.all in
    let head = spell-headed s.term s.args is.term is.args provides.all in
    let word = spell-word (codes "spec") word-spec head.all in
    let ps = map erase_spec s.provides in
    let rs = map erase_spec s.requires_ in
    let ms = map erase_spec s.matches in
    let changed = map erase_modified s.modifies in
    let changes = modifies_clauses s.modifies in
    let matching = with_clause match_clause ms changes in
    let requiring = with_clause require_clause rs matching in
    let parts = parts-provide ps rs ms requiring changed (parts-require rs ms matching changed (parts-match ms changes changed (parts-modifies s.modifies))) in
    spell-list _
    (BehindWord (codes "spec") (SpellsSpecDefinition (erase_spec_definition s)))
    rest
    (record {
      all = word.all;
      tokens = word.tokens then head.tokens then provides.tokens then requires_.tokens then matches.tokens then modifies.tokens;
      spells = (
        unplaced head.all,
        word.spells,
        record {
          position = item-ahead head.tokens;
          behind_head = unplaced provides.all;
          head = head.spells;
          clauses = with_clause provide_clause ps requiring;
          provides = parts.provides_are;
          requires_ = parts.requires_are;
          matches = parts.matches_are;
          modifies = parts.changed_are;
          spelt = provides.spells _ _ (requires_.spells _ _ (matches.spells _ _ modifies.spells));
        },
      );
    })

pub spell-spec_macro : (m : SpecMacroDefinition) → IsWritableSpecMacro m → (rest : List Tok) → Spelling (spec_macro_shape m ∷ []) (InParentheses (BehindWord (codes "macro") (SpellsSpecMacro (erase_spec_macro m)))) rest
spell-spec_macro m is rest =
    let body = spell-spec m.body is.2 (rparen ∷ rest) in
    let head = spell-headed m.name m.params is.0 is.1 body.all in
    let word = spell-word (codes "macro") word-macro head.all in
    spell-list _
    (BehindWord (codes "macro") (SpellsSpecMacro (erase_spec_macro m)))
    rest
    (record {
      all = word.all;
      tokens = word.tokens then head.tokens then body.tokens;
      spells = (
        unplaced head.all,
        word.spells,
        record { position = item-ahead head.tokens; behind_head = unplaced body.all; head = head.spells; body = body.spells },
      );
    })

pub spell-state : (s : StateDefinition) → IsWritableState s → (rest : List Tok) → Spelling (state_shape s ∷ []) (InParentheses (BehindWord (codes "state") (SpellsState (erase_state s)))) rest
spell-state s is rest =
    let value = spell-spec s.default is.2 (rparen ∷ rparen ∷ rest) in
    let default = spell-form (codes "default") word-default (spec_shape s.default ∷ []) (SpellsSpec (erase_spec s.default)) (rparen ∷ rest) value in
    let model = spell-model s.ty is.1 (rparen ∷ default.all) in
    let ty = spell-form (codes "type") word-type (model_shape s.ty ∷ []) (SpellsTypeModel (erase_model s.ty)) default.all model in
    let name = spell-name s.name is.0 ty.all in
    let word = spell-word (codes "state") word-state name.all in
    spell-list _
    (BehindWord (codes "state") (SpellsState (erase_state s)))
    rest
    (record {
      all = word.all;
      tokens = word.tokens then name.tokens then ty.tokens then default.tokens;
      spells = (
        unplaced name.all,
        word.spells,
        record {
          position = item-ahead name.tokens;
          behind_name = unplaced ty.all;
          name = name.spells;
          behind_type = unplaced default.all;
          ty = ty.spells;
          default = default.spells;
        },
      );
    })
