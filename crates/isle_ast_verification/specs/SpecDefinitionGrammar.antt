-- Definitions made of spec expressions: `spec`, `macro` and `state`.
use Rattle.std.specs.Prelude.{◌≡◌, List, [], ◌∷◌, ◌++◌, codes}
use Rattle.isle_base.specs.Place.{Placed}
use Rattle.isle_ast_verification.specs.Tree.{SpecNode, ModifiedState, SpecDefinition, SpecMacroDefinition, StateDefinition}
use Rattle.isle_ast_names.specs.Words.{BeginsAt, SpellsAll, InParentheses, BehindWord, SpellsName, SpellsOptional}
use Rattle.isle_ast_verification.specs.SpecGrammar.{SpellsSpec, SpellsHeaded}
use Rattle.isle_ast_verification.specs.TypeModelGrammar.{SpellsTypeModel}

-- one clause of a spec
pub data SpecClause : Type 0 where
  provide_clause : List SpecNode → SpecClause
  require_clause : List SpecNode → SpecClause
  match_clause : List SpecNode → SpecClause
  modifies_clause : ModifiedState → SpecClause

-- `(provide E..)`, `(require E..)`, `(match E..)` or `(modifies I [I])`
abbrev pub SpellsClause : SpecClause → List Placed → List Placed → Type 0
SpellsClause (provide_clause es) = InParentheses (BehindWord (codes "provide") (SpellsAll SpellsSpec es))
SpellsClause (require_clause es) = InParentheses (BehindWord (codes "require") (SpellsAll SpellsSpec es))
SpellsClause (match_clause es) = InParentheses (BehindWord (codes "match") (SpellsAll SpellsSpec es))
SpellsClause (modifies_clause m) =
    InParentheses
    (BehindWord
    (codes "modifies")
    (λ inner close. (mid : List Placed) × SpellsName m.state inner mid × SpellsOptional SpellsName m.cond mid close))

-- the contents of the clauses of one kind, joined in order

abbrev pub provided : List SpecClause → List SpecNode
provided [] = []
provided (provide_clause es ∷ clauses) = es ++ provided clauses
provided (_ ∷ clauses) = provided clauses

abbrev pub required : List SpecClause → List SpecNode
required [] = []
required (require_clause es ∷ clauses) = es ++ required clauses
required (_ ∷ clauses) = required clauses

abbrev pub matched : List SpecClause → List SpecNode
matched [] = []
matched (match_clause es ∷ clauses) = es ++ matched clauses
matched (_ ∷ clauses) = matched clauses

abbrev pub modified : List SpecClause → List ModifiedState
modified [] = []
modified (modifies_clause m ∷ clauses) = m ∷ modified clauses
modified (_ ∷ clauses) = modified clauses

-- the term and its arguments, and clauses in any order; the fields hold the contents of each kind
pub record SpellsSpecDefinition (s : SpecDefinition) (all rest : List Placed) : Type 0 where
  pub position : BeginsAt s.pos all
  pub behind_head : List Placed
  pub head : SpellsHeaded s.term s.args all behind_head
  pub clauses : List SpecClause
  pub provides : provided clauses ≡ s.provides
  pub requires_ : required clauses ≡ s.requires_
  pub matches : matched clauses ≡ s.matches
  pub modifies : modified clauses ≡ s.modifies
  pub spelt : SpellsAll SpellsClause clauses behind_head rest

-- the name, the parameters and the expansion
pub record SpellsSpecMacro (m : SpecMacroDefinition) (all rest : List Placed) : Type 0 where
  pub position : BeginsAt m.pos all
  pub behind_head : List Placed
  pub head : SpellsHeaded m.name m.params all behind_head
  pub body : SpellsSpec m.body behind_head rest

-- the name, `(type MODEL)`, `(default E)`
pub record SpellsState (s : StateDefinition) (all rest : List Placed) : Type 0 where
  pub position : BeginsAt s.pos all
  pub behind_name : List Placed
  pub name : SpellsName s.name all behind_name
  pub behind_type : List Placed
  pub ty : InParentheses (BehindWord (codes "type") (SpellsTypeModel s.ty)) behind_name behind_type
  pub default : InParentheses (BehindWord (codes "default") (SpellsSpec s.default)) behind_type rest
