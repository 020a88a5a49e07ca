-- The positions in spec expressions, and in the definitions made of them, are those of their tokens.
use Rattle.std.proofs.Common.{inl, inr, ℕ, List, [], ◌∷◌, ◌++◌, Option, None, Some, refl, subst}
use Rattle.std.specs.List.{AllByRecursion}
use Rattle.std.specs.Prelude.{codes}
use Rattle.isle_base_source.specs.declared.pos.Pos.{Pos}
use Rattle.isle_base.specs.Place.{Placed}
use Rattle.isle_ast_names.specs.Tree.{Name}
use Rattle.isle_ast_verification.specs.Tree.{SpecNode, int_spec, bit_vector_spec, bool_spec, var_spec, as_spec, field_spec, discriminator_spec, op_spec, match_spec, let_spec, with_spec, macro_spec}
use Rattle.isle_ast_verification.specs.Tree.{expand_spec, pair_spec, enum_spec, struct_spec, SpecList, no_spec, more_spec, ArmList, no_arm, more_arm, SpecLetList, no_spec_let, more_spec_let}
use Rattle.isle_ast_verification.specs.Tree.{FieldInitList, no_field_init, more_field_init, ModifiedState}
use Rattle.isle_ast_names.specs.Words.{SpellsAll, SpellsName, SpellsOptional}
use Rattle.isle_ast_verification.specs.SpecDefinitionGrammar.{SpecClause, provide_clause, require_clause, match_clause, modifies_clause, SpellsClause, provided, required, matched, modified}
use Rattle.isle_ast_verification.specs.SpecDefinitionGrammar.{SpellsSpecDefinition, SpellsSpecMacro, SpellsState}
use Rattle.isle_ast_verification.specs.SpecGrammar.{SpellsMarked, SpellsNames, SpellsHeaded, SpellsSpec, SpellsSpecs, SpellsCases, SpellsPairs, SpellsArms, SpellsSpecLets, SpellsFieldInits, discriminator_mark, expansion_mark, field_mark}
use Rattle.isle_ast_verification.specs.TypeModelGrammar.{SpellsTypeModel}
use Rattle.isle_parser_cursor.specs.Positions.{OfName, OfNames, OfOptionalName}
use Rattle.isle_parser_verification.specs.Positions.{OfModel, OfSpec, OfSpecs, OfArms, OfSpecLets, OfFieldInits, OfModified, OfSpecDefinition, OfSpecMacro, OfState}
use Rattle.isle_parser_verification.proofs.Positions.Models.{type_model_stands}
use Rattle.isle_parser_cursor.proofs.Stands.{Into, Stands, token_stands, begins_stands, same_stands, name_stands, list_stands, enclosed_stands, tagged_stands}

-- ---- names

-- a name with a mark, as one symbol at its own position
marked_stands : (mark : List ℕ → List ℕ) → Stands (SpellsMarked mark) OfName
marked_stands mark n all rest h P into = (into n.pos (rw h.1 (inl refl)), λ pos a. into pos (rw h.1 (inr a)))

list_of_names_stands : Stands (SpellsAll SpellsName) OfNames
list_of_names_stands = list_stands SpellsName OfName name_stands

names_stand : Stands SpellsNames OfNames
names_stand = enclosed_stands (SpellsAll SpellsName) OfNames list_of_names_stands

headed_stands : (n : Name) (ns : List Name) (all rest : List Placed) → SpellsHeaded n ns all rest → (P : Pos → Type 0) → Into all P → OfName P n × OfNames P ns × Into rest P
headed_stands n ns all rest h P into =
    let inside = h.3 in
    let name = name_stands n h.0 inside.0 inside.1 P (token_stands h.2 P into) in
    let list = list_of_names_stands ns inside.0 h.1 inside.2 P name.1 in
    (name.0, list.0, token_stands h.4 P list.1)

-- ---- expressions

mutual
  pub spec_stands : (x : SpecNode) (all rest : List Placed) → SpellsSpec x all rest → (P : Pos → Type 0) → Into all P → OfSpec P x × Into rest P
  spec_stands (int_spec val pos) all rest h P into = (begins_stands h.0 P into, token_stands h.1.1 P into)
  spec_stands (bit_vector_spec val width pos) all rest h P into = (begins_stands h.0 P into, token_stands h.1.2 P into)
  spec_stands (bool_spec val pos) all rest h P into = (begins_stands h.0 P into, token_stands h.1 P into)
  spec_stands (var_spec n pos) all rest h P into =
      let name = name_stands n all rest h.2 P into in
      ((begins_stands h.1 P into, name.0), name.1)
  spec_stands (as_spec x ty pos) all rest h P into =
      let inner = h.1 in
      let b = inner.3.2 in
      let one = spec_stands x inner.3.0 b.0 b.1 P (token_stands inner.3.1 P (token_stands inner.2 P into)) in
      let model = type_model_stands ty b.0 inner.1 b.2 P one.1 in
      ((begins_stands h.0 P into, one.0, model.0), token_stands inner.4 P model.1)
  spec_stands (field_spec n x pos) all rest h P into =
      let inner = h.1 in
      let b = inner.3 in
      let name = marked_stands field_mark n inner.0 b.0 b.1 P (token_stands inner.2 P into) in
      let one = spec_stands x b.0 inner.1 b.2 P name.1 in
      ((begins_stands h.0 P into, name.0, one.0), token_stands inner.4 P one.1)
  spec_stands (discriminator_spec n x pos) all rest h P into =
      let inner = h.1 in
      let b = inner.3 in
      let name = marked_stands discriminator_mark n inner.0 b.0 b.1 P (token_stands inner.2 P into) in
      let one = spec_stands x b.0 inner.1 b.2 P name.1 in
      ((begins_stands h.0 P into, name.0, one.0), token_stands inner.4 P one.1)
  spec_stands (op_spec operator xs pos) all rest h P into =
      let inner = h.1 in
      let opened = token_stands inner.3.1 P (token_stands inner.2 P into) in
      elim inner.3.2 [
        | inl g ↦
            let list = specs_stand xs inner.3.0 inner.1 g.1 P opened in
            ((begins_stands h.0 P into, list.0), token_stands inner.4 P list.1)
        | inr g ↦
            let list = cases_stand xs inner.3.0 inner.1 g.1 P opened in
            ((begins_stands h.0 P into, list.0), token_stands inner.4 P list.1)
      ]
  spec_stands (match_spec x arms pos) all rest h P into =
      let inner = h.1 in
      let b = inner.3.2 in
      let one = spec_stands x inner.3.0 b.0 b.1 P (token_stands inner.3.1 P (token_stands inner.2 P into)) in
      let list = arms_stand arms b.0 inner.1 b.2 P one.1 in
      ((begins_stands h.0 P into, one.0, list.0), token_stands inner.4 P list.1)
  spec_stands (let_spec ds x pos) all rest h P into =
      let inner = h.1 in
      let b = inner.3.2 in
      let list = b.1 in
      let defs = spec_lets_stand ds list.0 list.1 list.3 P (token_stands list.2 P (token_stands inner.3.1 P (token_stands inner.2 P into))) in
      let body = spec_stands x b.0 inner.1 b.2 P (token_stands list.4 P defs.1) in
      ((begins_stands h.0 P into, defs.0, body.0), token_stands inner.4 P body.1)
  spec_stands (with_spec ns x pos) all rest h P into =
      let inner = h.1 in
      let b = inner.3.2 in
      let list = names_stand ns inner.3.0 b.0 b.1 P (token_stands inner.3.1 P (token_stands inner.2 P into)) in
      let body = spec_stands x b.0 inner.1 b.2 P list.1 in
      ((begins_stands h.0 P into, list.0, body.0), token_stands inner.4 P body.1)
  spec_stands (macro_spec ns x pos) all rest h P into =
      let inner = h.1 in
      let b = inner.3.2 in
      let list = names_stand ns inner.3.0 b.0 b.1 P (token_stands inner.3.1 P (token_stands inner.2 P into)) in
      let body = spec_stands x b.0 inner.1 b.2 P list.1 in
      ((begins_stands h.0 P into, list.0, body.0), token_stands inner.4 P body.1)
  spec_stands (expand_spec n xs pos) all rest h P into =
      let inner = h.1 in
      let b = inner.3 in
      let name = marked_stands expansion_mark n inner.0 b.0 b.1 P (token_stands inner.2 P into) in
      let list = specs_stand xs b.0 inner.1 b.2 P name.1 in
      ((begins_stands h.0 P into, name.0, list.0), token_stands inner.4 P list.1)
  spec_stands (pair_spec l r pos) all rest h P into = absurd h
  spec_stands (enum_spec n v xs pos) all rest h P into =
      let inner = h.2 in
      let place = begins_stands h.1 P into in
      let first : OfName P n = rw h.0.name_position place in
      let second : OfName P v = rw h.0.variant_position place in
      let list = specs_stand xs inner.3.0 inner.1 inner.3.2 P (token_stands inner.3.1 P (token_stands inner.2 P into)) in
      ((place, first, second, list.0), token_stands inner.4 P list.1)
  spec_stands (struct_spec fs pos) all rest h P into =
      let inner = h.1 in
      let list = field_inits_stand fs inner.3.0 inner.1 inner.3.2 P (token_stands inner.3.1 P (token_stands inner.2 P into)) in
      ((begins_stands h.0 P into, list.0), token_stands inner.4 P list.1)

  specs_stand : (xs : SpecList) (all rest : List Placed) → SpellsSpecs xs all rest → (P : Pos → Type 0) → Into all P → OfSpecs P xs × Into rest P
  specs_stand no_spec all rest h P into = (tt, same_stands h P into)
  specs_stand (more_spec x xs) all rest h P into =
      let one = spec_stands x all h.0 h.1 P into in
      let others = specs_stand xs h.0 rest h.2 P one.1 in
      ((one.0, others.0), others.1)

  cases_stand : (xs : SpecList) (all rest : List Placed) → SpellsCases xs all rest → (P : Pos → Type 0) → Into all P → OfSpecs P xs × Into rest P
  cases_stand no_spec all rest h P into = absurd h
  cases_stand (more_spec x xs) all rest h P into =
      let one = spec_stands x all h.0 h.1 P into in
      let others = pairs_stand xs h.0 rest h.2 P one.1 in
      ((one.0, others.0), others.1)

  pairs_stand : (xs : SpecList) (all rest : List Placed) → SpellsPairs xs all rest → (P : Pos → Type 0) → Into all P → OfSpecs P xs × Into rest P
  pairs_stand no_spec all rest h P into = (tt, same_stands h P into)
  pairs_stand (more_spec (pair_spec l r pos) xs) all rest h P into =
      let inner = h.1 in
      let b = inner.3 in
      let opened = token_stands inner.2 P into in
      let first = spec_stands l inner.0 b.1 b.2 P opened in
      let second = spec_stands r b.1 inner.1 b.3 P first.1 in
      let others = pairs_stand xs h.0 rest h.2 P (token_stands inner.4 P second.1) in
      (((begins_stands b.0 P opened, first.0, second.0), others.0), others.1)
  pairs_stand (more_spec (int_spec _ _) xs) all rest h P into = absurd h
  pairs_stand (more_spec (bit_vector_spec _ _ _) xs) all rest h P into = absurd h
  pairs_stand (more_spec (bool_spec _ _) xs) all rest h P into = absurd h
  pairs_stand (more_spec (var_spec _ _) xs) all rest h P into = absurd h
  pairs_stand (more_spec (as_spec _ _ _) xs) all rest h P into = absurd h
  pairs_stand (more_spec (field_spec _ _ _) xs) all rest h P into = absurd h
  pairs_stand (more_spec (discriminator_spec _ _ _) xs) all rest h P into = absurd h
  pairs_stand (more_spec (op_spec _ _ _) xs) all rest h P into = absurd h
  pairs_stand (more_spec (match_spec _ _ _) xs) all rest h P into = absurd h
  pairs_stand (more_spec (let_spec _ _ _) xs) all rest h P into = absurd h
  pairs_stand (more_spec (with_spec _ _ _) xs) all rest h P into = absurd h
  pairs_stand (more_spec (macro_spec _ _ _) xs) all rest h P into = absurd h
  pairs_stand (more_spec (expand_spec _ _ _) xs) all rest h P into = absurd h
  pairs_stand (more_spec (enum_spec _ _ _ _) xs) all rest h P into = absurd h
  pairs_stand (more_spec (struct_spec _ _) xs) all rest h P into = absurd h

  arms_stand : (arms : ArmList) (all rest : List Placed) → SpellsArms arms all rest → (P : Pos → Type 0) → Into all P → OfArms P arms × Into rest P
  arms_stand no_arm all rest h P into = (tt, same_stands h P into)
  arms_stand (more_arm n ns x pos arms) all rest h P into =
      let inner = h.1 in
      let b = inner.3 in
      let opened = token_stands inner.2 P into in
      let head = headed_stands n ns inner.0 b.1 b.2 P opened in
      let body = spec_stands x b.1 inner.1 b.3 P head.2 in
      let others = arms_stand arms h.0 rest h.2 P (token_stands inner.4 P body.1) in
      ((begins_stands b.0 P opened, head.0, head.1, body.0, others.0), others.1)

  spec_lets_stand : (ds : SpecLetList) (all rest : List Placed) → SpellsSpecLets ds all rest → (P : Pos → Type 0) → Into all P → OfSpecLets P ds × Into rest P
  spec_lets_stand no_spec_let all rest h P into = (tt, same_stands h P into)
  spec_lets_stand (more_spec_let n x ds) all rest h P into =
      let inner = h.1 in
      let b = inner.3 in
      let name = name_stands n inner.0 b.0 b.1 P (token_stands inner.2 P into) in
      let value = spec_stands x b.0 inner.1 b.2 P name.1 in
      let others = spec_lets_stand ds h.0 rest h.2 P (token_stands inner.4 P value.1) in
      ((name.0, value.0, others.0), others.1)

  field_inits_stand : (fs : FieldInitList) (all rest : List Placed) → SpellsFieldInits fs all rest → (P : Pos → Type 0) → Into all P → OfFieldInits P fs × Into rest P
  field_inits_stand no_field_init all rest h P into = (tt, same_stands h P into)
  field_inits_stand (more_field_init n x pos fs) all rest h P into =
      let inner = h.1 in
      let b = inner.3 in
      let opened = token_stands inner.2 P into in
      let name = name_stands n inner.0 b.1 b.2 P opened in
      let value = spec_stands x b.1 inner.1 b.3 P name.1 in
      let others = field_inits_stand fs h.0 rest h.2 P (token_stands inner.4 P value.1) in
      ((begins_stands b.0 P opened, name.0, value.0, others.0), others.1)

-- ---- clauses

specs_of_clause_stand : Stands (SpellsAll SpellsSpec) (λ P xs. AllByRecursion (OfSpec P) xs)
specs_of_clause_stand = list_stands SpellsSpec OfSpec spec_stands

condition_stands : (n : Option Name) (all rest : List Placed) → SpellsOptional SpellsName n all rest → (P : Pos → Type 0) → Into all P → OfOptionalName P n × Into rest P
condition_stands None all rest h P into = (tt, same_stands h P into)
condition_stands (Some n) all rest h P into = name_stands n all rest h P into

joined_of : {A : Type 0} (P : A → Type 0) (xs ys : List A) → AllByRecursion P xs → AllByRecursion P ys → AllByRecursion P (xs ++ ys)
joined_of P [] ys h k = k
joined_of P (x ∷ xs) ys h k = (h.0, joined_of P xs ys h.1 k)

-- the positions of what clauses say, joined by kind
abbrev OfClauses : (Pos → Type 0) → List SpecClause → Type 0
OfClauses P cs =
    AllByRecursion (OfSpec P) (provided cs) × AllByRecursion (OfSpec P) (required cs) × AllByRecursion (OfSpec P) (matched cs)
    × AllByRecursion (OfModified P) (modified cs)

clauses_stand : Stands (SpellsAll SpellsClause) OfClauses
clauses_stand [] all rest h P into = ((tt, tt, tt, tt), same_stands h P into)
clauses_stand (provide_clause es ∷ cs) all rest h P into =
    let one = tagged_stands (codes "provide") (SpellsAll SpellsSpec) (λ P xs. AllByRecursion (OfSpec P) xs) specs_of_clause_stand es all h.0 h.1 P into in
    let others = clauses_stand cs h.0 rest h.2 P one.1 in
    ((joined_of (OfSpec P) es (provided cs) one.0 others.0.0, others.0.1, others.0.2, others.0.3), others.1)
clauses_stand (require_clause es ∷ cs) all rest h P into =
    let one = tagged_stands (codes "require") (SpellsAll SpellsSpec) (λ P xs. AllByRecursion (OfSpec P) xs) specs_of_clause_stand es all h.0 h.1 P into in
    let others = clauses_stand cs h.0 rest h.2 P one.1 in
    ((others.0.0, joined_of (OfSpec P) es (required cs) one.0 others.0.1, others.0.2, others.0.3), others.1)
clauses_stand (match_clause es ∷ cs) all rest h P into =
    let one = tagged_stands (codes "match") (SpellsAll SpellsSpec) (λ P xs. AllByRecursion (OfSpec P) xs) specs_of_clause_stand es all h.0 h.1 P into in
    let others = clauses_stand cs h.0 rest h.2 P one.1 in
    ((others.0.0, others.0.1, joined_of (OfSpec P) es (matched cs) one.0 others.0.2, others.0.3), others.1)
clauses_stand (modifies_clause m ∷ cs) all rest h P into =
    let inner = h.1 in
    let b = inner.3.2 in
    let state = name_stands m.state inner.3.0 b.0 b.1 P (token_stands inner.3.1 P (token_stands inner.2 P into)) in
    let condition = condition_stands m.cond b.0 inner.1 b.2 P state.1 in
    let others = clauses_stand cs h.0 rest h.2 P (token_stands inner.4 P condition.1) in
    ((others.0.0, others.0.1, others.0.2, ((state.0, condition.0), others.0.3)), others.1)

-- ---- definitions

pub spec_definition_stands : Stands SpellsSpecDefinition OfSpecDefinition
spec_definition_stands s all rest h P into =
    let head = headed_stands s.term s.args all h.behind_head h.head P into in
    let clauses = clauses_stand h.clauses h.behind_head rest h.spelt P head.2 in
    let provides = subst (λ (xs : List SpecNode). AllByRecursion (OfSpec P) xs) h.provides clauses.0.0 in
    let requires = subst (λ (xs : List SpecNode). AllByRecursion (OfSpec P) xs) h.requires_ clauses.0.1 in
    let matches = subst (λ (xs : List SpecNode). AllByRecursion (OfSpec P) xs) h.matches clauses.0.2 in
    let modifies = subst (λ (ms : List ModifiedState). AllByRecursion (OfModified P) ms) h.modifies clauses.0.3 in
    ((begins_stands h.position P into, head.0, head.1, provides, requires, matches, modifies), clauses.1)

pub spec_macro_stands : Stands SpellsSpecMacro OfSpecMacro
spec_macro_stands m all rest h P into =
    let head = headed_stands m.name m.params all h.behind_head h.head P into in
    let body = spec_stands m.body h.behind_head rest h.body P head.2 in
    ((begins_stands h.position P into, head.0, head.1, body.0), body.1)

pub state_stands : Stands SpellsState OfState
state_stands s all rest h P into =
    let n = name_stands s.name all h.behind_name h.name P into in
    let ty = tagged_stands (codes "type") SpellsTypeModel OfModel type_model_stands s.ty h.behind_name h.behind_type h.ty P n.1 in
    let default = tagged_stands (codes "default") SpellsSpec OfSpec spec_stands s.default h.behind_type rest h.default P ty.1 in
    ((begins_stands h.position P into, n.0, ty.0, default.0), default.1)
