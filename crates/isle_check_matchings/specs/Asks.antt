-- What typed patterns ask of the values at places.
use Rattle.std.specs.Prelude.{ℕ, suc, List, [], ◌∷◌, ◌++◌, Bool, Option, None, Some, length, if◌then◌else◌}
use Rattle.isle_check_environment.specs.signatures.Signatures.{TermNode}
use Rattle.isle_check_typing.specs.Typed.{TypedNode, typed_bind, typed_var, typed_bool, typed_int, typed_const, typed_term, typed_wildcard, typed_and, TypedList, no_typed, more_typed}
use Rattle.isle_check_places.specs.Under.{UnderNode, same, fields, place_under, parts_of}
use Rattle.isle_check_places.specs.Places.{Place, content, each, extracted, step_on, ConstraintNode, of_variant, of_bool, of_int, of_constant, present}

-- the terms of a program, and the external extractors that always match
pub record TermsNode : Type 0 where
  pub terms : List ℕ → Option TermNode
  pub infallible : List ℕ → Bool

-- the value at a place is constrained; it is that of a variable from here on, which needs answers to be there; or it equals that of a variable
pub data AskNode : Type 0 where
  constrains : (at : Place) → ConstraintNode → AskNode
  binds : (variable : ℕ) → (at : Place) → (needs : List Place) → AskNode
  equals : (variable : ℕ) → (at : Place) → AskNode

-- an answer's place and what is asked of it
pub record AnswerNode : Type 0 where
  pub asked : List AskNode
  pub at : Place

-- an extractor's answer must be there, unless it always is. A multi term has several, of which each is looked at
abbrev pub answer : TermsNode → (multi : Bool) → (term : List ℕ) → (at : Place) → AnswerNode
answer k multi term at =
    if multi then record { asked = []; at = step_on at each }
    else if k.infallible term then record { asked = []; at = at }
    else record { asked = constrains at present ∷ []; at = step_on at content }

-- what a term asks by itself, and where the values of its arguments are
pub record OpeningNode : Type 0 where
  pub asked : List AskNode
  pub at : Place
  pub under : UnderNode

abbrev pub opening : List AskNode → Place → UnderNode → OpeningNode
opening asked at under = record { asked = asked; at = at; under = under }

abbrev pub opening_by : TermsNode → Option TermNode → (term : List ℕ) → (count : ℕ) → (at : Place) → OpeningNode
opening_by k None term count at = opening [] at same
opening_by k (Some t) term count at =
    if t.is_variant then opening (constrains at (of_variant term (length t.args)) ∷ []) at (fields term)
    else opening (answer k t.multi term (step_on at (extracted term))).asked (answer k t.multi term (step_on at (extracted term))).at (parts_of count)

abbrev pub term_opening : TermsNode → (term : List ℕ) → (count : ℕ) → (at : Place) → OpeningNode
term_opening k term count at = opening_by k (k.terms term) term count at

abbrev pub count_typed : TypedList → ℕ
count_typed no_typed = 0
count_typed (more_typed p ps) = suc (count_typed ps)

-- what a pattern asks of the value at a place. A term asks by itself first, and then come its arguments
abbrev mutual
  pub pattern_asks : TermsNode → TypedNode → (at : Place) → List AskNode
  pattern_asks k (typed_bind x _ p) at = binds x at [] ∷ pattern_asks k p at
  pattern_asks k (typed_var x _) at = equals x at ∷ []
  pattern_asks k (typed_bool b _) at = constrains at (of_bool b) ∷ []
  pattern_asks k (typed_int i _) at = constrains at (of_int i) ∷ []
  pattern_asks k (typed_const name _) at = constrains at (of_constant name) ∷ []
  pattern_asks k (typed_term f _ ps) at =
      (term_opening k f (count_typed ps) at).asked
      ++ list_asks k (term_opening k f (count_typed ps) at).under 0 ps (term_opening k f (count_typed ps) at).at
  pattern_asks k (typed_wildcard _) at = []
  pattern_asks k (typed_and _ ps) at = list_asks k same 0 ps at

  -- patterns in order, of which the first has this index
  pub list_asks : TermsNode → UnderNode → (index : ℕ) → TypedList → (at : Place) → List AskNode
  list_asks k under i no_typed at = []
  list_asks k under i (more_typed p ps) at = pattern_asks k p (place_under under i at) ++ list_asks k under (suc i) ps at

-- a term and its arguments
abbrev pub term_asks : TermsNode → (term : List ℕ) → TypedList → (at : Place) → List AskNode
term_asks k f ps at =
    (term_opening k f (count_typed ps) at).asked
    ++ list_asks k (term_opening k f (count_typed ps) at).under 0 ps (term_opening k f (count_typed ps) at).at
