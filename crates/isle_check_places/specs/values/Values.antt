-- The value that rules of one term match, written as a pattern.
use Rattle.std.specs.Prelude.{ℕ, zero, suc, List, [], ◌∷◌, ◌++◌, Bool, Option, None, Some, length, max, if◌then◌else◌}
use Rattle.isle_check_environment.specs.signatures.Signatures.{TermNode}
use Rattle.isle_check_places.specs.Under.{UnderNode, arguments, fields, place_under, parts_of}
use Rattle.isle_check_places.specs.Places.{Place, extracted, step_on, ConstraintNode, present, ConstrainedNode}
use Rattle.isle_check_places.specs.Comparing.{within}
use Rattle.isle_check_places.specs.Settling.{constraint_at}
use Rattle.isle_check_places.specs.values.Next.{goes_on_with_each}
use Rattle.isle_check_places.specs.values.Said.{SaidNode, said_variant, said_bool, said_int, said_constant, said_extractor, said_at}
use Rattle.isle_check_places.specs.values.Shapes.{AnswerNode, may_fail, has_several, is_there, ShapeNode, anything, bool_shape, int_shape, constant_shape, variant_shape, extractor_shape, several, ShapeList, no_shapes, more_shapes, term_text, answer_place, list_asks}

-- the terms of a program, and what is asked of a value
pub record KnownNode : Type 0 where
  pub terms : List ℕ → Option TermNode
  pub constraints : List ConstrainedNode

abbrev pub count_by : Option TermNode → ℕ
count_by None = 0
count_by (Some t) = length t.args

-- how many arguments a term has; one that is not known has none
abbrev pub argument_count : KnownNode → (term : List ℕ) → ℕ
argument_count k term = count_by (k.terms term)

abbrev pub answer_by : Option ConstraintNode → (goes_on : Bool) → AnswerNode
answer_by (Some present) _ = may_fail
answer_by _ goes_on = if goes_on then has_several else is_there

-- an extractor's answer at this place, by what is asked of it
abbrev pub answer_at : List ConstrainedNode → (at : Place) → AnswerNode
answer_at cs at = answer_by (constraint_at cs at) (goes_on_with_each cs at)

-- the shapes of so many values under a place, of which the first has this index
abbrev pub shapes_under : (shape_at : Place → ShapeNode) → UnderNode → (index count : ℕ) → (at : Place) → ShapeList
shapes_under shape_at under i zero at = no_shapes
shapes_under shape_at under i (suc n) at = more_shapes (shape_at (place_under under i at)) (shapes_under shape_at under (suc i) n at)

abbrev pub extractor_by : (shape_at : Place → ShapeNode) → (term : List ℕ) → (count : ℕ) → AnswerNode → (at : Place) → ShapeNode
extractor_by shape_at g count answer at = extractor_shape g answer (shapes_under shape_at (parts_of count) 0 count (answer_place answer at))

abbrev pub said_shape : KnownNode → (shape_at : Place → ShapeNode) → (at : Place) → SaidNode → ShapeNode
said_shape k shape_at at (said_variant v n) = variant_shape v (shapes_under shape_at (fields v) 0 n at)
said_shape k shape_at at (said_bool b) = bool_shape b
said_shape k shape_at at (said_int i) = int_shape i
said_shape k shape_at at (said_constant name) = constant_shape name
said_shape k shape_at at (said_extractor g) =
    extractor_by shape_at g (argument_count k g) (answer_at k.constraints (step_on at (extracted g))) (step_on at (extracted g))

abbrev pub said_shapes : KnownNode → (shape_at : Place → ShapeNode) → (at : Place) → List SaidNode → ShapeList
said_shapes k shape_at at [] = no_shapes
said_shapes k shape_at at (s ∷ ss) = more_shapes (said_shape k shape_at at s) (said_shapes k shape_at at ss)

-- a value of which nothing is said is anything
abbrev pub joined : ShapeList → ShapeNode
joined no_shapes = anything
joined (more_shapes s no_shapes) = s
joined (more_shapes s (more_shapes t ss)) = several (more_shapes s (more_shapes t ss))

-- the shape of the value at a place, to this depth
abbrev pub shape : KnownNode → (depth : ℕ) → (at : Place) → ShapeNode
shape k zero at = anything
shape k (suc n) at = joined (said_shapes k (λ p. shape k n p) at (said_at k.constraints at))

-- the length of the longest place
abbrev pub longest : List ConstrainedNode → ℕ
longest [] = 0
longest (c ∷ cs) = max (length c.at) (longest cs)

-- the shapes of a term's arguments
abbrev pub argument_shapes : KnownNode → (depth : ℕ) → (term : List ℕ) → ShapeList
argument_shapes k depth term = shapes_under (λ p. shape k depth p) arguments 0 (argument_count k term) []

-- The length of the longest place suffices as the depth: an argument's place has one step, and each shape within another one a longer place.
-- So where the depth is used up, the place is longer than all that are constrained, and nothing is said of its value.
abbrev pub value_shapes : KnownNode → (term : List ℕ) → ShapeList
value_shapes k term = argument_shapes k (longest k.constraints) term

-- a value as it is written, and whether it surely satisfies all that is asked of it
pub record ValueNode : Type 0 where
  pub text : List ℕ
  pub is_sure : Bool

-- what the shapes of a term's arguments ask
abbrev pub arguments_ask : ShapeList → List ConstrainedNode
arguments_ask ss = list_asks arguments 0 ss []

abbrev pub value_by : (term : List ℕ) → ShapeList → List ConstrainedNode → ValueNode
value_by term ss cs = record { text = term_text term ss; is_sure = within cs (arguments_ask ss) }

abbrev pub known_value : KnownNode → (term : List ℕ) → ValueNode
known_value k term = value_by term (value_shapes k term) k.constraints

-- by the constraints of both rules
abbrev pub known_of_both : (terms : List ℕ → Option TermNode) → (cs ds : List ConstrainedNode) → KnownNode
known_of_both terms cs ds = record { terms = terms; constraints = cs ++ ds }

-- the value that two rules of a term match
abbrev pub value : (terms : List ℕ → Option TermNode) → (term : List ℕ) → (cs ds : List ConstrainedNode) → ValueNode
value terms term cs ds = known_value (known_of_both terms cs ds) term

-- what is asked of each value that it stands for
abbrev pub value_asks : (terms : List ℕ → Option TermNode) → (term : List ℕ) → (cs ds : List ConstrainedNode) → List ConstrainedNode
value_asks terms term cs ds = arguments_ask (value_shapes (known_of_both terms cs ds) term)
