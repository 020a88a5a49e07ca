-- Shapes of values: their texts as patterns, and what they ask.
use Rattle.std.specs.Prelude.{ℕ, ℤ, suc, List, [], ◌∷◌, ◌++◌, Bool, true, false, codes}
use Rattle.std.specs.Fmt.{signed_decimal}
use Rattle.isle_check_places.specs.Under.{UnderNode, same, fields, place_under, parts_of}
use Rattle.isle_check_places.specs.Places.{Place, content, each, extracted, step_on, of_variant, of_bool, of_int, of_constant, present, ConstrainedNode}
use Rattle.isle_check_places.specs.Settling.{constrained}

-- an extractor's answer must be there; there are several, and each is looked at; or it is always there
pub data AnswerNode : Type 0 where
  may_fail : AnswerNode
  has_several : AnswerNode
  is_there : AnswerNode

mutual
  pub data ShapeNode : Type 0 where
    anything : ShapeNode
    bool_shape : Bool → ShapeNode
    int_shape : ℤ → ShapeNode
    constant_shape : (name : List ℕ) → ShapeNode
    variant_shape : (variant : List ℕ) → (fields : ShapeList) → ShapeNode
    extractor_shape : (term : List ℕ) → AnswerNode → (arguments : ShapeList) → ShapeNode
    several : ShapeList → ShapeNode

  -- shapes in order
  pub data ShapeList : Type 0 where
    no_shapes : ShapeList
    more_shapes : ShapeNode → ShapeList → ShapeList

abbrev pub count_shapes : ShapeList → ℕ
count_shapes no_shapes = 0
count_shapes (more_shapes s ss) = suc (count_shapes ss)

abbrev pub bool_text : Bool → List ℕ
bool_text true = codes "true"
bool_text false = codes "false"

-- a shape as patterns are written
abbrev mutual
  pub shape_text : ShapeNode → List ℕ
  shape_text anything = codes "_"
  shape_text (bool_shape b) = bool_text b
  shape_text (int_shape i) = signed_decimal i
  shape_text (constant_shape name) = codes "$" ++ name
  shape_text (variant_shape v ss) = codes "(" ++ (v ++ (list_text ss ++ codes ")"))
  shape_text (extractor_shape g _ ss) = codes "(" ++ (g ++ (list_text ss ++ codes ")"))
  shape_text (several ss) = codes "(and" ++ (list_text ss ++ codes ")")

  -- shapes in order, each behind a space
  pub list_text : ShapeList → List ℕ
  list_text no_shapes = []
  list_text (more_shapes s ss) = codes " " ++ (shape_text s ++ list_text ss)

-- a term and what it stands before
abbrev pub term_text : (term : List ℕ) → ShapeList → List ℕ
term_text term ss = codes "(" ++ (term ++ (list_text ss ++ codes ")"))

-- where the value is that an answer at a place gives
abbrev pub answer_place : AnswerNode → Place → Place
answer_place may_fail at = step_on at content
answer_place has_several at = step_on at each
answer_place is_there at = at

abbrev pub answer_asks : AnswerNode → Place → List ConstrainedNode
answer_asks may_fail at = constrained at present ∷ []
answer_asks has_several at = []
answer_asks is_there at = []

-- what the value at a place must satisfy to match a shape
abbrev mutual
  pub shape_asks : ShapeNode → (at : Place) → List ConstrainedNode
  shape_asks anything at = []
  shape_asks (bool_shape b) at = constrained at (of_bool b) ∷ []
  shape_asks (int_shape i) at = constrained at (of_int i) ∷ []
  shape_asks (constant_shape name) at = constrained at (of_constant name) ∷ []
  shape_asks (variant_shape v ss) at = constrained at (of_variant v (count_shapes ss)) ∷ list_asks (fields v) 0 ss at
  shape_asks (extractor_shape g answer ss) at =
      answer_asks answer (step_on at (extracted g))
      ++ list_asks (parts_of (count_shapes ss)) 0 ss (answer_place answer (step_on at (extracted g)))
  shape_asks (several ss) at = list_asks same 0 ss at

  -- shapes in order, of which the first has this index
  pub list_asks : UnderNode → (index : ℕ) → ShapeList → (at : Place) → List ConstrainedNode
  list_asks under i no_shapes at = []
  list_asks under i (more_shapes s ss) at = shape_asks s (place_under under i at) ++ list_asks under (suc i) ss at
