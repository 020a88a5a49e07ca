-- Scopes: which event binds the variable of an event. The events are numbered from 0. Of several variables of one name
-- that are bound, the last one hides the others.
use Rattle.std.specs.Prelude.{ℕ, ◌+◌, ◌-◌, List, [], ◌∷◌, ◌++◌, Option, None, Some, is_some, length, map, take, if◌then◌else◌}
use Rattle.std.specs.Str.{bytes_eq}
use Rattle.isle_ast_names.specs.Tree.{Name}
use Rattle.isle_resolve.specs.Event.{EventNode, defines, uses, defines_variant, occurs, binds, reads, closes, ends}
use Rattle.isle_resolve.specs.EventView.{event_of}
use Rattle.isle_resolve.specs.declared.scopes.Bound.{Bound}
use Rattle.isle_resolve.specs.declared.scopes.Seen.{Seen}

-- a variable that is bound, and the number of the event that binds it
pub record BoundNode : Type 0 where
  pub text : List ℕ
  pub number : ℕ

abbrev pub bound_of : Bound → BoundNode
bound_of b = record { text = b.text.now; number = b.number }

abbrev pub bounds_of : List Bound → List BoundNode
bounds_of bs = map bound_of bs

-- the first one if there is one, and otherwise the second
abbrev pub or_else : Option ℕ → Option ℕ → Option ℕ
or_else None second = second
or_else (Some n) second = Some n

-- the number of the last variable of this name
abbrev pub last_bound : List BoundNode → List ℕ → Option ℕ
last_bound [] text = None
last_bound (b ∷ bs) text = or_else (last_bound bs text) (if bytes_eq b.text text then Some b.number else None)

abbrev pub bound_more : List BoundNode → Name → ℕ → List BoundNode
bound_more bound name number = bound ++ record { text = name.text; number = number } ∷ []

-- the variables in scope after an event of this number, if these are in scope before it
abbrev pub after : EventNode → ℕ → List BoundNode → List BoundNode
after (defines _ _) number bound = bound
after (uses _ _) number bound = bound
after (defines_variant _ _) number bound = bound
after (occurs _ name) number bound = if is_some (last_bound bound name.text) then bound else bound_more bound name number
after (binds name) number bound = bound_more bound name number
after (reads _) number bound = bound
after closes number bound = take (length bound - 1) bound
after ends number bound = []

-- the number of the event that binds the variable of an event, if it has one
abbrev pub binder : EventNode → ℕ → List BoundNode → Option ℕ
binder (defines _ _) number bound = None
binder (uses _ _) number bound = None
binder (defines_variant _ _) number bound = None
binder (occurs _ name) number bound = or_else (last_bound bound name.text) (Some number)
binder (binds name) number bound = Some number
binder (reads name) number bound = last_bound bound name.text
binder closes number bound = None
binder ends number bound = None

-- an event with its number, and the number of the event that binds its variable
pub record SeenNode : Type 0 where
  pub event : EventNode
  pub number : ℕ
  pub binder : Option ℕ

abbrev pub seen_of : Seen → SeenNode
seen_of s = record { event = event_of s.event; number = s.number; binder = s.binder }

-- events, the first of which has this number. These variables are in scope before them
abbrev pub seen_from : ℕ → List BoundNode → List EventNode → List SeenNode
seen_from number bound [] = []
seen_from number bound (e ∷ es) =
    record { event = e; number = number; binder = binder e number bound } ∷ seen_from (number + 1) (after e number bound) es

-- all events of a program
abbrev pub seen : List EventNode → List SeenNode
seen es = seen_from 0 [] es
