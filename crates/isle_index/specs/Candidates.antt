-- Completion: the names that can be written at a position.
use Rattle.std.specs.Prelude.{ℕ, List, [], ◌∷◌, ◌++◌, Bool, true, ◌&&◌, Option, None, Some, map, filter, codes, string_bytes, nat_le, nat_eq, ◌==◌, if◌then◌else◌}
use Rattle.std.specs.List.{filter_map, starts_with}
use Rattle.isle_base_source.specs.declared.pos.Pos.{Pos}
use Rattle.isle_resolve.specs.Scopes.{SeenNode, BoundNode, after}
use Rattle.isle_index.specs.Occurrences.{occurrence}
use Rattle.isle_index.specs.Symbols.{SymbolNode, symbol}
use Rattle.isle_index.specs.declared.occurrences.Occurrence.{Occurrence}
use Rattle.isle_index.specs.declared.candidates.Candidate.{Candidate}
use Rattle.isle_index.specs.declared.candidates.Near.{Near}
use Rattle.isle_index.specs.declared.symbols.SymbolKind.{SymbolKind}
use Rattle.isle_index.specs.declared.symbols.SymbolKind.TheVariants as symbol_kinds

pub record CandidateNode : Type 0 where
  pub kind : SymbolKind
  pub text : List ℕ

abbrev pub candidate_of : Candidate → CandidateNode
candidate_of c = record { kind = c.kind; text = string_bytes c.text }

abbrev pub is_behind : Option Near → ℕ → Bool
is_behind None offset = true
is_behind (Some best) offset = nat_le best.offset offset

-- whether an occurrence begins at or before a position, in its file, and not before the best one
abbrev pub is_nearer : Pos → Option Near → Occurrence → Bool
is_nearer place best o = (o.pos.file == place.file) && nat_le o.pos.offset place.offset && is_behind best o.pos.offset

abbrev pub nearer_by : Pos → Option Near → ℕ → Option Occurrence → Option Near
nearer_by place best number None = best
nearer_by place best number (Some o) = if is_nearer place best o then Some (record { number = number; offset = o.pos.offset }) else best

-- the last name that begins at or before a position; the later of two at one offset
abbrev pub nearest : Pos → Option Near → List SeenNode → Option Near
nearest place best [] = best
nearest place best (s ∷ ss) = nearest place (nearer_by place best s.number (occurrence s)) ss

-- the variables in scope after the event of this number
abbrev pub bound_at : ℕ → List BoundNode → List SeenNode → List BoundNode
bound_at number bound [] = []
bound_at number bound (s ∷ ss) =
    if s.number == number then after s.event s.number bound else bound_at number (after s.event s.number bound) ss

abbrev pub visible_by : ℕ → Option Near → List SeenNode → List BoundNode
visible_by from None ss = []
visible_by from (Some near) ss = if nat_le from near.offset then bound_at near.number [] ss else []

-- the variables in scope at the last name that begins at or before a position, if it begins at the offset `from` or
-- after it
abbrev pub visible : Pos → ℕ → List SeenNode → List BoundNode
visible place from ss = visible_by from (nearest place None ss) ss

-- the text of a symbol in the source of a rule
abbrev pub written : SymbolKind → List ℕ → List ℕ
written symbol_kinds.Term text = text
written symbol_kinds.Type text = text
written symbol_kinds.Variant text = text
written symbol_kinds.Constant text = codes "$" ++ text
written symbol_kinds.Variable text = text

abbrev pub global_candidate : SymbolNode → CandidateNode
global_candidate s = record { kind = s.kind; text = written s.kind s.text }

abbrev pub variable_candidate : BoundNode → CandidateNode
variable_candidate b = record { kind = symbol_kinds.Variable; text = b.text }

abbrev pub begins_with : List ℕ → CandidateNode → Bool
begins_with prefix c = starts_with nat_eq c.text prefix

-- the names that the program defines and the variables in scope, if they start with the prefix
abbrev pub candidates : Pos → ℕ → List ℕ → List SeenNode → List CandidateNode
candidates place from prefix ss =
    filter (begins_with prefix)
    (map global_candidate (filter_map (λ s. symbol s.event) ss) ++ map variable_candidate (visible place from ss))
