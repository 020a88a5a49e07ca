-- Where names occur in the source.
use Rattle.std.specs.Prelude.{ℕ, ◌+◌, List, [], ◌∷◌, Bool, true, false, ◌&&◌, Option, None, Some, option_and_then, length, filter, nat_le, ◌==◌, if◌then◌else◌}
use Rattle.std.specs.List.{filter_map}
use Rattle.isle_base_source.specs.declared.pos.Pos.{Pos}
use Rattle.isle_ast_names.specs.Tree.{Name}
use Rattle.isle_resolve.specs.declared.event.Kind.{Kind}
use Rattle.isle_resolve.specs.declared.event.Kind.TheVariants as kinds
use Rattle.isle_resolve.specs.Event.{EventNode, defines, uses, defines_variant, occurs, binds, reads, closes, ends}
use Rattle.isle_resolve.specs.Scopes.{SeenNode}
use Rattle.isle_resolve.specs.Names.{NameNode, is_of, is_number, meaning}
use Rattle.isle_index.specs.declared.occurrences.Occurrence.{Occurrence}

-- the length of a name in the source: a constant has a `$`
abbrev pub written_len : Kind → Name → ℕ
written_len kinds.Term name = length name.text
written_len kinds.Type name = length name.text
written_len kinds.Constant name = length name.text + 1

abbrev pub place : Name → ℕ → Bool → Option Occurrence
place name len is_definition = Some (record { pos = name.pos; len = len; is_definition = is_definition })

-- the occurrence of an event's name. A variable is defined by the event that binds it
abbrev pub occurrence_of : EventNode → Bool → Option Occurrence
occurrence_of (defines kind name) own = place name (written_len kind name) true
occurrence_of (uses kind name) own = place name (written_len kind name) false
occurrence_of (defines_variant owner member) own = place member (length member.text) true
occurrence_of (occurs _ name) own = place name (length name.text) own
occurrence_of (binds name) own = place name (length name.text) own
occurrence_of (reads name) own = place name (length name.text) own
occurrence_of closes own = None
occurrence_of ends own = None

abbrev pub occurrence : SeenNode → Option Occurrence
occurrence s = occurrence_of s.event (is_number s.number s.binder)

-- the occurrences of a name, in the order of the events
abbrev pub occurrences : NameNode → List SeenNode → List Occurrence
occurrences name ss = filter_map occurrence (filter (is_of name) ss)

abbrev pub definitions : NameNode → List SeenNode → List Occurrence
definitions name ss = filter (λ o. o.is_definition) (occurrences name ss)

-- whether a position is at a byte of an occurrence or right after its last one
abbrev pub covers : Pos → Occurrence → Bool
covers place o = (o.pos.file == place.file) && nat_le o.pos.offset place.offset && nat_le place.offset (o.pos.offset + o.len)

abbrev pub is_covered : Pos → Option Occurrence → Bool
is_covered place None = false
is_covered place (Some o) = covers place o

-- the first event whose name covers a position
abbrev pub seen_at : Pos → List SeenNode → Option SeenNode
seen_at place [] = None
seen_at place (s ∷ ss) = if is_covered place (occurrence s) then Some s else seen_at place ss

abbrev pub occurrence_at : Pos → List SeenNode → Option Occurrence
occurrence_at place ss = option_and_then occurrence (seen_at place ss)

-- the name at a position
abbrev pub name_at : Pos → List SeenNode → Option NameNode
name_at place ss = option_and_then (λ s. meaning s.event s.binder) (seen_at place ss)
