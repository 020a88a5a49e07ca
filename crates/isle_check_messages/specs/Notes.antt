-- What is told of other rules beside an error of a rule.
use Rattle.std.specs.Prelude.{ℕ, List, [], ◌∷◌, ◌++◌, ◌==◌, codes, if◌then◌else◌, map, string_bytes}
use Rattle.std.specs.Fmt.{decimal}
use Rattle.isle_base_source.specs.declared.pos.Pos.{Pos}
use Rattle.isle_check_overlaps.specs.Faults.{KindNode, OtherNode, two_constraints, unequal_constraints, part_of_itself, overlaps, shadows, shadows_with_equals}
use Rattle.isle_check_messages.specs.declared.notes.Note.{Note}
use Rattle.isle_check_messages.specs.OverlapWords.{both_text}

-- a message about another place
pub record NoteNode : Type 0 where
  pub pos : Pos
  pub message : List ℕ

abbrev pub note : Pos → List ℕ → NoteNode
note pos message = record { pos = pos; message = message }

-- that more rules are left out is told at the rule
abbrev pub left_out_note : Pos → (count : ℕ) → List NoteNode
left_out_note pos count = if count == 0 then [] else note pos (codes "more such rules: " ++ decimal count) ∷ []

abbrev pub other_note : OtherNode → NoteNode
other_note o = note o.pos (codes "this rule overlaps with another one: " ++ both_text o.value)

abbrev pub hidden_note : Pos → NoteNode
hidden_note pos = note pos (codes "this rule is hidden: a more general one has a higher priority")

-- of an error at this position
abbrev pub overlap_notes : Pos → KindNode → List NoteNode
overlap_notes pos (two_constraints _ _) = []
overlap_notes pos unequal_constraints = []
overlap_notes pos part_of_itself = []
overlap_notes pos (overlaps others left_out) = map other_note others ++ left_out_note pos left_out
overlap_notes pos (shadows hidden left_out) = map hidden_note hidden ++ left_out_note pos left_out
overlap_notes pos (shadows_with_equals hidden left_out) = map hidden_note hidden ++ left_out_note pos left_out

-- of code
abbrev pub note_of : Note → NoteNode
note_of n = note n.pos (string_bytes n.message)

abbrev pub notes_of : List Note → List NoteNode
notes_of ns = map note_of ns
