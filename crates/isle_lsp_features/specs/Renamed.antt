-- The edits that rename a name, as JSON.
use Rattle.std.specs.Prelude.{ℕ, ◌+◌, List, [], ◌∷◌, ◌++◌, ◌==◌, ◌||◌, Bool, true, false, Option, None, Some, codes, length, min, slice_get, if◌then◌else◌}
use Rattle.std.specs.List.{flat_map}
use Rattle.serde_json.specs.Data.{Data, Members, null, array, no_members, put}
use Rattle.serde_json.specs.View.{items_of}
use Rattle.isle_lsp_features.specs.Programs.{Text}
use Rattle.isle_base_source.specs.declared.pos.Pos.{Pos}
use Rattle.isle_resolve.specs.Names.{NameNode, global, variable}
use Rattle.isle_index.specs.Renaming.{Part, can_be_renamed, part_of, part_text}
use Rattle.isle_index.specs.Renamed.{front}
use Rattle.isle_resolve.specs.Scopes.{SeenNode}
use Rattle.isle_index.specs.declared.occurrences.Occurrence.{Occurrence}
use Rattle.isle_index.specs.declared.rename.Refusal.{Refusal}
use Rattle.isle_index.specs.declared.rename.Refusal.TheVariants.{NotAName, Undefined, Variant, Taken, Captured}
use Rattle.isle_resolve.specs.declared.event.Kind.TheVariants as kinds
use Rattle.isle_lsp_protocol.specs.Items.{edits_data}
use Rattle.isle_lsp_protocol.specs.Results.{document_edits, plain_edit, range_data, workspace_edit}
use Rattle.isle_lsp_text.specs.Numbers.{is_behind_number}
use Rattle.isle_lsp_text.specs.Ranges.{range_at}
use Rattle.isle_lsp_text.specs.declared.positions.Range.{Range}
use Rattle.isle_lsp_text.specs.declared.positions.PositionEncoding.{PositionEncoding}

-- the number of bytes in front of the part of a name that gets the new text, where the name is at this position: the
-- `$` of a constant, and of a variant its type and the dot
abbrev pub skipped : NameNode → Part → Pos → ℕ
skipped (global kinds.Constant _) part pos = 1
skipped (global kinds.Term _) part pos = length (front part pos)
skipped (global kinds.Type _) part pos = length (front part pos)
skipped (variable _ _) part pos = length (front part pos)

-- the offset of the part in a text, where the name is at this position
abbrev pub part_offset : List ℕ → NameNode → Part → Pos → ℕ
part_offset text name part pos = min pos.offset (length text) + min (skipped name part pos) (length text)

abbrev pub is_shared_text : Option Text → Bool
is_shared_text None = false
is_shared_text (Some s) = s.is_shared

-- whether a position is in a text that other programs share
abbrev pub is_shared_at : List Text → Pos → Bool
is_shared_at program p = is_shared_text (slice_get program p.file)

-- whether one of these positions is
abbrev pub are_shared : List Text → List Pos → Bool
are_shared program [] = false
are_shared program (p ∷ ps) = is_shared_at program p || are_shared program ps

abbrev pub shared_reason : List ℕ
shared_reason = codes "the name is used in a file that other programs share: rename it there"

-- whether the part of a name that gets the new text directly follows a number in a text
abbrev pub is_glued_in : List ℕ → NameNode → Part → Pos → Bool
is_glued_in text name part pos = is_behind_number text (part_offset text name part pos)

abbrev pub is_glued_text : Option Text → NameNode → Part → Pos → Bool
is_glued_text None name part pos = false
is_glued_text (Some s) name part pos = is_glued_in s.text name part pos

-- whether it does so at a position
abbrev pub is_glued_at : List Text → NameNode → Part → Pos → Bool
is_glued_at program name part pos = is_glued_text (slice_get program pos.file) name part pos

-- whether it does so at one of these positions
abbrev pub are_glued : List Text → NameNode → Part → List Pos → Bool
are_glued program name part [] = false
are_glued program name part (p ∷ ps) = is_glued_at program name part p || are_glued program name part ps

abbrev pub glued_reason : List ℕ
glued_reason = codes "a use of the name directly follows a number: put a space between them"

-- the message of a refusal
abbrev pub reason_of : Refusal → List ℕ
reason_of NotAName = codes "not a valid ISLE identifier"
reason_of Undefined = codes "the name is not defined in the workspace"
reason_of Variant = codes "a variant of another type is the same term"
reason_of Taken = codes "the new name is already in use"
reason_of Captured = codes "the new name would shadow, or be shadowed by, another variable"

-- the range of the part of a name, where the name is at this position
abbrev pub part_range : PositionEncoding → List ℕ → NameNode → Part → Pos → Range
part_range enc text name part pos = range_at enc text (part_offset text name part pos) (length (part_text part))

-- the range at a place, if it is in the text with this number
abbrev pub range_in : PositionEncoding → ℕ → List ℕ → NameNode → Part → Pos → List Range
range_in enc file text name part pos = if pos.file == file then part_range enc text name part pos ∷ [] else []

abbrev pub document_change : Text → (new : List ℕ) → List Range → List Data
document_change s new [] = []
document_change s new (r ∷ rs) = document_edits s.uri s.version (edits_data new (r ∷ rs)) ∷ []

-- the edits in a text, if there are any
abbrev pub change_in : ℕ → Text → NameNode → Part → List ℕ → List Pos → List Data
change_in file s name part new places = document_change s new (flat_map (range_in s.encoding file s.text name part) places)

-- the edits in texts that are numbered from this number on
abbrev pub changes_from : ℕ → List Text → NameNode → Part → List ℕ → List Pos → List Data
changes_from file [] name part new places = []
changes_from file (s ∷ ss) name part new places = change_in file s name part new places ++ changes_from (file + 1) ss name part new places

abbrev pub document_changes : List Text → NameNode → Part → List ℕ → List Pos → Data
document_changes program name part new places = workspace_edit (array (items_of (changes_from 0 program name part new places)))

-- with the edits in a text, if there are any, in place of earlier ones at its URI
abbrev pub with_change : Text → (new : List ℕ) → List Range → Members → Members
with_change s new [] changes = changes
with_change s new (r ∷ rs) changes = put s.uri (edits_data new (r ∷ rs)) changes

-- with the edits in texts that are numbered from this number on
abbrev pub with_changes : ℕ → List Text → NameNode → Part → List ℕ → List Pos → Members → Members
with_changes file [] name part new places changes = changes
with_changes file (s ∷ ss) name part new places changes =
    with_changes (file + 1) ss name part new places (with_change s new (flat_map (range_in s.encoding file s.text name part) places) changes)

abbrev pub plain_changes : List Text → NameNode → Part → List ℕ → List Pos → Data
plain_changes program name part new places = plain_edit (with_changes 0 program name part new places no_members)

-- the edits in a program: of documents with their versions, if the client takes these
abbrev pub changes : (takes_document_changes : Bool) → List Text → NameNode → Part → List ℕ → List Pos → Data
changes true program name part new places = document_changes program name part new places
changes false program name part new places = plain_changes program name part new places

-- a name, if it can be renamed at all
abbrev pub renamable : Option NameNode → List SeenNode → Option NameNode
renamable None all = None
renamable (Some name) all = if can_be_renamed name all then Some name else None

-- the range of the part of a name at an occurrence, or null if there is none
abbrev pub place_range : PositionEncoding → List ℕ → NameNode → Part → Option Occurrence → Data
place_range enc text name part None = null
place_range enc text name part (Some o) = range_data (part_range enc text name part o.pos)

-- the range of the part of the name at a place that a renaming changes; null if no name is there
abbrev pub prepared : PositionEncoding → List ℕ → List SeenNode → Option NameNode → Option Occurrence → Data
prepared enc text all None o = null
prepared enc text all (Some name) o = place_range enc text name (part_of name all) o
