-- What the check of programs tells of one of their files.
use Rattle.std.specs.Prelude.{◌≡◌, ℕ, ◌+◌, ◌-◌, ◌⊎◌, List, [], ◌∷◌, ◌++◌, Bool, false, Option, None, Some, drop, length, map, max, min, slice_get, string_bytes, if◌then◌else◌}
use Rattle.std.specs.List.{flat_map, list_any, prefix_len}
use Rattle.std.specs.Str.{bytes_eq}
use Rattle.isle_base.specs.Spellings.{in_symbol}
use Rattle.isle_base_source.specs.Source.{Source}
use Rattle.isle_base_source.specs.declared.error.Error.{Error}
use Rattle.isle_base_source.specs.declared.pos.Pos.{Pos}
use Rattle.isle_ast.specs.Tree.{Definition}
use Rattle.isle_check_core.specs.FindingWords.{finding_notes, kind_words}
use Rattle.isle_check_core.specs.Findings.{FindingNode, findings, is_error}
use Rattle.isle_check_messages.specs.Notes.{NoteNode}
use Rattle.isle_check_messages.specs.Words.{WordsNode}
use Rattle.isle_program.specs.Nesting.{FirstDeep}
use Rattle.isle_program.specs.Reading.{IsDeepWith, IsRefusedWith, IsTreeOf}
use Rattle.isle_lsp_features.specs.Programs.{Text}
use Rattle.isle_lsp_diagnostics.specs.Marks.{Mark, check, is_same}
use Rattle.isle_lsp_diagnostics.specs.declared.checks.Told.{Told as CodeTold}

-- the end of what begins here: that of a symbol, and otherwise one byte on, if there is one
abbrev pub part_end : List ℕ → (start : ℕ) → ℕ
part_end text start = start + max (prefix_len in_symbol (drop start text)) (min 1 (length text - start))

-- what a finding tells: where, whether it is an error, its kind, and its message
pub record Told : Type 0 where
  pub pos : Pos
  pub is_error : Bool
  pub kind : List ℕ
  pub message : List ℕ

abbrev pub told_of : CodeTold → Told
told_of t = record { pos = t.pos; is_error = t.is_error; kind = t.kind.now; message = string_bytes t.message }

abbrev pub told_in : Pos → Bool → WordsNode → Told
told_in pos is_error words = record { pos = pos; is_error = is_error; kind = words.name; message = words.message }

abbrev pub told : FindingNode → Told
told f = told_in f.pos (is_error f.kind) (kind_words f.kind)

-- a note tells of another place what the finding is
abbrev pub told_note : (is_error : Bool) → (kind : List ℕ) → NoteNode → Told
told_note is_error kind n = record { pos = n.pos; is_error = is_error; kind = kind; message = n.message }

-- a finding, and its notes
abbrev pub all_told : FindingNode → List Told
all_told f = told f ∷ map (told_note (is_error f.kind) (kind_words f.kind).name) (finding_notes f)

-- the mark of what is told, cut at the end of the text
abbrev pub checked_mark_at : List ℕ → (start : ℕ) → Told → Mark
checked_mark_at text start t = record { start = start; end = part_end text start; finder = check t.is_error t.kind; message = t.message }

abbrev pub checked_mark : List ℕ → Told → Mark
checked_mark text t = checked_mark_at text (min t.pos.offset (length text)) t

-- whether a text is of this file
abbrev pub is_of : List ℕ → Option Text → Bool
is_of file None = false
is_of file (Some t) = bytes_eq t.file file

-- whether a position in a program is in this file
abbrev pub is_in : List Text → (file : List ℕ) → Pos → Bool
is_in program file pos = is_of file (slice_get program pos.file)

-- the mark of what is told in a program, if it is in this file
abbrev pub marks_for : List Text → (file text : List ℕ) → Told → List Mark
marks_for program file text t = if is_in program file t.pos then checked_mark text t ∷ [] else []

abbrev pub marks_in : List Text → (file text : List ℕ) → List Told → List Mark
marks_in program file text ts = flat_map (marks_for program file text) ts

abbrev pub source_of : Text → Source
source_of t = record { name = []; text = t.text }

abbrev pub sources_of : List Text → List Source
sources_of program = map source_of program

-- a text, as the file of this number, spells this tree, and does not nest too deeply
abbrev pub HasTree : (number : ℕ) → List ℕ → List Definition → Type 0
HasTree number text ds = FirstDeep text None × IsTreeOf number text ds

-- a text spells no tree, or nests too deeply, whichever file it is
pub record IsRefusedText (text : List ℕ) : Type 0 where
  pub file : ℕ
  pub error : Error
  pub refused : (FirstDeep text None × IsRefusedWith file text error) ⊎ IsDeepWith file text error

-- one of the texts is refused
abbrev pub HasRefused : List Source → Type 0
HasRefused [] = ⊥
HasRefused (s ∷ ss) = IsRefusedText s.text ⊎ HasRefused ss

-- each text has a tree, as the files from this number on, and these are the definitions of all
abbrev pub AreTrees : (number : ℕ) → List Source → List Definition → Type 0
AreTrees number [] ds = ds ≡ []
AreTrees number (s ∷ ss) ds =
    (own later : List Definition) × HasTree number s.text own × AreTrees (number + 1) ss later × (ds ≡ own ++ later)

-- each text has a tree, and this is what the findings tell of these definitions with those of all the texts behind them
pub record AreFoundAfter (before : List Definition) (number : ℕ) (sources : List Source) (all : List Told) : Type 0 where
  pub definitions : List Definition
  pub trees : AreTrees number sources definitions
  pub are : all ≡ flat_map all_told (findings (before ++ definitions))

-- this is what the check tells of these definitions with the texts behind them: if one of the texts is refused, nothing
abbrev pub AreToldAfter : (before : List Definition) → (number : ℕ) → (sources : List Source) → (all : List Told) → Type 0
AreToldAfter before number sources all = AreFoundAfter before number sources all ⊎ (HasRefused sources × (all ≡ []))

-- this is what the check of a program of these texts tells
abbrev pub AreTold : (sources : List Source) → (all : List Told) → Type 0
AreTold sources all = AreToldAfter [] 0 sources all

-- a program that is checked: its texts, and what the check tells
pub record CheckedProgram : Type 0 where
  pub sources : List Source
  pub all : List Told

-- these are the marks in a file, which has this text, of what the check of a program tells
abbrev pub AreProgramMarks : List Text → (file text : List ℕ) → List Mark → Type 0
AreProgramMarks program file text marks =
    (all : List Told) × AreTold (sources_of program) all × (marks ≡ marks_in program file text all)

-- a mark is added, unless one is there that tells the same
abbrev pub is_among : List Mark → Mark → Bool
is_among marks m = list_any (λ other. is_same other m) marks

abbrev pub added : List Mark → Mark → List Mark
added marks m = if is_among marks m then marks else marks ++ m ∷ []

abbrev pub all_added : (marks more : List Mark) → List Mark
all_added marks [] = marks
all_added marks (m ∷ more) = all_added (added marks m) more

-- to these marks those of each program are added, and then they are the others
abbrev pub AreChecked : (programs : List (List Text)) → (file text : List ℕ) → (marks all : List Mark) → Type 0
AreChecked [] file text marks all = all ≡ marks
AreChecked (p ∷ ps) file text marks all =
    (own : List Mark) × AreProgramMarks p file text own × AreChecked ps file text (all_added marks own) all
