-- What is told of a program: a line for each text that spells no tree, or else for each finding.
use Rattle.std.specs.Prelude.{◌≡◌, ℕ, ◌+◌, ◌==◌, List, [], ◌∷◌, ◌++◌, Bool, true, false, Option, None, Some, if◌then◌else◌, count_by, map, slice_get}
use Rattle.std.specs.List.{flat_map}
use Rattle.isle_base_source.specs.Lines.{line_ends}
use Rattle.isle_base_source.specs.Source.{Source}
use Rattle.isle_base_source.specs.declared.error.Error.{Error}
use Rattle.isle_base_source.specs.declared.pos.Pos.{Pos}
use Rattle.isle_ast.specs.Tree.{Definition}
use Rattle.isle_cli.specs.Arguments.{Given}
use Rattle.isle_check_core.specs.Findings.{FindingNode, findings, is_error}
use Rattle.isle_check_core.specs.FindingWords.{finding_notes, kind_words}
use Rattle.isle_check_messages.specs.Notes.{NoteNode}
use Rattle.isle_check_messages.specs.Words.{WordsNode}
use Rattle.isle_check.specs.Options.{is_allowed}
use Rattle.isle_program_findings.specs.Naming.{counts}
use Rattle.isle_program.specs.Reading.{IsReading, refused_count}
use Rattle.isle_program.specs.SeveralPrograms.{several_programs_note}
use Rattle.isle_program.specs.reports.Formats.{format_in}
use Rattle.isle_program.specs.reports.Lines.{told_line}
use Rattle.isle_program.specs.reports.Messages.{MessageNode}
use Rattle.isle_program.specs.reports.Refusals.{is_refused, told_count, told_refusal_of}
use Rattle.isle_program_findings.specs.ReportView.{ReportNode}
use Rattle.isle_program.specs.declared.reports.format.Format.{Format}
use Rattle.isle_program.specs.declared.reports.message.Severity.{Severity}
use Rattle.isle_program.specs.declared.reports.message.Severity.TheVariants as severities

-- a finding's line and those of its notes, each with its newline, and whether it tells an error
pub record LineNode : Type 0 where
  pub is_error : Bool
  pub text : List ℕ

-- what is told of a finding, with the lines of its notes
pub record ToldNode : Type 0 where
  pub pos : Pos
  pub is_error : Bool
  pub words : WordsNode
  pub notes : List ℕ

-- the line of a message about a position, if there is its text
abbrev pub told_of : Format → Option Source → (offset : ℕ) → MessageNode → List ℕ
told_of format None offset m = []
told_of format (Some source) offset m = told_line format source offset m

abbrev pub told_at : Format → List Source → Pos → MessageNode → List ℕ
told_at format sources pos m = told_of format (slice_get sources pos.file) pos.offset m

abbrev pub severity : Bool → Severity
severity true = severities.Error
severity false = severities.Warning

-- a message that is told of these programs
abbrev pub finding_message : (programs : List ℕ) → ToldNode → MessageNode
finding_message programs t = record { severity = severity t.is_error; kind = t.words.name; text = t.words.message; programs = programs }

-- a note has no kind
abbrev pub note_message : NoteNode → MessageNode
note_message n = record { severity = severities.Note; kind = []; text = n.message; programs = [] }

abbrev pub note_line : Format → List Source → NoteNode → List ℕ
note_line format sources n = told_at format sources n.pos (note_message n)

abbrev pub finding_line : Format → (programs : List ℕ) → List Source → ToldNode → LineNode
finding_line format programs sources t =
    record { is_error = t.is_error; text = told_at format sources t.pos (finding_message programs t) ++ t.notes }

-- a finding is told as an error
abbrev pub is_told_as_error : List Given → FindingNode → Bool
is_told_as_error given f = counts (is_error f.kind) given (kind_words f.kind).name

-- where the lines of each text end
abbrev pub line_maps : List Source → List (List ℕ)
line_maps sources = map (λ s. line_ends s.text) sources

abbrev pub told_finding : List Given → List Source → FindingNode → ToldNode
told_finding given sources f =
    record {
      pos = f.pos;
      is_error = is_told_as_error given f;
      words = kind_words f.kind;
      notes = flat_map (note_line (format_in given) sources) (finding_notes f);
    }

-- of a finding whose kind isn't allowed
abbrev pub told_for : List Given → List Source → FindingNode → List ToldNode
told_for given sources f = if is_allowed given (kind_words f.kind).name then [] else told_finding given sources f ∷ []

abbrev pub told_all : List Given → List Source → List FindingNode → List ToldNode
told_all given sources fs = flat_map (told_for given sources) fs

-- what is told of the findings in these definitions
abbrev pub told_in : List Given → List Source → List Definition → List ToldNode
told_in given sources ds = told_all given sources (findings ds)

abbrev pub finding_lines : Format → List Source → List ToldNode → List LineNode
finding_lines format sources told = map (finding_line format [] sources) told

-- the lines of what is found in these definitions
abbrev pub lines_of : List Given → List Source → List Definition → List LineNode
lines_of given sources ds = finding_lines (format_in given) sources (told_in given sources ds)

-- how many lines tell errors, or how many tell warnings
abbrev pub counts_as : Bool → LineNode → Bool
counts_as true line = line.is_error
counts_as false line = if line.is_error then false else true

abbrev pub count_of : Bool → List LineNode → ℕ
count_of as_error lines = count_by (counts_as as_error) lines

abbrev pub joined : List LineNode → List ℕ
joined lines = flat_map (λ line. line.text) lines

-- the report that has these lines; it is clean if none tells an error
abbrev pub rendered : Format → List LineNode → ReportNode
rendered format lines =
    record {
      text = joined lines ++ told_count format (count_of true lines) (count_of false lines);
      is_clean = count_of true lines == 0;
    }

-- the line of a text that spells no tree
abbrev pub refused_line : Format → Source → Option (Option Error) → List LineNode
refused_line format source refusal =
    if is_refused refusal then record { is_error = true; text = told_refusal_of format source refusal } ∷ [] else []

-- the lines of those among the texts from this number on
abbrev pub refused_lines : Format → ℕ → List Source → List (Option Error) → List LineNode
refused_lines format file [] refusals = []
refused_lines format file (source ∷ sources) refusals =
    refused_line format source (slice_get refusals file) ++ refused_lines format (file + 1) sources refusals

-- the report on texts some of which spell no tree
abbrev pub refused : Format → List Source → List (Option Error) → ReportNode
refused format sources refusals = rendered format (refused_lines format 0 sources refusals)

abbrev pub report_in : List Given → List Source → List Definition → List (Option Error) → ReportNode
report_in given sources ds refusals =
    if refused_count refusals == 0 then rendered (format_in given) (lines_of given sources ds) else refused (format_in given) sources refusals

-- this is told of the program that the texts are, and this is the note on them, if they look like several programs
pub record IsReport (given : List Given) (sources : List Source) (report : ReportNode) (note : List ℕ) : Type 0 where
  pub definitions : List Definition
  pub refusals : List (Option Error)
  pub read : IsReading sources definitions refusals
  pub is : report ≡ report_in given sources definitions refusals
  pub noted : note ≡ several_programs_note sources definitions
