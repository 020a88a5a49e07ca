-- What is told of a finding, and its encoding.
use Rattle.std.specs.Prelude.{◌≡◌, ℕ, List, [], ◌++◌, Bool, false, map}
use Rattle.std.specs.List.Sorted.{IsPermutation, IsSortedByKey}
use Rattle.isle_base_source.specs.declared.pos.Pos.{Pos}
use Rattle.isle_ast.specs.Tree.{Definition}
use Rattle.isle_check_core.specs.Findings.{FindingNode, findings, is_error}
use Rattle.isle_check_core.specs.FindingWords.{finding_notes, kind_words}
use Rattle.isle_check_messages.specs.Notes.{NoteNode, notes_of}
use Rattle.isle_lint_core.specs.Finding.{Found, finding_cmp, finding_of, message_of}
use Rattle.isle_lint_core.specs.Findings.{findings_in}
use Rattle.isle_lint_core.specs.Lint.{name}
use Rattle.isle_lint_core.specs.declared.finding.Finding.{Finding}
use Rattle.isle_lint_core.specs.declared.lint.Lint.{Lint}
use Rattle.isle_encoding.specs.Names.{position, text}
use Rattle.isle_encoding.specs.Numbers.{flag, list, number}
use Rattle.isle_encoding.specs.declared.findings.told.Told.{Told}

-- whether it is an error, the name of its kind or of its lint, its place, its message, and what is told of other places
pub record ToldNode : Type 0 where
  pub is_error : Bool
  pub name : List ℕ
  pub pos : Pos
  pub message : List ℕ
  pub notes : List NoteNode

-- that of the code
abbrev pub told_of : Told → ToldNode
told_of t = record { is_error = t.is_error; name = t.name.now; pos = t.pos; message = t.message.now; notes = notes_of t.notes.now }

-- of an error or a warning
abbrev pub told : FindingNode → ToldNode
told f = record {
  is_error = is_error f.kind;
  name = (kind_words f.kind).name;
  pos = f.pos;
  message = (kind_words f.kind).message;
  notes = finding_notes f;
}

-- of a finding of a lint, which is a warning
abbrev pub told_lint : Found → ToldNode
told_lint f = record { is_error = false; name = name f.lint; pos = f.pos; message = message_of f; notes = [] }

abbrev pub note : NoteNode → List ℕ
note n = position n.pos ++ text n.message

-- its parts, in order
abbrev pub finding : ToldNode → List ℕ
finding t = flag t.is_error ++ text t.name ++ position t.pos ++ text t.message ++ list note t.notes

-- the version of the encoding
abbrev pub version : ℕ
version = 1

-- the version, and the findings
abbrev pub encoded : List ToldNode → List ℕ
encoded ts = number version ++ list finding ts

-- of all that is found in a program
abbrev pub encoded_checks : List Definition → List ℕ
encoded_checks ds = encoded (map told (findings ds))

-- These lints find this in the definitions, each finding once, in order of place, then of lint, then of name; and the answer is its encoding.
pub record IsEncodedLints (lints : List Lint) (ds : List Definition) (answer : List ℕ) : Type 0 where
  pub found : List Finding
  pub exact : IsPermutation (findings_in lints ds) (map finding_of found)
  pub in_order : IsSortedByKey finding_of finding_cmp found
  pub written : answer ≡ encoded (map told_lint (map finding_of found))
