-- Messages as JSON objects.
use Rattle.std.specs.Prelude.{◌≡◌, ℕ, ◌==◌, List, ◌++◌, Some, codes, if◌then◌else◌, length}
use Rattle.serde_json.specs.Data.{Data, null, number, unsigned, string, object, member, no_members}
use Rattle.serde_json.specs.Read.{read}
use Rattle.serde_json.specs.Written.{compact_text}
use Rattle.isle_program.specs.reports.Messages.{MessageNode, plain_text, severity_word}

-- the name of a kind, and null for none
abbrev pub kind_data : List ℕ → Data
kind_data kind = if length kind == 0 then null else string kind

abbrev pub object_data : (name : List ℕ) → (line column : ℕ) → MessageNode → Data
object_data name line column m =
    object (member (codes "column") (number (unsigned column)) (member (codes "file") (string name) (member (codes "kind") (kind_data m.kind)
    (member (codes "line") (number (unsigned line)) (member (codes "message") (string (plain_text m))
    (member (codes "severity") (string (severity_word m.severity)) no_members))))))

abbrev pub object_line : (name : List ℕ) → (line column : ℕ) → MessageNode → List ℕ
object_line name line column m = compact_text (object_data name line column m) ++ codes "\n"

-- a text that reads back as the data, and a line end
abbrev pub IsObjectLine : Data → List ℕ → Type 0
IsObjectLine d line = (text : List ℕ) × (line ≡ text ++ codes "\n") × (read text ≡ Some d)
