-- Messages, without their places.
use Rattle.std.specs.Prelude.{ℕ, ◌==◌, List, [], ◌++◌, codes, if◌then◌else◌, length}
use Rattle.isle_program.specs.declared.reports.message.Message.{Message}
use Rattle.isle_program.specs.declared.reports.message.Severity.{Severity}
use Rattle.isle_program.specs.declared.reports.message.Severity.TheVariants.{Error, Warning, Note}

-- a message: a kind or programs that are empty are none
pub record MessageNode : Type 0 where
  pub severity : Severity
  pub kind : List ℕ
  pub text : List ℕ
  pub programs : List ℕ

abbrev pub message_of : Message → MessageNode
message_of m = record { severity = m.severity; kind = m.kind.now; text = m.text.now; programs = m.programs.now }

abbrev pub severity_word : Severity → List ℕ
severity_word Error = codes "error"
severity_word Warning = codes "warning"
severity_word Note = codes "note"

abbrev pub kind_text : List ℕ → List ℕ
kind_text kind = if length kind == 0 then [] else codes " [" ++ (kind ++ codes "]")

-- what people read: the text, the kind in brackets, and the programs
abbrev pub shown_text : MessageNode → List ℕ
shown_text m = m.text ++ (kind_text m.kind ++ m.programs)

-- the same where the kind stands elsewhere
abbrev pub plain_text : MessageNode → List ℕ
plain_text m = m.text ++ m.programs
