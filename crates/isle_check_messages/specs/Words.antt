-- The words of a finding.
use Rattle.std.specs.Prelude.{ℕ, List, [], Option, None, Some, string_bytes}
use Rattle.isle_check_messages.specs.declared.words.Words.{Words}

-- the name of a kind of finding, and the message of a finding
pub record WordsNode : Type 0 where
  pub name : List ℕ
  pub message : List ℕ

abbrev pub words : List ℕ → List ℕ → WordsNode
words name message = record { name = name; message = message }

abbrev pub no_words : WordsNode
no_words = words [] []

-- the first words if there are any, and otherwise the second
abbrev pub first_of : Option WordsNode → WordsNode → WordsNode
first_of None second = second
first_of (Some first) second = first

-- those of the code
abbrev pub words_of : Words → WordsNode
words_of w = words w.name.now (string_bytes w.message)
