-- What the program does to its streams, whose bytes are known or not, before a call and after it.
use Rattle.std.specs.Prelude.{◌≡◌, ℕ, List, Option, take, IsUtf8}
use Rattle.std.specs.Io.KnownBytes.{Appends, Consumes, IsAtEnd}
use Rattle.std.specs.Str.Lossy.{utf8_valid_len}
use Rattle.std.specs.declared.io.ErrorKind.{ErrorKind}
use Rattle.std.specs.declared.io.ErrorKind.TheVariants as kinds
use Rattle.isle_cli.specs.declared.streams.ReadFault.{ReadFault}
use Rattle.isle_cli.specs.declared.streams.ReadFault.TheVariants.{Missing, Denied, Folder, NotUtf8, Unreadable, Memory}

-- The reader was read to its end, and gave a text in UTF-8 of which P holds.
pub record ReadsText (old new : Option (List ℕ)) (P : List ℕ → Type 0) : Type 0 where
  pub text : List ℕ
  pub consumed : Consumes old new text
  pub ended : IsAtEnd new
  pub utf8 : IsUtf8 text
  pub holds : P text

-- The reader was read to its end, and gave bytes that aren't UTF-8: so many of them stand in front of the first that is wrong.
pub record ReadsNoText (old new : Option (List ℕ)) (offset : ℕ) : Type 0 where
  pub bytes : List ℕ
  pub consumed : Consumes old new bytes
  pub ended : IsAtEnd new
  pub not_utf8 : ¬ (IsUtf8 bytes)
  pub valid : offset ≡ utf8_valid_len bytes

-- why a reader gave no text: its bytes are none, or it failed, or memory did
abbrev pub IsStreamFault : (old new : Option (List ℕ)) → ReadFault → Type 0
IsStreamFault old new (NotUtf8 offset) = ReadsNoText old new offset
IsStreamFault old new fault = Unit {0}

-- the reader or memory failed
abbrev pub IsBroken : ReadFault → Type 0
IsBroken (NotUtf8 offset) = ⊥
IsBroken fault = Unit {0}

-- what an error of the system says of what is read
abbrev pub fault_of : ErrorKind → ReadFault
fault_of kinds.NotFound = Missing
fault_of kinds.PermissionDenied = Denied
fault_of kinds.IsADirectory = Folder
fault_of kinds.OutOfMemory = Memory
fault_of _ = Unreadable

-- the writer's bytes grew by a text of which P holds
abbrev pub Writes : Option (List ℕ) → Option (List ℕ) → (List ℕ → Type 0) → Type 0
Writes old new P = (bytes : List ℕ) × P bytes × Appends old new bytes

-- the writer's bytes grew by a beginning of these, none or all of them perhaps
abbrev pub AppendsBeginning : Option (List ℕ) → Option (List ℕ) → List ℕ → Type 0
AppendsBeginning old new bytes = (n : ℕ) × Appends old new (take n bytes)

-- the same of a text of which P holds
abbrev pub WritesBeginning : Option (List ℕ) → Option (List ℕ) → (List ℕ → Type 0) → Type 0
WritesBeginning old new P = (bytes : List ℕ) × P bytes × AppendsBeginning old new bytes
