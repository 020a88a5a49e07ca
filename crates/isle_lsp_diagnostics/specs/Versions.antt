-- The version of a document, as it is written and read.
use Rattle.std.specs.Prelude.{ℤ, Option, None, Some}
use Rattle.serde_json.specs.Data.{number}
use Rattle.serde_json.specs.Find.{of_integer}
use Rattle.isle_lsp_protocol.specs.Written.{Reads}

-- the outline of a version, if it is known, reads as that version
abbrev pub VersionReads : Option ℤ → Type 0
VersionReads None = Unit {0}
VersionReads (Some version) = Reads (number (of_integer version))
