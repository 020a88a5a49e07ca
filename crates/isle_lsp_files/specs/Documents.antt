-- The documents that an editor has open.
use Rattle.std.specs.Prelude.{ℕ, ℤ, List, [], ◌∷◌, Bool, false, ◌||◌, Option, None, Some, bytes_eq, if◌then◌else◌, string_bytes}
use Rattle.isle_lsp_files.specs.declared.documents.Document.{Document as Code}

-- a document: its URI, the file that it is, its version, and its text
pub record Document : Type 0 where
  pub uri : List ℕ
  pub file : List ℕ
  pub version : Option ℤ
  pub text : List ℕ

abbrev pub document : (uri file : List ℕ) → (version : Option ℤ) → (text : List ℕ) → Document
document uri file version text = record { uri = uri; file = file; version = version; text = text }

-- the document of the code
abbrev pub document_of : Code → Document
document_of d = document (string_bytes d.uri) (string_bytes d.file) d.version (string_bytes d.text)

-- the document with this URI
abbrev pub document_at : List ℕ → List Document → Option Document
document_at uri [] = None
document_at uri (d ∷ ds) = if bytes_eq d.uri uri then Some d else document_at uri ds

-- the documents without the one with this URI
abbrev pub without : List ℕ → List Document → List Document
without uri [] = []
without uri (d ∷ ds) = if bytes_eq d.uri uri then ds else d ∷ without uri ds

-- whether a document is this file
abbrev pub has_file : List ℕ → List Document → Bool
has_file file [] = false
has_file file (d ∷ ds) = bytes_eq d.file file || has_file file ds

-- the documents, each file once: one that is the file of a later one is left out
abbrev pub latest : List Document → List Document
latest [] = []
latest (d ∷ ds) = if has_file d.file ds then latest ds else d ∷ latest ds
