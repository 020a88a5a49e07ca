-- What the disk shows of an editor's folders, from moment to moment.
use Rattle.std.specs.Prelude.{◌≡◌, ℕ, List, [], ◌∷◌, Option, None, Some, Result, Ok, Err, map, option_map, string_bytes}
use Rattle.isle_lsp_files.specs.Documents.{Document}
use Rattle.isle_lsp_files.specs.declared.disk.File.{File as CodeFile}
use Rattle.isle_lsp_files.specs.declared.disk.View.{View as CodeView}

-- a file: its real path, its URI, and its text
pub record File : Type 0 where
  pub path : List ℕ
  pub uri : List ℕ
  pub text : List ℕ

abbrev pub file_of : CodeFile → File
file_of f = record { path = string_bytes f.path; uri = string_bytes f.uri; text = string_bytes f.text }

-- the file that a URI names; and of some folders their files, the programs that these make, by their paths, and why nothing is renamed, if their
-- settings are broken
pub record View : Type 0 where
  pub file : List ℕ
  pub files : List File
  pub programs : List (List (List ℕ))
  pub mistake : Option (List ℕ)

abbrev pub view_of : CodeView → View
view_of v =
    record {
      file = string_bytes v.file;
      files = map file_of v.files.items;
      programs = map (λ p. map string_bytes p.items) v.programs.items;
      mistake = option_map string_bytes v.mistake;
    }

abbrev pub no_view : View
no_view = record { file = []; files = []; programs = []; mistake = None }

-- what is asked of the disk: of folders, by their URIs, where some documents are open; and of the URI of a document
pub record Asked : Type 0 where
  pub folders : List (List ℕ)
  pub documents : List Document
  pub uri : List ℕ

abbrev pub asked : (folders : List (List ℕ)) → (documents : List Document) → (uri : List ℕ) → Asked
asked folders documents uri = record { folders = folders; documents = documents; uri = uri }

-- the disk at one moment: what it shows of what is asked
abbrev pub Moment : Type 0
Moment = Asked → View

-- a look at the disk shows it at the next moment
abbrev pub Looks : (old new : Option (List Moment)) → Asked → {E : Type 0} → Result CodeView E → Type 0
Looks None new question result = Unit {0}
Looks (Some moments) new question (Err e) = Unit {0}
Looks (Some []) new question (Ok view) = ⊥
Looks (Some (moment ∷ moments)) new question (Ok view) = (view_of view ≡ moment question) × (new ≡ Some moments)
