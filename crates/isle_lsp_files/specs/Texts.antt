-- The texts of a program.
use Rattle.std.specs.Prelude.{ℕ, List, [], ◌∷◌, ◌++◌, Bool, true, false, not, ◌&&◌, ◌||◌, Option, None, Some, bytes_eq, filter, is_some, map, option_to_list, if◌then◌else◌}
use Rattle.std.specs.List.{flat_map, list_all, list_any}
use Rattle.isle_lsp_files.specs.Disks.{File, View}
use Rattle.isle_lsp_files.specs.Documents.{Document, latest}
use Rattle.isle_lsp_features.specs.Programs.{Text}
use Rattle.isle_program_manifest.specs.Membership as membership
use Rattle.isle_lsp_text.specs.declared.positions.PositionEncoding.{PositionEncoding}

-- whether a program has this file and not the one that is asked about
abbrev pub is_shared : View → List ℕ → Bool
is_shared view file = list_any (λ p. membership.has_file file p && not (membership.has_file view.file p)) view.programs

-- an open document as a text
abbrev pub open_text : PositionEncoding → View → Document → Text
open_text enc view d = record { encoding = enc; uri = d.uri; file = d.file; is_shared = is_shared view d.file; version = d.version; text = d.text }

-- a file on the disk as a text
abbrev pub closed_text : PositionEncoding → View → File → Text
closed_text enc view f = record { encoding = enc; uri = f.uri; file = f.path; is_shared = is_shared view f.path; version = None; text = f.text }

-- the open documents as texts, each file once
abbrev pub open_texts : PositionEncoding → View → List Document → List Text
open_texts enc view docs = map (open_text enc view) (latest docs)

-- the text of this file
abbrev pub text_at : List ℕ → List Text → Option Text
text_at file [] = None
text_at file (t ∷ ts) = if bytes_eq t.file file then Some t else text_at file ts

abbrev pub open_or_closed : Option Text → Text → Text
open_or_closed None closed = closed
open_or_closed (Some text) closed = text

-- a file as it is open, or else as it is on the disk
abbrev pub file_text : PositionEncoding → View → (opened : List Text) → File → Text
file_text enc view opened f = open_or_closed (text_at f.path opened) (closed_text enc view f)

abbrev pub file_texts : PositionEncoding → View → (opened : List Text) → List Text
file_texts enc view opened = map (file_text enc view opened) view.files

-- whether a view shows this file
abbrev pub shows : View → List ℕ → Bool
shows view file = list_any (λ f. bytes_eq f.path file) view.files

-- the files on the disk, as they are open or there, and then the open documents that are none of these
abbrev pub all_texts : PositionEncoding → List Document → View → List Text
all_texts enc docs view = file_texts enc view (open_texts enc view docs) ++ filter (λ t. not (shows view t.file)) (open_texts enc view docs)

-- whether a text is the file that is asked about, or in a program with it
abbrev pub is_beside : View → Text → Bool
is_beside view t = bytes_eq t.file view.file || membership.has_file t.file (membership.union_with view.file view.programs)

-- the texts that a request is about: those of the programs that have the file that it names, or all if it names none
abbrev pub program_of : PositionEncoding → (names_file : Bool) → List Document → View → List Text
program_of enc true docs view = filter (is_beside view) (all_texts enc docs view)
program_of enc false docs view = all_texts enc docs view

-- whether each of these files has a text
abbrev pub is_whole : List Text → (files : List (List ℕ)) → Bool
is_whole texts files = list_all (λ file. is_some (text_at file texts)) files

-- the texts of these files, in this order
abbrev pub texts_in : List Text → (files : List (List ℕ)) → List Text
texts_in texts files = flat_map (λ file. option_to_list (text_at file texts)) files

-- the programs that have this file and whose files all have texts, each as its texts
abbrev pub programs_in : View → (file : List ℕ) → List Text → List (List Text)
programs_in view file texts = map (texts_in texts) (filter (λ p. membership.has_file file p && is_whole texts p) view.programs)

abbrev pub programs_of : PositionEncoding → List Document → View → (file : List ℕ) → List (List Text)
programs_of enc docs view file = programs_in view file (all_texts enc docs view)

-- whether a program has both the file that is asked about and this one
abbrev pub is_together : View → (file : List ℕ) → Bool
is_together view file = list_any (λ p. membership.has_file view.file p && membership.has_file file p) view.programs
