-- The note on texts that look like several programs: two of them declare one term.
use Rattle.std.specs.Prelude.{◌≡◌, ℕ, List, [], ◌∷◌, ◌++◌, Bool, not, Option, None, Some, codes, if◌then◌else◌, slice_get}
use Rattle.std.specs.List.{filter_map, find}
use Rattle.std.specs.Option.{option_map, option_or}
use Rattle.std.specs.Str.{bytes_eq}
use Rattle.isle_base_source.specs.Source.{Source}
use Rattle.isle_base_source.specs.declared.pos.Pos.{Pos}
use Rattle.isle_ast_names.specs.Tree.{Name}
use Rattle.isle_ast.specs.Tree.{Declaration, Definition, decl}
use Rattle.isle_program.specs.Messages.{line_at}

-- a term, at its declaration
abbrev pub declared : Declaration → Name
declared d = record { text = d.term.text; pos = d.pos }

abbrev pub declared_in : Definition → Option Name
declared_in (decl d) = Some (declared d)
declared_in _ = None

abbrev pub declared_terms : List Definition → List Name
declared_terms ds = filter_map declared_in ds

-- the position of the first of the terms that has this text
abbrev pub place_of : (terms : List Name) → List ℕ → Option Pos
place_of terms text = option_map (λ term. term.pos) (find (λ term. bytes_eq term.text text) terms)

-- the name of a text, if there is one
abbrev pub source_name : Option Source → List ℕ
source_name None = []
source_name (Some source) = source.name

-- the name of the text of this number
abbrev pub file_name : List Source → (file : ℕ) → List ℕ
file_name sources file = source_name (slice_get sources file)

-- two positions are in files of different names
abbrev pub are_apart : List Source → (here there : Pos) → Bool
are_apart sources here there = not (bytes_eq (file_name sources here.file) (file_name sources there.file))

-- a declared term, and the position of a declaration of it in another file
pub record SharedTerm : Type 0 where
  pub term : Name
  pub other : Pos

-- a term, if another declaration of it is in another file
abbrev pub shared_with : List Source → Name → (other : Option Pos) → Option SharedTerm
shared_with sources term None = None
shared_with sources term (Some other) = if are_apart sources term.pos other then Some (record { term = term; other = other }) else None

-- the first of the terms whose last declaration before, also among the earlier ones, the latest first, is in another file
abbrev pub first_shared : List Source → (earlier terms : List Name) → Option SharedTerm
first_shared sources earlier [] = None
first_shared sources earlier (term ∷ terms) =
    option_or (shared_with sources term (place_of earlier term.text)) (first_shared sources (term ∷ earlier) terms)

abbrev pub shared_message : (term file : List ℕ) → List ℕ
shared_message term file =
    codes "'" ++ (term ++ (codes "' is also declared in " ++ (file
    ++ codes ": these look like several programs; list them in isle.toml and use --program (docs/EDITORS.md#which-files-make-a-program)")))

-- the line that says so at the term's declaration, if there is one
abbrev pub note_on : List Source → Option SharedTerm → List ℕ
note_on sources None = []
note_on sources (Some shared) =
    line_at sources shared.term.pos (codes "note") (shared_message shared.term.text (file_name sources shared.other.file))

abbrev pub several_programs_note : List Source → List Definition → List ℕ
several_programs_note sources ds = note_on sources (first_shared sources [] (declared_terms ds))

-- a text is the note on some texts
abbrev pub IsNote : List ℕ → Type 0
IsNote text = (sources : List Source) × (ds : List Definition) × (text ≡ several_programs_note sources ds)
