-- Which programs a file belongs to, where each program is a list of paths.
use Rattle.std.specs.Prelude.{ℕ, ◌+◌, List, [], ◌∷◌, ◌++◌, Bool, not, ◌&&◌, if◌then◌else◌}
use Rattle.std.specs.List.{list_any}
use Rattle.std.specs.Str.{bytes_eq}
use Rattle.isle_cli.specs.Patterns.{covers}

-- one of the paths is the file
abbrev pub has_file : (file : List ℕ) → (paths : List (List ℕ)) → Bool
has_file file paths = list_any (λ path. bytes_eq path file) paths

-- Nothing is taken in by an entry of a program that an entry of what no program has covers, but for the path that the
-- entry itself is.
abbrev pub is_left_out : (exclude : List (List ℕ)) → (entry path : List ℕ) → Bool
is_left_out exclude entry path = not (bytes_eq entry path) && list_any (λ other. covers other path) exclude

-- the numbers of the programs that have the file; the first of these programs has the number that is given
abbrev pub programs_with : (file : List ℕ) → (number : ℕ) → (programs : List (List (List ℕ))) → List ℕ
programs_with file number [] = []
programs_with file number (paths ∷ more) =
    if has_file file paths then number ∷ programs_with file (number + 1) more else programs_with file (number + 1) more

-- a path is added, unless it is there
abbrev pub added : (paths : List (List ℕ)) → (path : List ℕ) → List (List ℕ)
added paths path = if has_file path paths then paths else paths ++ path ∷ []

-- so are several, in order
abbrev pub all_added : (paths : List (List ℕ)) → (more : List (List ℕ)) → List (List ℕ)
all_added paths [] = paths
all_added paths (path ∷ more) = all_added (added paths path) more

-- the paths of the programs that have the file are added
abbrev pub union_added : (file : List ℕ) → (paths : List (List ℕ)) → (programs : List (List (List ℕ))) → List (List ℕ)
union_added file paths [] = paths
union_added file paths (program ∷ more) = union_added file (if has_file file program then all_added paths program else paths) more

-- the paths of the programs that have the file, in order, each once
abbrev pub union_with : (file : List ℕ) → (programs : List (List (List ℕ))) → List (List ℕ)
union_with file programs = union_added file [] programs
