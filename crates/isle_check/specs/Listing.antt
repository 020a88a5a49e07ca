-- The list of programs: a line `NAME: FILE` for each file.
use Rattle.std.specs.Prelude.{ℕ, List, ◌++◌, Option, codes, map, string_bytes}
use Rattle.std.specs.Io.KnownBytes.{Appends}
use Rattle.std.specs.List.{flat_map}
use Rattle.isle_program_manifest.specs.declared.choice.Chosen.{Chosen}

-- a program, and the paths of its files
pub record ProgramNode : Type 0 where
  pub name : List ℕ
  pub paths : List (List ℕ)

abbrev pub file_line : ProgramNode → (path : List ℕ) → List ℕ
file_line program path = program.name ++ codes ": " ++ path ++ codes "\n"

abbrev pub file_lines : ProgramNode → List (List ℕ) → List ℕ
file_lines program paths = flat_map (file_line program) paths

abbrev pub program_lines : ProgramNode → List ℕ
program_lines program = file_lines program program.paths

abbrev pub listing : List ProgramNode → List ℕ
listing programs = flat_map program_lines programs

-- those of the code
abbrev pub program_of : Chosen → ProgramNode
program_of c = record { name = string_bytes c.name; paths = map string_bytes c.listed.paths.items }

-- the output got the list of some programs
abbrev pub Lists : (output output' : Option (List ℕ)) → Type 0
Lists output output' = (programs : List ProgramNode) × Appends output output' (listing programs)
