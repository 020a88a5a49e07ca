-- What is wrong with the value of a manifest.
use Rattle.std.specs.Prelude.{ℕ, ◌+◌, List, [], ◌∷◌, ◌++◌, true, if◌then◌else◌, Option, None, Some, codes}
use Rattle.std.specs.Option.{is_some, option_or}
use Rattle.std.specs.Str.{bytes_eq}
use Rattle.toml.specs.Data.{Data, Items, Members, as_array, as_str, as_table, get_member, item, member, no_items, no_members}
use Rattle.isle_cli.specs.Arguments.{is_among}
use Rattle.isle_program_manifest.specs.Levels.{level_in, tool_key}
use Rattle.isle_program_manifest.specs.Paths.{leads_out}
use Rattle.isle_program_manifest.specs.Places.{line_from, lints_key, lints_name, start}
use Rattle.isle_program_manifest.specs.declared.levels.Tool.{Tool}
use Rattle.isle_program_manifest.specs.declared.levels.Tool.TheVariants.{IsleCheck, IsleLint}
use Rattle.isle_program_manifest.specs.declared.mistakes.Kind.{Kind}
use Rattle.isle_program_manifest.specs.declared.mistakes.Kind.TheVariants as kinds
use Rattle.isle_program_manifest.specs.declared.mistakes.Mistake as declared

-- a mistake: its kind, the word that it is about, and the number of its program, if it is in one
pub record Mistake : Type 0 where
  pub kind : Kind
  pub word : List ℕ
  pub program : Option ℕ

-- the mistake of the code
abbrev pub mistake_of : declared.Mistake → Mistake
mistake_of m = record { kind = m.kind; word = m.word.now; program = m.program }

abbrev pub mistake : Kind → (word : List ℕ) → Option ℕ → Mistake
mistake kind word program = record { kind = kind; word = word; program = program }

-- the first key that is none of these
abbrev pub unknown_key : (known : List (List ℕ)) → Members → Option (List ℕ)
unknown_key known no_members = None
unknown_key known (member key _ more) = if is_among known key then unknown_key known more else Some key

abbrev pub unknown : Option ℕ → Option (List ℕ) → Option Mistake
unknown program None = None
unknown program (Some key) = Some (mistake kinds.UnknownKey key program)

-- a name has to be a string that isn't empty
abbrev pub in_name_text : (number : ℕ) → Option (List ℕ) → Option Mistake
in_name_text number None = Some (mistake kinds.WrongType (codes "name") (Some number))
in_name_text number (Some []) = Some (mistake kinds.Empty (codes "name") (Some number))
in_name_text number (Some (_ ∷ _)) = None

abbrev pub in_name : (number : ℕ) → Option Data → Option Mistake
in_name number None = Some (mistake kinds.MissingKey (codes "name") (Some number))
in_name number (Some value) = in_name_text number (as_str value)

-- the key of a list of paths: that of a program, or what no program has
abbrev pub list_key : Option ℕ → List ℕ
list_key None = codes "exclude"
list_key (Some _) = codes "files"

-- a path has to be a string that doesn't lead out
abbrev pub in_path : Option ℕ → Option (List ℕ) → Option Mistake
in_path program None = Some (mistake kinds.WrongType (list_key program) program)
in_path program (Some path) = if leads_out path then Some (mistake kinds.LeadsOut path program) else None

abbrev pub in_paths : Option ℕ → Items → Option Mistake
in_paths program no_items = None
in_paths program (item path more) = option_or (in_path program (as_str path)) (in_paths program more)

-- a list of files has to have paths, and one at least
abbrev pub in_list : (number : ℕ) → Option Items → Option Mistake
in_list number None = Some (mistake kinds.WrongType (codes "files") (Some number))
in_list number (Some no_items) = Some (mistake kinds.Empty (codes "files") (Some number))
in_list number (Some (item path more)) = in_paths (Some number) (item path more)

abbrev pub in_files : (number : ℕ) → Option Data → Option Mistake
in_files number None = Some (mistake kinds.MissingKey (codes "files") (Some number))
in_files number (Some value) = in_list number (as_array value)

-- a program has to be a table with a name and a list of files alone
abbrev pub in_program : (number : ℕ) → Option Members → Option Mistake
in_program number None = Some (mistake kinds.WrongType (codes "program") None)
in_program number (Some members) =
    option_or (unknown (Some number) (unknown_key (codes "name" ∷ codes "files" ∷ []) members))
    (option_or (in_name number (get_member (codes "name") members)) (in_files number (get_member (codes "files") members)))

-- the programs are numbered
abbrev pub in_programs : (number : ℕ) → Items → Option Mistake
in_programs number no_items = None
in_programs number (item program more) = option_or (in_program number (as_table program)) (in_programs (number + 1) more)

abbrev pub in_program_list : Option Items → Option Mistake
in_program_list None = Some (mistake kinds.WrongType (codes "program") None)
in_program_list (Some programs) = in_programs 0 programs

-- without a key `program`, there are no programs
abbrev pub in_program_key : Option Data → Option Mistake
in_program_key None = None
in_program_key (Some value) = in_program_list (as_array value)

-- what no program has: a list of paths, which may be empty
abbrev pub in_exclude_list : Option Items → Option Mistake
in_exclude_list None = Some (mistake kinds.WrongType (codes "exclude") None)
in_exclude_list (Some paths) = in_paths None paths

abbrev pub in_exclude : Option Data → Option Mistake
in_exclude None = None
in_exclude (Some value) = in_exclude_list (as_array value)

-- a name has one of the three levels
abbrev pub in_levels : Tool → Members → Option Mistake
in_levels tool no_members = None
in_levels tool (member name value more) = if is_some (level_in value) then in_levels tool more else Some (mistake (kinds.WrongLevel tool) name None)

abbrev pub in_tool_table : Tool → Option Members → Option Mistake
in_tool_table tool None = Some (mistake kinds.WrongTable (tool_key tool) None)
in_tool_table tool (Some names) = in_levels tool names

abbrev pub in_tool : Tool → Option Data → Option Mistake
in_tool tool None = None
in_tool tool (Some value) = in_tool_table tool (as_table value)

abbrev pub unknown_tool : Option (List ℕ) → Option Mistake
unknown_tool None = None
unknown_tool (Some key) = Some (mistake kinds.UnknownTool key None)

-- the lints have a table for each of the two tools, or for one, or none
abbrev pub in_lints_table : Option Members → Option Mistake
in_lints_table None = Some (mistake kinds.WrongType (codes "lints") None)
in_lints_table (Some tools) =
    option_or (unknown_tool (unknown_key (tool_key IsleLint ∷ tool_key IsleCheck ∷ []) tools))
    (option_or (in_tool IsleLint (get_member (tool_key IsleLint) tools)) (in_tool IsleCheck (get_member (tool_key IsleCheck) tools)))

abbrev pub in_lints : Option Data → Option Mistake
in_lints None = None
in_lints (Some value) = in_lints_table (as_table value)

-- The first mistake of a manifest, but for names that are given twice: first an unknown key at the top, then the programs
-- in order, and in each an unknown key, then its name, then its files; then `exclude`, and last `lints`.
abbrev pub mistake_in : Members → Option Mistake
mistake_in members =
    option_or (unknown None (unknown_key (codes "program" ∷ codes "exclude" ∷ codes "lints" ∷ []) members))
    (option_or (in_program_key (get_member (codes "program") members))
    (option_or (in_exclude (get_member (codes "exclude") members)) (in_lints (get_member (codes "lints") members))))

-- what the value of a key has to be
abbrev pub wanted : (key : List ℕ) → List ℕ
wanted key =
    if bytes_eq key (codes "name") then codes "a string"
    else if bytes_eq key (codes "files") then codes "a list of strings"
    else if bytes_eq key (codes "exclude") then codes "a list of strings"
    else if bytes_eq key (codes "program") then codes "a list of tables" else codes "a table"

-- what a name stands for that the tool doesn't know
abbrev pub noun : Tool → List ℕ
noun IsleLint = codes "lint"
noun IsleCheck = codes "kind"

abbrev pub message_by : Kind → (word : List ℕ) → List ℕ
message_by kinds.UnknownKey word = codes "unknown key '" ++ word ++ codes "'"
message_by kinds.MissingKey word = codes "missing key '" ++ word ++ codes "'"
message_by kinds.WrongType word = codes "'" ++ word ++ codes "' must be " ++ wanted word
message_by kinds.Empty word = codes "'" ++ word ++ codes "' is empty"
message_by kinds.LeadsOut word = codes "path '" ++ word ++ codes "' leads out of the folder"
message_by kinds.UnknownTool word = codes "unknown key '" ++ word ++ codes "'"
message_by kinds.WrongTable word = codes "'" ++ word ++ codes "' must be a table"
message_by (kinds.WrongLevel _) word = codes "'" ++ word ++ codes "' must be \"allow\", \"warn\" or \"deny\""
message_by (kinds.UnknownName tool) word = codes "unknown " ++ (noun tool ++ (codes " '" ++ (word ++ codes "'")))
message_by kinds.NameTwice word = codes "two programs are named '" ++ word ++ codes "'"

abbrev pub message : Mistake → List ℕ
message m = message_by m.kind m.word

-- where a mistake is, in a program or in none, which begins at this offset: at the line of its key, or of its path
abbrev pub place_by : (text : List ℕ) → (program : Option ℕ) → (from : ℕ) → Kind → (word : List ℕ) → ℕ
place_by text program from kinds.UnknownKey word = line_from text true from word
place_by text program from kinds.MissingKey word = from
place_by text program from kinds.WrongType word = line_from text true from word
place_by text program from kinds.Empty word = line_from text true from word
place_by text program from kinds.LeadsOut word = line_from text true (line_from text true from (list_key program)) word
place_by text program from kinds.UnknownTool word = lints_key text word
place_by text program from kinds.WrongTable word = lints_key text word
place_by text program from (kinds.WrongLevel tool) word = lints_name text (tool_key tool) word
place_by text program from (kinds.UnknownName tool) word = lints_name text (tool_key tool) word
place_by text program from kinds.NameTwice word = line_from text true from (codes "name")

abbrev pub place : (text : List ℕ) → Mistake → ℕ
place text m = place_by text m.program (start text m.program) m.kind m.word
