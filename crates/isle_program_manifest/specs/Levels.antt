-- The levels that a manifest gives to what a tool finds.
use Rattle.std.specs.Prelude.{ℕ, List, [], ◌∷◌, ◌++◌, Bool, false, ◌&&◌, ◌||◌, Option, None, Some, codes, if◌then◌else◌, option_to_list, string_bytes}
use Rattle.std.specs.List.{list_any}
use Rattle.std.specs.Option.{option_and_then, option_map}
use Rattle.std.specs.Str.{bytes_eq}
use Rattle.toml.specs.Data.{Data, Members, as_str, member, no_members}
use Rattle.isle_cli.specs.Arguments.{Given, flag_given, setting_given, name_given}
use Rattle.isle_program_manifest.specs.declared.levels.Level.{Level}
use Rattle.isle_program_manifest.specs.declared.levels.Level.TheVariants as words
use Rattle.isle_program_manifest.specs.declared.levels.NameLevel as declared
use Rattle.isle_program_manifest.specs.declared.levels.Tool.{Tool}
use Rattle.isle_program_manifest.specs.declared.levels.Tool.TheVariants.{IsleCheck, IsleLint}

-- the name of a lint or a kind, and its level
pub record NameLevel : Type 0 where
  pub name : List ℕ
  pub level : Level

-- that of the code
abbrev pub name_level_of : declared.NameLevel → NameLevel
name_level_of l = record { name = string_bytes l.name; level = l.level }

-- the key of a tool's table
abbrev pub tool_key : Tool → List ℕ
tool_key IsleLint = codes "isle-lint"
tool_key IsleCheck = codes "isle-check"

-- the level that a word names
abbrev pub level_named : List ℕ → Option Level
level_named word =
    if bytes_eq word (codes "allow") then Some words.Allow
    else if bytes_eq word (codes "warn") then Some words.Warn
    else if bytes_eq word (codes "deny") then Some words.Deny else None

abbrev pub level_in : Data → Option Level
level_in value = option_and_then level_named (as_str value)

abbrev pub name_level : (name : List ℕ) → Level → NameLevel
name_level name level = record { name = name; level = level }

-- the levels of a table, each name with its own
abbrev pub levels : Members → List NameLevel
levels no_members = []
levels (member name value more) = option_to_list (option_map (name_level name) (level_in value)) ++ levels more

-- the option of a level
abbrev pub level_option : Level → List ℕ
level_option words.Allow = codes "--allow"
level_option words.Warn = codes "--warn"
level_option words.Deny = codes "--deny"

-- the options that name a lint or a kind
abbrev pub is_level_option : List ℕ → Bool
is_level_option option =
    bytes_eq option (codes "--lint") || bytes_eq option (codes "--allow") || bytes_eq option (codes "--warn") || bytes_eq option (codes "--deny")

-- an argument is one of these options with this name
abbrev pub is_naming : (name : List ℕ) → Given → Bool
is_naming name (flag_given _) = false
is_naming name (setting_given o value) = is_level_option o && bytes_eq value name
is_naming name (name_given _) = false

-- a level goes with the arguments as the option does of its name, unless some option names the same
abbrev pub with_level : List Given → NameLevel → List Given
with_level given l = if list_any (is_naming l.name) given then given else given ++ setting_given (level_option l.level) l.name ∷ []

-- so do several, in order
abbrev pub with_levels : List Given → List NameLevel → List Given
with_levels given [] = given
with_levels given (l ∷ more) = with_levels (with_level given l) more
