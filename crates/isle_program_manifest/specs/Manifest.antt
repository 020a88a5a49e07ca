-- What a manifest says: its programs and levels, or why it is refused.
use Rattle.std.specs.Prelude.{◌≡◌, ◌⊎◌, ℕ, ◌≤◌, List, [], ◌∷◌, ◌++◌, Bool, if◌then◌else◌, Option, None, Some, codes, length, map, option_to_list, string_bytes, Result, Ok, Err}
use Rattle.std.specs.List.{list_any}
use Rattle.std.specs.Option.{option_and_then, option_map, option_or, unwrap_or}
use Rattle.std.specs.Str.{bytes_eq}
use Rattle.std.specs.declared.alloc.Global.{Global}
use Rattle.std.specs.declared.string.String.{String}
use Rattle.toml.specs.Data.{Data, Items, Members, as_array, as_str, as_table, get_member, item, no_items, no_members}
use Rattle.toml.specs.Parse.{parse_document}
use Rattle.isle_program_manifest.specs.Levels.{NameLevel, levels, name_level_of, tool_key}
use Rattle.isle_program_manifest.specs.Mistakes.{Mistake, message, mistake, mistake_in, place}
use Rattle.isle_program_manifest.specs.declared.mistakes.Kind.TheVariants as kinds
use Rattle.isle_program_manifest.specs.declared.levels.Tool.{Tool}
use Rattle.isle_program_manifest.specs.declared.levels.Tool.TheVariants.{IsleCheck, IsleLint}
use Rattle.isle_program_manifest.specs.declared.manifest.Manifest.{Manifest}
use Rattle.isle_program_manifest.specs.declared.manifest.ManifestFault.{ManifestFault}
use Rattle.isle_program_manifest.specs.declared.manifest.ManifestFault.TheVariants as faults
use Rattle.isle_program_manifest.specs.declared.manifest.ProgramFiles.{ProgramFiles}

-- a program: its name, the entries of its list of files, and those of what no program has
pub record Program : Type 0 where
  pub name : List ℕ
  pub files : List (List ℕ)
  pub exclude : List (List ℕ)

-- what a manifest says: its programs, and the levels for each of the two tools
pub record ManifestNode : Type 0 where
  pub programs : List Program
  pub lint_levels : List NameLevel
  pub check_levels : List NameLevel

-- those of the code
abbrev pub program_of : ProgramFiles → Program
program_of p = record { name = string_bytes p.name; files = map string_bytes p.files.items; exclude = map string_bytes p.exclude.items }

abbrev pub manifest_of : Manifest → ManifestNode
manifest_of m =
    record {
      programs = map program_of m.programs.items;
      lint_levels = map name_level_of m.lint_levels.items;
      check_levels = map name_level_of m.check_levels.items;
    }

-- the strings of an array
abbrev pub strings : Items → List (List ℕ)
strings no_items = []
strings (item value more) = option_to_list (as_str value) ++ strings more

-- an array that isn't there is empty, and so is a string
abbrev pub items_in : Option Data → Items
items_in value = unwrap_or (option_and_then as_array value) no_items

abbrev pub text_in : Option Data → List ℕ
text_in value = unwrap_or (option_and_then as_str value) []

-- a table that isn't there is empty
abbrev pub members_in : Option Data → Members
members_in value = unwrap_or (option_and_then as_table value) no_members

-- the program that a table says, in a manifest with these entries of what no program has
abbrev pub program : (exclude : List (List ℕ)) → Members → Program
program exclude members =
    record {
      name = text_in (get_member (codes "name") members);
      files = strings (items_in (get_member (codes "files") members));
      exclude = exclude;
    }

-- the programs of the tables of an array
abbrev pub programs : (exclude : List (List ℕ)) → Items → List Program
programs exclude no_items = []
programs exclude (item value more) = option_to_list (option_map (program exclude) (as_table value)) ++ programs exclude more

-- what no program has
abbrev pub exclude_of : Members → List (List ℕ)
exclude_of members = strings (items_in (get_member (codes "exclude") members))

-- the programs that the value of a manifest says
abbrev pub programs_of : Members → List Program
programs_of members = programs (exclude_of members) (items_in (get_member (codes "program") members))

-- the levels that it says for a tool
abbrev pub levels_of : Tool → Members → List NameLevel
levels_of tool members = levels (members_in (get_member (tool_key tool) (members_in (get_member (codes "lints") members))))

-- all that it says
abbrev pub said_by : Members → ManifestNode
said_by members = record { programs = programs_of members; lint_levels = levels_of IsleLint members; check_levels = levels_of IsleCheck members }

-- one of the programs has this name
abbrev pub has_name : List Program → List ℕ → Bool
has_name all name = list_any (λ p. bytes_eq p.name name) all

-- the first program that has the name of an earlier one
abbrev pub name_twice : (earlier : List Program) → List Program → Option Mistake
name_twice earlier [] = None
name_twice earlier (p ∷ more) =
    if has_name earlier p.name then Some (mistake kinds.NameTwice p.name (Some (length earlier))) else name_twice (earlier ++ p ∷ []) more

-- the first mistake of the value of a manifest
abbrev pub first_mistake : Members → Option Mistake
first_mistake members = option_or (mistake_in members) (name_twice [] (programs_of members))

-- the text is TOML without a mistake, and says this
pub record IsManifest (text : List ℕ) (manifest : ManifestNode) : Type 0 where
  pub value : Members
  pub parsed : parse_document text ≡ Some value
  pub right : first_mistake value ≡ None
  pub is : manifest ≡ said_by value

-- the text is TOML with a mistake, which is first at this offset and says this
pub record IsMistaken (text : List ℕ) (offset : ℕ) (said : List ℕ) : Type 0 where
  pub value : Members
  pub parsed : parse_document text ≡ Some value
  pub first : Mistake
  pub is_first : first_mistake value ≡ Some first
  pub is_there : offset ≡ place text first
  pub is_said : said ≡ message first

-- the text is no TOML, as is seen at this offset
abbrev pub IsNoToml : (text : List ℕ) → (offset : ℕ) → Type 0
IsNoToml text offset = (parse_document text ≡ None) × (offset ≤ length text)

-- why there is no manifest
abbrev pub IsRefused : (text : List ℕ) → ManifestFault → Type 0
IsRefused text faults.Memory = Unit {0}
IsRefused text (faults.Rejected offset said) = IsNoToml text offset ⊎ IsMistaken text offset (string_bytes said)

-- the fault is this one, unless memory ran out for its message
abbrev pub IsRejected : {E : Type 0} → (offset : ℕ) → (message : Result (String Global) E) → ManifestFault → Type 0
IsRejected offset (Ok said) fault = fault ≡ faults.Rejected offset said
IsRejected offset (Err _) fault = fault ≡ faults.Memory

-- the fault tells this mistake, unless memory ran out
abbrev pub IsFaultOf : (text : List ℕ) → Mistake → ManifestFault → Type 0
IsFaultOf text m faults.Memory = Unit {0}
IsFaultOf text m (faults.Rejected offset said) = (offset ≡ place text m) × (string_bytes said ≡ message m)
