-- Which kinds of findings a command line allows.
use Rattle.std.specs.Prelude.{ℕ, List, [], ◌∷◌, Bool, true, not, ◌&&◌, ◌||◌, Option, None, Some, codes, if◌then◌else◌}
use Rattle.std.specs.List.{list_all}
use Rattle.std.specs.Str.{bytes_eq}
use Rattle.isle_cli.specs.Arguments.{Given, flag_given, setting_given, name_given}
use Rattle.isle_check_core.specs.Kinds.{is_kind}
use Rattle.isle_program_manifest.specs.Levels.{NameLevel}
use Rattle.isle_program_findings.specs.Naming.{is_named}
use Rattle.isle_program.specs.reports.Colours.{is_colour_usable}
use Rattle.isle_program.specs.reports.Formats.{is_format_usable}

abbrev pub is_allowed : List Given → List ℕ → Bool
is_allowed given kind = is_named (codes "--allow") kind given

-- the options whose values are names of kinds
abbrev pub is_kind_option : List ℕ → Bool
is_kind_option option = bytes_eq option (codes "--allow") || bytes_eq option (codes "--warn") || bytes_eq option (codes "--deny")

abbrev pub is_kind_usable : (option value : List ℕ) → Bool
is_kind_usable option value = not (is_kind_option option) || is_kind value

-- the first name among levels that is no kind's
abbrev pub unknown_kind : List NameLevel → Option (List ℕ)
unknown_kind [] = None
unknown_kind (l ∷ levels) = if is_kind l.name then unknown_kind levels else Some l.name

-- the values of `--message-format` are names of formats, and those of `--color` of choices
abbrev pub is_usable : Given → Bool
is_usable (flag_given _) = true
is_usable (setting_given o value) = is_kind_usable o value && is_format_usable o value && is_colour_usable o value
is_usable (name_given _) = true

abbrev pub are_usable : List Given → Bool
are_usable given = list_all is_usable given
