-- The format of messages that a command line asks for.
use Rattle.std.specs.Prelude.{ℕ, List, Bool, not, ◌||◌, Option, None, Some, codes, if◌then◌else◌, unwrap_or}
use Rattle.std.specs.Option.{is_some, option_and_then}
use Rattle.std.specs.Str.{bytes_eq}
use Rattle.isle_cli.specs.Arguments.{Given, last_setting}
use Rattle.isle_program.specs.declared.reports.format.Format.{Format}
use Rattle.isle_program.specs.declared.reports.format.Format.TheVariants.{Coloured, Human, Json, Github}
use Rattle.isle_program.specs.reports.Colours.{colour_in}
use Rattle.isle_program.specs.declared.reports.colours.Colour.{Colour}
use Rattle.isle_program.specs.declared.reports.colours.Colour.TheVariants.{Always, Auto, Never}

abbrev pub format_named : List ℕ → Option Format
format_named name =
    if bytes_eq name (codes "human") then Some Human
    else if bytes_eq name (codes "json") then Some Json
    else if bytes_eq name (codes "github") then Some Github else None

-- the format that the last `--message-format` names, or lines for people
abbrev pub named_in : List Given → Format
named_in given = unwrap_or (option_and_then format_named (last_setting (codes "--message-format") None given)) Human

-- lines for people have colours where they are always wanted
abbrev pub human_in : Colour → Format
human_in Always = Coloured
human_in Auto = Human
human_in Never = Human

abbrev pub with_colour : Colour → Format → Format
with_colour colour Human = human_in colour
with_colour colour Coloured = Coloured
with_colour colour Json = Json
with_colour colour Github = Github

abbrev pub format_in : List Given → Format
format_in given = with_colour (colour_in given) (named_in given)

-- a value of the option for the format is the name of one
abbrev pub is_format_usable : (option value : List ℕ) → Bool
is_format_usable option value = not (bytes_eq option (codes "--message-format")) || is_some (format_named value)
