-- When lines for people have colours, and how they are written.
use Rattle.std.specs.Prelude.{ℕ, List, [], ◌∷◌, ◌++◌, Bool, true, false, not, ◌&&◌, ◌||◌, Option, None, Some, codes, decimal, if◌then◌else◌, unwrap_or}
use Rattle.std.specs.Option.{is_some, option_and_then}
use Rattle.std.specs.Str.{bytes_eq}
use Rattle.isle_cli.specs.Arguments.{Given, last_setting, setting_given}
use Rattle.isle_program.specs.reports.Messages.{MessageNode, severity_word, shown_text}
use Rattle.isle_program.specs.declared.reports.colours.Colour.{Colour}
use Rattle.isle_program.specs.declared.reports.colours.Colour.TheVariants.{Always, Auto, Never}
use Rattle.isle_program.specs.declared.reports.message.Severity.{Severity}
use Rattle.isle_program.specs.declared.reports.message.Severity.TheVariants.{Error, Warning, Note}

abbrev pub colour_named : List ℕ → Option Colour
colour_named name =
    if bytes_eq name (codes "auto") then Some Auto
    else if bytes_eq name (codes "always") then Some Always
    else if bytes_eq name (codes "never") then Some Never else None

-- what the last `--color` names, or `auto`
abbrev pub colour_in : List Given → Colour
colour_in given = unwrap_or (option_and_then colour_named (last_setting (codes "--color") None given)) Auto

-- a value of the option for colours is the name of a choice
abbrev pub is_colour_usable : (option value : List ℕ) → Bool
is_colour_usable option value = not (bytes_eq option (codes "--color")) || is_some (colour_named value)

abbrev pub is_auto : Colour → Bool
is_auto Auto = true
is_auto Always = false
is_auto Never = false

-- where `auto` counts, a terminal gets colours
abbrev pub settled : (is_terminal : Bool) → List Given → List Given
settled is_terminal given =
    if is_terminal && is_auto (colour_in given) then given ++ setting_given (codes "--color") (codes "always") ∷ [] else given

-- a text between ESC (27) `[`, the parameters and `m`, and what ends all styles
abbrev pub styled : (code text : List ℕ) → List ℕ
styled code text = 27 ∷ codes "[" ++ (code ++ (codes "m" ++ (text ++ 27 ∷ codes "[0m")))

-- bold, and red, yellow or cyan
abbrev pub severity_code : Severity → List ℕ
severity_code Error = codes "1;31"
severity_code Warning = codes "1;33"
severity_code Note = codes "1;36"

abbrev pub severity_text : Severity → List ℕ
severity_text severity = styled (severity_code severity) (severity_word severity ++ codes ":")

-- a place is bold
abbrev pub place_text : (name : List ℕ) → (line column : ℕ) → List ℕ
place_text name line column = styled (codes "1") (name ++ (codes ":" ++ (decimal line ++ (codes ":" ++ (decimal column ++ codes ":")))))

-- the line of a message: its place, its severity, and what people read
abbrev pub coloured_line : (name : List ℕ) → (line column : ℕ) → MessageNode → List ℕ
coloured_line name line column m =
    place_text name line column ++ (codes " " ++ (severity_text m.severity ++ (codes " " ++ (shown_text m ++ codes "\n"))))
