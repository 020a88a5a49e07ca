-- Which lints a command line turns on.
use Rattle.std.specs.Prelude.{ℕ, List, [], ◌∷◌, Bool, false, true, not, ◌&&◌, ◌||◌, Option, None, Some, codes, filter, if◌then◌else◌}
use Rattle.std.specs.List.{find, list_all}
use Rattle.std.specs.Option.{is_some}
use Rattle.std.specs.Str.{bytes_eq}
use Rattle.isle_cli.specs.Arguments.{Given, flag_given, setting_given, name_given, gives_flag}
use Rattle.isle_lint_core.specs.Lint.{all_lints, is_default, name}
use Rattle.isle_lint_core.specs.declared.lint.Lint.{Lint}
use Rattle.isle_program_manifest.specs.Levels.{NameLevel}
use Rattle.isle_program_findings.specs.Naming.{counts, is_named}
use Rattle.isle_program.specs.reports.Colours.{is_colour_usable}
use Rattle.isle_program.specs.reports.Formats.{is_format_usable}

-- an option names a lint
abbrev pub names_lint : List ℕ → Lint → List Given → Bool
names_lint option lint given = is_named option (name lint) given

-- an option that enables lints names it
abbrev pub is_asked_for : List Given → Lint → Bool
is_asked_for given lint =
    names_lint (codes "--lint") lint given || names_lint (codes "--warn") lint given || names_lint (codes "--deny") lint given

-- a lint isn't allowed, and it is asked for, or on by default
abbrev pub is_on : List Given → Lint → Bool
is_on given lint =
    not (names_lint (codes "--allow") lint given)
    && (is_asked_for given lint
    || (is_default lint || gives_flag (codes "--all") given))

abbrev pub lints_on : List Given → List Lint
lints_on given = filter (is_on given) all_lints

-- the last of `--warn` and `--deny` that names a lint is `--warn`
abbrev pub is_warned : List Given → Lint → Bool
is_warned given lint = not (counts true given (name lint))

-- the options whose values are names of lints
abbrev pub is_lint_option : List ℕ → Bool
is_lint_option option =
    bytes_eq option (codes "--lint") || bytes_eq option (codes "--allow") || bytes_eq option (codes "--warn") || bytes_eq option (codes "--deny")

abbrev pub is_lint : List ℕ → Bool
is_lint word = is_some (find (λ lint. bytes_eq (name lint) word) all_lints)

abbrev pub is_lint_usable : (option value : List ℕ) → Bool
is_lint_usable option value = not (is_lint_option option) || is_lint value

-- the first name among levels that is no lint's
abbrev pub unknown_lint : List NameLevel → Option (List ℕ)
unknown_lint [] = None
unknown_lint (l ∷ levels) = if is_lint l.name then unknown_lint levels else Some l.name

-- that of `--message-format` is the name of a format, and that of `--color` of a choice
abbrev pub is_usable : Given → Bool
is_usable (flag_given _) = true
is_usable (setting_given o value) = is_lint_usable o value && is_format_usable o value && is_colour_usable o value
is_usable (name_given _) = true

abbrev pub are_usable : List Given → Bool
are_usable given = list_all is_usable given
