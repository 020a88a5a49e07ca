-- Options with the name of a lint, or of a kind of findings.
use Rattle.std.specs.Prelude.{ℕ, List, [], ◌∷◌, Bool, false, true, ◌&&◌, codes, if◌then◌else◌}
use Rattle.std.specs.List.{list_any}
use Rattle.std.specs.Str.{bytes_eq}
use Rattle.isle_cli.specs.Arguments.{Given, flag_given, setting_given, name_given}

-- an argument is this option with this name
abbrev pub is_naming : (option name : List ℕ) → Given → Bool
is_naming option name (flag_given _) = false
is_naming option name (setting_given o value) = bytes_eq o option && bytes_eq value name
is_naming option name (name_given _) = false

abbrev pub is_named : (option name : List ℕ) → List Given → Bool
is_named option name given = list_any (is_naming option name) given

-- findings count as the last one of `--warn` and `--deny` says that names them, or else as they do by themselves
abbrev pub counts_after : (name : List ℕ) → (before : Bool) → Given → Bool
counts_after name before given =
    if is_naming (codes "--warn") name given then false else if is_naming (codes "--deny") name given then true else before

abbrev pub counts : (before : Bool) → List Given → (name : List ℕ) → Bool
counts before [] name = before
counts before (given ∷ more) name = counts (counts_after name before given) more name
