-- The words of a command line: options, which stand anywhere, and names.
use Rattle.std.specs.Prelude.{◌≡◌, ℕ, ◌+◌, ◌==◌, List, [], ◌∷◌, ◌++◌, Bool, false, ◌||◌, not, if◌then◌else◌, Option, None, Some, codes, drop, map, option_to_list, string_bytes, take, unwrap_or}
use Rattle.std.specs.List.{list_any, position}
use Rattle.std.specs.Option.{option_and_then, option_map, option_map_or}
use Rattle.std.specs.Str.{bytes_eq}
use Rattle.isle_cli.specs.declared.arguments.Argument.{Argument}
use Rattle.isle_cli.specs.declared.arguments.Argument.TheVariants as arguments
use Rattle.isle_cli.specs.declared.arguments.Awaited as declared
use Rattle.isle_cli.specs.declared.arguments.Awaited.TheVariants as states
use Rattle.isle_cli.specs.declared.arguments.Options.{Options}
use Rattle.isle_cli.specs.declared.arguments.Request.{Request}
use Rattle.isle_cli.specs.declared.arguments.Request.TheVariants as requests
use Rattle.isle_cli.specs.declared.arguments.Taken.{Taken}

-- an option without a value, an option with its value, or a name
pub data Given : Type 0 where
  flag_given : List ℕ → Given
  setting_given : (option value : List ℕ) → Given
  name_given : List ℕ → Given

-- what the next word may be: an option or a name, the value of an option, or a name whatever it begins with
pub data Awaited : Type 0 where
  anything_awaited : Awaited
  value_awaited : List ℕ → Awaited
  names_awaited : Awaited

-- what a command line asks for
pub data Asked : Type 0 where
  help_asked : Asked
  version_asked : Asked
  work_asked : List Given → Asked

-- a word is one of these
abbrev pub is_among : List (List ℕ) → List ℕ → Bool
is_among words word = list_any (λ other. bytes_eq other word) words

-- the options of the program, and those of every program
abbrev pub is_flag : Options → List ℕ → Bool
is_flag options word =
    bytes_eq word (codes "--help") || bytes_eq word (codes "-h") || bytes_eq word (codes "--version") || bytes_eq word (codes "-V")
    || is_among (map (λ flag. flag.now) options.flags.now) word

abbrev pub is_setting : Options → List ℕ → Bool
is_setting options word = bytes_eq word (codes "--stdin-name") || is_among (map (λ setting. setting.now) options.settings.now) word

-- a word begins with `-`
abbrev pub begins_with_dash : List ℕ → Bool
begins_with_dash [] = false
begins_with_dash (b ∷ _) = b == 45

-- `-`, or a word that begins with another byte
abbrev pub is_name : List ℕ → Bool
is_name word = bytes_eq word (codes "-") || not (begins_with_dash word)

-- what stands in front of the first `=` (61), and what stands behind it
abbrev pub parts_at_equals : List ℕ → Option (List ℕ × List ℕ)
parts_at_equals word = option_map (λ at. (take at word, drop (at + 1) word)) (position (λ b. b == 61) word)

-- a word such as `--width=60`: an option and its value
abbrev pub setting_at : Options → List ℕ × List ℕ → Option Given
setting_at options parts = if is_setting options parts.0 then Some (setting_given parts.0 parts.1) else None

abbrev pub joined_setting : Options → List ℕ → Option Given
joined_setting options word = option_and_then (setting_at options) (parts_at_equals word)

-- what a word gives that may be anything, and what the next one may be; an unknown option gives nothing
abbrev pub taken_any : Options → List ℕ → Option (Option Given × Awaited)
taken_any options word =
    if bytes_eq word (codes "--") then Some (None, names_awaited)
    else if is_setting options word then Some (None, value_awaited word)
    else if is_flag options word then Some (Some (flag_given word), anything_awaited)
    else option_map_or (λ setting. Some (Some setting, anything_awaited)) (joined_setting options word)
    (if is_name word then Some (Some (name_given word), anything_awaited) else None)

-- what a word gives, and what the next one may be
abbrev pub taken : Options → Awaited → List ℕ → Option (Option Given × Awaited)
taken options anything_awaited word = taken_any options word
taken options (value_awaited option) word = Some (Some (setting_given option word), anything_awaited)
taken options names_awaited word = Some (Some (name_given word), names_awaited)

-- what no word follows: nothing, unless a value is awaited
abbrev pub at_end : Awaited → Option (List Given)
at_end anything_awaited = Some []
at_end (value_awaited _) = None
at_end names_awaited = Some []

-- what the words give, in order
unfoldable pub given : Options → Awaited → List (List ℕ) → Option (List Given)
given options awaited [] = at_end awaited
given options awaited (word ∷ words) =
    option_and_then (λ t. option_map (λ more. option_to_list t.0 ++ more) (given options t.1 words)) (taken options awaited word)

-- the argument is this option without a value
abbrev pub is_this_flag : List ℕ → Given → Bool
is_this_flag word (flag_given f) = bytes_eq f word
is_this_flag word (setting_given _ _) = false
is_this_flag word (name_given _) = false

-- this option without a value is given
abbrev pub gives_flag : List ℕ → List Given → Bool
gives_flag word list = list_any (is_this_flag word) list

-- the value that an option is given last, or what it was before
abbrev pub last_setting : List ℕ → Option (List ℕ) → List Given → Option (List ℕ)
last_setting option before [] = before
last_setting option before (flag_given _ ∷ more) = last_setting option before more
last_setting option before (setting_given o value ∷ more) =
    last_setting option (if bytes_eq o option then Some value else before) more
last_setting option before (name_given _ ∷ more) = last_setting option before more

-- the names, in order
abbrev pub setting_list : (option : List ℕ) → List Given → List (List ℕ)
setting_list option [] = []
setting_list option (flag_given _ ∷ more) = setting_list option more
setting_list option (setting_given o value ∷ more) =
    if bytes_eq o option then value ∷ setting_list option more else setting_list option more
setting_list option (name_given _ ∷ more) = setting_list option more

-- the patterns of files and folders that folders are to be read without
abbrev pub excluded : List Given → List (List ℕ)
excluded list = setting_list (codes "--exclude") list

abbrev pub name_list : List Given → List (List ℕ)
name_list [] = []
name_list (flag_given _ ∷ more) = name_list more
name_list (setting_given _ _ ∷ more) = name_list more
name_list (name_given n ∷ more) = n ∷ name_list more

-- the name of standard input
abbrev pub stdin_name : List Given → List ℕ
stdin_name list = unwrap_or (last_setting (codes "--stdin-name") None list) (codes "<stdin>")

-- an option is given, in full or by its letter
abbrev pub gives_either : (flag letter : List ℕ) → List Given → Bool
gives_either flag letter list = gives_flag flag list || gives_flag letter list

-- `--help` comes before `--version`, and both before the work
abbrev pub asked_by : List Given → Asked
asked_by list =
    if gives_either (codes "--help") (codes "-h") list then help_asked
    else if gives_either (codes "--version") (codes "-V") list then version_asked else work_asked list

-- what the words ask for; nothing where they are none of the usage
abbrev pub asked : Options → List (List ℕ) → Option Asked
asked options words = option_map asked_by (given options anything_awaited words)

-- something is asked for, and P holds of it
abbrev pub AnswersTo : Option Asked → (Asked → Type 0) → Type 0
AnswersTo answer P = (request : Asked) × (answer ≡ Some request) × P request

-- what a value of the code gives, awaits or asks for
abbrev pub given_of : Argument → Given
given_of (arguments.Flag word) = flag_given (string_bytes word)
given_of (arguments.Setting option value) = setting_given (string_bytes option) (string_bytes value)
given_of (arguments.Name word) = name_given (string_bytes word)

abbrev pub awaited_of : declared.Awaited → Awaited
awaited_of states.Anything = anything_awaited
awaited_of (states.Value option) = value_awaited (string_bytes option)
awaited_of states.Names = names_awaited

abbrev pub taken_of : Taken → Option Given × Awaited
taken_of t = (option_map given_of t.argument, awaited_of t.awaited)

abbrev pub request_of : Request → Asked
request_of requests.Help = help_asked
request_of requests.Version = version_asked
request_of (requests.Work list) = work_asked (map given_of list.items)
