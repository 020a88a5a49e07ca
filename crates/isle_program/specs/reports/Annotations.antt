-- Messages as workflow commands of GitHub.
use Rattle.std.specs.Prelude.{ℕ, ◌==◌, List, [], ◌++◌, Bool, true, false, Option, None, Some, codes, decimal, if◌then◌else◌, length, unwrap_or}
use Rattle.std.specs.Char.{encode_utf8}
use Rattle.std.specs.List.{flat_map}
use Rattle.std.specs.Str.{chars}
use Rattle.isle_program.specs.reports.Messages.{MessageNode, plain_text}
use Rattle.isle_program.specs.declared.reports.message.Severity.{Severity}
use Rattle.isle_program.specs.declared.reports.message.Severity.TheVariants.{Error, Warning, Note}

abbrev pub command_word : Severity → List ℕ
command_word Error = codes "error"
command_word Warning = codes "warning"
command_word Note = codes "notice"

-- the escapes of `%`, CR and LF
abbrev pub escape_of : ℕ → Option (List ℕ)
escape_of c =
    if c == 37 then Some (codes "%25")
    else if c == 13 then Some (codes "%0D")
    else if c == 10 then Some (codes "%0A") else None

-- those in the value of a property, where `:` and `,` have one, too
abbrev pub property_escape_of : ℕ → Option (List ℕ)
property_escape_of c =
    if c == 58 then Some (codes "%3A")
    else if c == 44 then Some (codes "%2C") else escape_of c

-- a character, or its escape
abbrev pub escaped_char : (is_property : Bool) → ℕ → List ℕ
escaped_char true c = unwrap_or (property_escape_of c) (encode_utf8 c)
escaped_char false c = unwrap_or (escape_of c) (encode_utf8 c)

abbrev pub escaped_text : (is_property : Bool) → List ℕ → List ℕ
escaped_text is_property text = flat_map (escaped_char is_property) (chars text)

abbrev pub title_text : List ℕ → List ℕ
title_text kind = if length kind == 0 then [] else codes ",title=" ++ escaped_text true kind

abbrev pub annotation : (name : List ℕ) → (line column : ℕ) → MessageNode → List ℕ
annotation name line column m =
    codes "::" ++ (command_word m.severity ++ (codes " file=" ++ (escaped_text true name ++ (codes ",line=" ++ (decimal line ++ (codes ",col=" ++ (decimal column
    ++ (title_text m.kind ++ (codes "::" ++ (escaped_text false (plain_text m) ++ codes "\n"))))))))))
