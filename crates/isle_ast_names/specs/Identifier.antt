-- Identifiers: the first character is a letter, `_` or `$`, and each other one is a letter, a
-- digit, `_`, `.` or `$`. In ASCII the letters are `A` to `Z` and `a` to `z`, and the digits `0` to
-- `9`. Outside ASCII a letter is an alphabetic character, and a digit is one of the categories
-- decimal number, letter number and other number.
use Rattle.std.specs.Prelude.{ℕ, List, [], ◌∷◌, Bool, true, false, ◌&&◌, ◌||◌, ◌==◌, nat_lt, if◌then◌else◌}
use Rattle.std.specs.Char.{is_ascii_alphabetic, is_ascii_digit}
use Rattle.std.specs.List.{list_all}
use Rattle.std.specs.Str.{chars, is_utf8}
use Rattle.unicode.specs.Binary.{is_alphabetic}
use Rattle.unicode.specs.GeneralCategory.{general_category}
use Rattle.unicode.specs.declared.properties.GeneralCategory.{GeneralCategory}
use Rattle.unicode.specs.declared.properties.GeneralCategory.TheVariants.{DecimalNumber, LetterNumber, OtherNumber}
use Rattle.isle_base.specs.Bytes.{dollar, dot, underscore}
use Rattle.isle_base.specs.Skips.{begins_with}

abbrev pub is_number : GeneralCategory → Bool
is_number DecimalNumber = true
is_number LetterNumber = true
is_number OtherNumber = true
is_number _ = false

abbrev pub is_letter : ℕ → Bool
is_letter c = if nat_lt c 128 then is_ascii_alphabetic c else is_alphabetic c

abbrev pub is_digit : ℕ → Bool
is_digit c = if nat_lt c 128 then is_ascii_digit c else is_number (general_category c)

-- a letter, `_` or `$`
abbrev pub begins_identifier : ℕ → Bool
begins_identifier c = is_letter c || c == underscore || c == dollar

-- a letter, a digit, `_`, `.` or `$`
abbrev pub continues_identifier : ℕ → Bool
continues_identifier c = is_letter c || is_digit c || c == underscore || c == dot || c == dollar

abbrev pub are_identifier : List ℕ → Bool
are_identifier [] = false
are_identifier (c ∷ cs) = begins_identifier c && list_all continues_identifier cs

-- these bytes are valid UTF-8, and their characters form an identifier
unfoldable pub is_identifier : List ℕ → Bool
is_identifier text = is_utf8 text && are_identifier (chars text)

-- an ASCII character that may follow the first one of an identifier
abbrev pub continues_in_ascii : ℕ → Bool
continues_in_ascii b = nat_lt b 128 && continues_identifier b

-- an identifier of ASCII characters only
abbrev pub is_ascii_identifier : List ℕ → Bool
is_ascii_identifier text = begins_with begins_identifier text && list_all continues_in_ascii text
