-- Where a mistake is shown. A TOML value doesn't say where it stands in its text, so its key is searched for.
use Rattle.std.specs.Prelude.{ℕ, nat_eq, ◌+◌, ◌==◌, zero, suc, List, [], ◌∷◌, Bool, true, false, not, ◌&&◌, ◌||◌, if◌then◌else◌, Option, None, Some, codes, drop, length, unwrap_or}
use Rattle.std.specs.Char.{is_ascii_alphanumeric}
use Rattle.std.specs.List.{starts_with}

-- the byte may stand in a key that isn't quoted
abbrev pub is_key_byte : ℕ → Bool
is_key_byte b = is_ascii_alphanumeric b || b == 45 || b == 95

-- a key goes on with these bytes
abbrev pub goes_on : List ℕ → Bool
goes_on [] = false
goes_on (b ∷ _) = is_key_byte b

-- a word is at the front of these bytes, and ends there
abbrev pub is_at : (word : List ℕ) → List ℕ → Bool
is_at word bytes = starts_with nat_eq bytes word && not (goes_on (drop (length word) bytes))

-- blanks, `[` and quotation marks may be before the first word of a line
abbrev pub is_before_word : ℕ → Bool
is_before_word b = b == 32 || b == 9 || b == 91 || b == 34 || b == 39

-- after this byte, the word may come: the first one of a line, or one that is also inside a line
abbrev pub starts_after : (inside starts : Bool) → ℕ → Bool
starts_after inside starts b = if inside then not (is_key_byte b) else b == 10 || (starts && is_before_word b)

-- where the word is, in bytes of which the first has this number
abbrev pub first_place : (inside : Bool) → (word : List ℕ) → (starts : Bool) → (number : ℕ) → List ℕ → Option ℕ
first_place inside word starts number [] = None
first_place inside word starts number (b ∷ bytes) =
    if starts && is_at word (b ∷ bytes) then Some number else first_place inside word (starts_after inside starts b) (number + 1) bytes

-- where it is from this offset on; this offset, if it is nowhere
abbrev pub place_from : (text : List ℕ) → (inside starts : Bool) → (from : ℕ) → (word : List ℕ) → ℕ
place_from text inside starts from word = unwrap_or (first_place inside word starts from (drop from text)) from

-- where a word is the first of a line
abbrev pub line_from : (text : List ℕ) → (starts : Bool) → (from : ℕ) → (word : List ℕ) → ℕ
line_from text starts from word = place_from text false starts from word

-- where the header of the program with this number is
abbrev pub header : (text : List ℕ) → (number : ℕ) → ℕ
header text zero = line_from text true 0 (codes "[[program")
header text (suc number) = line_from text false (header text number) (codes "[[program")

-- where the manifest or one of its programs begins
abbrev pub start : (text : List ℕ) → Option ℕ → ℕ
start text None = 0
start text (Some number) = header text number

-- where a key of `lints` is, as in `[lints.KEY]`
abbrev pub lints_key : (text : List ℕ) → (key : List ℕ) → ℕ
lints_key text key = place_from text true true (line_from text true 0 (codes "lints")) key

-- where a name of the table at that key is
abbrev pub lints_name : (text : List ℕ) → (key name : List ℕ) → ℕ
lints_name text key name = line_from text true (lints_key text key) name
