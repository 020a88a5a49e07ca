-- The frames of the protocol: header lines, a blank line, and as many bytes as the header says.
use Rattle.std.specs.Prelude.{◌≡◌, ◌≤◌, ℕ, zero, suc, ◌-◌, ◌^◌, ◌&&◌, ◌||◌, ◌==◌, map, if◌then◌else◌, nat_lt, List, [], ◌∷◌, ◌++◌, length, take, drop, reverse, codes, decimal, Option, None, Some, Result, Ok, Err, bytes_eq}
use Rattle.std.specs.Char.{to_ascii_lowercase}
use Rattle.std.specs.Str.{all_ascii_digits}
use Rattle.std.specs.Str.Parse.{digits_value}
use Rattle.std.specs.Io.BufRead.{take_through, drop_through}
use Rattle.isle_lsp_frames.specs.declared.frames.FrameFault.{FrameFault}
use Rattle.isle_lsp_frames.specs.declared.frames.FrameFault.TheVariants.{Malformed, Cut, TooLong, Unreadable, Memory}

infixl 10 ◌>>=◌
abbrev pub ◌>>=◌ : {A B : Type 0} → Result A FrameFault → (A → Result B FrameFault) → Result B FrameFault
(Ok x) >>= f = f x
(Err e) >>= f = Err e

-- ---- writing

-- the header of a message of this length
abbrev pub head : ℕ → List ℕ
head len = codes "Content-Length: " ++ (decimal len ++ codes "\r\n\r\n")

-- a message with its header
abbrev pub frame : List ℕ → List ℕ
frame body = head (length body) ++ body

-- ---- reading

-- the number that decimal digits write
unfoldable pub number_of : List ℕ → Option ℕ
number_of digits = if all_ascii_digits digits && (nat_lt 0 (length digits) && nat_lt (digits_value 10 digits) (2 ^ 64)) then Some (digits_value 10 digits) else None

-- the value without the spaces and tabs in front of it
abbrev pub after_blanks : List ℕ → List ℕ
after_blanks [] = []
after_blanks (b ∷ bs) = if b == 32 || b == 9 then after_blanks bs else b ∷ bs

-- the value without the spaces and tabs around it
abbrev pub without_blanks : List ℕ → List ℕ
without_blanks value = reverse (after_blanks (reverse (after_blanks value)))

-- the value after the name of the length, which is matched in any case
abbrev pub length_value : List ℕ → Option (List ℕ)
length_value field = if bytes_eq (map to_ascii_lowercase (take 15 field)) (codes "content-length:") then Some (drop 15 field) else None

abbrev pub said_length : Option ℕ → Result (Option ℕ) FrameFault
said_length None = Err Malformed
said_length (Some n) = Ok (Some n)

abbrev pub length_in : Option (List ℕ) → Result (Option ℕ) FrameFault
length_in None = Ok None
length_in (Some value) = said_length (number_of (without_blanks value))

-- the length that a header line states, without its line end
unfoldable pub field_length : List ℕ → Result (Option ℕ) FrameFault
field_length field = length_in (length_value field)

-- the length that a header line states
unfoldable pub header_length : List ℕ → Result (Option ℕ) FrameFault
header_length line = if nat_lt 4096 (length line) then Err Malformed else (if bytes_eq (drop (length line - 2) line) (codes "\r\n") then field_length (take (length line - 2) line) else Err Malformed)

-- the one of two lengths that is present
abbrev pub only_one : (found known : Option ℕ) → Result (Option ℕ) FrameFault
only_one None known = Ok known
only_one (Some n) None = Ok (Some n)
only_one (Some n) (Some m) = Err Malformed

-- the length that is known after a further header line
unfoldable pub length_after : List ℕ → Option ℕ → Result (Option ℕ) FrameFault
length_after line known = header_length line >>= λ found. only_one found known

abbrev pub known_length : Option ℕ → List ℕ → Result (ℕ × List ℕ) FrameFault
known_length None rest = Err Malformed
known_length (Some n) rest = Ok (n, rest)

-- the length that the header states, which has at most this many lines, and the rest of the input
unfoldable pub head_at : ℕ → Option ℕ → List ℕ → Result (ℕ × List ℕ) FrameFault
head_at zero known bytes = Err Malformed
head_at (suc lines) known bytes =
    if bytes_eq (take_through 10 bytes) (codes "\r\n") then known_length known (drop_through 10 bytes)
    else (length_after (take_through 10 bytes) known >>= λ length. head_at lines length (drop_through 10 bytes))

-- this many bytes, and the rest of the input
unfoldable pub body_at : ℕ → List ℕ → Result (List ℕ × List ℕ) FrameFault
body_at n bytes = if nat_lt 67108864 n then Err TooLong else (if nat_lt (length bytes) n then Err Cut else Ok (take n bytes, drop n bytes))

-- the next message, or none at the end
unfoldable pub frame_at : List ℕ → Result (Option (List ℕ) × List ℕ) FrameFault
frame_at [] = Ok (None, [])
frame_at (b ∷ bytes) = head_at 16 None (b ∷ bytes) >>= λ head. (body_at head.0 head.1 >>= λ body. Ok (Some body.0, body.1))

-- ---- readers

-- the reader or memory failed, whatever the bytes are
abbrev pub IsBroken : FrameFault → Type 0
IsBroken Malformed = ⊥
IsBroken Cut = ⊥
IsBroken TooLong = ⊥
IsBroken Unreadable = Unit {0}
IsBroken Memory = Unit {0}

abbrev pub Fails : {Y : Type 0} → FrameFault → Result Y FrameFault → Type 0
Fails Malformed read = read ≡ Err Malformed
Fails Cut read = read ≡ Err Cut
Fails TooLong read = read ≡ Err TooLong
Fails Unreadable read = Unit {0}
Fails Memory read = Unit {0}

-- This was read of the line at the front of the bytes: 4,097 bytes at most, and the whole line if it has fewer.
abbrev pub IsLine : (bytes line : List ℕ) → (rest : Option (List ℕ)) → Type 0
IsLine bytes line rest = (line ≡ take 4097 (take_through 10 bytes)) × (length line ≤ 4096 → rest ≡ Some (drop_through 10 bytes))

-- the result, seen by view, and the rest of the input are those of reading, unless the reader or memory failed
abbrev pub Gives : {X Y : Type 0} → (X → Y) → Option (List ℕ) → Result X FrameFault → Result (Y × List ℕ) FrameFault → Type 0
Gives view new (Ok x) read = (rest : List ℕ) × (new ≡ Some rest) × (read ≡ Ok (view x, rest))
Gives view new (Err e) read = Fails e read
