-- The results of the lexer's private functions, by the bytes of a text from an offset on.
use Rattle.std.specs.Prelude.{◌≡◌, ◌⊎◌, ◌<◌, ◌≤◌, ◌+◌, ◌^◌, ℕ, ℤ, List, [], ◌∷◌, Bool, true, false, ◌&&◌, nat_lt, ◌==◌, Option, Some, None, Result, Ok, Err, length, drop, IsUtf8}
use Rattle.isle_base.specs.Bytes.{semicolon}
use Rattle.isle_base.specs.declared.scanner.read.Found.{Found}
use Rattle.isle_base.specs.declared.scanner.read.Found.TheVariants as founds
use Rattle.isle_base.specs.declared.scanner.read.Reason.{Reason}
use Rattle.isle_base.specs.Lexing.{Faulty}
use Rattle.isle_base.specs.Literals.{Literal, are_digits, number_of, signed}
use Rattle.isle_base.specs.Spellings.{Spelling}
use Rattle.isle_base.specs.Skips.{Skip, Inside, begins_with, is_blank, opens}
use Rattle.isle_base.specs.TokenView.{token_of_ref}

-- the byte here, and the bytes after it
abbrev pub ShowsByte : List ℕ → ℕ → Option ℕ → Type 0
ShowsByte bytes at None = drop at bytes ≡ []
ShowsByte bytes at (Some b) = (drop at bytes ≡ b ∷ drop (at + 1) bytes) × (at < length bytes)

-- the end of a block comment from inside it, if it has one
abbrev pub EndsComment : List ℕ → ℕ → Option ℕ → Type 0
EndsComment bytes from None = (rest : List ℕ) → Inside (drop from bytes) rest → ⊥
EndsComment bytes from (Some at) = Inside (drop from bytes) (drop at bytes) × (at ≤ length bytes)

-- no blank, no line comment and no block comment begins here
pub record IsUnskipped (text : List ℕ) : Type 0 where
  pub not_blank : begins_with is_blank text ≡ false
  pub no_line : begins_with (λ b. b == semicolon) text ≡ false
  pub no_block : opens text ≡ false

-- the end of a skip, or the start of an unclosed block comment after one
abbrev pub EndsSkip : List ℕ → ℕ → Result ℕ ℕ → Type 0
EndsSkip bytes from (Ok at) = Skip (drop from bytes) (drop at bytes) × IsUnskipped (drop at bytes) × (at ≤ length bytes)
EndsSkip bytes from (Err at) = Skip (drop from bytes) (drop at bytes) × Faulty (drop at bytes) × (at < length bytes)

abbrev pub IsRadix : ℕ → Type 0
IsRadix radix = (radix ≡ 2) ⊎ ((radix ≡ 8) ⊎ ((radix ≡ 10) ⊎ (radix ≡ 16)))

-- the number written by a run of digits, if each is below the radix and the number is below 2^128
abbrev pub WritesNumber : ℕ → List ℕ → Result ℕ Reason → Type 0
WritesNumber radix digits (Ok n) = (are_digits radix digits ≡ true) × (number_of radix digits ≡ n)
WritesNumber radix digits (Err _) = (are_digits radix digits && nat_lt (number_of radix digits) (2 ^ 128)) ≡ false

abbrev pub HasSign : Bool → ℕ → Result ℤ Reason → Type 0
HasSign minus n (Ok value) = signed minus n ≡ Some value
HasSign minus n (Err _) = signed minus n ≡ None

-- the value of a literal and the offset after it, or none
abbrev pub ReadsLiteral : List ℕ → ℕ → Result (ℤ × ℕ) Reason → Type 0
ReadsLiteral bytes from (Ok x) = Literal (drop from bytes) (Some x.0) (drop x.1 bytes) × (x.1 ≤ length bytes)
ReadsLiteral bytes from (Err _) = Faulty (drop from bytes)

-- the end of the literal here, if it has a value
abbrev pub EndsLiteral : List ℕ → ℕ → Option ℕ → Type 0
EndsLiteral bytes from None = Faulty (drop from bytes)
EndsLiteral bytes from (Some at) = ((value : ℤ) × Literal (drop from bytes) (Some value) (drop at bytes)) × (at ≤ length bytes)

-- the token or the fault here
abbrev pub FindsHere : List ℕ → ℕ → Found → Type 0
FindsHere text from (founds.Token start token after) =
    (start ≡ from) × Spelling (drop from text) (token_of_ref token) (drop after text) × (after ≤ length text)
FindsHere text from founds.End = ⊥
FindsHere text from (founds.Fault at _) = (at ≡ from) × Faulty (drop from text)

-- a token, the end of the text or a fault, after a skip
abbrev pub Finds : List ℕ → ℕ → Found → Type 0
Finds text from (founds.Token start token after) =
    Skip (drop from text) (drop start text) × Spelling (drop start text) (token_of_ref token) (drop after text)
    × (start < after) × (after ≤ length text) × IsUtf8 (drop after text)
Finds text from founds.End = Skip (drop from text) []
Finds text from (founds.Fault at _) = Skip (drop from text) (drop at text) × Faulty (drop at text) × (at < length text)
