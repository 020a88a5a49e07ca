-- Where definitions begin in an ISLE text, whatever lists are open before them.
use Rattle.std.specs.Prelude.{ℕ, ◌+◌, ◌-◌, List, [], ◌∷◌, Bool, ◌&&◌, ◌||◌, ◌==◌, codes, drop, slice_index}
use Rattle.std.specs.List.{list_any, take_while}
use Rattle.std.specs.Str.{bytes_eq}
use Rattle.isle_base.specs.Bytes.{left_parenthesis}
use Rattle.isle_base.specs.Spellings.{in_symbol}
use Rattle.isle_lsp_text.specs.Positions.{is_line_end}

-- the words that a definition begins with
abbrev pub keywords : List (List ℕ)
keywords =
    codes "pragma" ∷ codes "type" ∷ codes "decl" ∷ codes "attr" ∷ codes "spec" ∷ codes "macro" ∷ codes "model" ∷ codes "state" ∷
    codes "form" ∷ codes "instantiate" ∷ codes "rule" ∷ codes "extractor" ∷ codes "extern" ∷ codes "convert" ∷ []

abbrev pub is_keyword : List ℕ → Bool
is_keyword word = list_any (λ keyword. bytes_eq keyword word) keywords

-- the word at an offset: all bytes from there on that a symbol can have
abbrev pub word_at : List ℕ → (offset : ℕ) → List ℕ
word_at text offset = take_while in_symbol (drop offset text)

abbrev pub begins_line : List ℕ → (offset : ℕ) → Bool
begins_line text offset = offset == 0 || is_line_end (slice_index text (offset - 1))

-- a definition begins at an offset: a `(` with which a line begins, directly before a keyword
unfoldable pub begins_definition : List ℕ → (offset : ℕ) → Bool
begins_definition text offset =
    begins_line text offset && slice_index text offset == left_parenthesis && is_keyword (word_at text (offset + 1))
