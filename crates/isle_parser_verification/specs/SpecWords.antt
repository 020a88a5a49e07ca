-- Symbols at the start of a spec expression: heads after a `(`, and symbols by themselves.
use Rattle.std.specs.Prelude.{◌≡◌, ℕ, ◌*◌, ◌^◌, List, [], ◌++◌, ◌∷◌, length, Bool, true, false, ◌&&◌, ◌||◌, ◌==◌, Option, Some, None, option_map, map, nat_lt, not, if◌then◌else◌, filter, codes}
use Rattle.std.specs.Char.{digit_value}
use Rattle.std.specs.List.{list_all}
use Rattle.std.specs.Option.{is_some, option_or}
use Rattle.std.specs.Str.{bytes_eq}
use Rattle.std.specs.Str.Parse.{digits_value, without_leading_plus}
use Rattle.isle_base_source.specs.declared.pos.Pos.{Pos}
use Rattle.isle_base.specs.Token.{Tok, lparen, rparen, symbol, integer, at_sign}
use Rattle.isle_ast_verification.specs.declared.spec.SpecOp.{SpecOp}
use Rattle.isle_ast_names.specs.Identifier.{is_identifier}
use Rattle.isle_ast_verification.specs.Operators.{operator_text, is_operator_text, operators}
use Rattle.isle_ast_verification.specs.Tree.{SpecNode, bit_vector_spec, bool_spec, var_spec}
use Rattle.isle_ast_verification.specs.SpecGrammar.{field_mark, discriminator_mark, expansion_mark, is_dot, is_plain_operator}
use Rattle.isle_parser_cursor.specs.Reading.{Reader, ◌>>=◌, text as text_ahead}

-- the first word in parentheses, with the names in it
pub data SpecHead : Type 0 where
  switch_head : SpecHead
  let_head : SpecHead
  with_head : SpecHead
  match_head : SpecHead
  struct_head : SpecHead
  macro_head : SpecHead
  as_head : SpecHead
  discriminator_head : (variant : List ℕ) → SpecHead
  expansion_head : (macro : List ℕ) → SpecHead
  operator_head : SpecOp → SpecHead
  field_head : (field : List ℕ) → SpecHead
  variant_head : (enum case : List ℕ) → SpecHead

-- the text of a head
abbrev pub IsHead : SpecHead → List ℕ → Type 0
IsHead switch_head text = text ≡ codes "switch"
IsHead let_head text = text ≡ codes "let"
IsHead with_head text = text ≡ codes "with"
IsHead match_head text = text ≡ codes "match"
IsHead struct_head text = text ≡ codes "struct"
IsHead macro_head text = text ≡ codes "macro"
IsHead as_head text = text ≡ codes "as"
IsHead (discriminator_head variant) text = (is_identifier variant ≡ true) × (text ≡ discriminator_mark variant)
IsHead (expansion_head macro) text = (is_identifier macro ≡ true) × (text ≡ expansion_mark macro)
IsHead (operator_head operator) text = (is_plain_operator operator ≡ true) × (text ≡ operator_text operator)
IsHead (field_head field) text = (is_identifier field ≡ true) × (text ≡ field_mark field)
IsHead (variant_head enum case) text =
    (is_identifier enum ≡ true) × (is_identifier case ≡ true)
    × (list_all (λ byte. not (is_dot byte)) enum ≡ true)
    × (is_operator_text text ≡ false)
    × (text ≡ enum ++ 46 ∷ case)

-- the rest after this mark, if the text begins with it
abbrev pub behind_mark : List ℕ → List ℕ → Option (List ℕ)
behind_mark [] text = Some text
behind_mark (m ∷ mark) [] = None
behind_mark (m ∷ mark) (x ∷ text) = if x == m then behind_mark mark text else None

-- the bytes before the last one, if that is this byte
abbrev pub before_last : ℕ → List ℕ → Option (List ℕ)
before_last byte [] = None
before_last byte (x ∷ []) = if x == byte then Some [] else None
before_last byte (x ∷ y ∷ text) = option_map (λ front. x ∷ front) (before_last byte (y ∷ text))

-- the bytes before the first such byte, and those after it
abbrev pub split_at_mark : ℕ → List ℕ → Option (List ℕ × List ℕ)
split_at_mark byte [] = None
split_at_mark byte (x ∷ text) =
    if x == byte then Some ([], text) else option_map (λ parts. (x ∷ parts.0, parts.1)) (split_at_mark byte text)

-- an operator paired with its text
abbrev pub named_row : SpecOp → List ℕ × SpecOp
named_row operator = (operator_text operator, operator)

-- the operator in the first row with this text
abbrev pub in_table : List (List ℕ × SpecOp) → List ℕ → Option SpecOp
in_table [] text = None
in_table (row ∷ rows) text = if bytes_eq text row.0 then Some row.1 else in_table rows text

-- The operator with this text. `switch`, which has a head of its own, is not among them.
unfoldable pub operator_of : List ℕ → Option SpecOp
operator_of = in_table (map named_row (filter is_plain_operator operators))

-- the head of one of these words
unfoldable pub keyword_head : List ℕ → Option SpecHead
keyword_head text =
    if bytes_eq text (codes "switch") then Some switch_head
    else (if bytes_eq text (codes "let") then Some let_head
    else (if bytes_eq text (codes "with") then Some with_head
    else (if bytes_eq text (codes "match") then Some match_head
    else (if bytes_eq text (codes "struct") then Some struct_head
    else (if bytes_eq text (codes "macro") then Some macro_head
    else (if bytes_eq text (codes "as") then Some as_head
    else None))))))

-- whether this text begins like a bit vector
abbrev pub begins_bit_vector : List ℕ → Bool
begins_bit_vector text = is_some (behind_mark (codes "#b") text) || is_some (behind_mark (codes "#x") text)

-- whether a token is a symbol that does not begin like a bit vector
abbrev pub can_be_head : Tok → Bool
can_be_head lparen = false
can_be_head rparen = false
can_be_head (symbol text) = not (begins_bit_vector text)
can_be_head (integer _) = false
can_be_head at_sign = false

-- the head of a text other than these words: the first that fits. A bit vector has none
unfoldable pub other_head : List ℕ → Option SpecHead
other_head text =
    if begins_bit_vector text then None
    else (option_or (option_map discriminator_head (before_last 63 text))
    (option_or (option_map expansion_head (before_last 33 text))
    (option_or (option_map operator_head (operator_of text))
    (option_or (option_map field_head (behind_mark (codes ":") text))
    (option_map (λ names. variant_head names.0 names.1) (split_at_mark 46 text))))))

-- the head of this text, with any names in it
unfoldable pub head_word : List ℕ → Option SpecHead
head_word text = option_or (keyword_head text) (other_head text)

-- whether the names in a head are identifiers
abbrev pub are_identifiers : SpecHead → Bool
are_identifiers (discriminator_head variant) = is_identifier variant
are_identifiers (expansion_head macro) = is_identifier macro
are_identifiers (field_head field) = is_identifier field
are_identifiers (variant_head enum case) = is_identifier enum && is_identifier case
are_identifiers _ = true

-- this head, if the names in it are identifiers
unfoldable pub identified : Option SpecHead → Option SpecHead
identified None = None
identified (Some head) = if are_identifiers head then Some head else None

-- the head of this text
unfoldable pub head_of : List ℕ → Option SpecHead
head_of text = identified (head_word text)

abbrev pub are_all_digits : ℕ → List ℕ → Bool
are_all_digits radix [] = true
are_all_digits radix (byte ∷ text) = nat_lt (digit_value byte) radix && are_all_digits radix text

-- one digit or more
abbrev pub is_numeral : ℕ → List ℕ → Bool
is_numeral radix [] = false
is_numeral radix (byte ∷ text) = are_all_digits radix (byte ∷ text)

-- the value and the width of these digits, if they fit their types
unfoldable pub bit_vector_of : (radix bits : ℕ) → List ℕ → Option (ℕ × ℕ)
bit_vector_of radix bits digits =
    if is_numeral radix (without_leading_plus digits)
    && nat_lt (digits_value radix (without_leading_plus digits)) (2 ^ 128)
    && nat_lt (length digits * bits) (2 ^ 64)
    then Some (digits_value radix (without_leading_plus digits), length digits * bits)
    else None

-- the bit vector of these digits, at this place
unfoldable pub bit_vector_at : (place : Pos) → (radix bits : ℕ) → List ℕ → Option SpecNode
bit_vector_at place radix bits digits =
    bit_vector_of radix bits digits >>= λ v. Some (bit_vector_spec v.0 v.1 place)

-- `true`, `false` or a variable
unfoldable pub plain_word : Pos → List ℕ → Option SpecNode
plain_word place text =
    if bytes_eq text (codes "true") then Some (bool_spec true place)
    else (if bytes_eq text (codes "false") then Some (bool_spec false place)
    else (if is_identifier text then Some (var_spec (record { text = text; pos = place }) place)
    else None))

unfoldable pub hexadecimal_or_plain : Pos → List ℕ → Option (List ℕ) → Option SpecNode
hexadecimal_or_plain place text (Some digits) = bit_vector_at place 16 4 digits
hexadecimal_or_plain place text None = plain_word place text

unfoldable pub binary_or_other : Pos → List ℕ → Option (List ℕ) → Option SpecNode
binary_or_other place text (Some digits) = bit_vector_at place 2 1 digits
binary_or_other place text None = hexadecimal_or_plain place text (behind_mark (codes "#x") text)

-- the expression that this text is by itself, at this place
unfoldable pub word_of : Pos → List ℕ → Option SpecNode
word_of place text = binary_or_other place text (behind_mark (codes "#b") text)

-- a symbol that is a head
abbrev pub spec_head : Reader SpecHead
spec_head all = text_ahead all >>= λ word. head_of word.0 >>= λ head. Some (head, word.1)
