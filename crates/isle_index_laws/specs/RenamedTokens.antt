-- The tokens of a text in which a name gets a new text.
use Rattle.std.specs.Prelude.{ℕ, List, ◌∷◌, Bool, true, false, length, map, if◌then◌else◌}
use Rattle.std.specs.List.{list_any}
use Rattle.isle_base.specs.Bytes.{dollar}
use Rattle.isle_base.specs.Place.{Placed}
use Rattle.isle_base.specs.Token.{Tok, at_sign, integer, lparen, rparen, symbol}
use Rattle.isle_base_source.specs.declared.pos.Pos.{Pos}
use Rattle.isle_resolve.specs.declared.event.Kind.TheVariants as kinds
use Rattle.isle_resolve.specs.Names.{NameNode, global, variable}
use Rattle.isle_index.specs.Renamed.{front, same_place, with_new}
use Rattle.isle_index.specs.Renaming.{Part, part_text}

abbrev pub is_constant : NameNode → Bool
is_constant (global kinds.Term _) = false
is_constant (global kinds.Type _) = false
is_constant (global kinds.Constant _) = true
is_constant (variable _ _) = false

-- the text of a name as it is written: a constant's with a `$` before it
abbrev pub as_written : Bool → List ℕ → List ℕ
as_written true text = dollar ∷ text
as_written false text = text

-- the bytes in front of the part of a name that gets the new text, where it is written at this position
abbrev pub lead : (of_constant : Bool) → Part → Pos → List ℕ
lead of_constant part p = as_written of_constant (front part p)

-- a token, with the bytes of `new` in place of those of `old` behind so many bytes that stay
abbrev pub with_new_text : ℕ → List ℕ → List ℕ → Tok → Tok
with_new_text skipped old new lparen = lparen
with_new_text skipped old new rparen = rparen
with_new_text skipped old new (symbol text) = symbol (with_new skipped old new text)
with_new_text skipped old new (integer value) = integer value
with_new_text skipped old new at_sign = at_sign

-- a token, with the new text of a name's part if it is at one of these positions
abbrev pub renamed_token : List Pos → (of_constant : Bool) → Part → List ℕ → Placed → Placed
renamed_token places of_constant part new t =
    if list_any (same_place t.pos) places
    then record { pos = t.pos; token = with_new_text (length (lead of_constant part t.pos)) (part_text part) new t.token } else t

abbrev pub renamed_tokens : List Pos → NameNode → Part → List ℕ → List Placed → List Placed
renamed_tokens places name part new ts = map (renamed_token places (is_constant name) part new) ts

-- the positions of tokens
abbrev pub positions : List Placed → List Pos
positions ts = map (λ t. t.pos) ts
