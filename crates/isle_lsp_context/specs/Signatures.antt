-- The signature that a declaration shows, as JSON.
use Rattle.std.specs.Prelude.{◌≡◌, ℕ, List, [], ◌∷◌, ◌++◌, Bool, true, false, not, ◌&&◌, ◌==◌, codes, drop, length, map, nat_le, slice_index, slice_range, take, if◌then◌else◌}
use Rattle.isle_base.specs.Lexing.{lexes}
use Rattle.isle_base.specs.Token.{Ending, Lexeme, Tok, at_sign, integer, lparen, rparen, symbol}
use Rattle.isle_lsp_text.specs.Lists.{depth_after}
use Rattle.isle_lsp_text.specs.Positions.{is_inner, units}
use Rattle.isle_lsp_text.specs.declared.positions.PositionEncoding.TheVariants.{Utf16}
use Rattle.isle_lsp_text.specs.declared.wholes.Part.{Part}
use Rattle.serde_json.specs.Data.{Data, array, member, no_members, number, object, string, unsigned}
use Rattle.serde_json.specs.View.{items_of}

-- ---- a declaration as it is written

-- whether a text can be cut at an offset: it is in the text, and splits no character
abbrev pub can_cut : List ℕ → (offset : ℕ) → Bool
can_cut text offset = nat_le offset (length text) && not (is_inner (slice_index text offset))

-- a part of a text as it is written; nothing, if it is not in the text, runs backwards or splits a character
abbrev pub written : List ℕ → Part → List ℕ
written text p = if nat_le p.from p.to && can_cut text p.from && can_cut text p.to then slice_range text p.from p.to else []

-- ---- its parameters

-- whether a token ends the list of which so many inner lists are open
abbrev pub ends_list : Tok → (depth : ℕ) → Bool
ends_list lparen depth = false
ends_list rparen depth = depth == 0
ends_list (symbol _) depth = false
ends_list (integer _) depth = false
ends_list at_sign depth = false

abbrev pub part : (from to : ℕ) → Part
part from to = record { from = from; to = to }

-- The items of a list, by its tokens from here on, where so many inner lists are open, in an item that begins at `from`. A token that is in
-- no inner list begins an item, and a token after which no inner list is open ends the item.
abbrev pub items_from : (depth from : ℕ) → List Lexeme → List Part
items_from depth from [] = []
items_from depth from (x ∷ xs) =
    let start : ℕ = if depth == 0 then x.offset else from in
    let open_lists : ℕ = depth_after depth x.token in
    if ends_list x.token depth then [] else
    ((if open_lists == 0 then part start x.after ∷ [] else []) ++ items_from open_lists start xs)

abbrev pub is_opening : Tok → Bool
is_opening lparen = true
is_opening rparen = false
is_opening (symbol _) = false
is_opening (integer _) = false
is_opening at_sign = false

-- the tokens behind the first `(` of these
abbrev pub behind_opening : List Lexeme → List Lexeme
behind_opening [] = []
behind_opening (x ∷ xs) = if is_opening x.token then xs else behind_opening xs

-- The parameters of a declaration with these tokens: the items of the first list in it, and of a variant the items behind its name.
abbrev pub parameters : (is_variant : Bool) → List Lexeme → List Part
parameters is_variant tokens = items_from 0 0 (if is_variant then drop 2 tokens else behind_opening (drop 1 tokens))

-- These are all parameters of a declaration, by its tokens up to its end, or to a lexical error.
pub record AreParameters (declaration : List ℕ) (is_variant : Bool) (found : List Part) : Type 0 where
  pub tokens : List Lexeme
  pub ending : Ending
  pub lexed : lexes declaration tokens ending
  pub are : found ≡ parameters is_variant tokens

-- ---- as JSON

-- how many units of UTF-16 a text has before an offset
abbrev pub units_before : List ℕ → (offset : ℕ) → ℕ
units_before text offset = units Utf16 (take offset text)

abbrev pub parameter_data : (label : List ℕ) → Part → Data
parameter_data label p =
    object (member (codes "label") (array (items_of (number (unsigned (units_before label p.from)) ∷ number (unsigned (units_before label p.to)) ∷ []))) no_members)

abbrev pub signature_data : (label : List ℕ) → List Part → Data
signature_data label ps =
    object (member (codes "label") (string label) (member (codes "parameters") (array (items_of (map (parameter_data label) ps))) no_members))

-- This is the signature with this label.
abbrev pub IsSignatureWith : (label : List ℕ) → (is_variant : Bool) → Data → Type 0
IsSignatureWith label is_variant d = (found : List Part) × AreParameters label is_variant found × (d ≡ signature_data label found)

abbrev pub help_data : (signature : Data) → (argument : ℕ) → Data
help_data signature argument =
    object (member (codes "activeParameter") (number (unsigned argument)) (member (codes "activeSignature") (number (unsigned 0))
    (member (codes "signatures") (array (items_of (signature ∷ []))) no_members)))

-- This is the signature help for a declaration, which is this part of a text, at an argument.
abbrev pub IsDeclarationHelp : List ℕ → Part → (is_variant : Bool) → (argument : ℕ) → Data → Type 0
IsDeclarationHelp text declaration is_variant argument d =
    (signature : Data) × IsSignatureWith (written text declaration) is_variant signature × (d ≡ help_data signature argument)
