-- The items of a list, by its tokens: the arguments of a use, the parameters of an extractor, the parts of a definition.
use Rattle.std.specs.Prelude.{ℕ, List, [], ◌∷◌, ◌++◌, Bool, ◌&&◌, ◌||◌, ◌==◌, Option, None, Some, map, nat_lt, if◌then◌else◌}
use Rattle.isle_base.specs.Token.{Lexeme}
use Rattle.isle_lsp_actions.specs.Tokens.{begins_with_at, is_at_sign, is_closing, part}
use Rattle.isle_lsp_actions.specs.declared.items.ListItems.{ListItems as CodeItems}
use Rattle.isle_lsp_context.specs.Signatures.{written}
use Rattle.isle_lsp_text.specs.Definitions.{begins_definition}
use Rattle.isle_lsp_text.specs.Lists.{depth_after}
use Rattle.isle_lsp_text.specs.declared.wholes.Part.{Part}

-- the items of a list that ends, each from its first byte to its last, and the offset after its `)`
pub record ListItems : Type 0 where
  pub parts : List Part
  pub to : ℕ

-- those of the code
abbrev pub items_of : CodeItems → ListItems
items_of i = record { parts = i.parts.items; to = i.to }

-- a list ends behind these items, if none is unfinished
abbrev pub ended : List Part → (unfinished : Option ℕ) → (to : ℕ) → Option ListItems
ended found None to = Some (record { parts = found; to = to })
ended found (Some from) to = None

abbrev pub start_of : (unfinished : Option ℕ) → (offset : ℕ) → ℕ
start_of None offset = offset
start_of (Some from) offset = from

-- An item goes on behind a token in a list of its own, behind `@` and before it: so `x @ (f y)` is one item.
abbrev pub goes_on : (depth : ℕ) → Lexeme → List Lexeme → Bool
goes_on depth x rest = nat_lt 0 depth || is_at_sign x.token || begins_with_at rest

-- The items of a list, by its tokens from here on, behind these items and perhaps the start of an unfinished one, in which so many lists are open.
-- None if the list does not end before the next definition.
abbrev pub items_from : List ℕ → (found : List Part) → (unfinished : Option ℕ) → (depth : ℕ) → List Lexeme → Option ListItems
items_from text found unfinished depth [] = None
items_from text found unfinished depth (x ∷ xs) =
    if begins_definition text x.offset then None
    else (if depth == 0 && is_closing x.token then ended found unfinished x.after
    else (let from : ℕ = start_of unfinished x.offset in let open_lists : ℕ = depth_after depth x.token in
    if goes_on open_lists x xs then items_from text found (Some from) open_lists xs
    else items_from text (found ++ part from x.after ∷ []) None 0 xs))

-- the items up to the `)` of a list, by the tokens of which these are the first
abbrev pub items : List ℕ → List Lexeme → Option ListItems
items text tokens = items_from text [] None 0 tokens

-- these parts as they are written
abbrev pub texts_of : List ℕ → List Part → List (List ℕ)
texts_of text parts = map (written text) parts
