-- The internal extractors of a program, by the tokens of its texts.
use Rattle.std.specs.Prelude.{◌≡◌, ℕ, List, [], ◌∷◌, ◌++◌, Bool, false, ◌&&◌, ◌==◌, Option, None, Some, codes, drop, map, if◌then◌else◌}
use Rattle.isle_base.specs.Token.{Lexeme}
use Rattle.isle_lsp_actions.specs.Items.{ListItems, items, texts_of}
use Rattle.isle_lsp_actions.specs.Tokens.{AreTokens, is_opening, is_word}
use Rattle.isle_lsp_actions.specs.declared.extractors.Extractor.{Extractor as CodeExtractor}
use Rattle.isle_lsp_context.specs.Signatures.{written}
use Rattle.isle_lsp_text.specs.Implementations.{depth_at}
use Rattle.isle_lsp_text.specs.Lists.{depth_after}
use Rattle.isle_lsp_text.specs.declared.wholes.Part.{Part}

-- what `(extractor (E x y) T)` tells of E: its parameters `x` and `y`, and its template `T`, as they are written
pub record Extractor : Type 0 where
  pub parameters : List (List ℕ)
  pub template : List ℕ

-- that of the code
abbrev pub extractor_of : CodeExtractor → Extractor
extractor_of e = record { parameters = map (λ p. p.now) e.parameters.items; template = e.template.now }

-- the second of two parts
abbrev pub second_of_two : List Part → Option Part
second_of_two [] = None
second_of_two (p ∷ []) = None
second_of_two (p ∷ q ∷ []) = Some q
second_of_two (p ∷ q ∷ r ∷ rs) = None

abbrev pub with_template : List ℕ → (parameters : List Part) → (template : Option Part) → Option Extractor
with_template text parameters None = None
with_template text parameters (Some template) = Some (record { parameters = texts_of text parameters; template = written text template })

-- an extractor with these parameters, in a definition of which these are the parts behind its keyword: the list of its name, and its template
abbrev pub extractor_with : List ℕ → (parameters definition : Option ListItems) → Option Extractor
extractor_with text None definition = None
extractor_with text (Some parameters) None = None
extractor_with text (Some parameters) (Some definition) = with_template text parameters.parts (second_of_two definition.parts)

-- the extractor that is defined with these tokens: `(`, `extractor`, `(`, its name, and so on
abbrev pub extractor_at : List ℕ → List Lexeme → Option Extractor
extractor_at text tokens = extractor_with text (items text (drop 4 tokens)) (items text (drop 2 tokens))

-- whether these tokens begin with a `(` and this symbol
abbrev pub is_headed : List ℕ → List Lexeme → Bool
is_headed name [] = false
is_headed name (x ∷ []) = false
is_headed name (x ∷ y ∷ ys) = is_opening x.token && is_word name y.token

-- whether they begin the definition of an extractor with this name
abbrev pub begins_extractor : List ℕ → List Lexeme → Bool
begins_extractor name tokens = is_headed (codes "extractor") tokens && is_headed name (drop 2 tokens)

abbrev pub extractors_here : List ℕ → (name : List ℕ) → (depth : ℕ) → List Lexeme → List (Option Extractor)
extractors_here text name depth tokens = if depth == 0 && begins_extractor name tokens then extractor_at text tokens ∷ [] else []

-- the extractors with this name, by the tokens from here on, where so many lists are open before them; none in place of one that is not whole
abbrev pub extractors_from : List ℕ → (name : List ℕ) → (depth : ℕ) → List Lexeme → List (Option Extractor)
extractors_from text name depth [] = []
extractors_from text name depth (x ∷ xs) =
    let here : ℕ = depth_at text x.offset depth in
    extractors_here text name here (x ∷ xs) ++ extractors_from text name (depth_after here x.token) xs

-- These are the extractors with this name in a text, and in all texts of a program.
abbrev pub AreExtractorsIn : List ℕ → (name : List ℕ) → List (Option Extractor) → Type 0
AreExtractorsIn text name found = (tokens : List Lexeme) × AreTokens text tokens × (found ≡ extractors_from text name 0 tokens)

abbrev pub AreExtractors : (texts : List (List ℕ)) → (name : List ℕ) → List (Option Extractor) → Type 0
AreExtractors [] name found = found ≡ []
AreExtractors (t ∷ ts) name found =
    (here : List (Option Extractor)) × (rest : List (Option Extractor)) × AreExtractorsIn t name here × AreExtractors ts name rest × (found ≡ here ++ rest)
