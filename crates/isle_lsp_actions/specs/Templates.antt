-- What a use of an extractor stands for: its template, with the arguments in place of the parameters.
use Rattle.std.specs.Prelude.{◌≡◌, ℕ, ◌-◌, List, [], ◌∷◌, ◌++◌, Bool, true, false, not, ◌||◌, ◌==◌, Option, None, Some, bytes_eq, codes, length, nat_lt, if◌then◌else◌}
use Rattle.isle_base.specs.Bytes.{dollar, space}
use Rattle.isle_base.specs.Skips.{begins_with}
use Rattle.isle_base.specs.Token.{Tok, lparen, rparen, symbol, integer, at_sign, Lexeme}
use Rattle.isle_lsp_actions.specs.Extractors.{Extractor}
use Rattle.isle_lsp_actions.specs.Tokens.{AreTokens, begins_with_at, begins_with_at_any, is_opening, spelled}

-- ---- places of parameters

abbrev pub is_dollar : ℕ → Bool
is_dollar b = b == dollar

-- a symbol that is no variable in a pattern: `_`, `true`, `false` or a constant
abbrev pub is_fixed : List ℕ → Bool
is_fixed name = bytes_eq name (codes "_") || bytes_eq name (codes "true") || bytes_eq name (codes "false") || begins_with is_dollar name

-- the argument for the first parameter with this name
abbrev pub argument_for : List ℕ → (parameters arguments : List (List ℕ)) → Option (List ℕ)
argument_for name [] given = None
argument_for name (p ∷ ps) [] = None
argument_for name (p ∷ ps) (a ∷ given) = if bytes_eq p name then Some a else argument_for name ps given

abbrev pub argument_of : Tok → (parameters arguments : List (List ℕ)) → Option (List ℕ)
argument_of lparen ps given = None
argument_of rparen ps given = None
argument_of (symbol name) ps given = if is_fixed name then None else argument_for name ps given
argument_of (integer _) ps given = None
argument_of at_sign ps given = None

-- whether a variable before these tokens is a place of its own: alone, or before `@ _`
abbrev pub ends_place : List Lexeme → Bool
ends_place rest = not (begins_with_at rest) || begins_with_at_any rest

-- The argument in place of a token of a template, which stands directly behind a `(` or not, and before these tokens: none if the token is no
-- parameter, the name of a term, or the name in `x @ P`.
abbrev pub argument_at : (is_head : Bool) → Lexeme → List Lexeme → (parameters arguments : List (List ℕ)) → Option (List ℕ)
argument_at is_head x rest ps given = if is_head || not (ends_place rest) then None else argument_of x.token ps given

-- ---- the new tokens

-- the number of tokens behind a parameter that its argument replaces, too: those of `@ _`
abbrev pub replaced_behind : (argument : Option (List ℕ)) → List Lexeme → ℕ
replaced_behind None rest = 0
replaced_behind (Some argument) rest = if begins_with_at rest then 2 else 0

abbrev pub argument_or : (argument : Option (List ℕ)) → List ℕ → List ℕ
argument_or None own = own
argument_or (Some argument) own = argument

-- The tokens of a template as they are written, with arguments in place of parameters. So many tokens are replaced already, and the first of these
-- stands directly behind a `(` or not.
abbrev pub pieces_from : (template : List ℕ) → (parameters arguments : List (List ℕ)) → (replaced : ℕ) → (is_head : Bool) → List Lexeme → List (List ℕ)
pieces_from template ps given replaced is_head [] = []
pieces_from template ps given replaced is_head (x ∷ xs) =
    if nat_lt 0 replaced then pieces_from template ps given (replaced - 1) false xs
    else (let argument : Option (List ℕ) = argument_at is_head x xs ps given in
    argument_or argument (spelled template x) ∷ pieces_from template ps given (replaced_behind argument xs) (is_opening x.token) xs)

-- ---- the new text

-- a blank before a piece, but none at the start, behind `(` or before `)`
abbrev pub gap : (is_first : Bool) → List ℕ → List ℕ
gap is_first piece = if is_first || bytes_eq piece (codes ")") then [] else space ∷ []

-- pieces as a text, of which the first may stand at the start or behind `(`
abbrev pub joined : (is_first : Bool) → List (List ℕ) → List ℕ
joined is_first [] = []
joined is_first (p ∷ ps) = gap is_first p ++ (p ++ joined (bytes_eq p (codes "(")) ps)

-- a template with these tokens, after the substitution
abbrev pub substituted : Extractor → (arguments : List (List ℕ)) → (tokens : List Lexeme) → List ℕ
substituted e arguments tokens = joined true (pieces_from e.template e.parameters arguments 0 false tokens)

-- This is what a use of an extractor with these arguments stands for; nothing, if they are not as many as the parameters.
abbrev pub IsSubstitutedIf : (fit : Bool) → Extractor → (arguments : List (List ℕ)) → Option (List ℕ) → Type 0
IsSubstitutedIf false e arguments new = new ≡ None
IsSubstitutedIf true e arguments new = (tokens : List Lexeme) × AreTokens e.template tokens × (new ≡ Some (substituted e arguments tokens))

abbrev pub IsSubstituted : Extractor → (arguments : List (List ℕ)) → Option (List ℕ) → Type 0
IsSubstituted e arguments new = IsSubstitutedIf (length e.parameters == length arguments) e arguments new
