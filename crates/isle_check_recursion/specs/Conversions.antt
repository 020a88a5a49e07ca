-- Conversions that do not come to an end.
use Rattle.std.specs.Prelude.{ℕ, ◌+◌, List, [], ◌∷◌, ◌++◌, ◌&&◌, Option, None, Some, if◌then◌else◌, map, option_to_list}
use Rattle.std.specs.Str.{bytes_eq}
use Rattle.isle_ast.specs.Tree.{Conversion, Definition}
use Rattle.isle_check_recursion.specs.Walks.{ends_from}
use Rattle.isle_check_environment.specs.Parts.{converters_in}
use Rattle.isle_check_environment.specs.signatures.Signatures.{TermNode}

-- the number of the first converter of these types, of which the first one has this number
abbrev pub number_from : ℕ → List Conversion → (inner outer : List ℕ) → Option ℕ
number_from n [] inner outer = None
number_from n (c ∷ cs) inner outer =
    if bytes_eq c.inner_ty.text inner && bytes_eq c.outer_ty.text outer then Some n else number_from (n + 1) cs inner outer

-- one type becomes another one by the converter of the two, if there is one. `numbers` says its number, by the inner and the outer type
abbrev pub needed : (numbers : List ℕ → List ℕ → Option ℕ) → (inner outer : List ℕ) → List ℕ
needed numbers inner outer = if bytes_eq inner outer then [] else option_to_list (numbers inner outer)

-- the value becomes the first argument of the converter's term
abbrev pub needed_before : (numbers : List ℕ → List ℕ → Option ℕ) → (inner : List ℕ) → (args : List (List ℕ)) → List ℕ
needed_before numbers inner [] = []
needed_before numbers inner (arg ∷ args) = needed numbers inner arg

-- and what the term gives becomes the outer type
abbrev pub needs_by : (numbers : List ℕ → List ℕ → Option ℕ) → Conversion → Option TermNode → List ℕ
needs_by numbers c None = []
needs_by numbers c (Some t) = needed_before numbers c.inner_ty.text t.args ++ needed numbers t.ret c.outer_ty.text

-- for each converter, those that its conversion needs
abbrev pub needs_of : (numbers : List ℕ → List ℕ → Option ℕ) → (terms : List ℕ → Option TermNode) → List Conversion → List (List ℕ)
needs_of numbers terms cs = map (λ c. needs_by numbers c (terms c.term.text)) cs

abbrev pub needs : (terms : List ℕ → Option TermNode) → List Conversion → List (List ℕ)
needs terms cs = needs_of (number_from 0 cs) terms cs

-- a converter, if its conversion does not come to an end
abbrev pub if_endless : (needs : List (List ℕ)) → (number : ℕ) → Conversion → List Conversion
if_endless needs number c = if ends_from needs number then [] else c ∷ []

-- those from this number on whose conversion does not come to an end
abbrev pub endless_from : (needs : List (List ℕ)) → ℕ → List Conversion → List Conversion
endless_from needs n [] = []
endless_from needs n (c ∷ cs) = if_endless needs n c ++ endless_from needs (n + 1) cs

abbrev pub endless_among : (terms : List ℕ → Option TermNode) → List Conversion → List Conversion
endless_among terms cs = endless_from (needs terms cs) 0 cs

-- those of a program. Templates of extractors are not looked into
abbrev pub endless_conversions : (terms : List ℕ → Option TermNode) → List Definition → List Conversion
endless_conversions terms ds = endless_among terms (converters_in ds)
