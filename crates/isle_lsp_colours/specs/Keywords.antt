-- The words of the language: those that definitions and their parts begin with, and the flags of definitions.
use Rattle.std.specs.Prelude.{ℕ, List, [], ◌∷◌, Bool, codes}
use Rattle.std.specs.List.{list_any}
use Rattle.std.specs.Str.{bytes_eq}

abbrev pub keywords : List (List ℕ)
keywords =
    codes "pragma" ∷ codes "type" ∷ codes "primitive" ∷ codes "enum" ∷ codes "struct" ∷ codes "nodebug" ∷ codes "decl" ∷ codes "pure" ∷
    codes "multi" ∷ codes "partial" ∷ codes "rec" ∷ codes "rule" ∷ codes "if-let" ∷ codes "if" ∷ codes "let" ∷ codes "and" ∷
    codes "extern" ∷ codes "extractor" ∷ codes "infallible" ∷ codes "constructor" ∷ codes "const" ∷ codes "convert" ∷ codes "attr" ∷
    codes "veri" ∷ codes "chain" ∷ codes "priority" ∷ codes "tag" ∷ codes "spec" ∷ codes "provide" ∷ codes "require" ∷ codes "match" ∷
    codes "modifies" ∷ codes "switch" ∷ codes "with" ∷ codes "as" ∷ codes "macro" ∷ codes "model" ∷ codes "form" ∷ codes "args" ∷
    codes "ret" ∷ codes "state" ∷ codes "instantiate" ∷ []

abbrev pub is_keyword : List ℕ → Bool
is_keyword symbol = list_any (bytes_eq symbol) keywords
