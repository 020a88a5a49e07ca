-- After a word that begins no definition, none is read.
use Rattle.std.proofs.Common.{◌≡◌, ℕ, false, List, None, refl}
use Rattle.std.specs.Prelude.{codes}
use Rattle.std.specs.Str.{bytes_eq}
use Rattle.isle_base.specs.Place.{Placed}
use Rattle.isle_parser.specs.DefinitionReaders.{behind_keyword}
use Rattle.isle_parser_cursor.specs.Reading.{closed}
use Rattle.isle_parser_cursor.proofs.SameBytes.{other_bytes}

no_keyword : (word : List ℕ) (all : List Placed) → bytes_eq word (codes "type") ≡ false → bytes_eq word (codes "decl") ≡ false → bytes_eq word (codes "attr") ≡ false
    → bytes_eq word (codes "spec") ≡ false → bytes_eq word (codes "macro") ≡ false → bytes_eq word (codes "model") ≡ false → bytes_eq word (codes "state") ≡ false
    → bytes_eq word (codes "form") ≡ false → bytes_eq word (codes "instantiate") ≡ false → bytes_eq word (codes "rule") ≡ false → bytes_eq word (codes "extractor") ≡ false
    → bytes_eq word (codes "extern") ≡ false → bytes_eq word (codes "convert") ≡ false → behind_keyword word all ≡ None
unfolding behind_keyword
no_keyword word all a b c l m d n f g j k h i = rw (a, b, c, l, m, d, n, f, g, j, k, h, i) refl

closed_none : (word : List ℕ) (all : List Placed) → behind_keyword word all ≡ None → closed (behind_keyword word) all ≡ None
unfolding closed
closed_none word all none = rw none refl

-- a word that is none of the keywords
pub keyword_refused : (word : List ℕ) (all : List Placed) → (word ≡ codes "type" → ⊥) → (word ≡ codes "decl" → ⊥) → (word ≡ codes "attr" → ⊥) → (word ≡ codes "spec" → ⊥) → (word ≡ codes "macro" → ⊥)
    → (word ≡ codes "model" → ⊥) → (word ≡ codes "state" → ⊥) → (word ≡ codes "form" → ⊥) → (word ≡ codes "instantiate" → ⊥) → (word ≡ codes "rule" → ⊥) → (word ≡ codes "extractor" → ⊥)
    → (word ≡ codes "extern" → ⊥) → (word ≡ codes "convert" → ⊥) → closed (behind_keyword word) all ≡ None
keyword_refused word all a b c l m d n f g j k h i = closed_none word all (no_keyword word all (other_bytes word (codes "type") a) (other_bytes word (codes "decl") b)
    (other_bytes word (codes "attr") c) (other_bytes word (codes "spec") l) (other_bytes word (codes "macro") m) (other_bytes word (codes "model") d) (other_bytes word (codes "state") n)
    (other_bytes word (codes "form") f) (other_bytes word (codes "instantiate") g) (other_bytes word (codes "rule") j) (other_bytes word (codes "extractor") k) (other_bytes word (codes "extern") h)
    (other_bytes word (codes "convert") i))
