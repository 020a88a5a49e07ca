-- The locations where names are implemented, as JSON.
use Rattle.std.specs.Prelude.{◌≡◌, ℕ, ◌+◌, List, [], ◌∷◌, ◌++◌, Bool, ◌&&◌, ◌==◌, true, false, Option, None, Some}
use Rattle.std.specs.List.{filter, flat_map, list_any}
use Rattle.serde_json.specs.Data.{Data, null, array}
use Rattle.serde_json.specs.View.{items_of}
use Rattle.isle_index.specs.Occurrences.{occurrences}
use Rattle.isle_index.specs.declared.occurrences.Occurrence.{Occurrence}
use Rattle.isle_lsp_calls.specs.Items.{InOrder, is_term}
use Rattle.isle_lsp_calls.specs.Ranges.{is_in}
use Rattle.isle_lsp_features.specs.Located.{location_in}
use Rattle.isle_lsp_features.specs.Programs.{Text}
use Rattle.isle_lsp_text.specs.Implementations.{AreImplemented}
use Rattle.isle_resolve.specs.Names.{NameNode}
use Rattle.isle_resolve.specs.Scopes.{SeenNode}

abbrev pub is_marked : ℕ → List ℕ → Bool
is_marked offset ms = list_any (λ m. m == offset) ms

-- an occurrence is in the text with this number, and at one of its marks
abbrev pub is_implementation : ℕ → (marks : List ℕ) → Occurrence → Bool
is_implementation number marks o = is_in number o && is_marked o.pos.offset marks

-- the locations of the occurrences at which the text with this number implements a name
abbrev pub AreImplementationsIn : ℕ → Text → List Occurrence → List Data → Type 0
AreImplementationsIn number s found ds =
    (marks : List ℕ) × AreImplemented s.text marks × (ds ≡ flat_map (location_in number s true) (filter (is_implementation number marks) found))

-- the same of all texts, which are numbered from this number on
abbrev pub AreImplementationsFrom : ℕ → List Text → List Occurrence → List Data → Type 0
AreImplementationsFrom number [] found ds = ds ≡ []
AreImplementationsFrom number (s ∷ ss) found ds =
    (here : List Data) × (rest : List Data) × AreImplementationsIn number s found here × AreImplementationsFrom (number + 1) ss found rest × (ds ≡ here ++ rest)

-- the occurrences of a name at which the texts implement it; none if it is no term
abbrev pub AreImplementationsOf : (is_term : Bool) → List Text → NameNode → List SeenNode → List Data → Type 0
AreImplementationsOf true program name all ds =
    (found : List Occurrence) × InOrder (occurrences name all) found × AreImplementationsFrom 0 program found ds
AreImplementationsOf false program name all ds = ds ≡ []

-- the same as JSON; null if there is no name
abbrev pub AreImplementations : List Text → Option NameNode → List SeenNode → Data → Type 0
AreImplementations program None all d = d ≡ null
AreImplementations program (Some name) all d = (ds : List Data) × AreImplementationsOf (is_term name) program name all ds × (d ≡ array (items_of ds))
