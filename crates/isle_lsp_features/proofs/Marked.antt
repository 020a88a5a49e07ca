-- What is found text by text, also in texts in which a name does not occur.
use Rattle.std.proofs.Common.{◌≡◌, ◌∙◌, ◌+◌, ◌++◌, ℕ, List, [], ◌∷◌, true, false, ap, filter, flat_map, refl, subst, sym}
use Rattle.std.proofs.lemmas.Bool.{or_parts}
use Rattle.std.proofs.lemmas.List.{append_assoc}
use Rattle.std.specs.List.{list_any}
use Rattle.serde_json.specs.Data.{Data}
use Rattle.isle_index.specs.declared.occurrences.Occurrence.{Occurrence}
use Rattle.isle_lsp_calls.proofs.Unread.{marks_are, marks_in}
use Rattle.isle_lsp_calls.specs.Ranges.{is_in}
use Rattle.isle_lsp_features.specs.Implemented.{AreImplementationsFrom, AreImplementationsIn, is_implementation}
use Rattle.isle_lsp_features.specs.Located.{location_in}
use Rattle.isle_lsp_features.specs.Programs.{Text}

pub none_marked : (number : ℕ) (marks : List ℕ) (found : List Occurrence) → list_any (is_in number) found ≡ false → filter (is_implementation number marks) found ≡ []
none_marked number marks [] h = refl
none_marked number marks (o ∷ os) h =
    let both = or_parts (is_in number o) (list_any (is_in number) os) h in
    rw both.0 (none_marked number marks os both.1)

-- nothing, in a text that is not read
pub none_here : (number : ℕ) (s : Text) (found : List Occurrence) → list_any (is_in number) found ≡ false → AreImplementationsIn number s found []
none_here number s found h =
    (marks_in s.text, marks_are s.text, sym (ap (λ os. flat_map (location_in number s true) os) (none_marked number (marks_in s.text) found h)))

-- what is found up to a text, and in it
pub next_implementations : (left next all : List Text) (s : Text) (number : ℕ) (found : List Occurrence) (old new here : List Data)
    → left ≡ s ∷ next → AreImplementationsIn number s found here → new ≡ old ++ here
    → ((rest : List Data) → AreImplementationsFrom number left found rest → AreImplementationsFrom 0 all found (old ++ rest))
    → (rest : List Data) → AreImplementationsFrom (number + 1) next found rest → AreImplementationsFrom 0 all found (new ++ rest)
next_implementations left next all s number found old new here e is grown so_far rest others =
    let first : AreImplementationsFrom number (s ∷ next) found (here ++ rest) = (here, rest, is, others, refl) in
    let more = so_far (here ++ rest) (subst (λ ss. AreImplementationsFrom number ss found (here ++ rest)) (sym e) first) in
    subst (AreImplementationsFrom 0 all found) (sym (ap (λ ds. ds ++ rest) grown ∙ append_assoc old here rest)) more
