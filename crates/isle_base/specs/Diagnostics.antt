-- What is shown of the errors of a text.
use Rattle.std.specs.Prelude.{◌≡◌, ℕ, List, [], ◌∷◌, length}
use Rattle.isle_base_source.specs.declared.error.Error.{Error}
use Rattle.isle_base_source.specs.Diagnostic.{report_text}
use Rattle.isle_base_source.specs.Source.{Source}
use Rattle.isle_base.specs.Refusal.{RefusesIn}

-- the one file, with this name and this text
abbrev pub only_file : List ℕ → List ℕ → List Source
only_file name text = record { name = name; text = text } ∷ []

-- what an error of the text of a file shows, under the name of the file
abbrev pub refusal_text : List ℕ → List ℕ → Error → List ℕ
refusal_text name text e = report_text (record { errors = e ∷ []; files = only_file name text })

-- this shows a refusal of the text, at one of its bytes or at its end
abbrev pub IsRefusal : List ℕ → List ℕ → List ℕ → Type 0
IsRefusal name text shown = (e : Error) × RefusesIn 0 (length text) e × (shown ≡ refusal_text name text e)
