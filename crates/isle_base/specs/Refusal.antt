-- Where in a file a parse error stands.
use Rattle.std.specs.Prelude.{ℕ, ◌≤◌}
use Rattle.isle_base_source.specs.declared.error.Error.{Error}
use Rattle.isle_base.specs.Place.{in_file}
use Rattle.isle_base.specs.Steps.{RefusesAt}

-- a parse error whose span is one byte of the file, or the one after the text's end
abbrev pub RefusesIn : ℕ → ℕ → Error → Type 0
RefusesIn file size e = (offset : ℕ) × (offset ≤ size) × RefusesAt (in_file file offset) e
