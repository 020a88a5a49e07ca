-- The places of an error, and when they can be displayed.
use Rattle.std.specs.Prelude.{◌-◌, ◌^◌, Bool, ◌&&◌, nat_lt, List, [], ◌∷◌, length}
use Rattle.std.specs.List.{list_all}
use Rattle.isle_base_source.specs.declared.error.Error.{Error}
use Rattle.isle_base_source.specs.declared.error.Error.TheVariants.{ParseError, TypeError, UnreachableError, OverlapError, RecursionError, ShadowedError}
use Rattle.isle_base_source.specs.declared.error.Span.{Span}
use Rattle.isle_base_source.specs.Source.{Source}

-- the places of an error, in the order of display
abbrev pub labels : Error → List Span
labels (ParseError msg span) = span ∷ []
labels (TypeError msg span) = span ∷ []
labels (UnreachableError msg span) = span ∷ []
labels (OverlapError msg rules) = rules.items
labels (RecursionError msg span) = span ∷ []
labels (ShadowedError shadowed mask) = mask ∷ shadowed.items

-- a place can be displayed: its file is known, and its offset is not the greatest number
abbrev pub span_fits : List Source → Span → Bool
span_fits files span = nat_lt span.from.file (length files) && nat_lt span.from.offset (2 ^ 64 - 1)

-- an error can be displayed: it has at least one place, and each can be displayed
abbrev pub error_fits : List Source → Error → Bool
error_fits files e = nat_lt 0 (length (labels e)) && list_all (span_fits files) (labels e)

abbrev pub all_fit : List Source → List Error → Bool
all_fit files errors = list_all (error_fits files) errors
