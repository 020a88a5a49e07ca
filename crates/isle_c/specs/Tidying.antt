-- Whether a text is tidy, and why it can't be tidied.
use Rattle.std.specs.Prelude.{ℕ, List, Bool, true, false, length}
use Rattle.isle_base_source.specs.declared.error.Error.{Error}
use Rattle.isle_tidy_core.specs.Refused.{HasNoDocument, IsRefusedFor, IsWithin}
use Rattle.isle_tidy_core.specs.Tidied.{IsTidyTextOf, IsUntidy}

abbrev pub IsWhetherTidy : List ℕ → Bool → Type 0
IsWhetherTidy text true = IsTidyTextOf text text
IsWhetherTidy text false = IsUntidy text

-- the text has no document, which this error says, at one of its bytes or at its end
abbrev pub RefusesToTidy : List ℕ → Error → Type 0
RefusesToTidy text e = HasNoDocument text × IsRefusedFor text e × IsWithin (length text) e
