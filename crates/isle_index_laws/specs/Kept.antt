-- Names that change, and stay as writable as they were.
use Rattle.std.specs.Prelude.{◌≡◌, ℕ, List, ◌∷◌, true, false, ◌⊎◌}
use Rattle.std.specs.List.{AllByRecursion}
use Rattle.isle_base.specs.Bytes.{dollar}
use Rattle.isle_base.specs.Skips.{begins_with}
use Rattle.isle_ast_names.specs.Identifier.{is_identifier}
use Rattle.isle_ast_names.specs.Tree.{Name}
use Rattle.isle_ast_names.specs.Words.{is_dollar}
use Rattle.isle_resolve.specs.Event.{EventNode, defines, uses, defines_variant, occurs, binds, reads, closes, ends}
use Rattle.isle_index.specs.Renaming.{is_reserved}

-- The new text can stand wherever the old one can. It is an identifier if the old one is, and so it
-- is with a `$` before both. It is no reserved word, and begins with a `$` only if the old one does,
-- unless it is the old one.
pub record CanReplace (old new : List ℕ) : Type 0 where
  pub name : is_identifier old ≡ true → is_identifier new ≡ true
  pub constant : is_identifier (dollar ∷ old) ≡ true → is_identifier (dollar ∷ new) ≡ true
  pub plain : (new ≡ old) ⊎ (is_reserved new ≡ false) × (begins_with is_dollar new ≡ true → begins_with is_dollar old ≡ true)

abbrev pub IsKeptName : (Name → Name) → Name → Type 0
IsKeptName f name = CanReplace name.text (f name).text

-- f gives each name of an event a text that can replace its own
abbrev pub IsKept : (Name → Name) → EventNode → Type 0
IsKept f (defines _ name) = IsKeptName f name
IsKept f (uses _ name) = IsKeptName f name
IsKept f (defines_variant owner member) = IsKeptName f owner × IsKeptName f member
IsKept f (occurs _ name) = IsKeptName f name
IsKept f (binds name) = IsKeptName f name
IsKept f (reads name) = IsKeptName f name
IsKept f closes = Unit {0}
IsKept f ends = Unit {0}

abbrev pub AreKept : (Name → Name) → List EventNode → Type 0
AreKept f es = AllByRecursion (IsKept f) es
