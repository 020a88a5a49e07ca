-- Texts with which no name of events begins.
use Rattle.std.specs.Prelude.{◌≢◌, ℕ, List, ◌++◌}
use Rattle.std.specs.List.{AllByRecursion}
use Rattle.isle_resolve.specs.Event.{EventNode, defines, uses, defines_variant, occurs, binds, reads, closes, ends}
use Rattle.isle_resolve.specs.Names.{joined}

-- the first text is not at the front of the second one
abbrev pub BeginsNot : List ℕ → List ℕ → Type 0
BeginsNot front text = (rest : List ℕ) → text ≢ front ++ rest

-- the text is not at the front of the name of an event. A variant has its name as a term
abbrev pub IsNotIn : List ℕ → EventNode → Type 0
IsNotIn text (defines _ name) = BeginsNot text name.text
IsNotIn text (uses _ name) = BeginsNot text name.text
IsNotIn text (defines_variant owner member) = BeginsNot text (joined owner.text member.text)
IsNotIn text (occurs _ name) = BeginsNot text name.text
IsNotIn text (binds name) = BeginsNot text name.text
IsNotIn text (reads name) = BeginsNot text name.text
IsNotIn text closes = Unit {0}
IsNotIn text ends = Unit {0}

-- no name of these events begins with the text
abbrev pub IsFresh : List ℕ → List EventNode → Type 0
IsFresh text es = AllByRecursion (IsNotIn text) es
