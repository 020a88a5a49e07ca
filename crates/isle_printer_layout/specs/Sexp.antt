-- S-expressions as pure values: an atom is its bytes, a binding is `name @ s`, and a list is
-- a parenthesised list.
use Rattle.std.specs.Prelude.{ℕ, List, [], ◌∷◌, Bool, true, false, Option, None, Some}

mutual
  pub data Sexp : Type 0 where
    atom : List ℕ → Sexp
    binding : List ℕ → Sexp → Sexp
    list : Sexps → Sexp

  -- the items of a list
  pub data Sexps : Type 0 where
    none : Sexps
    more : Sexp → Sexps → Sexps

-- the items of a list, from a list
abbrev pub sexps : List Sexp → Sexps
sexps [] = none
sexps (s ∷ ss) = more s (sexps ss)

-- the list of a list of items
abbrev pub list_of : List Sexp → Sexp
list_of ss = list (sexps ss)

-- an S-expression, or none if the test is true
abbrev pub unless : Bool → Sexp → Option Sexp
unless true s = None
unless false s = Some s
