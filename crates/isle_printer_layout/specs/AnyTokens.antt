-- The tokens of an S-expression whose atoms, and names of bindings, are the texts of any tokens:
-- `all` begins with them, and `rest` follows.
use Rattle.std.specs.Prelude.{◌≡◌, List, ◌∷◌}
use Rattle.isle_base.specs.Token.{Tok, lparen, rparen, at_sign}
use Rattle.isle_printer_layout.specs.ReadBack.{ReadsAs}
use Rattle.isle_printer_layout.specs.Sexp.{Sexp, Sexps, atom, binding, list, none, more}

abbrev mutual
  pub AnyTokensOf : Sexp → List Tok → List Tok → Type 0
  AnyTokensOf (atom text) all rest = (token : Tok) × ReadsAs text token × (all ≡ token ∷ rest)
  AnyTokensOf (binding name s) all rest =
      (token : Tok) × (mid : List Tok) × ReadsAs name token
      × (all ≡ token ∷ at_sign ∷ mid) × AnyTokensOf s mid rest
  AnyTokensOf (list items) all rest =
      (mid : List Tok) × (all ≡ lparen ∷ mid) × AnyTokensOfItems items mid (rparen ∷ rest)

  pub AnyTokensOfItems : Sexps → List Tok → List Tok → Type 0
  AnyTokensOfItems none all rest = all ≡ rest
  AnyTokensOfItems (more s ss) all rest =
      (mid : List Tok) × AnyTokensOf s all mid × AnyTokensOfItems ss mid rest
