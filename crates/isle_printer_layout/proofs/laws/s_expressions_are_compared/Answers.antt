use Rattle.isle_printer_layout.specs.SameSexp.{sexp-Decides}
use Rattle.isle_printer_layout.specs.SexpView.{sexp_of}
use Rattle.isle_printer_layout.proofs.laws.s_expressions_are_compared.Goals as goal

pub returns : goal.returns
returns c = λ a b. sexp-Decides (sexp_of a) (sexp_of b)
