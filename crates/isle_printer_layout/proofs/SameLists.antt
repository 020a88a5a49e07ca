-- The comparison of the items of S-expressions.
use Rattle.std.proofs.Common.{List, Bool, refl}
use Rattle.isle_printer_layout.specs.declared.sexpr.SExpr.{SExpr}
use Rattle.isle_printer_layout.specs.Sexp.{sexps}
use Rattle.isle_printer_layout.specs.SexpView.{sexp_of, sexps_of}
use Rattle.isle_printer_layout.specs.SameSexp.{same_sexp, same_sexps}
use Rattle.isle_ast_names.proofs.ListComparison.{AreLists}

abbrev pub item_lists : List SExpr → List SExpr → Bool
item_lists ss ts = same_sexps (sexps (sexps_of ss)) (sexps (sexps_of ts))

pub items_are_lists : AreLists item_lists (λ s t. same_sexp (sexp_of s) (sexp_of t))
items_are_lists = record {
  ended = refl;
  first = λ s t ss ts. refl;
  shorter = λ t ts. refl;
  longer = λ s ss. refl;
}
