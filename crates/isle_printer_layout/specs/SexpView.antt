-- The S-expressions of code, as pure values.
use Rattle.std.specs.Prelude.{List, map, string_bytes}
use Rattle.isle_printer_layout.specs.declared.sexpr.SExpr.{SExpr}
use Rattle.isle_printer_layout.specs.declared.sexpr.SExpr.TheOpen.{SExpr-F}
use Rattle.isle_printer_layout.specs.declared.sexpr.SExpr.TheFolds.{fold-SExpr}
use Rattle.isle_printer_layout.specs.Sexp.{Sexp, atom, binding, list_of}

-- one node, with its parts as pure values
abbrev pub sexp_step : SExpr-F Sexp → Sexp
sexp_step (SExpr-F.Atom text) = atom (string_bytes text)
sexp_step (SExpr-F.Binding name s) = binding (string_bytes name) s.value
sexp_step (SExpr-F.List items) = list_of items.items

abbrev pub sexp_of : SExpr → Sexp
sexp_of = fold-SExpr Sexp sexp_step

abbrev pub sexps_of : List SExpr → List Sexp
sexps_of ss = map sexp_of ss
