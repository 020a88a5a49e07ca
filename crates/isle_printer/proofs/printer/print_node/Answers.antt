use Rattle.std.proofs.Common.{◌≡◌, IfSome, string_bytes, sym, subst, rules}
use Rattle.isle_printer_layout.specs.Choices.{IsLayout}
use Rattle.isle_printer_layout.specs.Layout.{layout}
use Rattle.isle_printer_layout.specs.Lines.{HasFewestLines}
use Rattle.isle_printer_layout.specs.SexpView.{sexp_of}
use Rattle.isle_printer_layout.proofs.Least.{IsLayout-from_layout, HasFewestLines-from_layout}
use Rattle.isle_printer.proofs.printer.print_node.Goals as goal

pub returns-clause-layout : goal.returns-clause-layout
returns-clause-layout g c =
    let is : string_bytes c.put.new.out ≡ layout c.args.width (sexp_of c.in_ok-sexpr.sexpr) = search rules in
    subst (λ meaning. IfSome meaning (λ s. IsLayout c.args.width s (string_bytes c.put.new.out)))
    (sym c.in_ok-sexpr.ensures.meant)
    (IsLayout-from_layout c.args.width (sexp_of c.in_ok-sexpr.sexpr) _ is)

pub returns-clause-lines : goal.returns-clause-lines
returns-clause-lines g c =
    let is : string_bytes c.put.new.out ≡ layout c.args.width (sexp_of c.in_ok-sexpr.sexpr) = search rules in
    subst (λ meaning. IfSome meaning (λ s. HasFewestLines c.args.width s (string_bytes c.put.new.out)))
    (sym c.in_ok-sexpr.ensures.meant)
    (HasFewestLines-from_layout c.args.width (sexp_of c.in_ok-sexpr.sexpr) _ is)
