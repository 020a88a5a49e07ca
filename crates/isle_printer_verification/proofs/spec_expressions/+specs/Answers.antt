use Rattle.std.proofs.Common.{◌≡◌, [], ◌∷◌, codes, ap, ◌∙◌, rules}
use Rattle.isle_ast_verification.proofs.SpecLets.{let_seen}
use Rattle.isle_ast_verification.specs.TreeView.{single_spec_lets_of, spec_let_list_of, spec_of}
use Rattle.isle_printer_layout.specs.Sexp.{list_of}
use Rattle.isle_printer_layout.specs.NameShapes.{form_shape}
use Rattle.isle_printer_verification.specs.SpecShapes.{spec_let_shapes, spec_shape}
use Rattle.isle_printer_verification.proofs.spec_expressions.+specs.Goals as goal

pub spec-returns-in_ok-atom-in-Let : goal.spec-returns-in_ok-atom-in-Let
spec-returns-in_ok-atom-in-Let t c =
    let shape : spec_shape (spec_of c.args.node.now) ≡ form_shape (codes "let") (list_of (spec_let_shapes (spec_let_list_of (single_spec_lets_of c.in-Let.defs.items))) ∷ spec_shape (spec_of c.in-Let.body.value) ∷ []) =
    ap spec_shape (ap spec_of c.in-Let.is ∙ let_seen c.in-Let.defs c.in-Let.body c.in-Let.pos) in
    search (rules, shape)
