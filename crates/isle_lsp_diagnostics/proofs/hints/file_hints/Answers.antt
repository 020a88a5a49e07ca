use Rattle.std.proofs.Common.{◌≡◌, ap, false, subst, sym, ◌∙◌}
use Rattle.isle_ast.specs.MacroArgs.{definitions_have_macro_arg}
use Rattle.isle_ast.specs.TreeView.{definitions_of}
use Rattle.isle_lsp_features.specs.Places.{file_of}
use Rattle.isle_lsp_diagnostics.specs.Hints.{hints_data, hints_in}
use Rattle.isle_lsp_diagnostics.proofs.hints.file_hints.Goals as goal

pub items_in-items-requires : goal.items_in-items-requires
items_in-items-requires c =
    subst (λ defs. definitions_have_macro_arg (definitions_of defs) ≡ false) (sym c.deref.ensures.value) c.in_ok-reading.ensures.plain

pub returns-clause-ok : goal.returns-clause-ok
returns-clause-ok c = (
  definitions_of c.in_ok-reading.reading.defs.items,
  c.in_ok-reading.ensures.ok,
  c.in_ok-items.ensures ∙ ap (λ defs. hints_data c.args.file.encoding c.args.file.text.now c.args.range (hints_in (file_of c.args.file) (definitions_of defs))) c.deref.ensures.value,
)
