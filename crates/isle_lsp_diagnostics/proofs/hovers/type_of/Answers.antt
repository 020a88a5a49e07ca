use Rattle.std.proofs.Common.{◌≡◌, ap, false, subst, sym, ◌∙◌}
use Rattle.isle_ast.specs.MacroArgs.{definitions_have_macro_arg}
use Rattle.isle_ast.specs.TreeView.{definitions_of}
use Rattle.isle_lsp_features.specs.Places.{file_of}
use Rattle.isle_lsp_diagnostics.specs.Hovers.{type_in}
use Rattle.isle_lsp_diagnostics.proofs.hovers.type_of.Goals as goal

pub type_in-ty-requires : goal.type_in-ty-requires
type_in-ty-requires c =
    subst (λ defs. definitions_have_macro_arg (definitions_of defs) ≡ false) (sym c.deref.ensures.value) c.in_ok-reading.ensures.plain

pub returns-clause-ok : goal.returns-clause-ok
returns-clause-ok c =
    let f = file_of c.args.file in (
      definitions_of c.in_ok-reading.reading.defs.items,
      c.in_ok-reading.ensures.ok,
      c.in_ok-ty.ensures
          ∙ ap (λ defs. type_in f c.args.offset (definitions_of defs)) c.deref.ensures.value,
    )
