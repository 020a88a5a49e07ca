use Rattle.std.proofs.Common.{◌≡◌, ◌++◌, drop, map}
use Rattle.std.specs.List.{flat_map}
use Rattle.isle_check_typing.specs.Views.{variables_of}
use Rattle.isle_lint_core.specs.Names.{names_at}
use Rattle.isle_lsp_diagnostics.specs.Hints.{hint, hint_of}
use Rattle.isle_lsp_diagnostics.proofs.hints.add_hints.Given as goal

abbrev pub invariant-loop-name : goal.invariant-loop-name
invariant-loop-name l =
    map hint_of l.hints.items ++ flat_map (hint l.text (variables_of l.variables)) (names_at (drop l.name-index l.names))
    ≡ map hint_of l.fn.hints.items ++ flat_map (hint l.text (variables_of l.variables)) (names_at l.names)
